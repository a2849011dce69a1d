use Rattle.std.proofs.Common.{sym, ◌∙◌}
use Rattle.std.proofs.lemmas.Bool.{or_left}
use Rattle.sz_x509.specs.CrlFault.{is_time_next}
use Rattle.sz_x509.proofs.tbs_list.is_time_next.Goals as goal

pub returns-then-is_next : goal.returns-then-is_next
unfolding is_time_next
returns-then-is_next c = c.if-is_next.true ∙ sym (or_left _ _ (sym c.is_next.ensures ∙ c.if-is_next.true))

pub returns-else-is_next : goal.returns-else-is_next
unfolding is_time_next
returns-else-is_next c = rw (sym c.is_next.ensures ∙ c.if-is_next.false) c.is_next-else-is_next.ensures
