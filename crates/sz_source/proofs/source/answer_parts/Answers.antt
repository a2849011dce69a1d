use Rattle.std.proofs.Common.{◌≡◌, sym, ◌∙◌, length, arith}
use Rattle.std.proofs.lemmas.Bool.{eqb-true}
use Rattle.sz_source.proofs.Colons.{colon_inside}
use Rattle.sz_source.proofs.Words.{no_answer}
use Rattle.sz_source.proofs.source.answer_parts.Goals as goal
use Rattle.sz_source.proofs.source.answer_parts.Goals.{in_default-via-in-Some+then-not-is_empty+else-is_domain, in_default-via-in-Some+else-not-is_empty, in_default-via-in_default}

pub returns-in_default-clause-none : goal.returns-in_default-clause-none
returns-in_default-clause-none c = elim c.in_default.branch [
  | in_default-via-in-Some+then-not-is_empty+else-is_domain w ↦
      no_answer c.args.text.now w.in-Some.path.now w.in-Some.domain.now w.in-Some.ensures.some (λ path under.
      w.is_domain.ensures.no w.if-is_domain.false under)
  | in_default-via-in-Some+else-not-is_empty w ↦
      no_answer c.args.text.now w.in-Some.path.now w.in-Some.domain.now w.in-Some.ensures.some (λ path under.
      let none : length w.in-Some.path.now ≡ 0 =
      eqb-true _ 0 (sym w.is_empty.ensures ∙ w.if-not-is_empty.false) in
      absurd (omega (arith, none, path)))
  | in_default-via-in_default w ↦
      λ path domain h. colon_inside c.args.text.now path domain w.in_default.ensures.none h.split.split
]
