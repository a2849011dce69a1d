use Rattle.std.proofs.Common.{true≢false, sym, ◌∙◌}
use Rattle.sz_chain.proofs.Issued.{list_is, list_isnt}
use Rattle.sz_chain.proofs.lists.list_issuers.Goals as goal

pub returns-then-not-is_current_at : goal.returns-then-not-is_current_at
returns-then-not-is_current_at c =
    list_isnt c.args.when.0 c.args.places.now c.args.list.now c.args.wanted c.empty.result
    (λ current. true≢false (sym (c.is_current_at.ensures.1 current) ∙ c.if-not-is_current_at.true)) c.empty.ensures

pub returns : goal.returns
returns c =
    list_is c.args.when.0 c.args.places.now c.args.list.now c.args.wanted c.places_within-named.result c.verifying.result
    (c.is_current_at.ensures.0 c.if-not-is_current_at.false) c.places_within-named.ensures c.verifying.ensures
