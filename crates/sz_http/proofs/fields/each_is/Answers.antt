use Rattle.std.proofs.Common.{refl, subst, arith, List, ℕ, All, option_copied}
use Rattle.std.proofs.lemmas.Bool.{false≢true, iff_false}
use Rattle.sz_http.specs.Parts.{fields_of}
use Rattle.sz_http.specs.Framing.{IsSameText}
use Rattle.sz_http.proofs.Values.{each_found, each_more, values_all}
use Rattle.sz_http.proofs.fields.each_is.Goals as goal

pub returns-then-not-is_none_or_same : goal.returns-then-not-is_none_or_same
returns-then-not-is_none_or_same c = (
  λ e. absurd (false≢true e),
  λ each. absurd (iff_false c.is_none_or_same.ensures c.if-not-is_none_or_same.true
      (each_found (λ (text : List ℕ). IsSameText text c.args.value.now) c.args.name.now (fields_of c.args.fields.now) c.loop-index.index
      (option_copied c.value_at-found.result) (omega arith) (c.value_at-found.ensures (omega arith)) each)),
)

pub loop-index-preserved : goal.loop-index-preserved
loop-index-preserved c =
    each_more (λ (text : List ℕ). IsSameText text c.args.value.now) c.args.name.now (fields_of c.args.fields.now) c.loop-index.index
    (option_copied c.value_at-found.result) (omega arith) (c.value_at-found.ensures (omega arith)) c.loop-index.invariant
    (c.is_none_or_same.ensures.0 c.if-not-is_none_or_same.false)

pub returns : goal.returns
returns c = (
  λ e. subst (λ (t : List (List ℕ)). All (λ (text : List ℕ). IsSameText text c.args.value.now) t)
      (values_all c.args.name.now (fields_of c.args.fields.now) c.loop-index.index (omega arith)) c.loop-index.invariant,
  λ each. refl,
)
