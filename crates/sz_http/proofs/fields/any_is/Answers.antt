use Rattle.std.proofs.Common.{refl, subst, arith, List, ℕ, All, option_copied}
use Rattle.std.proofs.lemmas.Bool.{false≢true, iff_false}
use Rattle.sz_http.specs.Parts.{fields_of}
use Rattle.sz_http.specs.Framing.{IsSameText, values}
use Rattle.sz_http.proofs.Values.{any_found, none_found, not_any, values_all}
use Rattle.sz_http.proofs.fields.any_is.Goals as goal

pub returns-then-is_some_and_same : goal.returns-then-is_some_and_same
returns-then-is_some_and_same c = (
  λ e. any_found (λ (text : List ℕ). IsSameText text c.args.value.now) c.args.name.now (fields_of c.args.fields.now) c.loop-index.index
      (option_copied c.value_at-found.result) (omega arith) (c.value_at-found.ensures (omega arith))
      (c.is_some_and_same.ensures.0 c.if-is_some_and_same.true),
  λ any. refl,
)

pub loop-index-preserved : goal.loop-index-preserved
loop-index-preserved c =
    none_found (λ (text : List ℕ). IsSameText text c.args.value.now) c.args.name.now (fields_of c.args.fields.now) c.loop-index.index
    (option_copied c.value_at-found.result) (omega arith) (c.value_at-found.ensures (omega arith)) c.loop-index.invariant
    (iff_false c.is_some_and_same.ensures c.if-is_some_and_same.false)

pub returns : goal.returns
returns c = (
  λ e. absurd (false≢true e),
  λ any. absurd (not_any (λ (text : List ℕ). IsSameText text c.args.value.now) (values c.args.name.now (fields_of c.args.fields.now))
      (subst (λ (t : List (List ℕ)). All (λ (text : List ℕ). IsSameText text c.args.value.now → ⊥) t)
      (values_all c.args.name.now (fields_of c.args.fields.now) c.loop-index.index (omega arith)) c.loop-index.invariant) any),
)
