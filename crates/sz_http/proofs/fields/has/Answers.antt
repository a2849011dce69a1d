use Rattle.std.proofs.Common.{refl, sym, ◌∙◌, arith}
use Rattle.sz_http.specs.Parts.{fields_of}
use Rattle.sz_http.proofs.Values.{found_some, found_none}
use Rattle.sz_http.proofs.fields.has.Goals as goal

pub returns-then-is_some : goal.returns-then-is_some
returns-then-is_some c = (
  λ e. found_some c.args.name.now (fields_of c.args.fields.now) c.loop-index.index c.value_at-value.result (omega arith)
      (c.value_at-value.ensures (omega arith)) (sym c.is_some.ensures ∙ c.if-is_some.true),
  λ some. refl,
)

pub loop-index-preserved : goal.loop-index-preserved
loop-index-preserved c =
    found_none c.args.name.now (fields_of c.args.fields.now) c.loop-index.index c.value_at-value.result (omega arith)
    (c.value_at-value.ensures (omega arith)) (sym c.is_some.ensures ∙ c.if-is_some.false) c.loop-index.invariant
