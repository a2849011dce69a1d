use Rattle.std.proofs.Common.{arith, option_copied}
use Rattle.sz_http.specs.Parts.{fields_of}
use Rattle.sz_rest.proofs.Values.{none_found, one_found, one_more, two_values}
use Rattle.sz_rest.proofs.asked.one_value.Goals as goal

pub loop-index-preserved : goal.loop-index-preserved
loop-index-preserved c =
    one_more c.args.name.now (fields_of c.args.fields.now) c.loop-index.index (option_copied c.loop-index.found)
    (option_copied c.value_at-value.result) (option_copied c.in-Ok.one) (omega arith) (c.value_at-value.ensures (omega arith))
    c.loop-index.invariant c.in-Ok.ensures.ok

pub returns-in-Err-clause-none : goal.returns-in-Err-clause-none
returns-in-Err-clause-none c =
    two_values c.args.name.now (fields_of c.args.fields.now) c.loop-index.index (option_copied c.loop-index.found)
    (option_copied c.value_at-value.result) (omega arith) (c.value_at-value.ensures (omega arith))
    c.loop-index.invariant c.in-Err.ensures.repeated.0 c.in-Err.ensures.repeated.1

pub returns-clause-some : goal.returns-clause-some
returns-clause-some c = one_found c.args.name.now (fields_of c.args.fields.now) c.loop-index.index c.loop-index.found (omega arith) c.loop-index.invariant

pub returns-clause-none : goal.returns-clause-none
returns-clause-none c = none_found c.args.name.now (fields_of c.args.fields.now) c.loop-index.index c.loop-index.found (omega arith) c.loop-index.invariant
