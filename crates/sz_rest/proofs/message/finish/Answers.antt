use Rattle.std.proofs.Common.{◌∙◌, arith}
use Rattle.sz_rest.proofs.Fields.{finished}
use Rattle.sz_rest.proofs.message.finish.Goals as goal

pub returns : goal.returns
returns c = record {
  length_fits = omega arith;
  whole = λ start fields lines.
      finished start fields c.args.body.now c.args.lines c.push_field.new.text c.append.new.self c.append-2.new.self c.as_bytes.result.now lines
      c.in_ok-push_field.ensures (c.as_bytes.ensures.value ∙ c.in_ok-length.ensures) c.in_ok-append.ensures.ok c.in_ok-append-2.ensures.ok;
}
