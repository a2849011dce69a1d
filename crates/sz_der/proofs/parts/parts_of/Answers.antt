use Rattle.sz_der.proofs.Steps.{reader_inside}
use Rattle.sz_der.proofs.parts.parts_of.Goals as goal

pub returns : goal.returns
returns c = λ spot is. reader_inside spot c.args.item.now c.inside.result is c.inside.ensures.left c.inside.ensures.end
