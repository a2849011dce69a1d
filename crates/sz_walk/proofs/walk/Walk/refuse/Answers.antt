use Rattle.std.proofs.Common.{length}
use Rattle.sz_walk.specs.Progress.{walked_of}
use Rattle.sz_walk.proofs.Keeping.{kept_turned_down}
use Rattle.sz_walk.proofs.Steps.{turned_down}
use Rattle.sz_walk.proofs.walk.Walk.refuse.Goals as goal

pub invariant_of-self : goal.invariant_of-self
invariant_of-self c =
    kept_turned_down (length c.self.inside.sources) c.args.reason (walked_of c.self.inside.progress) (walked_of c.turn_down.new.self)
    c.turn_down.ensures.noted c.self.invariant

pub returns-clause-no_offer : goal.returns-clause-no_offer
returns-clause-no_offer c =
    turned_down c.args.reason (walked_of c.self.inside.progress) (walked_of c.turn_down.new.self) c.turn_down.ensures.noted
