use Rattle.std.proofs.Common.{ap, refl, ◌-◌, ℕ}
use Rattle.sz_walk.specs.Progress.{walked_of}
use Rattle.sz_walk.proofs.Steps.{turned_down_at}
use Rattle.sz_walk.proofs.progress.Progress.turn_down.Goals as goal

pub returns-in-Some : goal.returns-in-Some
returns-in-Some c = record {
  noted = turned_down_at c.args.reason (walked_of c.args.self.now) _ (c.args.self.now.visits.len - 1) c.in-Some.offer.now c.requires.offer
      (ap (λ (n : ℕ). n - 1) c.args.self.now.visits.ok.0) c.in-Some.ensures.value refl refl;
}
