use Rattle.std.proofs.Common.{◌≡◌, ◌<◌, length, List, Some, get_or, slice_get, sym, ap, ◌∙◌, subst}
use Rattle.std.proofs.lemmas.Option.{slice_get-get_or}
use Rattle.sz_spec.specs.Cause.{HasCause}
use Rattle.sz_spec.specs.Told.{WhereTold}
use Rattle.sz_source.specs.declared.source.Source.{Source}
use Rattle.sz_answer.specs.Visit.{search_of}
use Rattle.sz_walk.specs.Progress.{IsKept, walked_of}
use Rattle.sz_walk.specs.Visits.{HasOffer, Walked, was_lost_file, was_lost_server}
use Rattle.sz_walk.specs.Walk.{IsStep, Notes, notes_some, WalkState}
use Rattle.sz_walk.specs.declared.step.Step.TheVariants as step
use Rattle.sz_ask.proofs.Runs.{nothing_added}
use Rattle.sz_walk.proofs.Keeping.{front_below, kept_spends, kept_takes}
use Rattle.sz_walk.proofs.Sound.{settled_authorised}
use Rattle.sz_walk.proofs.Steps.{folder_cause, kept_settled, net_cause, notes_lacking, notes_over, notes_settled, notes_spent, settled_step, state}
use Rattle.sz_walk.proofs.walk.Walk.next.Goals as goal

pub invariant_of-self-in-Spent : goal.invariant_of-self-in-Spent
invariant_of-self-in-Spent g c =
    kept_spends (length c.self.inside.sources) (walked_of c.self.inside.progress) (walked_of c.turn.new.self) c.in-Spent.ensures c.self.invariant

pub invariant_of-self-in-OutOfMemory : goal.invariant_of-self-in-OutOfMemory
invariant_of-self-in-OutOfMemory g c =
    kept_takes (length c.self.inside.sources) c.in-OutOfMemory.ensures.0 (walked_of c.self.inside.progress) (walked_of c.turn.new.self)
    c.in-OutOfMemory.ensures.1 c.self.invariant

pub invariant_of-self-in-Visit : goal.invariant_of-self-in-Visit
invariant_of-self-in-Visit g c =
    kept_settled (length c.self.inside.sources) c.in-Visit.front c.visit-visited.result c.settle.result (walked_of c.self.inside.progress)
    (walked_of c.turn.new.self) (walked_of c.settle.new.self) c.in-Visit.ensures.0 c.in-Visit.ensures.1 c.settle.ensures.settled c.self.invariant

pub returns-in-Over-clause-notes : goal.returns-in-Over-clause-notes
returns-in-Over-clause-notes g c =
    let none = subst (λ (s : WalkState). ¬ HasOffer s.walked) (sym c.self.view_is) c.requires.ready.no_offer in
    subst (λ (s : WalkState). Notes step.Done s (state c.self.inside.sources (walked_of c.turn.new.self))) c.self.view_is
    (notes_over c.self.inside.sources (walked_of c.self.inside.progress) (walked_of c.turn.new.self) c.in-Over.ensures.0 c.in-Over.ensures.1 none
    (subst (λ (w : Walked). IsKept (length c.self.inside.sources) w) (sym c.in-Over.ensures.1) c.self.invariant))

pub returns-in-Over-clause-adds : goal.returns-in-Over-clause-adds
returns-in-Over-clause-adds g c = nothing_added (g.N.Net.traffic c.args.net.now)

pub returns-in-Spent-clause-notes : goal.returns-in-Spent-clause-notes
returns-in-Spent-clause-notes g c =
    subst (λ (s : WalkState). Notes step.Passed s (state c.self.inside.sources (walked_of c.turn.new.self))) c.self.view_is
    (notes_spent c.self.inside.sources (walked_of c.self.inside.progress) (walked_of c.turn.new.self) c.in-Spent.ensures
    (kept_spends (length c.self.inside.sources) (walked_of c.self.inside.progress) (walked_of c.turn.new.self) c.in-Spent.ensures c.self.invariant))

pub returns-in-Spent-clause-adds : goal.returns-in-Spent-clause-adds
returns-in-Spent-clause-adds g c = nothing_added (g.N.Net.traffic c.args.net.now)

pub returns-in-OutOfMemory-clause-notes : goal.returns-in-OutOfMemory-clause-notes
returns-in-OutOfMemory-clause-notes g c =
    let none = subst (λ (s : WalkState). ¬ HasOffer s.walked) (sym c.self.view_is) c.requires.ready.no_offer in
    subst (λ (s : WalkState). Notes step.OutOfMemory s (state c.self.inside.sources (walked_of c.turn.new.self))) c.self.view_is
    (notes_lacking c.self.inside.sources c.in-OutOfMemory.ensures.0 (walked_of c.self.inside.progress) (walked_of c.turn.new.self)
    c.in-OutOfMemory.ensures.1 none
    (kept_takes (length c.self.inside.sources) c.in-OutOfMemory.ensures.0 (walked_of c.self.inside.progress) (walked_of c.turn.new.self)
    c.in-OutOfMemory.ensures.1 c.self.invariant))

pub returns-in-OutOfMemory-clause-adds : goal.returns-in-OutOfMemory-clause-adds
returns-in-OutOfMemory-clause-adds g c = nothing_added (g.N.Net.traffic c.args.net.now)

pub returns-in-Visit-clause-step : goal.returns-in-Visit-clause-step
returns-in-Visit-clause-step g c =
    let sources = c.self.inside.sources in
    let at = c.in-Visit.front.source in
    let below : at < length sources =
    front_below (length sources) c.in-Visit.front (walked_of c.self.inside.progress) (walked_of c.turn.new.self) c.in-Visit.ensures.0 c.self.invariant in
    let is : slice_get sources at ≡ Some c.index-as_slice-front.result =
    slice_get-get_or sources at c.index-as_slice-front.result below
    ∙ ap Some (sym (c.index-as_slice-front.is ∙ ap (λ (l : List Source). get_or l at c.index-as_slice-front.result) c.as_slice.ensures)) in
    subst
    (λ (s : WalkState). (told : _) → g.F.Folder.files c.args.folder.now ≡ Some told
    → WhereTold (IsStep s.sources (search_of c.args.identity.now c.args.when told) c.settle.result s.walked (walked_of c.settle.new.self))
    (g.N.Net.traffic c.args.net.now) (g.N.Net.traffic c.visit-visited.new.net))
    c.self.view_is
    (settled_step sources c.args.identity.now c.args.when c.index-as_slice-front.result c.in-Visit.front c.visit-visited.result c.settle.result
    (walked_of c.self.inside.progress) (walked_of c.turn.new.self) (walked_of c.settle.new.self) (g.F.Folder.files c.args.folder.now)
    (g.N.Net.traffic c.args.net.now) (g.N.Net.traffic c.visit-visited.new.net) c.in-Visit.ensures.0 c.in-Visit.ensures.1 is c.settle.ensures.settled
    c.visit-visited.ensures.came_to c.visit-visited.ensures.adds)

pub returns-in-Visit-clause-authorised : goal.returns-in-Visit-clause-authorised
returns-in-Visit-clause-authorised g c =
    settled_authorised c.args.identity.now c.args.when c.in-Visit.front c.visit-visited.result c.settle.result
    (walked_of c.turn.new.self) (walked_of c.settle.new.self) c.visit-visited.ensures.sound c.settle.ensures.settled

pub returns-in-Visit-clause-notes : goal.returns-in-Visit-clause-notes
returns-in-Visit-clause-notes g c =
    let none = subst (λ (s : WalkState). ¬ HasOffer s.walked) (sym c.self.view_is) c.requires.ready.no_offer in
    subst (λ (s : WalkState). Notes c.settle.result s (state c.self.inside.sources (walked_of c.settle.new.self))) c.self.view_is
    (notes_settled c.self.inside.sources c.in-Visit.front c.visit-visited.result c.settle.result (walked_of c.self.inside.progress) (walked_of c.turn.new.self)
    (walked_of c.settle.new.self) c.in-Visit.ensures.0 none c.settle.ensures.settled
    (kept_settled (length c.self.inside.sources) c.in-Visit.front c.visit-visited.result c.settle.result (walked_of c.self.inside.progress)
    (walked_of c.turn.new.self) (walked_of c.settle.new.self) c.in-Visit.ensures.0 c.in-Visit.ensures.1 c.settle.ensures.settled c.self.invariant))

pub returns-in-Visit-clause-folder_lost : goal.returns-in-Visit-clause-folder_lost
returns-in-Visit-clause-folder_lost g c =
    subst
    (λ (s : WalkState). HasCause (g.F.Folder.faults c.args.folder.now) (g.F.Folder.faults c.visit-visited.new.folder)
    (notes_some was_lost_file s.walked (walked_of c.settle.new.self)))
    c.self.view_is
    (folder_cause (g.F.Folder.faults c.args.folder.now) (g.F.Folder.faults c.visit-visited.new.folder) c.in-Visit.front c.visit-visited.result c.settle.result
    (walked_of c.self.inside.progress) (walked_of c.turn.new.self) (walked_of c.settle.new.self) c.in-Visit.ensures.0 c.settle.ensures.settled
    c.visit-visited.ensures.folder_lost)

pub returns-in-Visit-clause-net_lost : goal.returns-in-Visit-clause-net_lost
returns-in-Visit-clause-net_lost g c =
    subst
    (λ (s : WalkState). HasCause (g.N.Net.faults c.args.net.now) (g.N.Net.faults c.visit-visited.new.net)
    (notes_some was_lost_server s.walked (walked_of c.settle.new.self)))
    c.self.view_is
    (net_cause (g.N.Net.faults c.args.net.now) (g.N.Net.faults c.visit-visited.new.net) c.in-Visit.front c.visit-visited.result c.settle.result
    (walked_of c.self.inside.progress) (walked_of c.turn.new.self) (walked_of c.settle.new.self) c.in-Visit.ensures.0 c.settle.ensures.settled
    c.visit-visited.ensures.net_lost)
