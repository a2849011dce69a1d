use Rattle.std.proofs.Common.{◌∙◌, subst}
use Rattle.sz_http.specs.declared.head_place.Place.{Place}
use Rattle.sz_http.specs.HeadPlace.{Stands}
use Rattle.sz_http.proofs.HeadReadings.{parts_known}
use Rattle.sz_http.proofs.Stands.{head_whole, live_whole, no_head_yet}
use Rattle.sz_http.proofs.head_reading.HeadReading.head.Goals as goal

pub returns-in-Whole-clause-parts : goal.returns-in-Whole-clause-parts
returns-in-Whole-clause-parts c = λ kind bytes taken.
    let self = c.args.self.now in
    parts_known self.kind kind c.as_slice.result.now bytes c.parts.result taken.of_kind
    (c.as_slice.ensures.value ∙ taken.kept (live_whole self.place c.in-Whole.is))
    (head_whole kind bytes (subst (λ (p : Place). Stands kind bytes p) c.in-Whole.is taken.stands)) c.parts.ensures

pub returns-in_default : goal.returns-in_default
returns-in_default c = record {
  parts = λ kind bytes taken. tt;
  none = λ kind bytes taken head. no_head_yet kind bytes c.args.self.now.place taken.stands c.in_default.not-Whole head;
}
