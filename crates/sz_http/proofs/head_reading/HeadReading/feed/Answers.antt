use Rattle.std.proofs.Common.{◌≡◌, ◌++◌, List, ℕ, take, ap, ◌∙◌, subst, take_all, le_refl, length}
use Rattle.sz_http.specs.declared.head_place.Place.{Place}
use Rattle.sz_http.specs.HeadPlace.{Stands}
use Rattle.sz_http.specs.HeadReading.{Takes}
use Rattle.sz_http.proofs.HeadReadings.{refused_whole}
use Rattle.sz_http.proofs.Stands.{head_whole, opened_otherwise, unfinished_open}
use Rattle.sz_http.proofs.head_reading.HeadReading.feed.Goals as goal

pub returns-in-Whole-clause-answers : goal.returns-in-Whole-clause-answers
returns-in-Whole-clause-answers c = λ kind before taken.
    let bytes = before ++ take c.take_front-used.result c.args.piece.now in
    let after = c.take_front-used.ensures.taken kind before taken in
    record {
      within = c.take_front-used.ensures.within;
      taken = after;
      head = head_whole kind bytes (subst (λ (p : Place). Stands kind bytes p) c.in-Whole.is after.stands);
    }

pub returns-in-Nowhere-clause-answers : goal.returns-in-Nowhere-clause-answers
returns-in-Nowhere-clause-answers c = λ kind before taken.
    refused_whole kind before c.args.piece.now c.take_front-used.result c.take_front-used.new.self c.in-Nowhere.is
    (c.take_front-used.ensures.taken kind before taken)

pub returns-in_default : goal.returns-in_default
returns-in_default c =
    let piece = c.args.piece.now in
    let self = c.take_front-used.new.self in
    let opened = opened_otherwise self.place c.in_default.not-Whole c.in_default.not-Nowhere in
    record {
      answers = λ kind before taken.
          let e : take c.take_front-used.result piece ≡ piece =
          ap (λ (n : ℕ). take n piece) (c.take_front-used.ensures.all opened) ∙ take_all (length piece) piece (le_refl (length piece)) in
          let after = subst (λ (t : List ℕ). Takes self kind (before ++ t)) e (c.take_front-used.ensures.taken kind before taken) in
          record { taken = after; unfinished = unfinished_open kind (before ++ piece) self.place after.stands opened };
      given_up = tt;
      stays = λ given. absurd (c.in_default.not-Nowhere (c.take_front-used.ensures.shut given));
    }
