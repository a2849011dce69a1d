use Rattle.std.proofs.Common.{◌++◌, ◌∷◌, [], List, ℕ, ap, ◌∙◌, refl, arith}
use Rattle.sz_http.proofs.HeadReadings.{stands_taken, stands_given_up}
use Rattle.sz_http.proofs.Stands.{live_open}
use Rattle.sz_http.proofs.head_reading.HeadReading.take.Goals as goal

pub returns-then-len-least_left-gt-MOST_BYTES : goal.returns-then-len-least_left-gt-MOST_BYTES
returns-then-len-least_left-gt-MOST_BYTES c = λ kind bytes taken.
    let self = c.args.self.now in
    let kept = c.as_slice.ensures.value ∙ taken.kept (live_open self.place c.requires) in
    record {
      of_kind = taken.of_kind;
      stands = stands_given_up self.kind kind c.as_slice.result.now bytes self.place c.after-next.result c.args.byte taken.of_kind kept
          c.after-next.ensures.leads taken.stands (omega arith);
      kept = λ live. absurd (live refl);
    }

pub returns : goal.returns
returns c = λ kind bytes taken.
    let self = c.args.self.now in
    let same = taken.kept (live_open self.place c.requires) in
    record {
      of_kind = taken.of_kind;
      stands = stands_taken self.kind kind c.as_slice.result.now bytes self.place c.after-next.result c.args.byte taken.of_kind
          (c.as_slice.ensures.value ∙ same) c.after-next.ensures.leads c.after-next.ensures.came taken.stands (omega arith);
      kept = λ live. c.push_reserved.ensures.items ∙ ap (λ (t : List ℕ). t ++ c.args.byte ∷ []) same;
    }
