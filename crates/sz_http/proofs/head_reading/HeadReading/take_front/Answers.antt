use Rattle.std.proofs.Common.{◌++◌, ◌∷◌, [], List, ℕ, take, get_or, ap, sym, subst, ◌∙◌, append_assoc, arith}
use Rattle.std.proofs.lemmas.List.{take_more}
use Rattle.sz_http.specs.HeadReading.{Takes}
use Rattle.sz_http.proofs.Stands.{live_open}
use Rattle.sz_http.proofs.head_reading.HeadReading.take_front.Goals as goal

pub loop-used-preserved : goal.loop-used-preserved
loop-used-preserved c =
    let piece = c.args.piece.now in
    let used = c.loop-used.used in
    record {
      within = omega arith;
      taken = λ kind before taken.
          subst (λ (t : List ℕ). Takes c.take.new.self kind t)
          (append_assoc before (take used piece) (get_or piece used 0 ∷ []) ∙ ap (λ (t : List ℕ). before ++ t) (sym (take_more piece used 0 c.loop-used-test.true)))
          (c.take.ensures kind (before ++ take used piece) (c.loop-used.invariant.taken kind before taken));
      shut = λ given. absurd (live_open c.loop-used.self.place (sym c.is_open.ensures ∙ c.if-is_open.true) (c.loop-used.invariant.shut given));
    }
