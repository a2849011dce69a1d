use Rattle.std.proofs.Common.{ℕ, List, [], ◌∷◌, ◌++◌, take, get_or, sym, ap, ◌∙◌, subst, append_assoc, arith}
use Rattle.std.proofs.lemmas.List.{take_more}
use Rattle.sz_http.specs.ChunkReading.{Takes}
use Rattle.sz_http.proofs.Feeding.{refused_at, framing_other}
use Rattle.sz_http.proofs.chunked_body.ChunkedBody.take_framing.Goals as goal

pub loop-used-preserved : goal.loop-used-preserved
loop-used-preserved c =
    let piece = c.args.piece.now in
    let used = c.loop-used.used in
    record {
      within = omega arith;
      taken = λ limit before content takes.
          subst (λ (t : List ℕ). Takes c.take.new.self limit t content)
          (append_assoc before (take used piece) (get_or piece used 0 ∷ [])
          ∙ ap (λ (t : List ℕ). before ++ t) (sym (take_more piece used 0 c.loop-used-test.true)))
          (c.in-Ok.ensures.ok limit (before ++ take used piece) content (c.loop-used.invariant.taken limit before content takes));
    }

pub returns-in-Err-clause-err : goal.returns-in-Err-clause-err
returns-in-Err-clause-err c = λ limit before content takes.
    let piece = c.args.piece.now in
    let used = c.loop-used.used in
    let self = c.loop-used.self in
    let here = c.loop-used.invariant.taken limit before content takes in
    refused_at self.trailer self.place limit used before content piece c.in-Err.fault c.loop-used-test.true here.came
    (framing_other self.place (sym c.is_framing.ensures ∙ c.if-is_framing.true)) (omega (arith, here.room))
    (c.in-Err.ensures.err limit (before ++ take used piece) content here)
