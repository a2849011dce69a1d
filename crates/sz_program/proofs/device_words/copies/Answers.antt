use Rattle.std.proofs.Common.{◌≡◌, ◌∙◌, ◌∷◌, [], ◌++◌, List, ℕ, ap, map, sym, take}
use Rattle.std.proofs.lemmas.List.{map_more}
use Rattle.sz_program.proofs.device_words.copies.Goals as goal

pub loop-word-preserved : goal.loop-word-preserved
loop-word-preserved c =
    let i = c.loop-word.word-index in
    let words = c.args.words.now in
    let copied : c.in_ok-from_slice.field-0 ≡ _ = c.in_ok-from_slice.ensures ∙ c.as_bytes.ensures.value in
    c.in_ok-push.ensures.ok ∙ ap (λ (copies : List (List ℕ)). copies ++ c.in_ok-from_slice.field-0 ∷ []) c.loop-word.invariant
    ∙ ap (λ (text : List ℕ). map (λ word. word.now) (take i words) ++ text ∷ []) copied
    ∙ sym (map_more (λ word. word.now) words i _ c.loop-word-test.true)
