use Rattle.std.proofs.Common.{◌≡◌, ℕ, List, [], ◌∷◌, ◌++◌, map, reverse, Ok, sym, ap, ◌∙◌, append-nil, append_assoc, rules}
use Rattle.std.proofs.lemmas.List.{map_push, reverse-append, reverse-reverse}
use Rattle.sz_hss.proofs.batch.keep.Goals as goal

pub loop-signed-init : goal.loop-signed-init
loop-signed-init c =
    ([], sym (append-nil c.args.signatures.now.items), ap reverse c.reverse.ensures.items ∙ reverse-reverse c.args.all.items)

pub loop-signed-preserved : goal.loop-signed-preserved
loop-signed-preserved c =
    let (added, put, kept) = c.loop-signed.invariant in
    let signature = c.in_ok-signature.signature in
    let old = c.loop-signed.rest.items in
    let new = c.pop.new.self.items in
    let popped : old ≡ new ++ Ok signature ∷ [] = search rules in
    let signed = map (λ s. Ok s) added in (
      added ++ signature ∷ [],
      c.in_ok-push.ensures.items ∙ ap (λ (xs : List (List ℕ)). xs ++ signature ∷ []) put
          ∙ append_assoc c.args.signatures.now.items added (signature ∷ []),
      ap (λ xs. xs ++ reverse new) (map_push (λ s. Ok s) added signature)
          ∙ append_assoc signed (Ok signature ∷ []) (reverse new)
          ∙ ap (λ xs. signed ++ xs) (sym (ap reverse popped ∙ reverse-append new (Ok signature ∷ [])))
          ∙ kept,
    )

pub returns : goal.returns
returns c =
    let (added, put, kept) = c.loop-signed.invariant in
    let none : c.loop-signed.rest.items ≡ [] = search rules in
    (added, put, sym (append-nil (map (λ s. Ok s) added)) ∙ ap (λ xs. map (λ s. Ok s) added ++ reverse xs) (sym none) ∙ kept)
