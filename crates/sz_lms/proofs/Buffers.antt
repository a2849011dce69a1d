-- Writing over a part of a list.
use Rattle.std.proofs.Common.{◌≡◌, ℕ, ◌+◌, ◌<◌, ◌≤◌, List, [], ◌∷◌, ◌++◌, length, take, drop, set, refl, sym, ◌∙◌, append_assoc, arith, length-append, length-take, zero-add}
use Rattle.std.proofs.Math.Seq.{take-append_seam, drop-append_seam, drop-append-add}
use Rattle.std.proofs.lemmas.List.{take-append-le, take-append-drop, take-take, take-set, drop-set, append-nil}
use Rattle.std.proofs.lemmas.Grind.{common_steps}

-- what stands behind a front of known length is written over
pub put-behind : (front rest bytes : List ℕ) (at n : ℕ) → length front ≡ at → length bytes ≡ n →
    take at (front ++ rest) ++ bytes ++ drop (at + length bytes) (front ++ rest) ≡ front ++ bytes ++ drop n rest
put-behind front rest bytes at n e h =
    rw (← e, ← h, take-append_seam front rest, drop-append-add front rest (length bytes)) refl

-- three pieces in a row, an element that is kept, and a fourth piece up to the end
pub put-four : (a b c d all r₁ r₂ r₃ : List ℕ) (x : ℕ) (s₁ s₂ s₃ s₄ : List ℕ) →
    length a ≡ 16 → length b ≡ 4 → length c ≡ 2 → length d ≡ 32 →
    drop 16 all ≡ r₁ → drop 4 r₁ ≡ r₂ → drop 2 r₂ ≡ x ∷ r₃ → drop 32 r₃ ≡ [] →
    s₁ ≡ take 0 all ++ a ++ drop (0 + length a) all →
    s₂ ≡ take 16 s₁ ++ b ++ drop (16 + length b) s₁ →
    s₃ ≡ take 20 s₂ ++ c ++ drop (20 + length c) s₂ →
    s₄ ≡ take 23 s₃ ++ d ++ drop (23 + length d) s₃ →
    s₄ ≡ a ++ b ++ c ++ x ∷ d
put-four a b c d all r₁ r₂ r₃ x s₁ s₂ s₃ s₄ la lb lc ld d₁ d₂ d₃ d₄ e₁ e₂ e₃ e₄ =
    let f₁ : s₁ ≡ a ++ r₁ = rw (la, d₁) at e₁ in
    let f₂ : s₂ ≡ a ++ b ++ r₂ = e₂ ∙ rw (f₁, put-behind a r₁ b 16 4 la lb, d₂) refl in
    let l₂ : length (a ++ b) ≡ 20 = omega (arith, length-append a b) in
    let f₃ : s₃ ≡ a ++ b ++ c ++ x ∷ r₃ = e₃ ∙ rw (f₂, put-behind (a ++ b) r₂ c 20 2 l₂ lc, d₃) refl in
    let l₃ : length (a ++ b ++ c ++ x ∷ []) ≡ 23 = omega (arith, length-append (a ++ b) c, length-append (a ++ b ++ c) (x ∷ [])) in
    let g₃ : s₃ ≡ (a ++ b ++ c ++ x ∷ []) ++ r₃ = f₃ ∙ rw (append_assoc (a ++ b ++ c) (x ∷ []) r₃) refl in
    e₄ ∙ rw (g₃, put-behind (a ++ b ++ c ++ x ∷ []) r₃ d 23 32 l₃ ld, d₄) (grind (arith, common_steps))

-- the list that stands for a whole one, with one element replaced
pub set-parts : (xs : List ℕ) (at x : ℕ) → at < length xs → set xs at x ≡ take at xs ++ x ∷ drop (at + 1) xs
set-parts xs at x h = sym (take-append-drop at (set xs at x)) ∙ rw (take-set xs at x, drop-set xs at x h) refl

pub take-put : (xs bytes rest : List ℕ) (n at : ℕ) → n ≤ at → at ≤ length xs →
    take n (take at xs ++ bytes ++ rest) ≡ take n xs
take-put xs bytes rest n at h k =
    let l : n ≤ length (take at xs) = omega (arith, length-take at xs) in
    rw (append_assoc (take at xs) bytes rest, take-append-le n (take at xs) (bytes ++ rest) l, take-take n at xs h) refl

pub drop-put : (xs bytes rest : List ℕ) (at : ℕ) → at ≤ length xs →
    drop at (take at xs ++ bytes ++ rest) ≡ bytes ++ rest
drop-put xs bytes rest at h =
    let l : length (take at xs) ≡ at = omega (arith, length-take at xs) in
    rw append_assoc (rw l at (drop-append_seam (take at xs) (bytes ++ rest)))

-- two pieces in a row, up to the end
pub put-two : (a b all r : List ℕ) (s₁ s₂ : List ℕ) (m n : ℕ) →
    length a ≡ m → length b ≡ n → drop m all ≡ r → drop n r ≡ [] →
    s₁ ≡ take 0 all ++ a ++ drop (0 + length a) all →
    s₂ ≡ take m s₁ ++ b ++ drop (m + length b) s₁ →
    s₂ ≡ a ++ b
put-two a b all r s₁ s₂ m n la lb d₁ d₂ e₁ e₂ =
    let f₁ : s₁ ≡ a ++ r = e₁ ∙ rw (zero-add (length a), la, d₁) refl in
    e₂ ∙ rw (f₁, put-behind a r b m n la lb, d₂) (append-nil (a ++ b))
