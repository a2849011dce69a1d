-- A text is split at its last colon in one way.
use Rattle.std.proofs.Common.{◌≡◌, ◌≢◌, ℕ, ◌<◌, List, [], ◌∷◌, ◌++◌, length, refl, ap, ◌∙◌, arith, length-append, get_or}
use Rattle.std.specs.List.{All}
use Rattle.std.proofs.lemmas.List.{get_or_at}

-- a colon stands where a text is split
pub colon_inside : (text before behind : List ℕ) → All (λ byte. byte ≢ 58) text → text ≡ before ++ 58 ∷ behind → ⊥
colon_inside text before behind none split =
    let inside : length before < length text =
    omega (arith, ap length split, length-append before (58 ∷ behind)) in
    none (length before) 0 inside
    (ap (λ (xs : List ℕ). get_or xs (length before) 0) split ∙ get_or_at before 58 behind 0 (length before) refl)

pub one_split : (a d b e : List ℕ) → All (λ byte. byte ≢ 58) d → All (λ byte. byte ≢ 58) e
    → a ++ 58 ∷ d ≡ b ++ 58 ∷ e → (a ≡ b) × (d ≡ e)
one_split [] d [] e hd he same = (refl, cc)
one_split [] d (y ∷ b) e hd he same =
    let split : d ≡ b ++ 58 ∷ e = cc in
    absurd (colon_inside d b e hd split)
one_split (x ∷ a) d [] e hd he same =
    let split : e ≡ a ++ 58 ∷ d = cc in
    absurd (colon_inside e a d he split)
one_split (x ∷ a) d (y ∷ b) e hd he same =
    let heads : x ≡ y = cc in
    let tails : a ++ 58 ∷ d ≡ b ++ 58 ∷ e = cc in
    let rest = one_split a d b e hd he tails in
    let fronts : a ≡ b = rest.0 in
    (cc, rest.1)
