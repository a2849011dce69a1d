-- Four bytes at a place.
use Rattle.std.proofs.Common.{◌≡◌, ℕ, ◌+◌, ◌<◌, ◌≤◌, List, [], ◌∷◌, take, drop, length, get_or, refl, add-one, arith}
use Rattle.std.proofs.Math.Seq.{drop-cons}

drop-first : (bytes : List ℕ) (at : ℕ) → at < length bytes → drop at bytes ≡ get_or bytes at 0 ∷ drop (at + 1) bytes
drop-first bytes at h = rw (add-one, drop-cons bytes at 0) refl

pub take-four : (bytes : List ℕ) (at : ℕ) → at + 4 ≤ length bytes →
    take 4 (drop at bytes) ≡ get_or bytes at 0 ∷ get_or bytes (at + 1) 0 ∷ get_or bytes (at + 2) 0 ∷ get_or bytes (at + 3) 0 ∷ []
take-four bytes at h =
    let s₁ : at + 1 + 1 ≡ at + 2 = omega arith in
    let s₂ : at + 2 + 1 ≡ at + 3 = omega arith in
    let d₁ : drop (at + 1) bytes ≡ get_or bytes (at + 1) 0 ∷ drop (at + 2) bytes = rw s₁ at (drop-first bytes (at + 1) (omega arith)) in
    let d₂ : drop (at + 2) bytes ≡ get_or bytes (at + 2) 0 ∷ drop (at + 3) bytes = rw s₂ at (drop-first bytes (at + 2) (omega arith)) in
    rw (drop-first bytes at (omega arith), d₁, d₂, drop-first bytes (at + 3) (omega arith)) refl
