-- Bytes that are written part by part, where some front of a part may be the last.
use Rattle.std.proofs.Common.{◌≡◌, ℕ, zero, suc, ◌+◌, List, [], ◌∷◌, ◌++◌, length, take, Option, Some, None, refl, ap, append_assoc, Result, Ok, Err, OnErr}
use Rattle.std.proofs.Math.Seq.{take-append-add}
use Rattle.sz_spec.specs.Told.{Appends, AppendsFront}

front_of : (a b : List ℕ) (n : ℕ) → (m : ℕ) × (take n a ≡ take m (a ++ b))
front_of [] b zero = (0, refl)
front_of [] b (suc n) = (0, refl)
front_of (x ∷ a) b zero = (0, refl)
front_of (x ∷ a) b (suc n) = let rest = front_of a b n in (suc rest.0, ap (λ l. x ∷ l) rest.1)

-- a front of the first part is a front of the whole
pub AppendsFront-first : (before now : Option (List ℕ)) (a b : List ℕ) → AppendsFront before now a → AppendsFront before now (a ++ b)
AppendsFront-first None now a b front = (0, front.1)
AppendsFront-first (Some list) now a b front =
    let same = front_of a b front.0 in
    (same.0, rw (← same.1) front.1)

-- a part, and a front of the next
pub AppendsFront-next : (before middle now : Option (List ℕ)) (a b : List ℕ) → Appends before middle a
    → AppendsFront middle now b → AppendsFront before now (a ++ b)
AppendsFront-next None middle now a b part front = (0, rw part at front.1)
AppendsFront-next (Some list) middle now a b part front =
    (length a + front.0, rw (take-append-add a b front.0) (rw (← append_assoc list a (take front.0 b)) (rw part at front.1)))

-- a part, and the next
pub Appends-next : (before middle now : Option (List ℕ)) (a b : List ℕ) → Appends before middle a → Appends middle now b → Appends before now (a ++ b)
Appends-next None middle now a b part next = rw part at next
Appends-next (Some list) middle now a b part next = rw (← append_assoc list a b) (rw part at next)

pub always_on_err : {T E P : Type 0} (r : Result T E) → P → OnErr r P
always_on_err {P = P} r p = elim r as (λ r. OnErr r P) [ Ok x ↦ tt | Err e ↦ p ]

pub each_on_err : {T E P Q : Type 0} (r : Result T E) → (P → Q) → OnErr r P → OnErr r Q
each_on_err {P = P} {Q = Q} r f = elim r as (λ r. OnErr r P → OnErr r Q) [ Ok x ↦ λ p. tt | Err e ↦ f ]
