-- Items one after another under one rule: what has no fault is spelled as each is to be, and what is spelled so has none.
use Rattle.std.specs.Prelude.{map}
use Rattle.std.proofs.Common.{◌≡◌, ℕ, zero, suc, inl, inr, ◌<◌, ◌≤◌, true, false, List, [], ◌∷◌, ◌++◌, length, Option, Some, None, refl, ap, arith, length-append}
use Rattle.std.proofs.lemmas.Bool.{cases_Bool}
use Rattle.sz_der.specs.Der.{AreOctets}
use Rattle.sz_der.specs.Spots.{after, AreEach, each, first_of, is_at_end, or_later, Spot, spots_upto, whole_at}
use Rattle.sz_der.specs.Tags.{sequence_tag}
use Rattle.sz_der.proofs.SpotLists.{less_is_left}
use Rattle.sz_der.proofs.Spots.{Found, nil_from_end, no_bytes, parts_of_none}
use Rattle.sz_x509.specs.CertFault.{Fault}

-- the rule of one item says that it is spelled so
abbrev pub Reads : {A : Type 0} → (A → List ℕ → Type 0) → (Spot → A) → (Spot → Option Fault) → Type 0
Reads Is value fault =
    (spot : Spot) → AreOctets spot.left → fault spot ≡ None → Is (value spot) (whole_at spot) × Found spot sequence_tag

pub are_each : {A : Type 0} (Is : A → List ℕ → Type 0) (value : Spot → A) (fault : Spot → Option Fault) → Reads Is value fault →
    (n : ℕ) (spot : Spot) → length spot.left ≤ n → AreOctets spot.left → each fault (spots_upto n spot) ≡ None →
    AreEach Is (map value (spots_upto n spot)) spot.left
unfolding spots_upto each
are_each Is value fault reads zero spot few fits e = no_bytes spot.left few
are_each Is value fault reads (suc n) spot few fits e =
    elim (cases_Bool (is_at_end spot)) [
      | inl at_end ↦ rw at_end (nil_from_end spot true at_end refl)
      | inr more ↦
          let parts = parts_of_none (fault spot) (first_of (each fault (spots_upto n (after spot)) ∷ [])) (rw more at e) in
          let others = parts_of_none (each fault (spots_upto n (after spot))) None parts.1 in
          let here = reads spot fits parts.0 in
          let fewer : length (after spot).left ≤ n = omega (arith, less_is_left spot more) in
          rw more (whole_at spot, (after spot).left, here.0, here.1.joined, are_each Is value fault reads n (after spot) fewer here.1.after others.0)
    ]

-- what one item is where it is spelled so
pub record IsClear (fault : Spot → Option Fault) (spot : Spot) (whole rest : List ℕ) : Type 0 where
  pub no_fault : fault spot ≡ None
  pub after : (after spot).left ≡ rest
  pub more : is_at_end spot ≡ false
  pub some : 0 < length whole

abbrev pub Clears : {A : Type 0} → (A → List ℕ → Type 0) → (Spot → Option Fault) → Type 0
Clears {A} Is fault = (spot : Spot) (one : A) (whole rest : List ℕ) → Is one whole → spot.left ≡ whole ++ rest → IsClear fault spot whole rest

pub each_clear : {A : Type 0} (Is : A → List ℕ → Type 0) (fault : Spot → Option Fault) → Clears Is fault →
    (n : ℕ) (spot : Spot) (all : List A) → length spot.left ≤ n → AreEach Is all spot.left → each fault (spots_upto n spot) ≡ None
unfolding spots_upto each is_at_end
each_clear Is fault clears zero spot all few are = refl
each_clear Is fault clears (suc n) spot [] few are = rw are refl
each_clear Is fault clears (suc n) spot (one ∷ others) few are =
    let here = clears spot one are.0 are.1 are.2 are.3 in
    let fewer : length (after spot).left ≤ n = omega (arith, ap length are.3, length-append are.0 are.1, ap length here.after, here.some) in
    rw (here.more, here.no_fault, each_clear Is fault clears n (after spot) others fewer (rw here.after are.4)) refl

-- ---- steps of a reader

pub each_on : (fault : Spot → Option Fault) (spot : Spot) (later : List Spot) → fault spot ≡ None → each fault (spot ∷ later) ≡ or_later (each fault later) None
unfolding each
each_on fault spot later e = rw e refl

pub each_stops : (fault : Spot → Option Fault) (spot : Spot) (later : List Spot) (found : Fault) → fault spot ≡ Some found →
    each fault (spot ∷ later) ≡ Some found
unfolding each
each_stops fault spot later found e = rw e refl

pub each_of_none : (fault : Spot → Option Fault) → each fault [] ≡ None
unfolding each
each_of_none fault = refl
