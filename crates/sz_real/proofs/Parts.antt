-- Parts of a file that are read and written one after another.
use Rattle.std.proofs.Common.{◌≡◌, ℕ, ◌+◌, ◌-◌, ◌≤◌, ◌<◌, inl, inr, List, [], ◌++◌, length, length-append, take, drop, slice_index, get_or, Option, None, Some, sym, ◌∙◌, ap, subst, refl, arith, rules}
use Rattle.std.proofs.Math.Seq.{take-add}
use Rattle.std.proofs.lemmas.Bool.{cases_lt}
use Rattle.std.proofs.lemmas.List.{places, take_rest, length-take-le, get_or-take, get_or-drop, get_or_past, get_or_append_left, get_or-append_right}
use borrow.Rule.Slice.PartMut.{put_mid}
use Rattle.sz_real.specs.Place.{PutsAt, TakesPart}

-- an element before a part that was written
index-put_mid_before : (a k i : ℕ) (xs ys : List ℕ) → a ≤ length xs → i < a → get_or (put_mid a k xs ys) i 0 ≡ get_or xs i 0
index-put_mid_before a k i xs ys room below = search (rules, places)

-- an element of a part that was written
index-put_mid_in : (a k j : ℕ) (xs ys : List ℕ) → a ≤ length xs → j < length ys → get_or (put_mid a k xs ys) (a + j) 0 ≡ get_or ys j 0
index-put_mid_in a k j xs ys room inside = search (rules, places)

-- the element of a part that was read
index-part : (file part : List ℕ) (at count j : ℕ) → take count part ≡ take count (drop at file) → j < count → get_or part j 0 ≡ get_or file (at + j) 0
index-part file part at count j same inside =
    sym (get_or-take count part j 0 inside) ∙ ap (λ l. get_or l j 0) same ∙ get_or-take count (drop at file) j 0 inside ∙ get_or-drop at file j 0

-- a read behind what is done goes on with it
pub filled_more : (file into part : List ℕ) (at done rest count : ℕ)
    → done ≤ length into → count ≤ length part
    → ((k : ℕ) → k < done → slice_index into k ≡ slice_index file (at + k))
    → take count part ≡ take count (drop (at + done) file)
    → (k : ℕ) → k < done + count → slice_index (put_mid done rest into part) k ≡ slice_index file (at + k)
filled_more file into part at done rest count room size before same k below =
    elim (cases_lt k done) [
      | inl early ↦ index-put_mid_before done rest k into part room early ∙ before k early
      | inr late ↦
          let j = k - done in
          let inside : j < count = omega arith in
          let inside_part : j < length part = omega arith in
          let split : k ≡ done + j = omega arith in
          let place : (at + done) + j ≡ at + k = omega arith in
          ap (λ i. get_or (put_mid done rest into part) i 0) split ∙ index-put_mid_in done rest j into part room inside_part
          ∙ index-part file part (at + done) count j same inside ∙ ap (λ i. get_or file i 0) place
    ]

-- where the file ended, what is done goes on with zeros
pub filled_up : (file into zeros : List ℕ) (at done rest : ℕ)
    → done ≤ length into → ((j : ℕ) → get_or zeros j 0 ≡ 0)
    → ((k : ℕ) → k < done → slice_index into k ≡ slice_index file (at + k))
    → drop (at + done) file ≡ []
    → (k : ℕ) → k < done + length zeros → slice_index (put_mid done rest into zeros) k ≡ slice_index file (at + k)
filled_up file into zeros at done rest room zero before ended k below =
    elim (cases_lt k done) [
      | inl early ↦ index-put_mid_before done rest k into zeros room early ∙ before k early
      | inr late ↦
          let j = k - done in
          let inside : j < length zeros = omega arith in
          let split : k ≡ done + j = omega arith in
          let place : (at + done) + j ≡ at + k = omega arith in
          let past : get_or file (at + k) 0 ≡ 0 =
          ap (λ i. get_or file i 0) (sym place) ∙ sym (get_or-drop (at + done) file j 0) ∙ ap (λ l. get_or l j 0) ended ∙ get_or_past [] j 0 (omega arith) in
          ap (λ i. get_or (put_mid done rest into zeros) i 0) split ∙ index-put_mid_in done rest j into zeros room inside ∙ zero j ∙ sym past
    ]

-- two writes, one behind the other, are one
PutsAt-trans : (at : ℕ) (xs ys old mid new : List ℕ) → PutsAt at xs old mid → PutsAt (at + length xs) ys mid new → PutsAt at (xs ++ ys) old new
PutsAt-trans at xs ys old mid new first second = record {
  inside = λ k below. elim (cases_lt k (length xs)) [
    | inl early ↦ second.outside (at + k) (inl (omega arith)) ∙ first.inside k early ∙ sym (get_or_append_left xs ys 0 k early)
    | inr late ↦
        let j = k - length xs in
        let inside : j < length ys = omega (arith, length-append xs ys) in
        let place : at + k ≡ (at + length xs) + j = omega arith in
        ap (λ i. get_or new i 0) place ∙ second.inside j inside ∙ sym (get_or-append_right xs ys (length xs) k 0 refl late)
  ];
  outside = λ k away. second.outside k (elim away [
    | inl below ↦ inl (omega arith)
    | inr above ↦ inr (omega (arith, length-append xs ys))
  ]) ∙ first.outside k (elim away [
    | inl below ↦ inl below
    | inr above ↦ inr (omega (arith, length-append xs ys))
  ]);
}

-- the same where the file may tell nothing
pub TakesPart-trans : (a b c : Option (List ℕ)) (at : ℕ) (xs ys : List ℕ) → TakesPart a b at xs → TakesPart b c (at + length xs) ys → TakesPart a c at
    (xs ++ ys)
TakesPart-trans None b c at xs ys p q = subst (λ m. TakesPart m c (at + length xs) ys) p q
TakesPart-trans (Some x) None c at xs ys p q = absurd p
TakesPart-trans (Some x) (Some y) None at xs ys p q = absurd q
TakesPart-trans (Some x) (Some y) (Some z) at xs ys p q = PutsAt-trans at xs ys x y z p q

-- nothing was written
pub TakesPart-nothing : (a : Option (List ℕ)) (at : ℕ) → TakesPart a a at []
TakesPart-nothing None at = refl
TakesPart-nothing (Some x) at = record { inside = λ k below. absurd (omega (arith, below)); outside = λ k away. refl }

-- what one write took of the rest stands behind what was done before
pub wrote_more : (a b c : Option (List ℕ)) (at done count : ℕ) (bytes : List ℕ) → done ≤ length bytes
    → TakesPart a b at (take done bytes) → TakesPart b c (at + done) (take count (take (length bytes - done) (drop done bytes)))
    → TakesPart a c at (take (done + count) bytes)
wrote_more a b c at done count bytes room first second =
    let next : TakesPart b c (at + done) (take count (drop done bytes)) = rw (take_rest bytes done) at second in
    let size : done ≡ length (take done bytes) = sym (length-take-le done bytes room) in
    let behind : TakesPart b c (at + length (take done bytes)) (take count (drop done bytes)) = subst
    (λ n. TakesPart b c (at + n) (take count (drop done bytes))) size next in
    subst (TakesPart a c at) (sym (take-add done count bytes)) (TakesPart-trans a b c at (take done bytes) (take count (drop done bytes)) first behind)
