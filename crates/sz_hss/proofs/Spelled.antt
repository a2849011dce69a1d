-- The stored form of a key has no wrong byte.
use Rattle.std.proofs.Common.{◌≡◌, ℕ, zero, suc, ◌+◌, ◌-◌, ◌*◌, ◌^◌, ◌<◌, ◌≤◌, Bool, true, None, List, [], ◌∷◌, ◌++◌, length, get_or, take, drop, refl, sym, ap, ap₂, ◌∙◌, subst, arith, append_assoc, length-append, drop_at, pow_mono, leb, le-leb}
use Rattle.std.specs.Int.{w64, from_be_bytes, to_be_bytes}
use Rattle.std.specs.List.{flat_map, list_all}
use Rattle.std.proofs.lemmas.Bool.{and_parts}
use Rattle.std.proofs.lemmas.List.{get_or-append_right}
use Rattle.std.proofs.lemmas.Nat.{from_be_bytes-to_be_bytes_8}
use Rattle.sz_lms.proofs.LawBytes.{behind, part_at}
use Rattle.sz_lms_tree.specs.Tree.{is_height, is_width}
use Rattle.sz_hss.specs.Key.{Shape, AreLevels, is_shape, levels_of}
use Rattle.sz_hss.specs.Leaf.{heights_of, leaves_below}
use Rattle.sz_hss.specs.Stored.{StoredKey, IsStoredKey, shape_bytes, spelled}
use Rattle.sz_hss.specs.StoredFault.{end_place, field_tests, first_wrong, is_level_count, next_place, shape_at, shape_place, shape_tests, shapes_in, stored_size, stored_tests, u64_at}
use Rattle.sz_hss.proofs.Walk.{heights-small}

-- ---- shapes

-- shapes that stand behind a front are those that are read there
shapes_in-spelled : (front : List ℕ) (shapes : List Shape) (rest : List ℕ) (k : ℕ) → length front ≡ shape_place k
    → shapes_in (front ++ (flat_map shape_bytes shapes ++ rest)) k (length shapes) ≡ shapes
shapes_in-spelled front [] rest k long = refl
shapes_in-spelled front (shape ∷ shapes) rest k long =
    let p = shape_place k in
    let others = flat_map shape_bytes shapes ++ rest in
    let here = shape.height ∷ shape.width ∷ others in
    let bytes = front ++ here in
    let none : p - p ≡ 0 = omega arith in
    let one : p + 1 - p ≡ 1 = omega arith in
    let height : get_or bytes p 0 ≡ shape.height =
    get_or-append_right front here p p 0 long (omega arith) ∙ ap (λ (i : ℕ). get_or here i 0) none in
    let width : get_or bytes (p + 1) 0 ≡ shape.width =
    get_or-append_right front here p (p + 1) 0 long (omega arith) ∙ ap (λ (i : ℕ). get_or here i 0) one in
    let same : bytes ≡ (front ++ shape.height ∷ shape.width ∷ []) ++ others =
    sym (append_assoc front (shape.height ∷ shape.width ∷ []) others) in
    let longer : length (front ++ shape.height ∷ shape.width ∷ []) ≡ shape_place (k + 1) =
    omega (arith, length-append front (shape.height ∷ shape.width ∷ []), long) in
    let is : shape_at bytes k ≡ shape = ap₂ (λ (h w : ℕ). let s : Shape = record { height = h; width = w } in s) height width in
    ap₂ (λ (s : Shape) (xs : List Shape). s ∷ xs) is
    (ap (λ (b : List ℕ). shapes_in b (k + 1) (length shapes)) same ∙ shapes_in-spelled (front ++ shape.height ∷ shape.width ∷ []) shapes rest (k + 1) longer)

length-shape_bytes : (shapes : List Shape) → length (flat_map shape_bytes shapes) ≡ 2 * length shapes
length-shape_bytes [] = refl
length-shape_bytes (shape ∷ shapes) =
    let rest = length-shape_bytes shapes in
    let here = length-append (shape_bytes shape) (flat_map shape_bytes shapes) in
    omega arith

-- ---- tests that pass

shape_tests-pass : (bytes : List ℕ) (k n : ℕ) (rest : List (Bool × ℕ)) → list_all is_shape (shapes_in bytes k n) ≡ true
    → first_wrong (shape_tests bytes k n ++ rest) ≡ first_wrong rest
unfolding first_wrong
shape_tests-pass bytes k zero rest all = refl
shape_tests-pass bytes k (suc n) rest all =
    let shape = shape_at bytes k in
    let parts = and_parts (is_shape shape) (list_all is_shape (shapes_in bytes (k + 1) n)) all in
    let here = and_parts (is_height shape.height) (is_width shape.width) parts.0 in
    rw (here.0, here.1) (shape_tests-pass bytes (k + 1) n rest parts.1)

four-pass : (a b c d : Bool) (p q r s : ℕ) → a ≡ true → b ≡ true → c ≡ true → d ≡ true
    → first_wrong ((a, p) ∷ (b, q) ∷ (c, r) ∷ (d, s) ∷ []) ≡ None
unfolding first_wrong
four-pass a b c d p q r s pa pb pc pd = rw (pa, pb, pc, pd) refl

count-allowed : (n : ℕ) → 1 ≤ n → n ≤ 3 → is_level_count n ≡ true
count-allowed zero some few = absurd (omega arith)
count-allowed (suc zero) some few = refl
count-allowed (suc (suc zero)) some few = refl
count-allowed (suc (suc (suc zero))) some few = refl
count-allowed (suc (suc (suc (suc n)))) some few = absurd (omega arith)

-- ---- the whole form

-- the numbers at its end
numbers-at : (bytes : List ℕ) (at next end : ℕ) → drop at bytes ≡ to_be_bytes w64 next ++ to_be_bytes w64 end
    → next < 2 ^ 64 → end < 2 ^ 64 → (u64_at bytes at ≡ next) × (u64_at bytes (at + 8) ≡ end)
numbers-at bytes at next end there small small_end = (
  ap (λ (xs : List ℕ). from_be_bytes w64 xs) (part_at bytes (to_be_bytes w64 next) (to_be_bytes w64 end) at 8 there refl)
      ∙ from_be_bytes-to_be_bytes_8 next small,
  ap (λ (xs : List ℕ). from_be_bytes w64 (take 8 xs)) (behind bytes (to_be_bytes w64 next) (to_be_bytes w64 end) at 8 there refl)
      ∙ from_be_bytes-to_be_bytes_8 end small_end,
)

pass-spelled : (levels : List Shape) (seed id : List ℕ) (next end : ℕ) → AreLevels levels → length seed ≡ 32 → length id ≡ 16
    → next ≤ end → end ≤ leaves_below levels
    → first_wrong (stored_tests (1 ∷ length levels ∷ (flat_map shape_bytes levels
    ++ (seed ++ (id ++ (to_be_bytes w64 next ++ to_be_bytes w64 end)))))) ≡ None
unfolding first_wrong stored_tests
pass-spelled levels seed id next end are seed_length id_length begun within =
    let n = length levels in
    let shapes = flat_map shape_bytes levels in
    let numbers = to_be_bytes w64 next ++ to_be_bytes w64 end in
    let tail = seed ++ (id ++ numbers) in
    let bytes = 1 ∷ n ∷ (shapes ++ tail) in
    let there : shapes_in bytes 0 n ≡ levels = shapes_in-spelled (1 ∷ n ∷ []) levels tail 0 refl in
    let long = length-shape_bytes levels in
    let front = 1 ∷ n ∷ (shapes ++ (seed ++ id)) in
    let split : bytes ≡ front ++ numbers = ap (λ (xs : List ℕ). 1 ∷ n ∷ xs)
    (ap (λ (xs : List ℕ). shapes ++ xs) (sym (append_assoc seed id numbers)) ∙ sym (append_assoc shapes (seed ++ id) numbers)) in
    let front_long : length front ≡ next_place n =
    omega (arith, long, length-append shapes (seed ++ id), length-append seed id, seed_length, id_length) in
    let size : length bytes ≡ stored_size n = omega (arith, ap length split, length-append front numbers, front_long) in
    let behind_front : drop (next_place n) bytes ≡ numbers = ap (drop (next_place n)) split ∙ drop_at front numbers (next_place n) front_long in
    let heights : heights_of levels ≤ 45 = let small = heights-small levels are.allowed in omega (arith, are.few) in
    let most : leaves_below levels ≤ 35184372088832 = pow_mono heights in
    let read = numbers-at bytes (next_place n) next end behind_front (omega arith) (omega arith) in
    let pass = shape_tests-pass bytes 0 n (field_tests bytes n) (ap (list_all is_shape) there ∙ are.allowed) in
    let begun_read : u64_at bytes (next_place n) ≤ u64_at bytes (end_place n) = omega (arith, read.0, read.1, begun) in
    let leaves = ap leaves_below there in
    let within_read : u64_at bytes (end_place n) ≤ leaves_below (shapes_in bytes 0 n) = omega (arith, read.1, leaves, within) in
    let fields = four-pass (leb (stored_size n) (length bytes)) (leb (u64_at bytes (next_place n)) (u64_at bytes (end_place n)))
    (leb (u64_at bytes (end_place n)) (leaves_below (shapes_in bytes 0 n))) (leb (length bytes) (stored_size n))
    (length bytes) (next_place n) (end_place n) (stored_size n)
    (le-leb _ _ (omega arith)) (le-leb _ _ begun_read) (le-leb _ _ within_read) (le-leb _ _ (omega arith)) in
    rw (count-allowed n are.some are.few) (pass ∙ fields)

pub no-wrong_byte : (stored : StoredKey) (bytes : List ℕ) → IsStoredKey stored bytes → first_wrong (stored_tests bytes) ≡ None
unfolding spelled
no-wrong_byte stored bytes is =
    let key = stored.key in
    let storable = is.storable in
    subst (λ (b : List ℕ). first_wrong (stored_tests b) ≡ None) (sym is.spelled_is)
    (pass-spelled (levels_of key) key.top.seed key.top.id stored.next stored.end storable.is_key.levels storable.is_key.seed_length
    storable.is_key.id_length storable.begun storable.within)
