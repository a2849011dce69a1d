-- The stored form of a key, cut into its parts.
use Rattle.std.proofs.Common.{◌≡◌, ℕ, zero, suc, ◌+◌, ◌-◌, ◌<◌, ◌≤◌, List, [], ◌∷◌, ◌++◌, length, get_or, drop, true, refl, sym, ap, ◌∙◌, subst, arith, append_assoc, add-zero, zero-add, length-take-le, length-drop, take-append-drop, drop-drop}
use Rattle.std.specs.Int.{w64, to_be_bytes}
use Rattle.std.specs.List.{flat_map, list_all}
use Rattle.std.proofs.lemmas.Bool.{and_from}
use Rattle.std.proofs.lemmas.List.{drop_more, take_all, map_push}
use Rattle.std.proofs.lemmas.List.Folds.{list_all-append}
use Rattle.std.proofs.lemmas.Nat.{be_bytes_8}
use Rattle.sz_lms.specs.Bits.{AreBytes}
use Rattle.sz_lms.proofs.LawBytes.{drop_bytes, take_bytes}
use Rattle.sz_hss.specs.Key.{Shape, AreLevels, IsKey, is_shape, key_of, levels_of}
use Rattle.sz_hss.specs.Leaf.{leaf_count, leaves_below}
use Rattle.sz_hss.specs.Stored.{IsStoredKey, shape_bytes, spelled}
use Rattle.sz_hss.specs.StoredFault.{HasHead, end_place, next_place, part, shape_at, shape_place, shapes_in, stored_size, u64_at}
use Rattle.sz_hss.specs.View.{shape_of, shapes_of}
use Rattle.sz_hss.specs.declared.level.Level.{Level}

-- ---- levels

-- levels that are some are their first and the others
pub levels_of-key_of : (shapes : List Shape) (seed id : List ℕ) → 1 ≤ length shapes → levels_of (key_of shapes seed id) ≡ shapes
levels_of-key_of shapes seed id some = sym (drop_more shapes 0 (record { height = 0; width = 0 }) (omega arith))

pub leaf_count-key_of : (shapes : List Shape) (seed id : List ℕ) → 1 ≤ length shapes → leaf_count (key_of shapes seed id) ≡ leaves_below shapes
leaf_count-key_of shapes seed id some = ap leaves_below (levels_of-key_of shapes seed id some)

pub IsKey-key_of : (shapes : List Shape) (seed id : List ℕ) → AreLevels shapes → length seed ≡ 32 → length id ≡ 16 → IsKey (key_of shapes seed id)
IsKey-key_of shapes seed id are seed_length id_length = record {
  levels = subst AreLevels (sym (levels_of-key_of shapes seed id are.some)) are;
  seed_length = seed_length;
  id_length = id_length;
}

-- ---- shapes, read one after another

pub length-shapes_in : (bytes : List ℕ) (k n : ℕ) → length (shapes_in bytes k n) ≡ n
length-shapes_in bytes k zero = refl
length-shapes_in bytes k (suc n) = ap suc (length-shapes_in bytes (k + 1) n)

pub shapes_in-step : (bytes : List ℕ) (levels : List Level) (level : Level) (k count : ℕ) (all : List Shape) → k < count
    → shape_of level ≡ shape_at bytes k → shapes_of levels ++ shapes_in bytes k (count - k) ≡ all
    → shapes_of (levels ++ level ∷ []) ++ shapes_in bytes (k + 1) (count - (k + 1)) ≡ all
shapes_in-step bytes levels level k count all lt is before =
    let n = count - (k + 1) in
    let rest = shapes_in bytes (k + 1) n in
    let more : count - k ≡ suc n = omega arith in
    ap (λ (xs : List Shape). xs ++ rest) (map_push shape_of levels level)
    ∙ append_assoc (shapes_of levels) (shape_of level ∷ []) rest
    ∙ ap (λ (s : Shape). shapes_of levels ++ s ∷ rest) is
    ∙ sym (ap (λ (m : ℕ). shapes_of levels ++ shapes_in bytes k m) more)
    ∙ before

pub allowed-step : (levels : List Level) (level : Level) → list_all is_shape (shapes_of levels) ≡ true
    → is_shape (shape_of level) ≡ true → list_all is_shape (shapes_of (levels ++ level ∷ [])) ≡ true
allowed-step levels level before is =
    ap (list_all is_shape) (map_push shape_of levels level)
    ∙ list_all-append is_shape (shapes_of levels) (shape_of level ∷ [])
    ∙ and_from _ _ before (and_from _ _ is refl)

-- ---- the whole form

parts-at : (bytes : List ℕ) (at n : ℕ) → drop at bytes ≡ part bytes at n ++ drop (at + n) bytes
parts-at bytes at n = sym (take-append-drop n (drop at bytes)) ∙ ap (λ (xs : List ℕ). part bytes at n ++ xs) (drop-drop n at bytes)

-- n shapes stand from level k on
shapes-at : (bytes : List ℕ) (k n : ℕ) → shape_place (k + n) ≤ length bytes
    → drop (shape_place k) bytes ≡ flat_map shape_bytes (shapes_in bytes k n) ++ drop (shape_place (k + n)) bytes
shapes-at bytes k zero within = ap (λ (m : ℕ). drop (shape_place m) bytes) (sym (add-zero k))
shapes-at bytes k (suc n) within =
    let p = shape_place k in
    let next : p + 1 + 1 ≡ shape_place (k + 1) = omega arith in
    let same : k + 1 + n ≡ k + suc n = omega arith in
    let rest = shapes-at bytes (k + 1) n (omega arith) in
    drop_more bytes p 0 (omega arith)
    ∙ ap (λ (xs : List ℕ). get_or bytes p 0 ∷ xs) (drop_more bytes (p + 1) 0 (omega arith))
    ∙ ap (λ (m : ℕ). get_or bytes p 0 ∷ get_or bytes (p + 1) 0 ∷ drop m bytes) next
    ∙ ap (λ (xs : List ℕ). get_or bytes p 0 ∷ get_or bytes (p + 1) 0 ∷ xs) rest
    ∙ ap (λ (m : ℕ). get_or bytes p 0 ∷ get_or bytes (p + 1) 0 ∷ (flat_map shape_bytes (shapes_in bytes (k + 1) n) ++ drop (shape_place m) bytes)) same

number-at : (bytes : List ℕ) (at : ℕ) → AreBytes bytes → at + 8 ≤ length bytes → to_be_bytes w64 (u64_at bytes at) ≡ part bytes at 8
number-at bytes at are within =
    let long : 8 ≤ length (drop at bytes) = omega (arith, length-drop at bytes) in
    be_bytes_8 (part bytes at 8) (u64_at bytes at) (length-take-le 8 (drop at bytes) long)
    (take_bytes 8 (drop at bytes) (drop_bytes at bytes are)) refl

-- what stands behind the shapes of so many levels
fields-at : (bytes : List ℕ) (count : ℕ) → AreBytes bytes → length bytes ≡ stored_size count
    → drop (shape_place count) bytes
    ≡ part bytes (shape_place count) 32 ++ (part bytes (shape_place count + 32) 16
    ++ (to_be_bytes w64 (u64_at bytes (next_place count)) ++ to_be_bytes w64 (u64_at bytes (end_place count))))
fields-at bytes count are size =
    let p = shape_place count in
    let seed = part bytes p 32 in
    let id = part bytes (p + 32) 16 in
    let next = part bytes (next_place count) 8 in
    let place : p + 32 + 16 ≡ next_place count = omega arith in
    let last : length (drop (end_place count) bytes) ≤ 8 = omega (arith, length-drop (end_place count) bytes) in
    parts-at bytes p 32
    ∙ ap (λ (xs : List ℕ). seed ++ xs) (parts-at bytes (p + 32) 16)
    ∙ ap (λ (m : ℕ). seed ++ (id ++ drop m bytes)) place
    ∙ ap (λ (xs : List ℕ). seed ++ (id ++ xs)) (parts-at bytes (next_place count) 8)
    ∙ ap (λ (xs : List ℕ). seed ++ (id ++ (next ++ xs))) (sym (take_all 8 (drop (end_place count) bytes) last))
    ∙ ap (λ (xs : List ℕ). seed ++ (id ++ (xs ++ part bytes (end_place count) 8))) (sym (number-at bytes (next_place count) are (omega arith)))
    ∙ ap (λ (xs : List ℕ). seed ++ (id ++ (to_be_bytes w64 (u64_at bytes (next_place count)) ++ xs)))
    (sym (number-at bytes (end_place count) are (omega arith)))

pub IsStored-parts : (bytes : List ℕ) (shapes : List Shape) (seed id : List ℕ) (next end : ℕ) → AreBytes bytes → AreLevels shapes
    → HasHead bytes shapes → length bytes ≡ stored_size (length shapes)
    → seed ≡ part bytes (shape_place (length shapes)) 32 → id ≡ part bytes (shape_place (length shapes) + 32) 16
    → next ≡ u64_at bytes (next_place (length shapes)) → end ≡ u64_at bytes (end_place (length shapes))
    → next ≤ end → end ≤ leaves_below shapes
    → IsStoredKey (record { key = key_of shapes seed id; next = next; end = end }) bytes
unfolding spelled
IsStored-parts bytes shapes seed id next end are levels head size seed_is id_is next_is end_is begun within =
    let count = length shapes in
    let p = shape_place count in
    let key = key_of shapes seed id in
    let all = levels_of-key_of shapes seed id levels.some in
    let long : 32 ≤ length (drop p bytes) = omega (arith, length-drop p bytes) in
    let long_id : 16 ≤ length (drop (p + 32) bytes) = omega (arith, length-drop (p + 32) bytes) in
    let tail = seed ++ (id ++ (to_be_bytes w64 next ++ to_be_bytes w64 end)) in
    let fields : drop p bytes ≡ tail = rw (seed_is, id_is, next_is, end_is) (fields-at bytes count are size) in
    let shapes_there : drop 2 bytes ≡ flat_map shape_bytes shapes ++ drop p bytes =
    shapes-at bytes 0 count (omega arith)
    ∙ ap (λ (m : ℕ). flat_map shape_bytes (shapes_in bytes 0 count) ++ drop (shape_place m) bytes) (zero-add count)
    ∙ ap (λ (xs : List Shape). flat_map shape_bytes xs ++ drop p bytes) (sym head.there) in
    let head_there : bytes ≡ 1 ∷ count ∷ drop 2 bytes =
    drop_more bytes 0 0 (omega arith) ∙ ap (λ (xs : List ℕ). get_or bytes 0 0 ∷ xs) (drop_more bytes 1 0 (omega arith))
    ∙ ap (λ (x : ℕ). x ∷ get_or bytes 1 0 ∷ drop 2 bytes) head.version ∙ ap (λ (x : ℕ). 1 ∷ x ∷ drop 2 bytes) head.count in
    let counted : count ≡ suc (length (drop 1 shapes)) = sym (ap length all) in
    record {
      storable = record {
        is_key = IsKey-key_of shapes seed id levels (ap length seed_is ∙ length-take-le 32 (drop p bytes) long)
            (ap length id_is ∙ length-take-le 16 (drop (p + 32) bytes) long_id);
        begun = begun;
        within = subst (λ (n : ℕ). end ≤ n) (sym (leaf_count-key_of shapes seed id levels.some)) within;
      };
      spelled_is = head_there ∙ ap (λ (xs : List ℕ). 1 ∷ count ∷ xs) (shapes_there ∙ ap (λ (xs : List ℕ). flat_map shape_bytes shapes ++ xs) fields)
          ∙ ap (λ (n : ℕ). 1 ∷ n ∷ (flat_map shape_bytes shapes ++ tail)) counted
          ∙ ap (λ (xs : List Shape). 1 ∷ suc (length (drop 1 shapes)) ∷ (flat_map shape_bytes xs ++ tail)) (sym all);
    }
