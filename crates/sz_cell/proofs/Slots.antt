-- What writes to a slot make of it.
use Rattle.std.specs.Prelude.{◌≡◌, ℕ, ◌+◌, ◌-◌, ◌≤◌, ◌<◌, ◌^◌, List, [], ◌∷◌, length, take, drop, slice_index}
use Rattle.std.proofs.Common.{refl, sym, ◌∙◌, ap, arith, inl, inr}
use Rattle.std.proofs.lemmas.List.{drop-take, drop-drop, take_all}
use Rattle.std.proofs.lemmas.Nat.{from_be_bytes-to_be_bytes_4, from_be_bytes-to_be_bytes_8}
use Rattle.std.specs.Int.{w32, w64, from_be_bytes, to_be_bytes}
use Rattle.sz_disk.specs.Image.{part, patched, ChangedIn}
use Rattle.sz_disk.proofs.Parts.{part-part, part-outside, part-patched, length-part, get_or-part, get_or-outside, get_or-patched}
use Rattle.sz_cell.specs.Slot.{Slot, IsSpelled, slot_of, slot_in, place, spelled, slot_size, header_size}

-- the same behind the gate
pub record SameBehind (a b : Slot) : Type 0 where
  pub sequence : a.sequence ≡ b.sequence
  pub size : a.size ≡ b.size
  pub payload : a.payload ≡ b.payload

slot_of-behind : (xs ys : List ℕ) → drop 1 xs ≡ drop 1 ys → SameBehind (slot_of xs) (slot_of ys)
unfolding slot_of
slot_of-behind xs ys same =
    let at_nine : part xs 9 4 ≡ part ys 9 4 = ap (λ l. take 4 l) (sym (drop-drop 8 1 xs) ∙ ap (λ l. drop 8 l) same ∙ drop-drop 8 1 ys) in
    let behind : drop header_size xs ≡ drop header_size ys =
    sym (drop-drop (header_size - 1) 1 xs) ∙ ap (λ l. drop (header_size - 1) l) same ∙ drop-drop (header_size - 1) 1 ys in
    record {
      sequence = ap (λ l. from_be_bytes w64 (take 8 l)) same;
      size = ap (from_be_bytes w32) at_nine;
      payload =
          ap (λ l. take (from_be_bytes w32 (part xs 9 4)) l) behind
          ∙ ap (λ l. take (from_be_bytes w32 l) (drop header_size ys)) at_nine;
    }

-- a slot behind its gate
drop_one : (image : List ℕ) (from capacity : ℕ)
    → drop 1 (part image from (slot_size capacity)) ≡ part image (from + 1) (header_size - 1 + capacity)
drop_one image from capacity =
    let behind : ℕ = header_size - 1 + capacity in
    let one : slot_size capacity ≡ 1 + behind = omega arith in
    ap (λ k. drop 1 (take k (drop from image))) one
    ∙ drop-take 1 behind (drop from image)
    ∙ ap (λ l. take behind l) (drop-drop 1 from image)

-- a gate that was torn
pub gate_torn : (at capacity slot : ℕ) (before after : List ℕ) → ChangedIn (place at capacity slot) 1 before after
    → SameBehind (slot_in at capacity slot after) (slot_in at capacity slot before)
unfolding slot_in
gate_torn at capacity slot before after changed =
    let p : ℕ = place at capacity slot in
    slot_of-behind (part after p (slot_size capacity)) (part before p (slot_size capacity))
    (drop_one after p capacity
    ∙ part-outside p 1 before after (p + 1) (header_size - 1 + capacity) changed (inr (omega arith))
    ∙ sym (drop_one before p capacity))

-- the gate is the byte at the slot's place
pub gate_at : (at capacity slot : ℕ) (image : List ℕ)
    → (slot_in at capacity slot image).gate ≡ slice_index image (place at capacity slot)
unfolding slot_in slot_of
gate_at at capacity slot image =
    get_or-part image (place at capacity slot) (slot_size capacity) 0 (omega arith) ∙ ap (slice_index image) (omega arith)

-- a change behind the gate keeps it
pub gate_kept : (at capacity slot : ℕ) (n : ℕ) (before after : List ℕ) → ChangedIn (place at capacity slot + 1) n before after
    → (slot_in at capacity slot after).gate ≡ (slot_in at capacity slot before).gate
gate_kept at capacity slot n before after changed =
    let p : ℕ = place at capacity slot in
    gate_at at capacity slot after
    ∙ get_or-outside (p + 1) n before after changed p (inl (omega arith))
    ∙ sym (gate_at at capacity slot before)

-- a gate that was written
pub gate_written : (at capacity slot : ℕ) (gate : ℕ) (image : List ℕ) → place at capacity slot + 1 ≤ length image
    → (slot_in at capacity slot (patched (place at capacity slot) (gate ∷ []) image)).gate ≡ gate
gate_written at capacity slot gate image within =
    let p : ℕ = place at capacity slot in
    gate_at at capacity slot (patched p (gate ∷ []) image)
    ∙ ap (slice_index (patched p (gate ∷ []) image)) (omega arith)
    ∙ get_or-patched p (gate ∷ []) image within 0 (omega arith)

-- how many bytes stand behind a gate
pub length-spelled : (sequence : ℕ) (payload : List ℕ) → length (spelled sequence payload) ≡ header_size - 1 + length payload
unfolding spelled
length-spelled sequence payload = omega arith

sequence_bytes : (sequence : ℕ) (payload : List ℕ) → part (spelled sequence payload) 0 8 ≡ to_be_bytes w64 sequence
unfolding spelled
sequence_bytes sequence payload = refl

size_bytes : (sequence : ℕ) (payload : List ℕ) → part (spelled sequence payload) 8 4 ≡ to_be_bytes w32 (length payload)
unfolding spelled
size_bytes sequence payload = refl

payload_bytes : (sequence : ℕ) (payload : List ℕ) → part (spelled sequence payload) (header_size - 1) (length payload) ≡ payload
unfolding spelled
payload_bytes sequence payload = take_all (length payload) payload (omega arith)

one_on : (p o : ℕ) → p + (1 + o) ≡ (p + 1) + o
one_on p o = omega arith

-- a slot that was written behind its gate
pub slot_written : (at capacity slot : ℕ) (sequence : ℕ) (payload image : List ℕ) → sequence < 2 ^ 64 → length payload < 2 ^ 32
    → length payload ≤ capacity → place at capacity slot + 1 ≤ length image
    → IsSpelled (slot_in at capacity slot (patched (place at capacity slot + 1) (spelled sequence payload) image)) sequence payload
unfolding slot_in slot_of
slot_written at capacity slot sequence payload image word short fits within =
    let p : ℕ = place at capacity slot in
    let bytes : List ℕ = spelled sequence payload in
    let now : List ℕ = patched (p + 1) bytes image in
    let whole : List ℕ = part now p (slot_size capacity) in
    let long : length bytes ≡ header_size - 1 + length payload = length-spelled sequence payload in
    let field = λ (o m : ℕ) (inside : 1 + o + m ≤ slot_size capacity) (there : o + m ≤ length bytes).
    part-part now p (slot_size capacity) (1 + o) m inside
    ∙ ap (λ k. part now k m) (one_on p o)
    ∙ part-patched image (p + 1) bytes o m within there in
    let size : from_be_bytes w32 (part whole 9 4) ≡ length payload =
    ap (from_be_bytes w32) (field 8 4 (omega arith) (omega (arith, long)) ∙ size_bytes sequence payload)
    ∙ from_be_bytes-to_be_bytes_4 (length payload) short in
    record {
      sequence_is =
          ap (from_be_bytes w64) (field 0 8 (omega arith) (omega (arith, long)) ∙ sequence_bytes sequence payload)
          ∙ from_be_bytes-to_be_bytes_8 sequence word;
      size_is = size;
      payload_is =
          ap (λ n. part whole header_size n) size
          ∙ field (header_size - 1) (length payload) (omega arith) (omega (arith, long))
          ∙ payload_bytes sequence payload;
    }

-- how many bytes the payload of a slot has
pub length-payload : (at capacity slot : ℕ) (image : List ℕ) → place at capacity slot + slot_size capacity ≤ length image
    → (slot_in at capacity slot image).size ≤ capacity
    → length (slot_in at capacity slot image).payload ≡ (slot_in at capacity slot image).size
unfolding slot_in slot_of
length-payload at capacity slot image within fits =
    let p : ℕ = place at capacity slot in
    let bytes : List ℕ = part image p (slot_size capacity) in
    let long : length bytes ≡ slot_size capacity = length-part image p (slot_size capacity) within in
    length-part bytes header_size (from_be_bytes w32 (part bytes 9 4)) (omega (arith, long, fits))

-- the front of a slot tells all but its payload
front : (image : List ℕ) (from capacity o m : ℕ) → o + m ≤ header_size
    → part (part image from (slot_size capacity)) o m ≡ part (part image from header_size) o m
front image from capacity o m fits =
    part-part image from (slot_size capacity) o m (omega arith) ∙ sym (part-part image from header_size o m fits)

pub record SameHeader (a b : Slot) : Type 0 where
  pub gate : a.gate ≡ b.gate
  pub sequence : a.sequence ≡ b.sequence
  pub size : a.size ≡ b.size

pub header_front : (at capacity slot : ℕ) (image : List ℕ)
    → SameHeader (slot_in at capacity slot image) (slot_of (part image (place at capacity slot) header_size))
unfolding slot_in slot_of
header_front at capacity slot image =
    let p : ℕ = place at capacity slot in
    record {
      gate = get_or-part image p (slot_size capacity) 0 (omega arith) ∙ sym (get_or-part image p header_size 0 (omega arith));
      sequence = ap (from_be_bytes w64) (front image p capacity 1 8 (omega arith));
      size = ap (from_be_bytes w32) (front image p capacity 9 4 (omega arith));
    }

-- the payload, where it lies on the disk
pub payload_part : (at capacity slot : ℕ) (image : List ℕ) → (slot_in at capacity slot image).size ≤ capacity
    → (slot_in at capacity slot image).payload
    ≡ part image (place at capacity slot + header_size) (slot_in at capacity slot image).size
unfolding slot_in slot_of
payload_part at capacity slot image fits =
    let p : ℕ = place at capacity slot in
    let bytes : List ℕ = part image p (slot_size capacity) in
    part-part image p (slot_size capacity) header_size (from_be_bytes w32 (part bytes 9 4)) (omega (arith, fits))
