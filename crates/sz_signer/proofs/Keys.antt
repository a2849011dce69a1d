-- What a cell with a stored key says of the images.
use Rattle.std.proofs.Common.{◌≡◌, ℕ, suc, ◌+◌, ◌-◌, ◌^◌, ◌<◌, ◌≤◌, List, [], ◌∷◌, ◌++◌, Some, length, take, drop, slice_index_or, subst, inl, inr, ⊎_elim, refl, sym, ap, ap₂, ◌∙◌, append_assoc, length-append, drop_at, pow_mono, arith}
use Rattle.std.specs.Int.{w64, from_be_bytes, to_be_bytes}
use Rattle.std.specs.List.{flat_map}
use Rattle.std.proofs.lemmas.Bool.Decides.{nat_tests}
use Rattle.std.proofs.lemmas.Nat.{from_be_bytes-to_be_bytes_8}
use Rattle.std.proofs.Math.Seq.{drop-append_seam, take-append_seam}
use Rattle.sz_cell.specs.Cell.{Kept, MeansEither, IsReady, NoneOpen}
use Rattle.sz_cell.specs.Meaning.{meaning, meaning_of, none, value}
use Rattle.sz_cell.specs.Slot.{Slot, open_gate, slot_in}
use Rattle.sz_disk.specs.Disk.{Seen}
use Rattle.sz_lms.specs.Hss.{HssOk}
use Rattle.sz_hss.specs.Key.{HssKey, IsKey, Shape, key_of, levels_of}
use Rattle.sz_hss.specs.Leaf.{heights_of, leaf_count}
use Rattle.sz_hss.proofs.Walk.{heights-small}
use Rattle.sz_hss.specs.Signature.{AreSignatures, hss_public_of}
use Rattle.sz_hss.proofs.Verifies.{HssOk-signed}
use Rattle.sz_signer.specs.Leaves.{VerifyEach}
use Rattle.sz_hss.specs.Stored.{StoredKey, IsStorable, IsStoredKey, shape_bytes, spelled, version}
use Rattle.sz_signer.specs.Answer.{MeansOldOrAdvanced}
use Rattle.sz_signer.specs.KeyDisk.{MeansKey, HoldsKey, advanced, key_place, key_capacity}

-- the image means the key whose stored form is its cell's value
pub MeansKey-spelled : (kept : Kept) (slot sequence : ℕ) (stored : StoredKey) (image : List ℕ) → kept.at ≡ key_place → kept.capacity ≡ key_capacity
    → IsStorable stored → meaning kept.at kept.capacity image ≡ value slot sequence (spelled stored) → MeansKey stored image
MeansKey-spelled kept slot sequence stored image at capacity storable means = record {
  slot = slot;
  sequence = sequence;
  payload = spelled stored;
  value_is = sym (ap₂ (λ (a c : ℕ). meaning a c image) at capacity) ∙ means;
  stored_is = record { storable = storable; spelled_is = refl };
}

pub HoldsKey-ready : (disk : Seen) (kept : Kept) (stored : StoredKey) → kept.at ≡ key_place → kept.capacity ≡ key_capacity → IsStorable stored
    → IsReady disk kept (spelled stored) → HoldsKey disk stored
HoldsKey-ready disk kept stored at capacity storable ready image left =
    MeansKey-spelled kept kept.slot kept.sequence stored image at capacity storable (ready.means image left)

pub IsStorable-advanced : (n : ℕ) (stored : StoredKey) → IsStorable stored → stored.next + n ≤ stored.end → IsStorable (advanced n stored)
IsStorable-advanced n stored storable fits = record { is_key = storable.is_key; begun = fits; within = storable.within }

pub MeansOldOrAdvanced-either : (kept : Kept) (n : ℕ) (stored : StoredKey) (image : List ℕ) → kept.at ≡ key_place → kept.capacity ≡ key_capacity
    → IsStorable stored → stored.next + n ≤ stored.end → MeansEither kept (spelled stored) (spelled (advanced n stored)) image
    → MeansOldOrAdvanced n stored image
MeansOldOrAdvanced-either kept n stored image at capacity storable fits either =
    ⊎_elim
    (λ means. inl (MeansKey-spelled kept _ _ stored image at capacity storable means))
    (λ means. inr (MeansKey-spelled kept _ _ (advanced n stored) image at capacity (IsStorable-advanced n stored storable fits) means))
    either

-- signatures of a key that exists verify
pub VerifyEach-signed : (key : HssKey) (first : ℕ) (messages signatures : List (List ℕ)) → IsKey key
    → AreSignatures key first messages signatures → VerifyEach (hss_public_of key) messages signatures
VerifyEach-signed key first messages signatures is are i d e lt =
    subst (λ (bytes : List ℕ). HssOk (hss_public_of key) (slice_index_or messages i e) bytes) (sym (are.each i d e lt))
    (HssOk-signed key (first + i) (slice_index_or messages i e) is)

-- ---- the next leaf number that an image means

-- the two numbers at the end of a stored form
numbers-last : (stored : StoredKey) (payload : List ℕ) → IsStoredKey stored payload
    → drop (length payload - 16) payload ≡ to_be_bytes w64 stored.next ++ to_be_bytes w64 stored.end
unfolding spelled
numbers-last stored payload is =
    let key = stored.key in
    let shapes = flat_map shape_bytes (levels_of key) in
    let numbers = to_be_bytes w64 stored.next ++ to_be_bytes w64 stored.end in
    let front = version ∷ suc (length key.below) ∷ (shapes ++ (key.top.seed ++ key.top.id)) in
    let split : payload ≡ front ++ numbers = is.spelled_is ∙ ap (λ (xs : List ℕ). version ∷ suc (length key.below) ∷ xs)
    (ap (λ (xs : List ℕ). shapes ++ xs) (sym (append_assoc key.top.seed key.top.id numbers))
    ∙ sym (append_assoc shapes (key.top.seed ++ key.top.id) numbers)) in
    let long : length payload ≡ length front + 16 = ap length split ∙ length-append front numbers in
    ap (drop (length payload - 16)) split ∙ drop_at front numbers (length payload - 16) (omega arith)

next-small : (stored : StoredKey) → IsStorable stored → stored.next < 2 ^ 64
next-small stored storable =
    let levels = storable.is_key.levels in
    let heights : heights_of (levels_of stored.key) ≤ 45 =
    let small = heights-small (levels_of stored.key) levels.allowed in omega (arith, levels.few) in
    let most : leaf_count stored.key ≤ 35184372088832 = pow_mono heights in
    omega (arith, storable.begun, storable.within)

-- one payload is the stored form of one key's next leaf number alone
next-of_payload : (one other : StoredKey) (payload : List ℕ) → IsStoredKey one payload → IsStoredKey other payload → one.next ≡ other.next
next-of_payload one other payload is is_other =
    let both = sym (numbers-last one payload is) ∙ numbers-last other payload is_other in
    let bytes : to_be_bytes w64 one.next ≡ to_be_bytes w64 other.next = ap (take 8) both in
    sym (from_be_bytes-to_be_bytes_8 one.next (next-small one is.storable))
    ∙ ap (λ (xs : List ℕ). from_be_bytes w64 xs) bytes
    ∙ from_be_bytes-to_be_bytes_8 other.next (next-small other is_other.storable)

pub next-once : (one other : StoredKey) (image : List ℕ) → MeansKey one image → MeansKey other image → one.next ≡ other.next
next-once one other image means means_other =
    let same : value means.slot means.sequence means.payload ≡ value means_other.slot means_other.sequence means_other.payload =
    sym means.value_is ∙ means_other.value_is in
    let payload : means.payload ≡ means_other.payload = cc in
    next-of_payload one other means_other.payload (subst (IsStoredKey one) payload means.stored_is) means_other.stored_is

-- ---- the key that an image means

-- lists of one length that begin two equal ones
same-fronts : (a b x y : List ℕ) → length a ≡ length b → a ++ x ≡ b ++ y → (a ≡ b) × (x ≡ y)
same-fronts a b x y long same = (
  sym (take-append_seam a x) ∙ ap (take (length a)) same ∙ ap (λ (n : ℕ). take n (b ++ y)) long ∙ take-append_seam b y,
  sym (drop-append_seam a x) ∙ ap (drop (length a)) same ∙ ap (λ (n : ℕ). drop n (b ++ y)) long ∙ drop-append_seam b y,
)

-- as many shapes, each by its two bytes
same-shapes : (a b : List Shape) (x y : List ℕ) → length a ≡ length b → flat_map shape_bytes a ++ x ≡ flat_map shape_bytes b ++ y
    → (a ≡ b) × (x ≡ y)
same-shapes [] [] x y long same = (refl, same)
same-shapes [] (t ∷ b) x y long same = absurd (omega arith)
same-shapes (s ∷ a) [] x y long same = absurd (omega arith)
same-shapes (s ∷ a) (t ∷ b) x y long same =
    let heights : s.height ≡ t.height = ap (λ (xs : List ℕ). slice_index_or xs 0 0) same in
    let widths : s.width ≡ t.width = ap (λ (xs : List ℕ). slice_index_or xs 1 0) same in
    let shape : s ≡ t = ap₂ (λ (h w : ℕ). let made : Shape = record { height = h; width = w } in made) heights widths in
    let rest = same-shapes a b x y (omega arith) (ap (drop 2) same) in
    (ap₂ (λ (c : Shape) (cs : List Shape). c ∷ cs) shape rest.0, rest.1)

same-keys : (one other : HssKey) → levels_of one ≡ levels_of other → one.top.seed ≡ other.top.seed → one.top.id ≡ other.top.id → one ≡ other
same-keys one other levels seeds ids =
    ap (λ (shapes : List Shape). key_of shapes one.top.seed one.top.id) levels
    ∙ ap₂ (λ (seed id : List ℕ). key_of (levels_of other) seed id) seeds ids

-- one payload is the stored form of one key alone
key-of_payload : (one other : StoredKey) (payload : List ℕ) → IsStoredKey one payload → IsStoredKey other payload → one.key ≡ other.key
unfolding spelled
key-of_payload one other payload is is_other =
    let a = one.key in
    let b = other.key in
    let same = sym is.spelled_is ∙ is_other.spelled_is in
    let count : suc (length a.below) ≡ suc (length b.below) = ap (λ (xs : List ℕ). slice_index_or xs 1 0) same in
    let shapes = same-shapes (levels_of a) (levels_of b) _ _ count (ap (drop 2) same) in
    let seeds = same-fronts a.top.seed b.top.seed _ _ (is.storable.is_key.seed_length ∙ sym is_other.storable.is_key.seed_length) shapes.1 in
    let ids = same-fronts a.top.id b.top.id _ _ (is.storable.is_key.id_length ∙ sym is_other.storable.is_key.id_length) seeds.1 in
    same-keys a b shapes.0 seeds.0 ids.0

pub key-once : (one other : StoredKey) (image : List ℕ) → MeansKey one image → MeansKey other image → one.key ≡ other.key
key-once one other image means means_other =
    let same : value means.slot means.sequence means.payload ≡ value means_other.slot means_other.sequence means_other.payload =
    sym means.value_is ∙ means_other.value_is in
    let payload : means.payload ≡ means_other.payload = cc in
    key-of_payload one other means_other.payload (subst (IsStoredKey one) payload means.stored_is) means_other.stored_is

-- ---- images in which no gate is open

none-meant : (capacity : ℕ) (first second : Slot) → (first.gate ≡ open_gate → ⊥) → (second.gate ≡ open_gate → ⊥)
    → meaning_of capacity first second ≡ none
unfolding meaning_of
none-meant capacity first second a b = grind (arith, nat_tests)

pub no-key : (stored : StoredKey) (bytes : List ℕ) → NoneOpen key_place key_capacity (Some bytes) → MeansKey stored bytes → ⊥
unfolding meaning
no-key stored bytes free means =
    let nothing : meaning key_place key_capacity bytes ≡ none =
    none-meant key_capacity (slot_in key_place key_capacity 0 bytes) (slot_in key_place key_capacity 1 bytes) (free 0 (omega arith)) (free 1 (omega arith)) in
    let both : none ≡ value means.slot means.sequence means.payload = sym nothing ∙ means.value_is in
    absurd (cc)
