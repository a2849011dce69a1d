-- Where the first wrong byte of a payload stands.
use Rattle.std.proofs.Common.{◌≡◌, ◌⊎◌, ◌≤◌, zero, suc, inl, inr, IfSome, append-nil, ℕ, ◌+◌, ◌-◌, ◌==◌, ◌<◌, Bool, if◌then◌else◌, List, [], ◌∷◌, ◌++◌, length, slice_index, Option, Some, None, refl, sym, ap, ◌∙◌, arith, length-append}
use Rattle.std.proofs.lemmas.Bool.{eq-eqb, ne_eqb}
use Rattle.std.specs.Int.{w8}
use Rattle.sz_record.specs.Fault.{IsFault}
use Rattle.sz_record.specs.Field.{number}
use Rattle.sz_record.specs.Reading.{IsFirstWrong, IsWrong, TakesField, TakesNumber}
use Rattle.sz_record.specs.Spelling.{device_bytes, new_version, old_version, record_bytes}
use Rattle.sz_record.specs.Stored.{device_field, first_wrong, HasWidths, IsStorable, IsStored, IsWithin, record_field, wrong_in}
use Rattle.sz_record.specs.declared.device.Device.{Device}
use Rattle.sz_record.specs.declared.fault.RecordFault.TheVariants.{BadRecord, OutOfMemory as record_memory}
use Rattle.sz_record.specs.declared.unread.Wrong.{Wrong}
use Rattle.sz_record.specs.declared.unread.Wrong.TheVariants.{At}
use Rattle.sz_record.proofs.Fields.{takes_number, wrong_after_number, wrong_number}

pub fault_at : (space : ℕ) (payload : List ℕ) (wrong : Wrong) (left place byte : ℕ) → wrong ≡ At left
    → place ≡ length payload - left → byte ≡ slice_index payload place → IsFirstWrong space payload wrong
    → IsFault space payload (BadRecord place byte)
fault_at space payload wrong left place byte is place_is byte_is first p v e =
    let f = first.at left is in
    let at : place ≡ p = cc e in
    let value : byte ≡ v = cc e in
    let found : f.place ≡ p = omega (arith, f.counted, place_is, at) in
    record {
      first = f.first ∙ ap (λ x. Some x) found;
      within = omega (arith, f.counted, found);
      byte = sym value ∙ byte_is ∙ ap (λ x. slice_index payload x) at;
    }

pub fault_memory : (space : ℕ) (payload : List ℕ) → IsFault space payload record_memory
fault_memory space payload p v e = absurd (cc e)

-- the field of the record is wrong
pub first_of_wrong : (space : ℕ) (payload : List ℕ) (wrong : Wrong) → IsWrong (record_field space) payload wrong
    → IsFirstWrong space payload wrong
unfolding first_wrong
first_of_wrong space payload wrong h = record {
  at = λ count is. let w = h.at count is in record {
    place = w.place;
    first = ap (λ r. wrong_in r payload) w.told;
    counted = w.counted;
  };
}

whole_told : (space : ℕ) (payload own new : List ℕ) → TakesField (record_field space) own payload new
    → first_wrong space payload ≡ (let r : Option ℕ = if length own == length payload then None else Some (length own) in r)
unfolding first_wrong
whole_told space payload own new took = ap (λ r. wrong_in r payload) took.told

-- bytes are left behind it
pub first_behind : (space : ℕ) (payload own new : List ℕ) (count : ℕ) → TakesField (record_field space) own payload new
    → length new ≡ count → 0 < count → IsFirstWrong space payload (At count)
first_behind space payload own new count took size some =
    let sized : length payload ≡ length own + length new =
    ap (λ (s : List ℕ). length s) took.joined ∙ length-append own new in
    let more : length own ≡ length payload → ⊥ = λ e. omega (arith, sized, size, some, e) in
    record {
      at = λ n is.
          let same : count ≡ n = cc is in
          record {
            place = length own;
            first = whole_told space payload own new took
                ∙ ap (λ (b : Bool). let r : Option ℕ = if b then None else Some (length own) in r)
                (ne_eqb (length own) (length payload) more);
            counted = omega (arith, sized, size, same);
          };
    }

-- none is
pub first_none : (space : ℕ) (payload own new : List ℕ) → TakesField (record_field space) own payload new → length new ≡ 0
    → first_wrong space payload ≡ None
first_none space payload own new took none =
    let sized : length own ≡ length payload =
    omega (arith, ap (λ (s : List ℕ). length s) took.joined, length-append own new, none) in
    whole_told space payload own new took
    ∙ ap (λ (b : Bool). let r : Option ℕ = if b then None else Some (length own) in r)
    (eq-eqb (length own) (length payload) sized)

empty : (s : List ℕ) → length s ≡ 0 → s ≡ []
empty [] is = refl
empty (x ∷ xs) is = absurd (omega arith)

-- a payload that was taken whole
pub stored_taken : (space version : ℕ) (payload mid new : List ℕ) (device : Device)
    → TakesNumber w8 old_version new_version (version ∷ []) version payload mid
    → TakesField (device_field space version) (device_bytes version device) mid new → length new ≡ 0
    → IsStorable version device → IfSome device.image (IsWithin space) → HasWidths device → IsStored space payload device
unfolding record_bytes
stored_taken space version payload mid new device one rest none storable within widths = record {
  version = version;
  known = known version one.above one.below;
  spelled =
      one.joined
      ∙ ap (λ s. version ∷ s) (rest.joined ∙ ap (λ s. device_bytes version device ++ s) (empty new none)
      ∙ append-nil (device_bytes version device));
  storable = storable;
  within = within;
  widths = widths;
}
  where
    known : (n : ℕ) → 1 ≤ n → n ≤ 2 → (n ≡ 1) ⊎ (n ≡ 2)
    known zero a b = absurd (omega arith)
    known (suc zero) a b = inl refl
    known (suc (suc zero)) a b = inr refl
    known (suc (suc (suc n))) a b = absurd (omega arith)

pub record_taken : (space version : ℕ) (payload mid new : List ℕ) (device : Device)
    → TakesNumber w8 old_version new_version (version ∷ []) version payload mid
    → TakesField (device_field space version) (device_bytes version device) mid new
    → TakesField (record_field space) (record_bytes version device) payload new
unfolding record_field record_bytes
record_taken space version payload mid new device one rest = takes_number (device_field space) one rest

pub version_wrong : (space : ℕ) (payload : List ℕ) (wrong : Wrong) → IsWrong (number w8 old_version new_version) payload wrong
    → IsFirstWrong space payload wrong
unfolding record_field
version_wrong space payload wrong h =
    first_of_wrong space payload wrong (wrong_number w8 old_version new_version (device_field space) h)

pub device_wrong : (space version : ℕ) (payload mid : List ℕ) (wrong : Wrong)
    → TakesNumber w8 old_version new_version (version ∷ []) version payload mid
    → IsWrong (device_field space version) mid wrong → IsFirstWrong space payload wrong
unfolding record_field
device_wrong space version payload mid wrong one h =
    first_of_wrong space payload wrong (wrong_after_number (device_field space) one h)
