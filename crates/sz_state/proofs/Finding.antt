-- What is found on a disk, and why nothing is.
use Rattle.std.proofs.Common.{◌≡◌, ℕ, List, length, Option, Some, None, Result, Ok, Err, inl, inr, refl, sym, ap, subst, ◌∙◌, arith}
use Rattle.sz_base.specs.Identity.{IsWhole}
use Rattle.sz_base.specs.declared.identity.Identity.{Identity}
use Rattle.sz_disk.specs.Disk.{Seen, IsLawful, IsSynced, IsQuiet}
use Rattle.sz_cell.specs.Cell.{IsReady, Kept, ReadMeans}
use Rattle.sz_cell.specs.Meaning.{Meaning, damaged, none, value, meaning}
use Rattle.sz_cell.specs.Transition.{Formatted, IsAttached, IsInUse}
use Rattle.sz_cell.specs.declared.fault.AttachFault.{AttachFault}
use Rattle.sz_cell.specs.declared.fault.AttachFault.TheVariants.{Failed as attach_fault, NotFormatted, Damaged as damaged_cell}
use Rattle.sz_cell.specs.declared.fault.FormatFault.{FormatFault}
use Rattle.sz_cell.specs.declared.fault.FormatFault.TheVariants.{Failed as format_fault, InUse as cell_in_use}
use Rattle.sz_record.specs.Fault.{IsBadAt}
use Rattle.sz_record.specs.Spelling.{new_version, record_bytes}
use Rattle.sz_record.specs.Stored.{HasWidths, IsStorable, IsStored}
use Rattle.sz_state.specs.Fault.{of_attach, of_format}
use Rattle.sz_state.specs.Held.{IsReadFault, IsRecordFault, ReadHas}
use Rattle.sz_state.specs.Layout.{HasLayout, IsLayout, capacity_of, cell_place, space_of}
use Rattle.sz_state.specs.Ran.{Found, IsInitialised, Made, RecordFound}
use Rattle.sz_state.specs.Stands.{HasBadRecord}
use Rattle.sz_state.specs.Step.{factory}
use Rattle.sz_state.specs.declared.areas.Layout.{Layout}
use Rattle.sz_state.specs.declared.fault.StateFault.{StateFault}
use Rattle.sz_state.specs.declared.fault.StateFault.TheVariants.{Failed, NotInitialised, Damaged, BadRecord, InUse, Exhausted, OutOfMemory, TooLarge}
use Rattle.sz_state.specs.declared.held.Held.{Held}
use Rattle.sz_state.proofs.Crash.{first_stored, ready-anew, ready-record}

-- the cell as the layout places it
pub read_placed : (size : ℕ) (layout : Layout) (reads : Option (List ℕ)) (m : Meaning) → IsLayout size layout
    → ReadMeans layout.cell.at layout.cell.capacity reads m → ReadMeans cell_place (capacity_of size) reads m
read_placed size layout reads m is means =
    let P : ℕ → Type 0 = λ at. ReadMeans at layout.cell.capacity reads m in
    let Q : ℕ → Type 0 = λ capacity. ReadMeans cell_place capacity reads m in
    subst Q is.capacity (subst P is.at means)

pub attach_refused : (old new : Seen) (layout : Layout) (fault : AttachFault) → IsLayout old.size layout
    → (fault ≡ NotFormatted → ReadMeans layout.cell.at layout.cell.capacity old.reads none)
    → ((slot sequence size : ℕ) → fault ≡ damaged_cell slot sequence size
    → ReadMeans layout.cell.at layout.cell.capacity old.reads (damaged slot sequence size))
    → Found old new (Err (of_attach fault))
attach_refused old new layout attach_fault is not_formatted damage = tt
attach_refused old new layout NotFormatted is not_formatted damage =
    read_placed old.size layout old.reads none is (not_formatted refl)
attach_refused old new layout (damaged_cell slot sequence size) is not_formatted damage =
    read_placed old.size layout old.reads (damaged slot sequence size) is (damage slot sequence size refl)

pub format_refused : (old new : Seen) (identity : Identity) (fault : FormatFault)
    → ((slot : ℕ) → fault ≡ cell_in_use slot → IsInUse cell_place (capacity_of old.size) slot old new)
    → Made old new identity (Err (of_format fault))
format_refused old new identity format_fault in_use = tt
format_refused old new identity (cell_in_use slot) in_use = in_use slot refl

-- the bytes that a disk reads have the record that is bad
bad_read : (disk : Seen) (size : ℕ) (reads : Option (List ℕ)) (kept : Kept) (payload : List ℕ) (place byte : ℕ)
    → IsLawful disk → disk.reads ≡ reads → disk.size ≡ size → kept.at ≡ cell_place → kept.capacity ≡ capacity_of size
    → IsReady disk kept payload → IsBadAt (space_of size) payload place byte
    → ReadHas reads (λ bytes. HasBadRecord bytes place byte)
bad_read disk size None kept payload place byte lawful is same at capacity ready bad = tt
bad_read disk size (Some bytes) kept payload place byte lawful is same at capacity ready bad =
    let left = lawful.reads_as_left bytes is in
    let sized : size ≡ length bytes =
    sym (lawful.sized disk.moment bytes ((lawful.now bytes).0 left) ∙ same) in
    let P : ℕ → Type 0 = λ s. meaning cell_place (capacity_of s) bytes ≡ value kept.slot kept.sequence payload in
    let Q : ℕ → Type 0 = λ s. IsBadAt (space_of s) payload place byte in
    let means : P size =
    ap (λ a. meaning a (capacity_of size) bytes) (sym at)
    ∙ ap (λ c. meaning kept.at c bytes) (sym capacity)
    ∙ ready.means bytes left in
    record {
      slot = kept.slot;
      sequence = kept.sequence;
      payload = payload;
      means = subst P sized means;
      bad = subst Q sized bad;
    }

module _ (old new : Seen) (kept : Kept) (lawful : IsLawful new) (same : new.size ≡ old.size)
    (reads : new.reads ≡ old.reads) (has : HasLayout old.size) (at : kept.at ≡ cell_place)
    (capacity : kept.capacity ≡ capacity_of old.size) where
  pub record_found : (result : Result Held StateFault) → RecordFound new (space_of old.size) kept result
      → Found old new result
  record_found (Ok held) (is, (payload, ready, stored)) =
      let P : ℕ → Type 0 = λ s. IsStored (space_of s) payload held.device in
      let Q : ℕ → Type 0 = λ s. HasLayout s in
      record {
        layout = subst Q (sym same) has;
        at = ap (λ (k : Kept). k.at) is ∙ at;
        capacity = ap (λ (k : Kept). k.capacity) is ∙ capacity ∙ ap (λ s. capacity_of s) (sym same);
        payload = payload;
        ready = subst (λ k. IsReady new k payload) (sym is) ready;
        stored = subst P (sym same) stored;
      }
  record_found (Err (BadRecord place byte)) (payload, ready, bad) =
      bad_read new old.size old.reads kept payload place byte lawful reads same at capacity ready bad
  record_found (Err Failed) found = tt
  record_found (Err OutOfMemory) found = tt
  record_found (Err NotInitialised) found = absurd found
  record_found (Err (Damaged slot sequence size)) found = absurd found
  record_found (Err (InUse slot)) found = absurd found
  record_found (Err (Exhausted sequence)) found = absurd found
  record_found (Err (TooLarge size)) found = absurd found

-- what the record of an attached cell tells
pub attach_found : (old mid new : Seen) (layout : Layout) (kept : Kept) (result : Result Held StateFault) → IsLawful new
    → HasLayout old.size → IsLayout old.size layout → IsAttached layout.cell.at layout.cell.capacity mid kept
    → IsSynced old mid → IsQuiet mid new
    → ((payload : List ℕ) → IsReady mid kept payload → RecordFound new layout.space kept result) → Found old new result
attach_found old mid new layout kept result lawful has is attached sync quiet found =
    let P : ℕ → Type 0 = λ space. RecordFound new space kept result in
    let same : new.size ≡ old.size = quiet.still.size ∙ sync.quiet.still.size in
    let reads : new.reads ≡ old.reads = quiet.reads ∙ sync.quiet.reads in
    record_found old new kept lawful same reads has (attached.at_is ∙ is.at) (attached.capacity_is ∙ is.capacity) result
    (subst P is.space (found attached.payload attached.ready))

-- the record of a device as it is made
pub factory_storable : (identity : Identity) → IsWhole identity → IsStorable new_version (factory identity)
factory_storable identity whole = record {
  identity = whole;
  running_name = omega (arith, whole.os_name);
  running_version = omega (arith, whole.os_version);
  image = tt;
  onboarded = tt;
}

-- a disk whose cell was made with it
pub made : (old new : Seen) (identity : Identity) (payload : List ℕ) → IsLawful new → new.size ≡ old.size
    → HasLayout old.size → IsWhole identity → HasWidths (factory identity)
    → payload ≡ record_bytes new_version (factory identity)
    → Formatted cell_place (capacity_of old.size) old new payload → IsInitialised new identity
made old new identity payload lawful same has whole widths first cell =
    let stored = first_stored (space_of old.size) identity payload first (factory_storable identity whole) widths in
    record {
      stands = ready-anew new old.size (factory identity) _ payload lawful same has refl refl cell.ready stored first
          (λ image left. tt);
      first = ready-record new old.size (factory identity) _ payload lawful same refl refl cell.ready stored;
      settled = cell.settled;
    }

-- the payload was not read
pub read_refused : (disk : Seen) (space : ℕ) (kept : Kept) (fault : StateFault) → IsReadFault fault
    → RecordFound disk space kept (Err fault)
read_refused disk space kept fault (inl is) =
    let P : StateFault → Type 0 = λ f. RecordFound disk space kept (Err f) in
    subst P (sym is) tt
read_refused disk space kept fault (inr is) =
    let P : StateFault → Type 0 = λ f. RecordFound disk space kept (Err f) in
    subst P (sym is) tt

-- the payload is no record
pub record_refused : (disk : Seen) (space : ℕ) (kept : Kept) (payload : List ℕ) (fault : StateFault)
    → IsReady disk kept payload → IsRecordFault space payload fault → RecordFound disk space kept (Err fault)
record_refused disk space kept payload fault ready (inl is) =
    let P : StateFault → Type 0 = λ f. RecordFound disk space kept (Err f) in
    subst P (sym is) tt
record_refused disk space kept payload fault ready (inr (place, byte, is, bad)) =
    let P : StateFault → Type 0 = λ f. RecordFound disk space kept (Err f) in
    subst P (sym is) (payload, ready, bad)
