-- Signers that stand on a disk.
use Rattle.std.specs.Prelude.{◌↔◌}
use Rattle.std.proofs.Common.{◌≡◌, ℕ, ◌+◌, ◌≤◌, List, length, Option, None, Some, Result, Ok, Err, ◌^◌, refl, sym, ap, ◌∙◌, subst, inl}
use Rattle.std.proofs.lemmas.Option.{same_Some}
use Rattle.sz_cell.specs.Cell.{Kept, IsReady, ReadMeans, WhereReadsTold, next_of}
use Rattle.sz_cell.specs.declared.fault.ClearFault.{ClearFault}
use Rattle.sz_cell.specs.declared.fault.ClearFault.TheVariants as clear
use Rattle.sz_cell.specs.Meaning.{value}
use Rattle.sz_cell.specs.Transition.{Replaced}
use Rattle.sz_disk.specs.Disk.{Seen, IsLawful, LeavesOnly}
use Rattle.sz_disk.proofs.Moments.{leaves-none, leaves-weaker}
use Rattle.sz_hss.specs.Stored.{IsStorable, spelled}
use Rattle.sz_hss.specs.StoredFault.{IsWrong, stored_tests}
use Rattle.sz_signer.specs.Answer.{AttachAnswers, MeansOldOrAdvanced, ReadsBadKey, StandsForKey}
use Rattle.sz_signer.specs.Fault.{IsReadFault, of_clear}
use Rattle.sz_signer.specs.KeyDisk.{HoldsKey, advanced, key_place, key_capacity}
use Rattle.sz_signer.specs.State.{HasLast, Holds, IsKeyCell, SignerState}
use Rattle.sz_signer.specs.declared.fault.SignFault.{SignFault}
use Rattle.sz_signer.specs.declared.fault.SignFault.TheVariants.{Failed, Exhausted, OutOfMemory, NotFormatted, Damaged, InUse, EntropyFault, CellExhausted, TooSmall, BadKey}
use Rattle.sz_signer.proofs.Keys.{HoldsKey-ready, IsStorable-advanced, MeansOldOrAdvanced-either}

-- a signer whose cell is ready with its stored key
pub Stands-ready : (disk : Seen) (signer : SignerState) (kept : Kept) (payload : List ℕ) → signer.cell ≡ Some kept
    → kept.at ≡ key_place → kept.capacity ≡ key_capacity → IsReady disk kept payload → payload ≡ spelled signer.stored
    → IsStorable signer.stored → StandsForKey disk signer
Stands-ready disk signer kept payload cell at capacity ready spelled_is storable =
    let ready_spelled = subst (IsReady disk kept) spelled_is ready in
    record {
      holds = record { kept = kept; cell_is = cell; ready = ready_spelled };
      means = HoldsKey-ready disk kept signer.stored at capacity storable ready_spelled;
    }

-- ---- leaf numbers handed out

-- every image means the key of a signer whose cell holds
pub HoldsKey-holds : (disk : Seen) (signer : SignerState) → IsStorable signer.stored → IsKeyCell signer.cell → Holds disk signer
    → HoldsKey disk signer.stored
HoldsKey-holds disk signer storable cell holds =
    let is = subst IsKeyCell holds.cell_is cell in
    HoldsKey-ready disk holds.kept signer.stored is.0 is.1 storable holds.ready

-- a reservation of which nothing was written
pub reserve-none : (disk : Seen) (n : ℕ) (signer : SignerState) → IsLawful disk → IsStorable signer.stored → IsKeyCell signer.cell
    → Holds disk signer → LeavesOnly disk disk (MeansOldOrAdvanced n signer.stored)
reserve-none disk n signer lawful storable cell holds =
    leaves-none disk (MeansOldOrAdvanced n signer.stored) lawful
    (λ image left. inl (HoldsKey-holds disk signer storable cell holds image left))

-- The signer's cell is replaced by that of the key with n more leaf numbers handed out.
pub record Replaces {T E : Type 0} (n : ℕ) (signer : SignerState) (kept : Kept) (payload : List ℕ) (old new : Seen)
    (result : Result T E) : Type 0 where
  pub cell_is : signer.cell ≡ Some kept
  pub key_cell : IsKeyCell signer.cell
  pub storable : IsStorable signer.stored
  pub fits : signer.stored.next + n ≤ signer.stored.end
  pub payload_is : payload ≡ spelled (advanced n signer.stored)
  pub replaced : (before : List ℕ) → IsReady old kept before
      → Replaced old new (record { kept = kept; size = length payload }) before payload result

replaced-ready : {T E : Type 0} (n : ℕ) (signer : SignerState) (kept : Kept) (payload : List ℕ) (old new : Seen) (result : Result T E)
    → Replaces n signer kept payload old new result → Holds old signer
    → Replaced old new (record { kept = kept; size = length payload }) (spelled signer.stored) payload result
replaced-ready n signer kept payload old new result by holds =
    let same : holds.kept ≡ kept = same_Some holds.kept kept (sym holds.cell_is ∙ by.cell_is) in
    by.replaced (spelled signer.stored) (subst (λ (k : Kept). IsReady old k (spelled signer.stored)) same holds.ready)

pub reserve-moments : {T E : Type 0} (n : ℕ) (signer : SignerState) (kept : Kept) (payload : List ℕ) (old new : Seen) (result : Result T E)
    → Replaces n signer kept payload old new result → Holds old signer → LeavesOnly old new (MeansOldOrAdvanced n signer.stored)
reserve-moments n signer kept payload old new result by holds =
    let cell = subst IsKeyCell by.cell_is by.key_cell in
    let run = replaced-ready n signer kept payload old new result by holds in
    leaves-weaker old new _ (MeansOldOrAdvanced n signer.stored)
    (λ image either. MeansOldOrAdvanced-either kept n signer.stored image cell.0 cell.1 by.storable by.fits (rw by.payload_is at either))
    run.any_moment

pub Stands-replaced : {T E : Type 0} (n : ℕ) (signer : SignerState) (kept next : Kept) (payload : List ℕ) (old new : Seen) (given : T)
    → Replaces {T = T} {E = E} n signer kept payload old new (Ok given) → Holds old signer
    → next ≡ next_of (record { kept = kept; size = length payload })
    → StandsForKey new (record { stored = advanced n signer.stored; cell = Some next })
Stands-replaced n signer kept next payload old new given by holds next_is =
    let cell = subst IsKeyCell by.cell_is by.key_cell in
    let run = replaced-ready n signer kept payload old new (Ok given) by holds in
    let ready = subst (λ (k : Kept). IsReady new k payload) (sym next_is) run.ok in
    Stands-ready new (record { stored = advanced n signer.stored; cell = Some next }) next payload refl
    (ap (λ (k : Kept). k.at) next_is ∙ cell.0) (ap (λ (k : Kept). k.capacity) next_is ∙ cell.1) ready by.payload_is
    (IsStorable-advanced n signer.stored by.storable by.fits)

-- the refusal is that one
last-named : (refusal : ClearFault) (sequence : ℕ) → of_clear refusal ≡ CellExhausted sequence → refusal ≡ clear.Exhausted sequence
last-named clear.Failed sequence is = cc
last-named (clear.Exhausted last) sequence is = cc

attach-cases : (old new : Seen) (fault : SignFault) → IsReadFault fault
    → ((place byte : ℕ) → fault ≡ BadKey place byte → ReadsBadKey old.reads place byte) → AttachAnswers old new (Err fault)
attach-cases old new Failed only bad = tt
attach-cases old new OutOfMemory only bad = tt
attach-cases old new (BadKey place byte) only bad = bad place byte refl
attach-cases old new (Exhausted next end) only bad = absurd only
attach-cases old new NotFormatted only bad = absurd only
attach-cases old new (Damaged slot sequence size) only bad = absurd only
attach-cases old new InUse only bad = absurd only
attach-cases old new EntropyFault only bad = absurd only
attach-cases old new (CellExhausted sequence) only bad = absurd only
attach-cases old new (TooSmall size) only bad = absurd only

-- a cell that had its last value
pub last-refused : {T U : Type 0} (result : Result T SignFault) (refusal : ClearFault) (cell : Option Kept) (kept : Kept) (sequence : ℕ)
    → result ≡ Err (of_clear refusal) → cell ≡ Some kept
    → (◌≡◌ {A = Result U ClearFault} (Err refusal) (Err (clear.Exhausted sequence))) ↔ ((sequence ≡ kept.sequence) × (kept.sequence + 1 ≡ 2 ^ 64))
    → (result ≡ Err (CellExhausted sequence)) ↔ HasLast cell sequence
last-refused result refusal cell kept sequence result_is cell_is exact = (
  λ is. subst (λ (c : Option Kept). HasLast c sequence) (sym cell_is) (exact.0 (ap Err (last-named refusal sequence (cc)))),
  λ last. let here = subst (λ (c : Option Kept). HasLast c sequence) cell_is last in
      let named : refusal ≡ clear.Exhausted sequence = cc (exact.1 here) in
      result_is ∙ ap (λ (f : ClearFault). Err (of_clear f)) named,
)

-- ---- a key found

-- what keeps a stored key from being read is what keeps it from being attached
pub AttachAnswers-read : (old new : Seen) (result : Result SignerState SignFault) (fault : SignFault) → result ≡ Err fault
    → IsReadFault fault → ((place byte : ℕ) → fault ≡ BadKey place byte → ReadsBadKey old.reads place byte)
    → AttachAnswers old new result
AttachAnswers-read old new result fault is only bad =
    subst (λ (r : Result SignerState SignFault). AttachAnswers old new r) (sym is) (attach-cases old new fault only bad)

pub ReadsBadKey-told : (reads : Option (List ℕ)) (slot sequence : ℕ) (payload : List ℕ) (place byte : ℕ)
    → ReadMeans key_place key_capacity reads (value slot sequence payload)
    → WhereReadsTold reads (IsWrong payload (stored_tests payload) place byte) → ReadsBadKey reads place byte
ReadsBadKey-told None slot sequence payload place byte means wrong = tt
ReadsBadKey-told (Some bytes) slot sequence payload place byte means wrong = record {
  slot = slot;
  sequence = sequence;
  payload = payload;
  value_is = means;
  wrong = wrong;
}
