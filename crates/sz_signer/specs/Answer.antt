-- What each answer of a signer's calls says.
use Rattle.std.specs.Prelude.{◌≡◌, ◌⊎◌, ℕ, List, ◌++◌, length, Option, Some, None, Result, Ok, Err}
use Rattle.sz_cell.specs.Cell.{NoneOpen, ReadMeans}
use Rattle.sz_cell.specs.Meaning.{none, damaged, value, meaning}
use Rattle.sz_cell.specs.Transition.{IsInUse, MeansAsBeforeOr}
use Rattle.sz_disk.specs.Disk.{Seen, LeavesOnly}
use Rattle.sz_hss.specs.Key.{Shape, HssKey, key_of}
use Rattle.sz_hss.specs.Leaf.{leaf_count}
use Rattle.sz_hss.specs.Stored.{StoredKey, spelled}
use Rattle.sz_hss.specs.StoredFault.{IsWrong, stored_tests}
use Rattle.sz_signer.specs.KeyDisk.{MeansKey, HoldsKey, advanced, key_place, key_capacity}
use Rattle.sz_signer.specs.Leaves.{Reserved}
use Rattle.sz_signer.specs.State.{SignerState, Holds, spent}
use Rattle.sz_signer.specs.declared.fault.SignFault.{SignFault}
use Rattle.sz_signer.specs.declared.fault.SignFault.TheVariants.{Failed, Exhausted, OutOfMemory, NotFormatted, Damaged, InUse, CellExhausted, TooSmall, BadKey}
use Rattle.sz_spec.specs.Told.{TakesFront}

-- a key of which no leaf number is handed out
abbrev pub new_stored : HssKey → StoredKey
new_stored key = record { key = key; next = 0; end = leaf_count key }

-- A signer that stands on the disk: every image that a crash now may leave means its key.
pub record StandsForKey (disk : Seen) (signer : SignerState) : Type 0 where
  pub holds : Holds disk signer
  pub means : HoldsKey disk signer.stored

-- ---- create

-- A new signer: the disk was free, the key is new, and it stands on the disk.
pub record IsNew (key : HssKey) (old new : Seen) (signer : SignerState) : Type 0 where
  pub free : NoneOpen key_place key_capacity old.reads
  pub stored : signer.stored ≡ new_stored key
  pub stands : StandsForKey new signer

-- What `create` answers, once the key is drawn.
abbrev pub CreateAnswers : HssKey → Seen → Seen → Result SignerState SignFault → Type 0
CreateAnswers key old new (Ok signer) = IsNew key old new signer
CreateAnswers key old new (Err Failed) = Unit {0}
CreateAnswers key old new (Err OutOfMemory) = Unit {0}
CreateAnswers key old new (Err InUse) = (slot : ℕ) × IsInUse key_place key_capacity slot old new
CreateAnswers key old new (Err (TooSmall size)) = size ≡ old.size
CreateAnswers key old new (Err _) = ⊥

-- at any moment a crash leaves what means what it meant before, or the new key
abbrev pub LeavesOldOrNew : HssKey → Seen → Seen → Type 0
LeavesOldOrNew key old new =
    LeavesOnly old new
    (MeansAsBeforeOr key_place key_capacity old.leaves (value 0 1 (spelled (new_stored key))))

-- What `create` does to a disk, once the key is drawn.
pub record Created (key : HssKey) (old new : Seen) (result : Result SignerState SignFault) : Type 0 where
  pub answer : CreateAnswers key old new result
  pub any_moment : LeavesOldOrNew key old new

-- The key is made of these levels and 48 bytes, which came next from the source: SEED, then I.
pub record IsDrawn (levels : List Shape) (before now : Option (List ℕ)) (key : HssKey) : Type 0 where
  pub seed : List ℕ
  pub id : List ℕ
  pub seed_length : length seed ≡ 32
  pub id_length : length id ≡ 16
  pub key_is : key ≡ key_of levels seed id
  pub taken : TakesFront before now (seed ++ id)

-- ---- attach

-- the cell has a value that is no stored key, with this first wrong byte
pub record HasBadKey (bytes : List ℕ) (place byte : ℕ) : Type 0 where
  pub slot : ℕ
  pub sequence : ℕ
  pub payload : List ℕ
  pub value_is : meaning key_place key_capacity bytes ≡ value slot sequence payload
  pub wrong : IsWrong payload (stored_tests payload) place byte

-- where the disk tells its bytes
abbrev pub ReadsBadKey : Option (List ℕ) → ℕ → ℕ → Type 0
ReadsBadKey None place byte = Unit {0}
ReadsBadKey (Some bytes) place byte = HasBadKey bytes place byte

-- What `attach` answers.
abbrev pub AttachAnswers : Seen → Seen → Result SignerState SignFault → Type 0
AttachAnswers old new (Ok signer) = StandsForKey new signer
AttachAnswers old new (Err Failed) = Unit {0}
AttachAnswers old new (Err OutOfMemory) = Unit {0}
AttachAnswers old new (Err NotFormatted) = ReadMeans key_place key_capacity old.reads none
AttachAnswers old new (Err (Damaged slot sequence size)) =
    ReadMeans key_place key_capacity old.reads (damaged slot sequence size)
AttachAnswers old new (Err (TooSmall size)) = size ≡ old.size
AttachAnswers old new (Err (BadKey place byte)) = ReadsBadKey old.reads place byte
AttachAnswers old new (Err _) = ⊥

-- ---- reserve

-- the leaf numbers that are handed out: n of them, from the next one on
abbrev pub handed_out : ℕ → SignerState → Reserved
handed_out n signer =
    record { key = signer.stored.key; first = signer.stored.next; left = n }

-- What `reserve` of n leaf numbers answers: they are handed out only once every image means the key with next behind
-- them. A signer that failed is spent: it keeps its key, its next leaf number and its end, and hands out no more.
abbrev pub ReserveAnswers : ℕ → Seen → SignerState → SignerState → Result Reserved SignFault → Type 0
ReserveAnswers n new before after (Ok leaves) =
    (leaves ≡ handed_out n before) × (after.stored ≡ advanced n before.stored) × StandsForKey new after
ReserveAnswers n new before after (Err Failed) = after ≡ spent before
ReserveAnswers n new before after (Err (CellExhausted sequence)) = after ≡ spent before
ReserveAnswers n new before after (Err (Exhausted next end)) =
    (after ≡ before) × (next ≡ before.stored.next) × (end ≡ before.stored.end)
ReserveAnswers n new before after (Err _) = ⊥

-- the image means the key as it was, or with n more leaf numbers handed out
abbrev pub MeansOldOrAdvanced : ℕ → StoredKey → List ℕ → Type 0
MeansOldOrAdvanced n stored image = MeansKey stored image ⊎ MeansKey (advanced n stored) image
