-- What it comes to that a message is signed with the next leaf number of the key on a disk.
use Rattle.std.specs.Prelude.{◌≡◌, ◌⊎◌, ◌+◌, ◌<◌, ◌≤◌, ℕ, Bool, false, List, Result, Ok, Err}
use Rattle.sz_cell.specs.Cell.{ReadMeans}
use Rattle.sz_cell.specs.Meaning.{none, damaged}
use Rattle.sz_commands.specs.Failure.{Failure, DiskFault, NotInitialised, Damaged, Exhausted, LastSequence, SizeRefused, OutOfMemory, blames_disk}
use Rattle.sz_disk.specs.Disk.{Seen, IsStill, IsSynced, LeavesOnly}
use Rattle.sz_hss.specs.Signature.{hss_public_of, hss_signature_of}
use Rattle.sz_lms.specs.Hss.{HssOk}
use Rattle.sz_signer.specs.Answer.{MeansOldOrAdvanced, ReadsBadKey, StandsForKey}
use Rattle.sz_signer.specs.KeyDisk.{HoldsKey, advanced, key_capacity, key_place, least_size}
use Rattle.sz_signer.specs.State.{HasLast, SignerState}

-- The leaf number and the signature, or a failure.
abbrev pub Answer : Type 0
Answer = Result (ℕ × List ℕ) Failure

module _ {D : Type 0} (seen : D → Seen) where
  -- The key was found: the disk reads what it read, and every image that a crash may leave means this signer's key.
  pub record IsFound (old found : D) (signer : SignerState) : Type 0 where
    pub synced : IsSynced (seen old) (seen found)
    pub stands : StandsForKey (seen found) signer

  -- Its next leaf number may be handed out: at any moment a crash leaves the key as it was, or with that number spent.
  pub record IsHandingOut (old new : D) (signer : SignerState) : Type 0 where
    pub found : D
    pub key : IsFound old found signer
    pub any_moment : LeavesOnly (seen found) (seen new) (MeansOldOrAdvanced 1 signer.stored)

  -- It is handed out: every image that a crash may leave means the key with its next leaf number behind it.
  pub record IsSpent (old new : D) (signer : SignerState) : Type 0 where
    pub handing : IsHandingOut old new signer
    pub means : HoldsKey (seen new) (advanced 1 signer.stored)

  -- what the disk reads means a damage, told by a slot and the length there, or by a byte's place and the byte
  abbrev pub ReadsDamage : D → ℕ → ℕ → Type 0
  ReadsDamage old place value =
      ((sequence : ℕ) × ReadMeans key_place key_capacity (seen old).reads (damaged place sequence value))
      ⊎ ReadsBadKey (seen old).reads place value

  -- The answers that may be given.
  abbrev pub MaySpend : List ℕ → D → D → Answer → Type 0
  MaySpend message old new (Ok signed) =
      (signer : SignerState) × IsSpent old new signer × (signed.0 ≡ signer.stored.next)
      × (signed.1 ≡ hss_signature_of signer.stored.key signed.0 message)
      × HssOk (hss_public_of signer.stored.key) message signed.1
  MaySpend message old new (Err OutOfMemory) =
      IsStill (seen old) (seen new) ⊎ ((signer : SignerState) × IsSpent old new signer)
  MaySpend message old new (Err DiskFault) =
      IsStill (seen old) (seen new) ⊎ ((signer : SignerState) × IsHandingOut old new signer)
  MaySpend message old new (Err NotInitialised) =
      ReadMeans key_place key_capacity (seen old).reads none × IsStill (seen old) (seen new)
  MaySpend message old new (Err (Damaged place value)) = ReadsDamage old place value × IsStill (seen old) (seen new)
  MaySpend message old new (Err (SizeRefused size)) = (size ≡ (seen old).size) × (size < least_size) × (new ≡ old)
  MaySpend message old new (Err (Exhausted next end)) =
      (signer : SignerState) × IsFound old new signer × (next ≡ signer.stored.next) × (end ≡ signer.stored.end)
      × (end < next + 1)
  MaySpend message old new (Err LastSequence) =
      (signer : SignerState) × (sequence : ℕ) × IsFound old new signer × HasLast signer.cell sequence
      × (signer.stored.next + 1 ≤ signer.stored.end)
  MaySpend message old new (Err other) = ⊥

-- the answer blames the disk
abbrev pub fails_at_disk : Answer → Bool
fails_at_disk (Err failure) = blames_disk failure
fails_at_disk (Ok signed) = false
