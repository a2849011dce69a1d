-- What it comes to that a key is made on a disk and its public key written to a file.
use Rattle.std.specs.Prelude.{◌≡◌, ◌⊎◌, ◌<◌, ◌≤◌, ℕ, List, Result, Ok, Err}
use Rattle.std.specs.Option.{option_map}
use Rattle.sz_cell.specs.Cell.{NoneOpen}
use Rattle.sz_cell.specs.Transition.{IsInUse}
use Rattle.sz_commands.specs.Failure.{Failure, FileFault, DiskFault, EntropyFault, SizeRefused, InUse, OutOfMemory}
use Rattle.sz_commands.specs.Failure.{blames, blames_disk, blames_entropy, blames_folder}
use Rattle.sz_commands.specs.Objects.{EntropySeen, FolderSeen}
use Rattle.sz_disk.specs.Disk.{Seen}
use Rattle.sz_hss.specs.Key.{HssKey, Shape}
use Rattle.sz_hss.specs.Leaf.{leaf_count}
use Rattle.sz_hss.specs.Signature.{hss_public_of}
use Rattle.sz_io.specs.Folder.{ChangesOnly, with_file}
use Rattle.sz_signer.specs.Answer.{IsDrawn, LeavesOldOrNew, new_stored}
use Rattle.sz_signer.specs.KeyDisk.{HoldsKey, key_capacity, key_place, least_size}
use Rattle.sz_spec.specs.Cause.{HasCause}

-- The end of the key's leaf numbers, or a failure.
abbrev pub Answer : Type 0
Answer = Result ℕ Failure

-- The folder and the source of random bytes, before or after.
pub record Beside : Type 0 where
  pub folder : FolderSeen
  pub entropy : EntropySeen

-- The key was drawn, of these levels and the 48 bytes that came next, for a disk that is large enough. A crash at any
-- moment leaves what means what it meant before, or the new key.
pub record IsBegun (shapes : List Shape) (key : HssKey) (old new : Seen) (before after : EntropySeen) : Type 0 where
  pub drawn : IsDrawn shapes before.bytes after.bytes key
  pub room : least_size ≤ old.size
  pub any_moment : LeavesOldOrNew key old new

-- The key stands on a disk that was free: every image that a crash may leave means it, with no leaf number handed out.
pub record IsStanding (shapes : List Shape) (key : HssKey) (old new : Seen) (before after : EntropySeen) : Type 0 where
  pub begun : IsBegun shapes key old new before after
  pub free : NoneOpen key_place key_capacity old.reads
  pub means : HoldsKey new (new_stored key)

module _ {D : Type 0} (seen : D → Seen) (shapes : List Shape) (public : List ℕ) (old new : D) where
  -- The key stands, and the file of its public key may hold anything.
  abbrev pub StandsWithoutFile : Beside → Beside → Type 0
  StandsWithoutFile before after =
      ((key : HssKey) × IsStanding shapes key (seen old) (seen new) before.entropy after.entropy)
      × ChangesOnly public before.folder.files after.folder.files

  -- The answers that may be given. Where the file of the public key can't be written the key stands nevertheless.
  abbrev pub MayMake : Beside → Beside → Answer → Type 0
  MayMake before after (Ok end) =
      (key : HssKey) × IsStanding shapes key (seen old) (seen new) before.entropy after.entropy × (end ≡ leaf_count key)
      × (after.folder.files ≡ option_map (with_file public (hss_public_of key)) before.folder.files)
  MayMake before after (Err (FileFault path)) = (path ≡ public) × StandsWithoutFile before after
  MayMake before after (Err OutOfMemory) =
      ((new ≡ old) × (after.folder ≡ before.folder)) ⊎ StandsWithoutFile before after
  MayMake before after (Err EntropyFault) =
      (new ≡ old) × (after.folder ≡ before.folder) × (after.entropy.bytes ≡ before.entropy.bytes)
  MayMake before after (Err (SizeRefused size)) =
      (size ≡ (seen old).size) × (size < least_size) × (new ≡ old) × (after.folder ≡ before.folder)
  MayMake before after (Err InUse) =
      ((slot : ℕ) × IsInUse key_place key_capacity slot (seen old) (seen new)) × (after.folder ≡ before.folder)
  MayMake before after (Err DiskFault) =
      ((key : HssKey) × IsBegun shapes key (seen old) (seen new) before.entropy after.entropy)
      × (after.folder ≡ before.folder)
  MayMake before after (Err other) = ⊥

  -- A key was made, or not, with this answer. It blames an object only where that one's count rose.
  pub record KeyMade (before after : Beside) (answer : Answer) : Type 0 where
    pub may : MayMake before after answer
    pub disk : HasCause (seen old).faults (seen new).faults (blames blames_disk answer)
    pub folder : HasCause before.folder.faults after.folder.faults (blames blames_folder answer)
    pub entropy : HasCause before.entropy.faults after.entropy.faults (blames blames_entropy answer)
