-- What `sign FILE SIGNATURE @KEY` comes to, over the disks and the folder before and after.
use Rattle.std.specs.Prelude.{◌≡◌, ◌⊎◌, ◌<◌, ◌≤◌, ℕ, List, Option, Some, None, Result, Ok, Err, IfSome, length}
use Rattle.std.specs.Option.{option_map}
use Rattle.sz_commands.specs.Disks.{disk_under}
use Rattle.sz_commands.specs.Failure.{Failure, FileFault, NoFile, OutOfMemory, TooLarge, blames, blames_disk, blames_folder}
use Rattle.sz_commands.specs.Objects.{FolderSeen}
use Rattle.sz_disk.specs.Disk.{Seen}
use Rattle.sz_disk.specs.Disks.{with_disk}
use Rattle.sz_io.specs.Folder.{ChangesOnly, FileMap, bytes_at, with_file}
use Rattle.sz_keys.specs.LeafSpent.{IsSpent, MaySpend}
use Rattle.sz_signer.specs.State.{SignerState}
use Rattle.sz_spec.specs.Cause.{HasCause}

-- the words of a sign
pub record Words : Type 0 where
  pub file : List ℕ
  pub signature : List ℕ
  pub key : List ℕ

-- The leaf number, or a failure.
abbrev pub Answer : Type 0
Answer = Result ℕ Failure

-- the most bytes of a file that is signed: 16 MiB
abbrev pub most_bytes : ℕ
most_bytes = 16777216

-- where the folder tells its files, the message is the one at the path, and not too long
abbrev pub IsMessage : Option FileMap → List ℕ → List ℕ → Type 0
IsMessage told path message =
    IfSome told (λ files. (bytes_at files path ≡ Some message) × (length message ≤ most_bytes))

-- the failure says that the file at this path can't be signed
abbrev pub IsUnsigned : List ℕ → Option FileMap → Failure → Type 0
IsUnsigned path told (NoFile named) = (named ≡ path) × IfSome told (λ files. bytes_at files path ≡ None)
IsUnsigned path told (FileFault named) = named ≡ path
IsUnsigned path told (TooLarge size) =
    IfSome told (λ files. option_map length (bytes_at files path) ≡ Some size) × (most_bytes < size)
IsUnsigned path told OutOfMemory = Unit {0}
IsUnsigned path told other = ⊥

-- The answers that may be given, once the message is read and the disk is there. The file of the signature is changed
-- only where the leaf number is spent.
module _ {D : Type 0} (seen : D → Seen) (message path : List ℕ) (old new : D) where
  abbrev pub SpentWithoutFile : FolderSeen → FolderSeen → Type 0
  SpentWithoutFile before after =
      ((signer : SignerState) × IsSpent seen old new signer) × ChangesOnly path before.files after.files

  abbrev pub MaySign : FolderSeen → FolderSeen → Answer → Type 0
  MaySign before after (Ok leaf) =
      (signature : List ℕ) × MaySpend seen message old new (Ok (leaf, signature))
      × (after.files ≡ option_map (with_file path signature) before.files)
  MaySign before after (Err (FileFault named)) = (named ≡ path) × SpentWithoutFile before after
  MaySign before after (Err OutOfMemory) =
      (MaySpend seen message old new (Err OutOfMemory) × (after.files ≡ before.files)) ⊎ SpentWithoutFile before after
  MaySign before after (Err other) = MaySpend seen message old new (Err other) × (after.files ≡ before.files)

  -- A message was signed, or not, with this answer. It blames an object only where that one's count rose.
  pub record Signed (before after : FolderSeen) (answer : Answer) : Type 0 where
    pub may : MaySign before after answer
    pub disk : HasCause (seen old).faults (seen new).faults (blames blames_disk answer)
    pub folder : HasCause before.faults after.faults (blames blames_folder answer)

-- what a sign uses of the outside
pub record SignSeen (D : Type 0) : Type 0 where
  pub disks : List (List ℕ × D)
  pub folder : FolderSeen

module _ {D : Type 0} (seen : D → Seen) (words : Words) (before after : SignSeen D) where
  -- FILE can't be signed, and nothing was done
  pub record IsNoMessage (answer : Answer) : Type 0 where
    pub failure : Failure
    pub answer_is : answer ≡ Err failure
    pub unsigned : IsUnsigned words.file before.folder.files failure
    pub disks : after.disks ≡ before.disks
    pub files : after.folder.files ≡ before.folder.files
    pub cause : HasCause before.folder.faults after.folder.faults (blames_folder failure)

  -- FILE can, but there is no disk under the word, and nothing was done
  pub record IsNoDisk (answer : Answer) : Type 0 where
    pub message : List ℕ
    pub file : IsMessage before.folder.files words.file message
    pub none : disk_under before.disks words.key ≡ None
    pub answer_is : answer ≡ Err (NoFile words.key)
    pub disks : after.disks ≡ before.disks
    pub files : after.folder.files ≡ before.folder.files
    pub faults : after.folder.faults ≡ before.folder.faults

  -- there is one, and the message was signed with its key, or not; the others stay
  pub record IsRunOn (answer : Answer) : Type 0 where
    pub message : List ℕ
    pub file : IsMessage before.folder.files words.file message
    pub old : D
    pub new : D
    pub held : disk_under before.disks words.key ≡ Some old
    pub others : after.disks ≡ with_disk words.key before.disks new
    pub signed : Signed seen message words.signature old new before.folder after.folder answer

  -- A sign answered so: for FILE first, then for the disk's word, then by what was signed.
  abbrev pub SignRan : Answer → Type 0
  SignRan answer = IsNoMessage answer ⊎ (IsNoDisk answer ⊎ IsRunOn answer)

-- The next leaf number of the key on the disk under the word is spent: every image that a crash may leave has it behind
-- the key's next one.
abbrev pub HasSpent : {D : Type 0} → (D → Seen) → Words → SignSeen D → SignSeen D → Type 0
HasSpent {D} seen words before after =
    (old : D) × (new : D) × (signer : SignerState) × (disk_under before.disks words.key ≡ Some old)
    × (after.disks ≡ with_disk words.key before.disks new) × IsSpent seen old new signer
