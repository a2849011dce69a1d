-- What `init IDENTITY @DISK` comes to, over the disks and the folder before and after.
use Rattle.std.specs.Prelude.{◌≡◌, ◌⊎◌, ℕ, List, None, Err}
use Rattle.sz_base.specs.declared.identity.Identity.{Identity}
use Rattle.sz_commands.specs.Disks.{ChangesDisk, disk_under}
use Rattle.sz_commands.specs.Failure.{Failure, NoFile, blames_folder}
use Rattle.sz_commands.specs.Objects.{FolderSeen}
use Rattle.sz_disk.specs.Disk.{Seen}
use Rattle.sz_device.specs.DeviceMade.{Answer, DeviceMade}
use Rattle.sz_device.specs.IdentityFile.{IsIdentityAt, IsNoIdentity}
use Rattle.sz_spec.specs.Cause.{HasCause}

-- the words of an init
pub record Words : Type 0 where
  pub identity : List ℕ
  pub disk : List ℕ

-- what an init uses of the outside
pub record InitSeen (D : Type 0) : Type 0 where
  pub disks : List (List ℕ × D)
  pub folder : FolderSeen

module _ {D : Type 0} (seen : D → Seen) (words : Words) (before after : InitSeen D) where
  -- IDENTITY gives no identity, and nothing was done
  pub record IsUnread (answer : Answer) : Type 0 where
    pub failure : Failure
    pub answer_is : answer ≡ Err failure
    pub why : IsNoIdentity words.identity before.folder.files failure
    pub disks : after.disks ≡ before.disks
    pub files : after.folder.files ≡ before.folder.files
    pub cause : HasCause before.folder.faults after.folder.faults (blames_folder failure)

  -- it gives one, but there is no disk under the word, and nothing was done
  pub record IsNoDisk (answer : Answer) : Type 0 where
    pub identity : Identity
    pub file : IsIdentityAt before.folder.files words.identity identity
    pub none : disk_under before.disks words.disk ≡ None
    pub answer_is : answer ≡ Err (NoFile words.disk)
    pub nothing : after ≡ before

  -- there is one, and it was made to stand for a device of that identity, or not; all else stays
  pub record IsRunOn (answer : Answer) : Type 0 where
    pub identity : Identity
    pub file : IsIdentityAt before.folder.files words.identity identity
    pub old : D
    pub new : D
    pub on : ChangesDisk words.disk before.disks after.disks old new
    pub made : DeviceMade seen identity old new answer
    pub folder : after.folder ≡ before.folder

  -- An init answered so: for IDENTITY first, then for the disk's word, then by what was made.
  abbrev pub InitRan : Answer → Type 0
  InitRan answer = IsUnread answer ⊎ (IsNoDisk answer ⊎ IsRunOn answer)
