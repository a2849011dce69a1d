-- What each status of a run says of its words and of the counts of faults.
use Rattle.std.specs.Prelude.{◌≡◌, ◌⊎◌, ℕ, List, Some, None, IfSome}
use Rattle.sz_commands.specs.Disks.{disk_under}
use Rattle.sz_disk.specs.Disk.{Seen}
use Rattle.sz_spec.specs.Cause.{Rose}
use Rattle.sz_io.specs.Folder.{bytes_at}
use Rattle.sz_program.specs.Outside.{Outside}
use Rattle.sz_keys.specs.CheckRan.{Names, Paths}
use Rattle.sz_program.specs.Words.{Command, Check, Keygen, Sign, Init, Onboard, Show, Audit, IsNoCommand, IsOnboard, words_of}

-- the command reads a file at this path
abbrev pub ReadsAt : Command → List ℕ → Type 0
ReadsAt (Check paths) path = Names paths path
ReadsAt (Sign words) path = path ≡ words.file
ReadsAt (Init words) path = path ≡ words.identity
ReadsAt _ path = ⊥

-- the command uses the disk under this word
abbrev pub UsesUnder : Command → List ℕ → Type 0
UsesUnder (Keygen words) word = word ≡ words.key
UsesUnder (Sign words) word = word ≡ words.key
UsesUnder (Init words) word = word ≡ words.disk
UsesUnder (Onboard words) word = word ≡ words.disk
UsesUnder (Show disk) word = word ≡ disk
UsesUnder (Audit disk) word = word ≡ disk
UsesUnder (Check paths) word = ⊥

module _ {D : Type 0} where
  -- where the folder tells its files, there is none at a path at which the command reads one
  abbrev pub LacksFile : Command → Outside D → Type 0
  LacksFile command outside =
      (path : List ℕ) × ReadsAt command path × IfSome outside.folder.files (λ files. bytes_at files path ≡ None)

  -- there is no disk under a word under which the command uses one
  abbrev pub LacksDisk : Command → Outside D → Type 0
  LacksDisk command outside = (word : List ℕ) × UsesUnder command word × (disk_under outside.disks word ≡ None)

  -- the words are a command that lacks a file or a disk
  abbrev pub Lacks : List (List ℕ) → Outside D → Type 0
  Lacks words outside =
      (command : Command) × (words_of words ≡ Some command) × (LacksFile command outside ⊎ LacksDisk command outside)

-- the words are a command that looks for what isn't valid: a check or an audit
abbrev pub IsFinding : List (List ℕ) → Type 0
IsFinding words =
    ((paths : Paths) × (words_of words ≡ Some (Check paths))) ⊎ ((disk : List ℕ) × (words_of words ≡ Some (Audit disk)))

module _ {D : Type 0} (seen : D → Seen) where
  -- the count of a disk under some word rose
  abbrev pub DiskRose : Outside D → Outside D → Type 0
  DiskRose before after =
      (word : List ℕ) × (old : D) × (new : D) × (disk_under before.disks word ≡ Some old)
      × (disk_under after.disks word ≡ Some new) × Rose (seen old).faults (seen new).faults

  -- A status that blames an object comes only where that object's count rose, and a missing file or disk is one that
  -- the command names. `usage` comes only where the words are no command, a finding only of a check or an audit, and
  -- the restart and the want of a source only of an onboard.
  pub record HasCauses (words : List (List ℕ)) (before after : Outside D) (status : ℕ) : Type 0 where
    pub usage : status ≡ 2 → IsNoCommand words
    pub not_valid : status ≡ 3 → IsFinding words
    pub restart : status ≡ 10 → IsOnboard words
    pub no_source : status ≡ 20 → IsOnboard words
    pub disk : status ≡ 30 → DiskRose before after
    pub clock : status ≡ 31 → Rose before.clock.faults after.clock.faults
    pub output : status ≡ 32 → Rose before.out.faults after.out.faults
    pub file : status ≡ 33 → Rose before.folder.faults after.folder.faults ⊎ Lacks words before
    pub entropy : status ≡ 34 → Rose before.entropy.faults after.entropy.faults
    pub listener : status ≡ 35 → Rose before.listener.faults after.listener.faults
