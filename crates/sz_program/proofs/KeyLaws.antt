-- What the statuses of a keygen and of a sign say of what they came to.
use Rattle.std.proofs.Common.{◌≡◌, ◌⊎◌, ℕ, Bool, true, false, List, [], ◌∷◌, Option, Some, None, IfSome, Result, Ok, Err, IsTrue, refl, sym, subst, inl, inr, arith, cond}
use Rattle.std.specs.List.{find}
use Rattle.std.specs.Option.{option_map}
use Rattle.sz_commands.specs.Failure.{Failure, Usage, NoFile, FileFault, DiskFault, ClockFault, EntropyFault, ListenerFault, NoSource, LevelsRefused, OutOfMemory}
use Rattle.sz_commands.specs.Disks.{disk_under}
use Rattle.sz_commands.specs.Failure.{blames, blames_disk, blames_entropy, blames_folder}
use Rattle.sz_commands.specs.Objects.{FolderSeen}
use Rattle.sz_hss.specs.Key.{Shape}
use Rattle.sz_keys.specs.LeafSpent.{IsSpent}
use Rattle.sz_signer.specs.State.{SignerState}
use Rattle.sz_disk.specs.Disk.{Seen}
use Rattle.sz_disk.specs.Disks.{has_name, with_disk}
use Rattle.sz_io.specs.Folder.{FileMap, bytes_at}
use Rattle.sz_keys.specs.KeyLine.{status_of}
use Rattle.sz_keys.specs.KeyMade.{Beside, MayMake}
use Rattle.sz_keys.specs.KeygenRan as keygen
use Rattle.sz_keys.specs.KeygenRan.{KeygenRan, KeygenSeen}
use Rattle.sz_keys.specs.SignRan as sign
use Rattle.sz_keys.specs.SignRan.{HasSpent, IsUnsigned, MaySign, SignRan, SignSeen}
use Rattle.sz_spec.specs.Cause.{Rose, HasCause}

abbrev Answer : Type 0
Answer = Result ℕ Failure

-- ---- which failure a status is

disk-blamed : (answer : Answer) → status_of answer ≡ 30 → IsTrue (blames blames_disk answer)
disk-blamed (Ok n) is = absurd (omega arith)
disk-blamed (Err DiskFault) is = refl
disk-blamed (Err _) is = absurd (omega arith)

entropy-only : (answer : Answer) → status_of answer ≡ 34 → answer ≡ Err EntropyFault
entropy-only (Ok n) is = absurd (omega arith)
entropy-only (Err EntropyFault) is = refl
entropy-only (Err _) is = absurd (omega arith)

file-only : (answer : Answer) → status_of answer ≡ 33 → IsTrue (blames blames_folder answer) ⊎ ((path : List ℕ) × (answer ≡ Err (NoFile path)))
file-only (Ok n) is = absurd (omega arith)
file-only (Err (FileFault path)) is = inl refl
file-only (Err (NoFile path)) is = inr (path, refl)
file-only (Err _) is = absurd (omega arith)

-- what neither a keygen nor a sign answers
abbrev pub IsPossible : Answer → Type 0
IsPossible (Ok n) = Unit {0}
IsPossible (Err Usage) = ⊥
IsPossible (Err ClockFault) = ⊥
IsPossible (Err ListenerFault) = ⊥
IsPossible (Err NoSource) = ⊥
IsPossible (Err _) = Unit {0}

pub never-usage : (answer : Answer) → IsPossible answer → status_of answer ≡ 2 → ⊥
never-usage (Ok n) may is = omega arith
never-usage (Err Usage) may is = may
never-usage (Err _) may is = omega arith

pub never-clock : (answer : Answer) → IsPossible answer → status_of answer ≡ 31 → ⊥
never-clock (Ok n) may is = omega arith
never-clock (Err ClockFault) may is = may
never-clock (Err _) may is = omega arith

pub never-finding : (answer : Answer) → status_of answer ≡ 3 → ⊥
never-finding (Ok n) is = omega arith
never-finding (Err Usage) is = omega arith
never-finding (Err _) is = omega arith

pub never-restart : (answer : Answer) → status_of answer ≡ 10 → ⊥
never-restart (Ok n) is = omega arith
never-restart (Err Usage) is = omega arith
never-restart (Err _) is = omega arith

pub never-sourceless : (answer : Answer) → IsPossible answer → status_of answer ≡ 20 → ⊥
never-sourceless (Ok n) may is = omega arith
never-sourceless (Err NoSource) may is = may
never-sourceless (Err _) may is = omega arith

pub never-listener : (answer : Answer) → IsPossible answer → status_of answer ≡ 35 → ⊥
never-listener (Ok n) may is = omega arith
never-listener (Err ListenerFault) may is = may
never-listener (Err _) may is = omega arith

-- the status of a failure that is known
other-status : (answer : Answer) (failure : Failure) (n : ℕ) → answer ≡ Err failure → status_of answer ≡ n → status_of (Err failure) ≡ n
other-status answer failure n answer_is is = subst (λ (a : Answer). status_of a ≡ n) answer_is is

refused-levels : (answer : Answer) (word : List ℕ) (n : ℕ) → answer ≡ Err (LevelsRefused word) → status_of answer ≡ n → 60 ≡ n
refused-levels answer word n answer_is is = other-status answer (LevelsRefused word) n answer_is is

missing-disk : (answer : Answer) (word : List ℕ) (n : ℕ) → answer ≡ Err (NoFile word) → status_of answer ≡ n → 33 ≡ n
missing-disk answer word n answer_is is = other-status answer (NoFile word) n answer_is is

-- ---- the disk under a word

under-step : {X : Type 0} (name : List ℕ) (entry : List ℕ × X) (entries : List (List ℕ × X)) (old new : X) (b : Bool) → has_name name entry ≡ b
    → (disk_under entries name ≡ Some old → disk_under (with_disk name entries new) name ≡ Some new)
    → option_map (λ e. e.1) (cond b (Some entry) (find (has_name name) entries)) ≡ Some old
    → disk_under (cond b ((entry.0, new) ∷ entries) (entry ∷ with_disk name entries new)) name ≡ Some new
under-step name entry entries old new true is more held = rw is refl
under-step name entry entries old new false is more held = rw is (more held)

under-with : {X : Type 0} (name : List ℕ) (disks : List (List ℕ × X)) (old new : X) → disk_under disks name ≡ Some old
    → disk_under (with_disk name disks new) name ≡ Some new
under-with name [] old new held = cc held
under-with name (entry ∷ disks) old new held =
    under-step name entry disks old new (has_name name entry) refl (under-with name disks old new) held

pub under-after : {X : Type 0} (name : List ℕ) (before after : List (List ℕ × X)) (old new : X) → disk_under before name ≡ Some old
    → after ≡ with_disk name before new → disk_under after name ≡ Some new
under-after {X} name before after old new held others =
    subst (λ (disks : List (List ℕ × X)). disk_under disks name ≡ Some new) (sym others) (under-with name before old new held)

-- ---- a keygen

made-possible : {D : Type 0} (seen : D → Seen) (shapes : List Shape) (public : List ℕ) (old new : D) (before after : Beside) (answer : Answer)
    → MayMake seen shapes public old new before after answer → IsPossible answer
made-possible seen shapes public old new before after (Ok n) may = tt
made-possible seen shapes public old new before after (Err Usage) may = may
made-possible seen shapes public old new before after (Err ClockFault) may = may
made-possible seen shapes public old new before after (Err ListenerFault) may = may
made-possible seen shapes public old new before after (Err NoSource) may = may
made-possible seen shapes public old new before after (Err _) may = tt

module _ {D : Type 0} (seen : D → Seen) (words : keygen.Words) (before after : KeygenSeen D) (answer : Answer) where
  pub keygen-possible : KeygenRan seen words before after answer → IsPossible answer
  keygen-possible (inl none) = subst IsPossible (sym none.answer_is) tt
  keygen-possible (inr (inl none)) = subst IsPossible (sym none.answer_is) tt
  keygen-possible (inr (inr on)) = made-possible seen on.shapes words.public on.old on.new before.beside after.beside answer on.made.may

  pub keygen-disk : KeygenRan seen words before after answer → status_of answer ≡ 30
      → (word : List ℕ) × (old : D) × (new : D) × (disk_under before.disks word ≡ Some old) × (disk_under after.disks word ≡ Some new)
      × Rose (seen old).faults (seen new).faults
  keygen-disk (inl none) is =
      let e = refused-levels answer words.levels 30 none.answer_is is in absurd (omega arith)
  keygen-disk (inr (inl none)) is =
      let e = missing-disk answer words.key 30 none.answer_is is in absurd (omega arith)
  keygen-disk (inr (inr on)) is = (
    words.key,
    on.old,
    on.new,
    on.held,
    under-after words.key before.disks after.disks on.old on.new on.held on.others,
    on.made.disk.rose (disk-blamed answer is),
  )

  pub keygen-entropy : KeygenRan seen words before after answer → status_of answer ≡ 34
      → Rose before.beside.entropy.faults after.beside.entropy.faults
  keygen-entropy (inl none) is =
      let e = refused-levels answer words.levels 34 none.answer_is is in absurd (omega arith)
  keygen-entropy (inr (inl none)) is =
      let e = missing-disk answer words.key 34 none.answer_is is in absurd (omega arith)
  keygen-entropy (inr (inr on)) is = on.made.entropy.rose (subst (λ (a : Answer). IsTrue (blames blames_entropy a)) (sym (entropy-only answer is)) refl)

  pub keygen-file : KeygenRan seen words before after answer → status_of answer ≡ 33
      → Rose before.beside.folder.faults after.beside.folder.faults ⊎ (disk_under before.disks words.key ≡ None)
  keygen-file (inl none) is =
      let e = refused-levels answer words.levels 33 none.answer_is is in absurd (omega arith)
  keygen-file (inr (inl none)) is = inr none.none
  keygen-file (inr (inr on)) is =
      elim (file-only answer is) [
        | inl blamed ↦ inl (on.made.folder.rose blamed)
        | inr missing ↦ absurd (subst (MayMake seen on.shapes words.public on.old on.new before.beside after.beside) missing.1 on.made.may)
      ]

-- ---- a sign

unsigned-possible : (path : List ℕ) (told : Option FileMap) (failure : Failure) → IsUnsigned path told failure → IsPossible (Err failure)
unsigned-possible path told Usage may = may
unsigned-possible path told ClockFault may = may
unsigned-possible path told ListenerFault may = may
unsigned-possible path told NoSource may = may
unsigned-possible path told _ may = tt

unsigned-disk : (path : List ℕ) (told : Option FileMap) (failure : Failure) → IsUnsigned path told failure → status_of (Err failure) ≡ 30 → ⊥
unsigned-disk path told DiskFault may is = may
unsigned-disk path told _ may is = omega arith

unsigned-entropy : (path : List ℕ) (told : Option FileMap) (failure : Failure) → IsUnsigned path told failure → status_of (Err failure) ≡ 34 → ⊥
unsigned-entropy path told EntropyFault may is = may
unsigned-entropy path told _ may is = omega arith

unsigned-file : (path : List ℕ) (told : Option FileMap) (failure : Failure) (before now : ℕ) → IsUnsigned path told failure
    → HasCause before now (blames_folder failure) → status_of (Err failure) ≡ 33
    → Rose before now ⊎ IfSome told (λ files. bytes_at files path ≡ None)
unsigned-file path told (NoFile named) before now may cause is = inr may.1
unsigned-file path told (FileFault named) before now may cause is = inl (cause.rose refl)
unsigned-file path told _ before now may cause is = absurd (omega arith)

signed-possible : {D : Type 0} (seen : D → Seen) (message path : List ℕ) (old new : D) (before after : FolderSeen) (answer : Answer)
    → MaySign seen message path old new before after answer → IsPossible answer
signed-possible seen message path old new before after (Ok n) may = tt
signed-possible seen message path old new before after (Err Usage) may = may.0
signed-possible seen message path old new before after (Err ClockFault) may = may.0
signed-possible seen message path old new before after (Err ListenerFault) may = may.0
signed-possible seen message path old new before after (Err NoSource) may = may.0
signed-possible seen message path old new before after (Err _) may = tt

-- the file of the signature is changed only where the leaf number is spent
signed-files : {D : Type 0} (seen : D → Seen) (message path : List ℕ) (old new : D) (before after : FolderSeen) (answer : Answer)
    → MaySign seen message path old new before after answer
    → (after.files ≡ before.files) ⊎ ((signer : SignerState) × IsSpent seen old new signer)
signed-files seen message path old new before after (Ok n) may = inr (may.1.0, may.1.1)
signed-files seen message path old new before after (Err (FileFault named)) may = inr may.1.0
signed-files seen message path old new before after (Err OutOfMemory) may = elim may [ inl quiet ↦ inl quiet.1 | inr spent ↦ inr spent.0 ]
signed-files seen message path old new before after (Err _) may = inl may.1

module _ {D : Type 0} (seen : D → Seen) (words : sign.Words) (before after : SignSeen D) (answer : Answer) where
  pub sign-possible : SignRan seen words before after answer → IsPossible answer
  sign-possible (inl m) = subst IsPossible (sym m.answer_is) (unsigned-possible words.file before.folder.files m.failure m.unsigned)
  sign-possible (inr (inl none)) = subst IsPossible (sym none.answer_is) tt
  sign-possible (inr (inr on)) = signed-possible seen on.message words.signature on.old on.new before.folder after.folder answer on.signed.may

  pub sign-disk : SignRan seen words before after answer → status_of answer ≡ 30
      → (word : List ℕ) × (old : D) × (new : D) × (disk_under before.disks word ≡ Some old) × (disk_under after.disks word ≡ Some new)
      × Rose (seen old).faults (seen new).faults
  sign-disk (inl m) is =
      absurd (unsigned-disk words.file before.folder.files m.failure m.unsigned (other-status answer m.failure 30 m.answer_is is))
  sign-disk (inr (inl none)) is =
      let e = missing-disk answer words.key 30 none.answer_is is in absurd (omega arith)
  sign-disk (inr (inr on)) is = (
    words.key,
    on.old,
    on.new,
    on.held,
    under-after words.key before.disks after.disks on.old on.new on.held on.others,
    on.signed.disk.rose (disk-blamed answer is),
  )

  pub sign-entropy : SignRan seen words before after answer → status_of answer ≡ 34 → ⊥
  sign-entropy (inl m) is = unsigned-entropy words.file before.folder.files m.failure m.unsigned (other-status answer m.failure 34 m.answer_is is)
  sign-entropy (inr (inl none)) is = let e = missing-disk answer words.key 34 none.answer_is is in absurd (omega arith)
  sign-entropy (inr (inr on)) is =
      (subst (MaySign seen on.message words.signature on.old on.new before.folder after.folder) (entropy-only answer is) on.signed.may).0

  pub sign-file : SignRan seen words before after answer → status_of answer ≡ 33
      → Rose before.folder.faults after.folder.faults
      ⊎ (IfSome before.folder.files (λ files. bytes_at files words.file ≡ None) ⊎ (disk_under before.disks words.key ≡ None))
  sign-file (inl m) is =
      elim (unsigned-file words.file before.folder.files m.failure before.folder.faults after.folder.faults m.unsigned m.cause
      (other-status answer m.failure 33 m.answer_is is)) [ inl rose ↦ inl rose | inr absent ↦ inr (inl absent) ]
  sign-file (inr (inl none)) is = inr (inr none.none)
  sign-file (inr (inr on)) is =
      elim (file-only answer is) [
        | inl blamed ↦ inl (on.signed.folder.rose blamed)
        | inr missing ↦ absurd ((subst (MaySign seen on.message words.signature on.old on.new before.folder after.folder) missing.1 on.signed.may).0)
      ]

  pub sign-files : SignRan seen words before after answer → (after.folder.files ≡ before.folder.files) ⊎ HasSpent seen words before after
  sign-files (inl m) = inl m.files
  sign-files (inr (inl none)) = inl none.files
  sign-files (inr (inr on)) =
      elim (signed-files seen on.message words.signature on.old on.new before.folder after.folder answer on.signed.may) [
        | inl same ↦ inl same
        | inr spent ↦ inr (on.old, on.new, spent.0, on.held, on.others, spent.1)
      ]
