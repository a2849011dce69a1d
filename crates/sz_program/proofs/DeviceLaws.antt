-- What the statuses of the commands of a device say of what they came to.
use Rattle.std.proofs.Common.{◌≡◌, ◌≢◌, ◌⊎◌, ◌&&◌, ℕ, Bool, true, false, if◌then◌else◌, List, Option, Some, None, IfSome, Result, Ok, Err, IsTrue, refl, sym, ap, subst, inl, inr, arith}
use Rattle.sz_agent.specs.Boot.{TellsStep}
use Rattle.sz_agent.specs.Ending.{blames_disk as outcome_blames_disk}
use Rattle.sz_agent.specs.declared.report.Outcome.{Outcome}
use Rattle.sz_agent.specs.declared.report.Outcome.TheVariants as outcome
use Rattle.sz_commands.specs.Disks.{ChangesDisk, disk_under}
use Rattle.sz_commands.specs.Ending.{number_of}
use Rattle.sz_commands.specs.Failure.{Failure, Usage, NoFile, FileFault, DiskFault, ClockFault, EntropyFault, ListenerFault, NoSource, OutOfMemory}
use Rattle.sz_commands.specs.Failure.{blames_clock, blames_disk, blames_folder}
use Rattle.sz_commands.specs.Failure as failure
use Rattle.sz_commands.specs.declared.ending.Ending.TheVariants.{Done, NotValid}
use Rattle.sz_device.specs.AuditRan as audit
use Rattle.sz_device.specs.Booted as booted
use Rattle.sz_device.specs.DoneLine as done
use Rattle.sz_device.specs.IdentityFile.{IsNoIdentity}
use Rattle.sz_device.specs.InitRan as init
use Rattle.sz_device.specs.Looked as look
use Rattle.sz_device.specs.OnboardRan as onboard
use Rattle.sz_device.specs.OnboardText as report
use Rattle.sz_device.specs.Sources.{NamesNone}
use Rattle.sz_disk.specs.Disk.{Seen}
use Rattle.sz_io.specs.Folder.{FileMap, bytes_at}
use Rattle.sz_record.specs.declared.device.Device.{Device}
use Rattle.sz_spec.specs.Cause.{Rose, HasCause}
use Rattle.sz_program.proofs.KeyLaws.{under-after}

-- ---- which failure a status is

-- a failure that blames no clock, no random bytes, no listener, no source and no word
abbrev pub IsQuiet : Failure → Type 0
IsQuiet Usage = ⊥
IsQuiet ClockFault = ⊥
IsQuiet EntropyFault = ⊥
IsQuiet ListenerFault = ⊥
IsQuiet NoSource = ⊥
IsQuiet _ = Unit {0}

pub never-2 : (f : Failure) → IsQuiet f → failure.status_of f ≡ 2 → ⊥
never-2 Usage quiet is = quiet
never-2 _ quiet is = omega arith

pub never-3 : (f : Failure) → failure.status_of f ≡ 3 → ⊥
never-3 Usage is = omega arith
never-3 _ is = omega arith

pub never-10 : (f : Failure) → failure.status_of f ≡ 10 → ⊥
never-10 Usage is = omega arith
never-10 _ is = omega arith

pub never-20 : (f : Failure) → IsQuiet f → failure.status_of f ≡ 20 → ⊥
never-20 NoSource quiet is = quiet
never-20 _ quiet is = omega arith

pub never-31 : (f : Failure) → IsQuiet f → failure.status_of f ≡ 31 → ⊥
never-31 ClockFault quiet is = quiet
never-31 _ quiet is = omega arith

pub never-34 : (f : Failure) → IsQuiet f → failure.status_of f ≡ 34 → ⊥
never-34 EntropyFault quiet is = quiet
never-34 _ quiet is = omega arith

pub never-35 : (f : Failure) → IsQuiet f → failure.status_of f ≡ 35 → ⊥
never-35 ListenerFault quiet is = quiet
never-35 _ quiet is = omega arith

disk-only : (f : Failure) → failure.status_of f ≡ 30 → IsTrue (blames_disk f)
disk-only DiskFault is = refl
disk-only _ is = absurd (omega arith)

clock-only : (f : Failure) → failure.status_of f ≡ 31 → IsTrue (blames_clock f)
clock-only ClockFault is = refl
clock-only _ is = absurd (omega arith)

file-only : (f : Failure) → failure.status_of f ≡ 33 → IsTrue (blames_folder f) ⊎ ((path : List ℕ) × (f ≡ NoFile path))
file-only (FileFault path) is = inl refl
file-only (NoFile path) is = inr (path, refl)
file-only _ is = absurd (omega arith)

-- ---- an answer with this status is a failure

pub record FailsWith {T : Type 0} (answer : Result T Failure) (n : ℕ) : Type 0 where
  pub f : Failure
  pub answer_is : answer ≡ Err f
  pub status_is : failure.status_of f ≡ n

pub done-fails : {T : Type 0} (answer : Result T Failure) (n : ℕ) → done.status_of answer ≡ n → 0 ≢ n → FailsWith answer n
done-fails (Ok told) n is some = absurd (some is)
done-fails (Err f) n is some = record { f = f; answer_is = refl; status_is = is }

audit-ok : (b : Bool) (n : ℕ) → number_of (if b then Done else NotValid) ≡ n → 0 ≢ n → 3 ≢ n → ⊥
audit-ok true n is done invalid = done is
audit-ok false n is done invalid = invalid is

pub audit-fails : (answer : audit.Answer) (n : ℕ) → audit.status_of answer ≡ n → 0 ≢ n → 3 ≢ n → FailsWith answer n
audit-fails (Ok found) n is done invalid =
    absurd (audit-ok (audit.is_well found.image && audit.is_well found.configuration) n is done invalid)
audit-fails (Err f) n is done invalid = record { f = f; answer_is = refl; status_is = is }

-- a disk that was changed is one whose count may have risen
rose-under : {D : Type 0} (seen : D → Seen) (word : List ℕ) (before after : List (List ℕ × D)) (old new : D)
    → ChangesDisk word before after old new → Rose (seen old).faults (seen new).faults
    → (w : List ℕ) × (o : D) × (n : D) × (disk_under before w ≡ Some o) × (disk_under after w ≡ Some n)
    × Rose (seen o).faults (seen n).faults
rose-under seen word before after old new on rose =
    (word, old, new, on.held, under-after word before after old new on.held on.others, rose)

-- ---- show and audit

module _ {D T : Type 0} (seen : D → Seen) (tells : look.Tells T) (word : List ℕ) (before after : List (List ℕ × D)) where
  device-quiet : (disk : Seen) (f : Failure) → look.IsNoDevice disk f → IsQuiet f
  device-quiet disk Usage why = why
  device-quiet disk ClockFault why = why
  device-quiet disk EntropyFault why = why
  device-quiet disk ListenerFault why = why
  device-quiet disk NoSource why = why
  device-quiet disk _ why = tt

  device-file : (disk : Seen) (f : Failure) → look.IsNoDevice disk f → failure.status_of f ≡ 33 → ⊥
  device-file disk (NoFile path) why is = why
  device-file disk (FileFault path) why is = why
  device-file disk _ why is = omega arith

  -- what `look.LooksUnder` says of a failure
  pub looked-quiet : (f : Failure) → look.LooksUnder seen tells word before after (Err f) → IsQuiet f
  looked-quiet f (inl none) = let same : f ≡ NoFile word = cc none.answer_is in subst IsQuiet (sym same) tt
  looked-quiet f (inr it) = device-quiet (seen it.old) f it.looks.may

  pub looked-disk : (f : Failure) → look.LooksUnder seen tells word before after (Err f) → failure.status_of f ≡ 30
      → (w : List ℕ) × (o : D) × (n : D) × (disk_under before w ≡ Some o) × (disk_under after w ≡ Some n)
      × Rose (seen o).faults (seen n).faults
  looked-disk f (inl none) is =
      let same : f ≡ NoFile word = cc none.answer_is in
      let e : 33 ≡ 30 = subst (λ (x : Failure). failure.status_of x ≡ 30) same is in absurd (omega (arith, e))
  looked-disk f (inr it) is = rose-under seen word before after it.old it.new it.on (it.looks.cause.rose (disk-only f is))

  pub looked-file : (f : Failure) → look.LooksUnder seen tells word before after (Err f) → failure.status_of f ≡ 33
      → disk_under before word ≡ None
  looked-file f (inl none) is = none.none
  looked-file f (inr it) is = absurd (device-file (seen it.old) f it.looks.may is)

-- ---- init

identity-quiet : (path : List ℕ) (told : Option FileMap) (f : Failure) → IsNoIdentity path told f → IsQuiet f
identity-quiet path told Usage why = why
identity-quiet path told ClockFault why = why
identity-quiet path told EntropyFault why = why
identity-quiet path told ListenerFault why = why
identity-quiet path told NoSource why = why
identity-quiet path told _ why = tt

identity-disk : (path : List ℕ) (told : Option FileMap) (f : Failure) → IsNoIdentity path told f → failure.status_of f ≡ 30 → ⊥
identity-disk path told DiskFault why is = why
identity-disk path told _ why is = omega arith

identity-file : (path : List ℕ) (told : Option FileMap) (f : Failure) (before now : ℕ) → IsNoIdentity path told f
    → HasCause before now (blames_folder f) → failure.status_of f ≡ 33
    → Rose before now ⊎ IfSome told (λ files. bytes_at files path ≡ None)
identity-file path told (NoFile named) before now why cause is = inr why.1
identity-file path told (FileFault named) before now why cause is = inl (cause.rose refl)
identity-file path told _ before now why cause is = absurd (omega arith)

module _ {D : Type 0} (seen : D → Seen) (words : init.Words) (before after : init.InitSeen D) where
  pub init-quiet : (f : Failure) → init.InitRan seen words before after (Err f) → IsQuiet f
  init-quiet f (inl unread) =
      let same : f ≡ unread.failure = cc unread.answer_is in
      subst IsQuiet (sym same) (identity-quiet words.identity before.folder.files unread.failure unread.why)
  init-quiet f (inr (inl none)) = let same : f ≡ NoFile words.disk = cc none.answer_is in subst IsQuiet (sym same) tt
  init-quiet Usage (inr (inr on)) = on.made.may
  init-quiet ClockFault (inr (inr on)) = on.made.may
  init-quiet EntropyFault (inr (inr on)) = on.made.may
  init-quiet ListenerFault (inr (inr on)) = on.made.may
  init-quiet NoSource (inr (inr on)) = on.made.may
  init-quiet _ (inr (inr on)) = tt

  pub init-disk : (f : Failure) → init.InitRan seen words before after (Err f) → failure.status_of f ≡ 30
      → (w : List ℕ) × (o : D) × (n : D) × (disk_under before.disks w ≡ Some o) × (disk_under after.disks w ≡ Some n)
      × Rose (seen o).faults (seen n).faults
  init-disk f (inl unread) is =
      let same : f ≡ unread.failure = cc unread.answer_is in
      absurd (identity-disk words.identity before.folder.files unread.failure unread.why
      (subst (λ (x : Failure). failure.status_of x ≡ 30) same is))
  init-disk f (inr (inl none)) is =
      let same : f ≡ NoFile words.disk = cc none.answer_is in
      let e : 33 ≡ 30 = subst (λ (x : Failure). failure.status_of x ≡ 30) same is in absurd (omega (arith, e))
  init-disk f (inr (inr on)) is =
      rose-under seen words.disk before.disks after.disks on.old on.new on.on (on.made.cause.rose (disk-only f is))

  pub init-file : (f : Failure) → init.InitRan seen words before after (Err f) → failure.status_of f ≡ 33
      → Rose before.folder.faults after.folder.faults
      ⊎ (IfSome before.folder.files (λ files. bytes_at files words.identity ≡ None) ⊎ (disk_under before.disks words.disk ≡ None))
  init-file f (inl unread) is =
      let same : f ≡ unread.failure = cc unread.answer_is in
      elim (identity-file words.identity before.folder.files unread.failure before.folder.faults after.folder.faults unread.why unread.cause
      (subst (λ (x : Failure). failure.status_of x ≡ 33) same is)) [ inl rose ↦ inl rose | inr absent ↦ inr (inl absent) ]
  init-file f (inr (inl none)) is = inr (inr none.none)
  init-file (NoFile path) (inr (inr on)) is = absurd on.made.may
  init-file (FileFault path) (inr (inr on)) is = absurd on.made.may
  init-file _ (inr (inr on)) is = absurd (omega arith)

-- ---- onboard

-- an outcome blames the disk where its status does, and has none of the others
outcome-disk : (ended : Outcome) → report.outcome_status ended ≡ 30 → IsTrue (outcome_blames_disk ended)
outcome-disk outcome.DiskFault is = refl
outcome-disk _ is = absurd (omega arith)

-- an onboard is no finding
outcome-3 : (ended : Outcome) → report.outcome_status ended ≡ 3 → ⊥
outcome-3 (outcome.AlreadyOnboarded d) is = omega arith
outcome-3 _ is = omega arith

pub onboard-3 : (answer : booted.Answer) → report.status_of answer ≡ 3 → ⊥
onboard-3 (Ok told) is = outcome-3 told.outcome is
onboard-3 (Err f) is = never-3 f is

abbrev IsOutcomeStatus : ℕ → Type 0
IsOutcomeStatus n = (n ≢ 2) × (n ≢ 31) × (n ≢ 33) × (n ≢ 34) × (n ≢ 35)

outcome-status : (ended : Outcome) (n : ℕ) → report.outcome_status ended ≡ n → IsOutcomeStatus n
outcome-status (outcome.AlreadyOnboarded d) n is = (λ e. omega arith, λ e. omega arith, λ e. omega arith, λ e. omega arith, λ e. omega arith)
outcome-status _ n is = (λ e. omega arith, λ e. omega arith, λ e. omega arith, λ e. omega arith, λ e. omega arith)

outcome-installed : (ended : Outcome) → report.outcome_status ended ≡ 10 → (d : Device) × (ended ≡ outcome.Installed d)
outcome-installed (outcome.Installed d) is = (d, refl)
outcome-installed _ is = absurd (omega arith)

outcome-sourceless : (ended : Outcome) → report.outcome_status ended ≡ 20 → ended ≡ outcome.NoSource
outcome-sourceless outcome.NoSource is = refl
outcome-sourceless _ is = absurd (omega arith)

module _ {D : Type 0} (seen : D → Seen) (words : onboard.Words) (before after : onboard.OnboardSeen D) where
  -- an answer that came before the boot has none of these statuses
  early : (answer : booted.Answer) (f : Failure) (n : ℕ) → answer ≡ Err f → report.status_of answer ≡ n → failure.status_of f ≡ n
  early answer f n answer_is is = subst (λ (a : booted.Answer). report.status_of a ≡ n) answer_is is

  pub onboard-installs : (answer : booted.Answer) → onboard.OnboardRan seen words before after answer → report.status_of answer ≡ 10
      → onboard.IsBootOf seen onboard.PutsInPlace words before after
  onboard-installs answer (inl none) is = absurd (never-10 Usage (early answer Usage 10 none.answer_is is))
  onboard-installs answer (inr (inl unread)) is = absurd (never-10 OutOfMemory (early answer OutOfMemory 10 unread.answer_is is))
  onboard-installs answer (inr (inr (inl none))) is =
      absurd (never-10 (NoFile words.disk) (early answer (NoFile words.disk) 10 none.answer_is is))
  onboard-installs (Ok told) (inr (inr (inr on))) is = (
    on.old,
    on.new,
    on.on,
    λ device sequence reads.
        let ok = on.booted.may.3.boot_ok device sequence reads in
        let installed = outcome-installed told.outcome is in (
          ok.changes,
          (subst (λ (o : Outcome). TellsStep sequence o ok.changes.boot) installed.1 ok.step).1,
          ok.one (ap outcome_blames_disk installed.1),
        ),
  )
  onboard-installs (Err f) (inr (inr (inr on))) is = absurd (never-10 f is)

  pub onboard-leaves : (answer : booted.Answer) → onboard.OnboardRan seen words before after answer → report.status_of answer ≡ 20
      → onboard.IsBootOf seen onboard.LeavesUncommitted words before after
  onboard-leaves answer (inl none) is = let e : 2 ≡ 20 = early answer Usage 20 none.answer_is is in absurd (omega (arith, e))
  onboard-leaves answer (inr (inl unread)) is = let e : 70 ≡ 20 = early answer OutOfMemory 20 unread.answer_is is in absurd (omega (arith, e))
  onboard-leaves answer (inr (inr (inl none))) is =
      let e : 33 ≡ 20 = early answer (NoFile words.disk) 20 none.answer_is is in absurd (omega (arith, e))
  onboard-leaves (Ok told) (inr (inr (inr on))) is = (
    on.old,
    on.new,
    on.on,
    λ device sequence reads.
        let ok = on.booted.may.3.boot_ok device sequence reads in
        let sourceless = outcome-sourceless told.outcome is in (
          ok.changes,
          subst (λ (o : Outcome). TellsStep sequence o ok.changes.boot) sourceless ok.step,
          ok.one (ap outcome_blames_disk sourceless),
        ),
  )
  onboard-leaves (Err NoSource) (inr (inr (inr on))) is = absurd on.booted.may
  onboard-leaves (Err _) (inr (inr (inr on))) is = absurd (omega arith)

  pub onboard-usage : (answer : booted.Answer) → onboard.OnboardRan seen words before after answer → report.status_of answer ≡ 2
      → NamesNone words.disk words.sources
  onboard-usage answer (inl none) is = none.none
  onboard-usage answer (inr (inl unread)) is =
      let e : 70 ≡ 2 = subst (λ (a : booted.Answer). report.status_of a ≡ 2) unread.answer_is is in absurd (omega (arith, e))
  onboard-usage answer (inr (inr (inl none))) is =
      let e : 33 ≡ 2 = subst (λ (a : booted.Answer). report.status_of a ≡ 2) none.answer_is is in absurd (omega (arith, e))
  onboard-usage (Ok told) (inr (inr (inr on))) is = absurd ((outcome-status told.outcome 2 is).0 refl)
  onboard-usage (Err Usage) (inr (inr (inr on))) is = absurd on.booted.may
  onboard-usage (Err _) (inr (inr (inr on))) is = absurd (omega arith)

  pub onboard-disk : (answer : booted.Answer) → onboard.OnboardRan seen words before after answer → report.status_of answer ≡ 30
      → (w : List ℕ) × (o : D) × (n : D) × (disk_under before.disks w ≡ Some o) × (disk_under after.disks w ≡ Some n)
      × Rose (seen o).faults (seen n).faults
  onboard-disk answer (inl none) is =
      let e : 2 ≡ 30 = subst (λ (a : booted.Answer). report.status_of a ≡ 30) none.answer_is is in absurd (omega (arith, e))
  onboard-disk answer (inr (inl unread)) is =
      let e : 70 ≡ 30 = subst (λ (a : booted.Answer). report.status_of a ≡ 30) unread.answer_is is in absurd (omega (arith, e))
  onboard-disk answer (inr (inr (inl none))) is =
      let e : 33 ≡ 30 = subst (λ (a : booted.Answer). report.status_of a ≡ 30) none.answer_is is in absurd (omega (arith, e))
  onboard-disk (Ok told) (inr (inr (inr on))) is =
      rose-under seen words.disk before.disks after.disks on.old on.new on.on (on.booted.disk.rose (outcome-disk told.outcome is))
  onboard-disk (Err f) (inr (inr (inr on))) is =
      rose-under seen words.disk before.disks after.disks on.old on.new on.on (on.booted.disk.rose (disk-only f is))

  pub onboard-clock : (answer : booted.Answer) → onboard.OnboardRan seen words before after answer → report.status_of answer ≡ 31
      → Rose before.beside.clock.faults after.beside.clock.faults
  onboard-clock answer (inl none) is =
      let e : 2 ≡ 31 = subst (λ (a : booted.Answer). report.status_of a ≡ 31) none.answer_is is in absurd (omega (arith, e))
  onboard-clock answer (inr (inl unread)) is =
      let e : 70 ≡ 31 = subst (λ (a : booted.Answer). report.status_of a ≡ 31) unread.answer_is is in absurd (omega (arith, e))
  onboard-clock answer (inr (inr (inl none))) is =
      let e : 33 ≡ 31 = subst (λ (a : booted.Answer). report.status_of a ≡ 31) none.answer_is is in absurd (omega (arith, e))
  onboard-clock (Ok told) (inr (inr (inr on))) is = absurd ((outcome-status told.outcome 31 is).1 refl)
  onboard-clock (Err f) (inr (inr (inr on))) is = on.booted.clock.rose (clock-only f is)

  pub onboard-file : (answer : booted.Answer) → onboard.OnboardRan seen words before after answer → report.status_of answer ≡ 33
      → disk_under before.disks words.disk ≡ None
  onboard-file answer (inl none) is =
      let e : 2 ≡ 33 = subst (λ (a : booted.Answer). report.status_of a ≡ 33) none.answer_is is in absurd (omega (arith, e))
  onboard-file answer (inr (inl unread)) is =
      let e : 70 ≡ 33 = subst (λ (a : booted.Answer). report.status_of a ≡ 33) unread.answer_is is in absurd (omega (arith, e))
  onboard-file answer (inr (inr (inl none))) is = none.none
  onboard-file (Ok told) (inr (inr (inr on))) is = absurd ((outcome-status told.outcome 33 is).2 refl)
  onboard-file (Err (NoFile path)) (inr (inr (inr on))) is = absurd on.booted.may
  onboard-file (Err (FileFault path)) (inr (inr (inr on))) is = absurd on.booted.may
  onboard-file (Err _) (inr (inr (inr on))) is = absurd (omega arith)

  pub onboard-entropy : (answer : booted.Answer) → onboard.OnboardRan seen words before after answer → report.status_of answer ≡ 34 → ⊥
  onboard-entropy answer (inl none) is =
      let e : 2 ≡ 34 = subst (λ (a : booted.Answer). report.status_of a ≡ 34) none.answer_is is in omega (arith, e)
  onboard-entropy answer (inr (inl unread)) is =
      let e : 70 ≡ 34 = subst (λ (a : booted.Answer). report.status_of a ≡ 34) unread.answer_is is in omega (arith, e)
  onboard-entropy answer (inr (inr (inl none))) is =
      let e : 33 ≡ 34 = subst (λ (a : booted.Answer). report.status_of a ≡ 34) none.answer_is is in omega (arith, e)
  onboard-entropy (Ok told) (inr (inr (inr on))) is = (outcome-status told.outcome 34 is).3 refl
  onboard-entropy (Err EntropyFault) (inr (inr (inr on))) is = on.booted.may
  onboard-entropy (Err _) (inr (inr (inr on))) is = omega arith

  pub onboard-listener : (answer : booted.Answer) → onboard.OnboardRan seen words before after answer → report.status_of answer ≡ 35 → ⊥
  onboard-listener answer (inl none) is =
      let e : 2 ≡ 35 = subst (λ (a : booted.Answer). report.status_of a ≡ 35) none.answer_is is in omega (arith, e)
  onboard-listener answer (inr (inl unread)) is =
      let e : 70 ≡ 35 = subst (λ (a : booted.Answer). report.status_of a ≡ 35) unread.answer_is is in omega (arith, e)
  onboard-listener answer (inr (inr (inl none))) is =
      let e : 33 ≡ 35 = subst (λ (a : booted.Answer). report.status_of a ≡ 35) none.answer_is is in omega (arith, e)
  onboard-listener (Ok told) (inr (inr (inr on))) is = (outcome-status told.outcome 35 is).4 refl
  onboard-listener (Err ListenerFault) (inr (inr (inr on))) is = on.booted.may
  onboard-listener (Err _) (inr (inr (inr on))) is = omega arith
