-- What follows from what a run came to.
use Rattle.std.proofs.Common.{◌≡◌, ◌≢◌, ◌==◌, ◌⊎◌, ℕ, true, List, Option, Some, None, IfSome, Ok, Err, refl, sym, subst, ◌∙◌, inl, inr, arith}
use Rattle.sz_spec.specs.Cause.{Rose, HasCause}
use Rattle.sz_spec.specs.Told.{Appends}
use Rattle.sz_io.specs.Folder.{FileMap, bytes_at}
use Rattle.std.specs.Option.{option_map_or}
use Rattle.sz_lms.specs.Rules.{Rule, hss_first}
use Rattle.sz_commands.specs.Failure.{Failure, Usage, NoFile, FileFault, OutOfMemory}
use Rattle.sz_commands.specs.Failure as failure
use Rattle.sz_commands.specs.Printed.{IsPrinted}
use Rattle.sz_keys.specs.CheckLine.{status_of, text_of}
use Rattle.sz_keys.specs.CheckRan.{Answer, IsSigned, MayAnswer, Names, Paths, answer_over, is_file_fault}
use Rattle.sz_disk.specs.Disk.{Seen}
use Rattle.sz_keys.specs.KeyLine as line
use Rattle.sz_keys.specs.SignRan as sign
use Rattle.sz_keys.specs.SignRan.{HasSpent}
use Rattle.sz_program.specs.Causes.{DiskRose, HasCauses, IsFinding, LacksDisk, LacksFile}
use Rattle.sz_program.specs.Outside.{Outside}
use Rattle.sz_device.specs.AuditRan as audit
use Rattle.sz_device.specs.DoneLine as done
use Rattle.sz_device.specs.OnboardRan as onboard
use Rattle.sz_audit.specs.Audit.{Audits}
use Rattle.sz_device.specs.InitRan as init
use Rattle.sz_device.specs.OnboardText as report
use Rattle.sz_device.specs.ShowRan as show
use Rattle.sz_device.specs.Sources.{NamesNone}
use Rattle.sz_program.specs.Ran.{AuditsDevice, EndsBy, Checks, Inits, Onboards, Says, ShowsDevice, Does, RunOk, init_part, keygen_part, onboard_part, sign_part}
use Rattle.sz_program.specs.Words.{Command, Check, Keygen, Sign, Init, Onboard, Show, Audit, IsNoCommand, words_of}
use Rattle.sz_program.proofs.DeviceLaws.{FailsWith, IsQuiet, audit-fails, done-fails, never-10, never-2, never-20, never-3, never-31, never-34, never-35}
use Rattle.sz_program.proofs.DeviceLaws.{init-disk, init-file, init-quiet, looked-disk, looked-file, looked-quiet}
use Rattle.sz_program.proofs.DeviceLaws.{onboard-3, onboard-clock, onboard-disk, onboard-entropy, onboard-file, onboard-installs, onboard-leaves, onboard-listener, onboard-usage}
use Rattle.sz_program.proofs.KeyLaws.{never-clock, never-finding, never-listener, never-restart, never-sourceless, never-usage}
use Rattle.sz_program.proofs.KeyLaws.{keygen-disk, keygen-entropy, keygen-file, keygen-possible}
use Rattle.sz_program.proofs.KeyLaws.{sign-disk, sign-entropy, sign-file, sign-files, sign-possible}

-- ---- what was printed

own_status : (own given : ℕ) (text : List ℕ) (before after : Option (List ℕ)) → IsPrinted own text given before after → given ≢ 32 → given ≢ 70
    → (given ≡ own) × Appends before after text
own_status own given text before after (inl printed) output room = printed
own_status own given text before after (inr refused) output room = elim refused.0 [ inl is ↦ absurd (output is) | inr is ↦ absurd (room is) ]

-- ---- the answer of a check, by its status

-- a failure's status is neither of these
not_done : (failed : Failure) → failure.status_of failed ≡ 0 → ⊥
not_done Usage is = omega arith
not_done _ is = omega arith

not_invalid : (failed : Failure) → failure.status_of failed ≡ 3 → ⊥
not_invalid Usage is = omega arith
not_invalid _ is = omega arith

signed_only : (paths : Paths) (told : Option FileMap) (answer : Answer) → MayAnswer paths told answer → status_of answer ≡ 0
    → IfSome told (λ files. IsSigned files paths)
signed_only paths None answer may is = tt
signed_only paths (Some files) (Ok None) may is = may.1
signed_only paths (Some files) (Ok (Some rule)) may is = absurd (omega arith)
signed_only paths (Some files) (Err failed) may is = absurd (not_done failed is)

unsigned_only : (paths : Paths) (told : Option FileMap) (answer : Answer) → MayAnswer paths told answer → status_of answer ≡ 3
    → IfSome told (λ files. ¬ (IsSigned files paths))
unsigned_only paths None answer may is = tt
unsigned_only paths (Some files) (Ok None) may is = absurd (omega arith)
unsigned_only paths (Some files) (Ok (Some rule)) may is = may.1
unsigned_only paths (Some files) (Err failed) may is = absurd (not_invalid failed is)

-- an answer that blames neither the folder nor memory is the one over the files
exact_only : (paths : Paths) (files : FileMap) (answer : Answer) → MayAnswer paths (Some files) answer →
    (is_file_fault answer ≡ true → ⊥) → status_of answer ≢ 70
    → answer_over files paths ≡ answer
exact_only paths files (Ok None) may whole room = may.0
exact_only paths files (Ok (Some rule)) may whole room = may.0
exact_only paths files (Err (NoFile path)) may whole room = may.1
exact_only paths files (Err (FileFault path)) may whole room = absurd (whole refl)
exact_only paths files (Err OutOfMemory) may whole room = absurd (room refl)
exact_only paths files (Err _) may whole room = absurd may

-- the statuses that a check comes to by itself
check_status : (paths : Paths) (told : Option FileMap) (answer : Answer) → MayAnswer paths told answer → (n : ℕ) → status_of answer ≡ n
    → (n ≡ 0) ⊎ ((n ≡ 3) ⊎ ((n ≡ 33) ⊎ (n ≡ 70)))
check_status paths told (Ok None) may n is = inl (sym is)
check_status paths told (Ok (Some rule)) may n is = inr (inl (sym is))
check_status paths told (Err (NoFile path)) may n is = inr (inr (inl (sym is)))
check_status paths told (Err (FileFault path)) may n is = inr (inr (inl (sym is)))
check_status paths told (Err OutOfMemory) may n is = inr (inr (inr (sym is)))
check_status paths told (Err _) may n is = absurd may

-- ---- a file that isn't there

missing : (a b c : Option (List ℕ)) (verdict : List ℕ → List ℕ → List ℕ → Answer) (p q r path : List ℕ)
    → ((x y z : List ℕ) → verdict x y z ≡ Err (NoFile path) → ⊥)
    → option_map_or (λ x. option_map_or (λ y. option_map_or (λ z. verdict x y z) c (Err (NoFile r))) b (Err (NoFile q))) a (Err (NoFile p)) ≡ Err (NoFile path)
    → (a ≡ None) ⊎ ((b ≡ None) ⊎ (c ≡ None))
missing None b c verdict p q r path ok is = inl refl
missing (Some x) None c verdict p q r path ok is = inr (inl refl)
missing (Some x) (Some y) None verdict p q r path ok is = inr (inr refl)
missing (Some x) (Some y) (Some z) verdict p q r path ok is = absurd (ok x y z is)

no_file : (rule : Option Rule) (path : List ℕ) (answer : Answer) → answer ≡ Ok rule → answer ≡ Err (NoFile path) → ⊥
no_file rule path answer is_ok is_err = cc

lacks : (files : FileMap) (paths : Paths) (path : List ℕ) → answer_over files paths ≡ Err (NoFile path) → (named : List ℕ) × Names paths named ×
    (bytes_at files named ≡ None)
lacks files paths path is =
    elim (missing (bytes_at files paths.public) (bytes_at files paths.file) (bytes_at files paths.signature)
    (λ x y z. Ok (hss_first x y z)) paths.public paths.file paths.signature path
    (λ x y z ok. no_file (hss_first x y z) path (Ok (hss_first x y z)) refl ok) is) [
      | inl none ↦ (paths.public, inl refl, none)
      | inr others ↦ elim others [ inl none ↦ (paths.file, inr (inl refl), none) | inr none ↦ (paths.signature, inr (inr refl), none) ]
    ]

absent : (paths : Paths) (told : Option FileMap) (path : List ℕ) → Names paths path → IfSome told (λ files. answer_over files paths ≡ Err (NoFile path))
    → (named : List ℕ) × Names paths named × IfSome told (λ files. bytes_at files named ≡ None)
absent paths None path named is = (path, named, tt)
absent paths (Some files) path named is = lacks files paths path is

-- a status that blames a file comes where the folder's count rose, or a file isn't there
blamed : (paths : Paths) (told : Option FileMap) (answer : Answer) (before now : ℕ) → MayAnswer paths told answer → HasCause before now (is_file_fault answer)
    → status_of answer ≡ 33 → Rose before now ⊎ ((named : List ℕ) × Names paths named × IfSome told (λ files. bytes_at files named ≡ None))
blamed paths told (Ok None) before now may cause is = absurd (omega arith)
blamed paths told (Ok (Some rule)) before now may cause is = absurd (omega arith)
blamed paths told (Err (NoFile path)) before now may cause is = inr (absent paths told path may.0 may.1)
blamed paths told (Err (FileFault path)) before now may cause is = inl (cause.rose refl)
blamed paths told (Err OutOfMemory) before now may cause is = absurd (omega arith)
blamed paths told (Err _) before now may cause is = absurd may

exact_told : (paths : Paths) (told : Option FileMap) (answer : Answer) (status : ℕ) (before after : Option (List ℕ)) → MayAnswer paths told answer
    → (is_file_fault answer ≡ true → ⊥) → status ≢ 70 → (status ≡ status_of answer) × Appends before after (text_of answer)
    → IfSome told (λ files. (status ≡ status_of (answer_over files paths)) × Appends before after (text_of (answer_over files paths)))
exact_told paths None answer status before after may whole room printed = tt
exact_told paths (Some files) answer status before after may whole room printed =
    let same : answer_over files paths ≡ answer = exact_only paths files answer may whole (λ seventy. room (printed.0 ∙ seventy)) in
    rw same printed

is_32 : (status : ℕ) → status ≡ 32 → (status == 32) ≡ true
is_32 status is = rw is refl

module _ {D : Type 0} (seen : D → Seen) (before after : Outside D) (status : ℕ) where
  -- the five ways in which a check ends
  check_ends : (paths : Paths) → Checks paths before after status
      → (status ≡ 0) ⊎ ((status ≡ 3) ⊎ ((status ≡ 70) ⊎ ((status ≡ 32)
      ⊎ ((status ≡ 33) × (Rose before.folder.faults after.folder.faults ⊎ LacksFile (Check paths) before)))))
  check_ends paths c =
      elim c.says.printed [
        | inl printed ↦ elim (check_status paths before.folder.files c.answer c.ran.may status (sym printed.0)) [
          | inl zero_is ↦ inl zero_is
          | inr others ↦ elim others [
            | inl three_is ↦ inr (inl three_is)
            | inr rest ↦ elim rest [
              | inl file_is ↦ inr (inr
                  (inr (inr (
                    file_is,
                    blamed paths before.folder.files c.answer before.folder.faults after.folder.faults c.ran.may c.ran.cause
                        (sym printed.0 ∙ file_is),
                  ))))
              | inr memory_is ↦ inr (inr (inl memory_is))
            ]
          ]
        ]
        | inr refused ↦ elim refused.0 [ inl output_is ↦ inr (inr (inr (inl output_is))) | inr memory_is ↦ inr (inr (inl memory_is)) ]
      ]

  -- the three ways in which a run ends that only prints a failure's line
  failure_ends : (failed : Failure) → EndsBy failed before after status → (status ≡ failure.status_of failed) ⊎ ((status ≡ 32) ⊎ (status ≡ 70))
  failure_ends failed e = elim e.says.printed [ inl printed ↦ inl printed.0 | inr refused ↦ inr refused.0 ]

  -- a status that no output gives is the work's own
  own_is : (own n : ℕ) (text : List ℕ) → Says own text before.out after.out status → status ≡ n → 32 ≢ n → 70 ≢ n → own ≡ n
  own_is own n text says is output memory =
      elim says.printed [
        | inl printed ↦ sym printed.0 ∙ is
        | inr refused ↦ elim refused.0 [ inl o ↦ absurd (output (sym o ∙ is)) | inr m ↦ absurd (memory (sym m ∙ is)) ]
      ]

  does_output : (command : Option Command) → Does seen command before after status → HasCause before.out.faults after.out.faults (status == 32)
  does_output None does = does.says.cause
  does_output (Some (Check paths)) does = does.says.cause
  does_output (Some (Keygen words)) does = does.says.cause
  does_output (Some (Sign words)) does = does.says.cause
  does_output (Some (Init words)) does = does.says.cause
  does_output (Some (Onboard words)) does = does.says.cause
  does_output (Some (Show disk)) does = does.says.cause
  does_output (Some (Audit disk)) does = does.says.cause

  pub run_output : (words : List (List ℕ)) → RunOk seen words before after status → HasCause before.out.faults after.out.faults (status == 32)
  run_output words (inl does) = does_output (words_of words) does
  run_output words (inr memory) = memory.says.cause

  does_unchanged : (command : Option Command) (paths : Paths) → Does seen command before after status → command ≡ Some (Check paths)
      → after.folder.files ≡ before.folder.files
  does_unchanged command paths does is = (subst (λ (c : Option Command). Does seen c before after status) is does).ran.unchanged

  pub run_unchanged : (words : List (List ℕ)) (paths : Paths) → RunOk seen words before after status → words_of words ≡ Some (Check paths)
      → after.folder.files ≡ before.folder.files
  run_unchanged words paths (inl does) is = does_unchanged (words_of words) paths does is
  run_unchanged words paths (inr memory) is = rw memory.folder refl

  -- a sign changes the files only where its leaf number is spent
  does_spend : (command : Option Command) (words : sign.Words) → Does seen command before after status → command ≡ Some (Sign words)
      → (after.folder.files ≡ before.folder.files) ⊎ HasSpent seen words (sign_part before) (sign_part after)
  does_spend command words does is =
      let s = subst (λ (c : Option Command). Does seen c before after status) is does in
      sign-files seen words (sign_part before) (sign_part after) s.answer s.ran

  pub run_spends : (words : List (List ℕ)) (own : sign.Words) → RunOk seen words before after status → words_of words ≡ Some (Sign own)
      → (after.folder.files ≡ before.folder.files) ⊎ HasSpent seen own (sign_part before) (sign_part after)
  run_spends words own (inl does) is = does_spend (words_of words) own does is
  run_spends words own (inr memory) is = inl (rw memory.folder refl)

  -- what 10 and 20 say of an onboard
  onboarded : (words : List (List ℕ)) (own : onboard.Words) (n : ℕ) → RunOk seen words before after status → words_of words ≡ Some (Onboard own)
      → status ≡ n → 32 ≢ n → 70 ≢ n → Onboards seen own before after status
  onboarded words own n (inl does) is status_is output memory = subst (λ (c : Option Command). Does seen c before after status) is does
  onboarded words own n (inr ended) is status_is output memory =
      elim (failure_ends OutOfMemory ended) [
        | inl o ↦ absurd (memory (sym o ∙ status_is))
        | inr other ↦ elim other [ inl o ↦ absurd (output (sym o ∙ status_is)) | inr r ↦ absurd (memory (sym r ∙ status_is)) ]
      ]

  pub run_installs : (words : List (List ℕ)) (own : onboard.Words) → RunOk seen words before after status → words_of words ≡ Some (Onboard own)
      → status ≡ 10 → onboard.IsBootOf seen onboard.PutsInPlace own (onboard_part before) (onboard_part after)
  run_installs words own ran is ten_is =
      let does = onboarded words own 10 ran is ten_is (λ x. omega arith) (λ x. omega arith) in
      onboard-installs seen own (onboard_part before) (onboard_part after) does.answer does.ran
      (own_is (report.status_of does.answer) 10 _ does.says ten_is (λ x. omega arith) (λ x. omega arith))

  pub run_leaves : (words : List (List ℕ)) (own : onboard.Words) → RunOk seen words before after status → words_of words ≡ Some (Onboard own)
      → status ≡ 20 → onboard.IsBootOf seen onboard.LeavesUncommitted own (onboard_part before) (onboard_part after)
  run_leaves words own ran is twenty_is =
      let does = onboarded words own 20 ran is twenty_is (λ x. omega arith) (λ x. omega arith) in
      onboard-leaves seen own (onboard_part before) (onboard_part after) does.answer does.ran
      (own_is (report.status_of does.answer) 20 _ does.says twenty_is (λ x. omega arith) (λ x. omega arith))

  checked : (words : List (List ℕ)) (paths : Paths) → RunOk seen words before after status → words_of words ≡ Some (Check paths) → status ≢ 70 → status ≢ 32
      → Checks paths before after status
  checked words paths (inl does) is room output = subst (λ (c : Option Command). Does seen c before after status) is does
  checked words paths (inr memory) is room output =
      elim (failure_ends OutOfMemory memory) [ inl own ↦ absurd (room own) | inr other ↦ elim other [ inl o ↦ absurd (output o) | inr r ↦ absurd (room r) ] ]

  own_of : (paths : Paths) (c : Checks paths before after status) → status ≢ 70 → status ≢ 32
      → (status ≡ status_of c.answer) × Appends before.out.written after.out.written (text_of c.answer)
  own_of paths c room output = own_status (status_of c.answer) status (text_of c.answer) before.out.written after.out.written c.says.printed output room

  pub signed : (words : List (List ℕ)) (paths : Paths) → RunOk seen words before after status → words_of words ≡ Some (Check paths) → status ≡ 0
      → IfSome before.folder.files (λ files. IsSigned files paths)
  signed words paths ran is zero_is =
      let c = checked words paths ran is (λ other. omega arith) (λ other. omega arith) in
      signed_only paths before.folder.files c.answer c.ran.may (sym (own_of paths c (λ other. omega arith) (λ other. omega arith)).0 ∙ zero_is)

  pub unsigned : (words : List (List ℕ)) (paths : Paths) → RunOk seen words before after status → words_of words ≡ Some (Check paths) → status ≡ 3
      → IfSome before.folder.files (λ files. ¬ (IsSigned files paths))
  unsigned words paths ran is three_is =
      let c = checked words paths ran is (λ other. omega arith) (λ other. omega arith) in
      unsigned_only paths before.folder.files c.answer c.ran.may (sym (own_of paths c (λ other. omega arith) (λ other. omega arith)).0 ∙ three_is)

  pub exact : (words : List (List ℕ)) (paths : Paths) → RunOk seen words before after status → words_of words ≡ Some (Check paths) → status ≢ 32 → status ≢ 70
      → ¬ (Rose before.folder.faults after.folder.faults) → IfSome before.folder.files (λ files.
      (status ≡ status_of (answer_over files paths)) × Appends before.out.written after.out.written (text_of (answer_over files paths)))
  exact words paths ran is output room stood =
      let c = checked words paths ran is room output in
      exact_told paths before.folder.files c.answer status before.out.written after.out.written c.ran.may (λ failed. stood (c.ran.cause.rose failed)) room
      (own_of paths c room output)

  -- ---- the failures of the commands of a device

  -- what a status that only a failure has says: the answer is that failure
  init_fails : (words : init.Words) (n : ℕ) (does : Inits seen words before after status) → status ≡ n → 0 ≢ n → 32 ≢ n → 70 ≢ n
      → FailsWith does.answer n
  init_fails words n does is some output memory =
      done-fails does.answer n (own_is (done.status_of does.answer) n _ does.says is output memory) some

  init_ran : (words : init.Words) (n : ℕ) (does : Inits seen words before after status) (fails : FailsWith does.answer n)
      → init.InitRan seen words (init_part before) (init_part after) (Err fails.f)
  init_ran words n does fails = subst (init.InitRan seen words (init_part before) (init_part after)) fails.answer_is does.ran

  show_fails : (disk : List ℕ) (n : ℕ) (does : ShowsDevice seen disk before after status) → status ≡ n → 0 ≢ n → 32 ≢ n → 70 ≢ n
      → FailsWith does.answer n
  show_fails disk n does is some output memory =
      done-fails does.answer n (own_is (done.status_of does.answer) n _ does.says is output memory) some

  show_ran : (disk : List ℕ) (n : ℕ) (does : ShowsDevice seen disk before after status) (fails : FailsWith does.answer n)
      → show.ShowRan seen disk before.disks after.disks (Err fails.f)
  show_ran disk n does fails = subst (show.ShowRan seen disk before.disks after.disks) fails.answer_is does.ran

  audit_fails : (disk : List ℕ) (n : ℕ) (does : AuditsDevice seen disk before after status) → status ≡ n → 0 ≢ n → 3 ≢ n → 32 ≢ n → 70 ≢ n
      → FailsWith does.answer n
  audit_fails disk n does is some invalid output memory =
      audit-fails does.answer n (own_is (audit.status_of does.answer) n _ does.says is output memory) some invalid

  audit_ran : (disk : List ℕ) (n : ℕ) (does : AuditsDevice seen disk before after status) (fails : FailsWith does.answer n)
      → audit.AuditRan seen disk before.disks after.disks (Err fails.f)
  audit_ran disk n does fails = subst (audit.AuditRan seen disk before.disks after.disks) fails.answer_is does.ran

  onboard_own : (words : onboard.Words) (n : ℕ) (does : Onboards seen words before after status) → status ≡ n → 32 ≢ n → 70 ≢ n
      → report.status_of does.answer ≡ n
  onboard_own words n does is output memory = own_is (report.status_of does.answer) n _ does.says is output memory

  -- statuses that no failure of an init, a show or an audit has
  init_never : (words : init.Words) (n : ℕ) → ((f : Failure) → IsQuiet f → failure.status_of f ≡ n → ⊥)
      → Inits seen words before after status → status ≡ n → 0 ≢ n → 32 ≢ n → 70 ≢ n → ⊥
  init_never words n never does is some output memory =
      let fails = init_fails words n does is some output memory in
      never fails.f (init-quiet seen words (init_part before) (init_part after) fails.f (init_ran words n does fails)) fails.status_is

  show_never : (disk : List ℕ) (n : ℕ) → ((f : Failure) → IsQuiet f → failure.status_of f ≡ n → ⊥)
      → ShowsDevice seen disk before after status → status ≡ n → 0 ≢ n → 32 ≢ n → 70 ≢ n → ⊥
  show_never disk n never does is some output memory =
      let fails = show_fails disk n does is some output memory in
      never fails.f (looked-quiet seen show.Shows disk before.disks after.disks fails.f (show_ran disk n does fails)) fails.status_is

  audit_never : (disk : List ℕ) (n : ℕ) → ((f : Failure) → IsQuiet f → failure.status_of f ≡ n → ⊥)
      → AuditsDevice seen disk before after status → status ≡ n → 0 ≢ n → 3 ≢ n → 32 ≢ n → 70 ≢ n → ⊥
  audit_never disk n never does is some invalid output memory =
      let fails = audit_fails disk n does is some invalid output memory in
      never fails.f (looked-quiet seen Audits disk before.disks after.disks fails.f (audit_ran disk n does fails)) fails.status_is

  -- ---- what each status says

  -- the command is none, or an onboard of which some SOURCE is none
  abbrev IsUsage : Option Command → Type 0
  IsUsage command = (command ≡ None) ⊎ ((own : onboard.Words) × (command ≡ Some (Onboard own)) × NamesNone own.disk own.sources)

  does_usage : (command : Option Command) → Does seen command before after status → status ≡ 2 → IsUsage command
  does_usage None does is = inl refl
  does_usage (Some (Init words)) does is =
      absurd (init_never words 2 never-2 does is (λ x. omega arith) (λ x. omega arith) (λ x. omega arith))
  does_usage (Some (Show disk)) does is =
      absurd (show_never disk 2 never-2 does is (λ x. omega arith) (λ x. omega arith) (λ x. omega arith))
  does_usage (Some (Audit disk)) does is =
      absurd (audit_never disk 2 never-2 does is (λ x. omega arith) (λ x. omega arith) (λ x. omega arith) (λ x. omega arith))
  does_usage (Some (Onboard words)) does is =
      inr (
        words,
        refl,
        onboard-usage seen words (onboard_part before) (onboard_part after) does.answer does.ran
            (onboard_own words 2 does is (λ x. omega arith) (λ x. omega arith)),
      )
  does_usage (Some (Check paths)) does is =
      elim (check_ends paths does) [
        | inl e ↦ absurd (omega arith)
        | inr f ↦ elim f [
          | inl e ↦ absurd
              (omega arith)
          | inr g ↦ elim g [
            | inl e ↦ absurd
                (omega arith)
            | inr h ↦ elim h [ inl e ↦ absurd (omega arith) | inr e ↦ let e = e.0 in absurd (omega arith) ]
          ]
        ]
      ]
  does_usage (Some (Keygen words)) does is =
      absurd (never-usage does.answer (keygen-possible seen words (keygen_part before) (keygen_part after) does.answer does.ran)
      (own_is (line.status_of does.answer) 2 _ does.says is (λ x. omega arith) (λ x. omega arith)))
  does_usage (Some (Sign words)) does is =
      absurd (never-usage does.answer (sign-possible seen words (sign_part before) (sign_part after) does.answer does.ran)
      (own_is (line.status_of does.answer) 2 _ does.says is (λ x. omega arith) (λ x. omega arith)))

  usage_of : (words : List (List ℕ)) → RunOk seen words before after status → status ≡ 2 → IsNoCommand words
  usage_of words (inl does) is = does_usage (words_of words) does is
  usage_of words (inr memory) is =
      elim (failure_ends OutOfMemory memory) [
        | inl own ↦ absurd
            (omega arith)
        | inr other ↦ elim other [ inl o ↦ absurd (omega arith) | inr r ↦ absurd (omega arith) ]
      ]

  -- a run that only prints a failure's line has none of these statuses
  quiet_status : (failed : Failure) (own : ℕ) → failure.status_of failed ≡ own → EndsBy failed before after status →
      (n : ℕ) → status ≡ n → own ≢ n → 32 ≢ n → 70 ≢ n → ⊥
  quiet_status failed own own_is e n is differs output memory =
      elim (failure_ends failed e) [
        | inl o ↦ differs
            (sym own_is ∙ sym o ∙ is)
        | inr other ↦ elim other [ inl o ↦ output (sym o ∙ is) | inr r ↦ memory (sym r ∙ is) ]
      ]

  check_never : (paths : Paths) → Checks paths before after status → (n : ℕ) → status ≡ n → 0 ≢ n → 3 ≢ n → 32 ≢ n → 33 ≢ n → 70 ≢ n → ⊥
  check_never paths c n is a b d e f =
      elim (check_ends paths c) [
        | inl o ↦ a (sym o ∙ is)
        | inr p ↦ elim p [
          | inl o ↦ b
              (sym o ∙ is)
          | inr q ↦ elim q [ inl o ↦ f (sym o ∙ is) | inr r ↦ elim r [ inl o ↦ d (sym o ∙ is) | inr o ↦ e (sym o.0 ∙ is) ] ]
        ]
      ]

  -- only a check and an audit end with a finding
  does_three : (command : Option Command) → Does seen command before after status → status ≡ 3
      → ((paths : Paths) × (command ≡ Some (Check paths))) ⊎ ((disk : List ℕ) × (command ≡ Some (Audit disk)))
  does_three None does is = absurd (quiet_status Usage 2 refl does 3 is (λ x. omega arith) (λ x. omega arith) (λ x. omega arith))
  does_three (Some (Check paths)) does is = inl (paths, refl)
  does_three (Some (Audit disk)) does is = inr (disk, refl)
  does_three (Some (Keygen words)) does is =
      absurd (never-finding does.answer (own_is (line.status_of does.answer) 3 _ does.says is (λ x. omega arith) (λ x. omega arith)))
  does_three (Some (Sign words)) does is =
      absurd (never-finding does.answer (own_is (line.status_of does.answer) 3 _ does.says is (λ x. omega arith) (λ x. omega arith)))
  does_three (Some (Init words)) does is =
      absurd (init_never words 3 (λ f quiet. never-3 f) does is (λ x. omega arith) (λ x. omega arith) (λ x. omega arith))
  does_three (Some (Show disk)) does is =
      absurd (show_never disk 3 (λ f quiet. never-3 f) does is (λ x. omega arith) (λ x. omega arith) (λ x. omega arith))
  does_three (Some (Onboard words)) does is =
      absurd (onboard-3 does.answer (onboard_own words 3 does is (λ x. omega arith) (λ x. omega arith)))

  three_of : (words : List (List ℕ)) → RunOk seen words before after status → status ≡ 3 → IsFinding words
  three_of words (inl does) is = does_three (words_of words) does is
  three_of words (inr memory) is = absurd (quiet_status OutOfMemory 70 refl memory 3 is (λ x. omega arith) (λ x. omega arith) (λ x. omega arith))

  -- only an onboard ends with a restart
  does_restart : (command : Option Command) → Does seen command before after status → status ≡ 10
      → (own : onboard.Words) × (command ≡ Some (Onboard own))
  does_restart None does is = absurd (quiet_status Usage 2 refl does 10 is (λ x. omega arith) (λ x. omega arith) (λ x. omega arith))
  does_restart (Some (Check paths)) does is =
      absurd (check_never paths does 10 is (λ x. omega arith) (λ x. omega arith) (λ x. omega arith) (λ x. omega arith) (λ x. omega arith))
  does_restart (Some (Keygen words)) does is =
      absurd (never-restart does.answer (own_is (line.status_of does.answer) 10 _ does.says is (λ x. omega arith) (λ x. omega arith)))
  does_restart (Some (Sign words)) does is =
      absurd (never-restart does.answer (own_is (line.status_of does.answer) 10 _ does.says is (λ x. omega arith) (λ x. omega arith)))
  does_restart (Some (Init words)) does is =
      absurd (init_never words 10 (λ f quiet. never-10 f) does is (λ x. omega arith) (λ x. omega arith) (λ x. omega arith))
  does_restart (Some (Show disk)) does is =
      absurd (show_never disk 10 (λ f quiet. never-10 f) does is (λ x. omega arith) (λ x. omega arith) (λ x. omega arith))
  does_restart (Some (Audit disk)) does is =
      absurd (audit_never disk 10 (λ f quiet. never-10 f) does is (λ x. omega arith) (λ x. omega arith) (λ x. omega arith) (λ x. omega arith))
  does_restart (Some (Onboard words)) does is = (words, refl)

  -- and without a source
  does_sourceless : (command : Option Command) → Does seen command before after status → status ≡ 20
      → (own : onboard.Words) × (command ≡ Some (Onboard own))
  does_sourceless None does is = absurd (quiet_status Usage 2 refl does 20 is (λ x. omega arith) (λ x. omega arith) (λ x. omega arith))
  does_sourceless (Some (Check paths)) does is =
      absurd (check_never paths does 20 is (λ x. omega arith) (λ x. omega arith) (λ x. omega arith) (λ x. omega arith) (λ x. omega arith))
  does_sourceless (Some (Keygen words)) does is =
      absurd (never-sourceless does.answer (keygen-possible seen words (keygen_part before) (keygen_part after) does.answer does.ran)
      (own_is (line.status_of does.answer) 20 _ does.says is (λ x. omega arith) (λ x. omega arith)))
  does_sourceless (Some (Sign words)) does is =
      absurd (never-sourceless does.answer (sign-possible seen words (sign_part before) (sign_part after) does.answer does.ran)
      (own_is (line.status_of does.answer) 20 _ does.says is (λ x. omega arith) (λ x. omega arith)))
  does_sourceless (Some (Init words)) does is =
      absurd (init_never words 20 never-20 does is (λ x. omega arith) (λ x. omega arith) (λ x. omega arith))
  does_sourceless (Some (Show disk)) does is =
      absurd (show_never disk 20 never-20 does is (λ x. omega arith) (λ x. omega arith) (λ x. omega arith))
  does_sourceless (Some (Audit disk)) does is =
      absurd (audit_never disk 20 never-20 does is (λ x. omega arith) (λ x. omega arith) (λ x. omega arith) (λ x. omega arith))
  does_sourceless (Some (Onboard words)) does is = (words, refl)

  does_clock : (command : Option Command) → Does seen command before after status → status ≡ 31 → Rose before.clock.faults after.clock.faults
  does_clock None does is = absurd (quiet_status Usage 2 refl does 31 is (λ x. omega arith) (λ x. omega arith) (λ x. omega arith))
  does_clock (Some (Check paths)) does is =
      absurd (check_never paths does 31 is (λ x. omega arith) (λ x. omega arith) (λ x. omega arith) (λ x. omega arith) (λ x. omega arith))
  does_clock (Some (Keygen words)) does is =
      absurd (never-clock does.answer (keygen-possible seen words (keygen_part before) (keygen_part after) does.answer does.ran)
      (own_is (line.status_of does.answer) 31 _ does.says is (λ x. omega arith) (λ x. omega arith)))
  does_clock (Some (Sign words)) does is =
      absurd (never-clock does.answer (sign-possible seen words (sign_part before) (sign_part after) does.answer does.ran)
      (own_is (line.status_of does.answer) 31 _ does.says is (λ x. omega arith) (λ x. omega arith)))
  does_clock (Some (Init words)) does is =
      absurd (init_never words 31 never-31 does is (λ x. omega arith) (λ x. omega arith) (λ x. omega arith))
  does_clock (Some (Show disk)) does is =
      absurd (show_never disk 31 never-31 does is (λ x. omega arith) (λ x. omega arith) (λ x. omega arith))
  does_clock (Some (Audit disk)) does is =
      absurd (audit_never disk 31 never-31 does is (λ x. omega arith) (λ x. omega arith) (λ x. omega arith) (λ x. omega arith))
  does_clock (Some (Onboard words)) does is =
      onboard-clock seen words (onboard_part before) (onboard_part after) does.answer does.ran
      (onboard_own words 31 does is (λ x. omega arith) (λ x. omega arith))

  does_listener : (command : Option Command) → Does seen command before after status → status ≡ 35 → ⊥
  does_listener None does is = quiet_status Usage 2 refl does 35 is (λ x. omega arith) (λ x. omega arith) (λ x. omega arith)
  does_listener (Some (Check paths)) does is =
      check_never paths does 35 is (λ x. omega arith) (λ x. omega arith) (λ x. omega arith) (λ x. omega arith) (λ x. omega arith)
  does_listener (Some (Keygen words)) does is =
      never-listener does.answer (keygen-possible seen words (keygen_part before) (keygen_part after) does.answer does.ran)
      (own_is (line.status_of does.answer) 35 _ does.says is (λ x. omega arith) (λ x. omega arith))
  does_listener (Some (Sign words)) does is =
      never-listener does.answer (sign-possible seen words (sign_part before) (sign_part after) does.answer does.ran)
      (own_is (line.status_of does.answer) 35 _ does.says is (λ x. omega arith) (λ x. omega arith))
  does_listener (Some (Init words)) does is = init_never words 35 never-35 does is (λ x. omega arith) (λ x. omega arith) (λ x. omega arith)
  does_listener (Some (Show disk)) does is = show_never disk 35 never-35 does is (λ x. omega arith) (λ x. omega arith) (λ x. omega arith)
  does_listener (Some (Audit disk)) does is =
      audit_never disk 35 never-35 does is (λ x. omega arith) (λ x. omega arith) (λ x. omega arith) (λ x. omega arith)
  does_listener (Some (Onboard words)) does is =
      onboard-listener seen words (onboard_part before) (onboard_part after) does.answer does.ran
      (onboard_own words 35 does is (λ x. omega arith) (λ x. omega arith))

  does_disk : (command : Option Command) → Does seen command before after status → status ≡ 30 → DiskRose seen before after
  does_disk None does is = absurd (quiet_status Usage 2 refl does 30 is (λ x. omega arith) (λ x. omega arith) (λ x. omega arith))
  does_disk (Some (Check paths)) does is =
      absurd (check_never paths does 30 is (λ x. omega arith) (λ x. omega arith) (λ x. omega arith) (λ x. omega arith) (λ x. omega arith))
  does_disk (Some (Keygen words)) does is =
      keygen-disk seen words (keygen_part before) (keygen_part after) does.answer does.ran
      (own_is (line.status_of does.answer) 30 _ does.says is (λ x. omega arith) (λ x. omega arith))
  does_disk (Some (Sign words)) does is =
      sign-disk seen words (sign_part before) (sign_part after) does.answer does.ran
      (own_is (line.status_of does.answer) 30 _ does.says is (λ x. omega arith) (λ x. omega arith))
  does_disk (Some (Init words)) does is =
      let fails = init_fails words 30 does is (λ x. omega arith) (λ x. omega arith) (λ x. omega arith) in
      init-disk seen words (init_part before) (init_part after) fails.f (init_ran words 30 does fails) fails.status_is
  does_disk (Some (Show disk)) does is =
      let fails = show_fails disk 30 does is (λ x. omega arith) (λ x. omega arith) (λ x. omega arith) in
      looked-disk seen show.Shows disk before.disks after.disks fails.f (show_ran disk 30 does fails) fails.status_is
  does_disk (Some (Audit disk)) does is =
      let fails = audit_fails disk 30 does is (λ x. omega arith) (λ x. omega arith) (λ x. omega arith) (λ x. omega arith) in
      looked-disk seen Audits disk before.disks after.disks fails.f (audit_ran disk 30 does fails) fails.status_is
  does_disk (Some (Onboard words)) does is =
      onboard-disk seen words (onboard_part before) (onboard_part after) does.answer does.ran
      (onboard_own words 30 does is (λ x. omega arith) (λ x. omega arith))

  does_entropy : (command : Option Command) → Does seen command before after status → status ≡ 34 → Rose before.entropy.faults after.entropy.faults
  does_entropy None does is = absurd (quiet_status Usage 2 refl does 34 is (λ x. omega arith) (λ x. omega arith) (λ x. omega arith))
  does_entropy (Some (Check paths)) does is =
      absurd (check_never paths does 34 is (λ x. omega arith) (λ x. omega arith) (λ x. omega arith) (λ x. omega arith) (λ x. omega arith))
  does_entropy (Some (Keygen words)) does is =
      keygen-entropy seen words (keygen_part before) (keygen_part after) does.answer does.ran
      (own_is (line.status_of does.answer) 34 _ does.says is (λ x. omega arith) (λ x. omega arith))
  does_entropy (Some (Sign words)) does is =
      absurd (sign-entropy seen words (sign_part before) (sign_part after) does.answer does.ran
      (own_is (line.status_of does.answer) 34 _ does.says is (λ x. omega arith) (λ x. omega arith)))
  does_entropy (Some (Init words)) does is =
      absurd (init_never words 34 never-34 does is (λ x. omega arith) (λ x. omega arith) (λ x. omega arith))
  does_entropy (Some (Show disk)) does is =
      absurd (show_never disk 34 never-34 does is (λ x. omega arith) (λ x. omega arith) (λ x. omega arith))
  does_entropy (Some (Audit disk)) does is =
      absurd (audit_never disk 34 never-34 does is (λ x. omega arith) (λ x. omega arith) (λ x. omega arith) (λ x. omega arith))
  does_entropy (Some (Onboard words)) does is =
      absurd (onboard-entropy seen words (onboard_part before) (onboard_part after) does.answer does.ran
      (onboard_own words 34 does is (λ x. omega arith) (λ x. omega arith)))

  does_file : (command : Option Command) → Does seen command before after status → status ≡ 33
      → Rose before.folder.faults after.folder.faults ⊎ ((own : Command) × (command ≡ Some own) × (LacksFile own before ⊎ LacksDisk own before))
  does_file None does is = absurd (quiet_status Usage 2 refl does 33 is (λ x. omega arith) (λ x. omega arith) (λ x. omega arith))
  does_file (Some (Check paths)) does is =
      elim (check_ends paths does) [
        | inl e ↦ absurd (omega arith)
        | inr f ↦ elim f [
          | inl e ↦ absurd (omega arith)
          | inr g ↦ elim g [
            | inl e ↦ absurd (omega arith)
            | inr h ↦ elim h [
              | inl e ↦ absurd (omega arith)
              | inr e ↦ elim e.1 [ inl rose ↦ inl rose | inr absent ↦ inr (Check paths, refl, inl absent) ]
            ]
          ]
        ]
      ]
  does_file (Some (Keygen words)) does is =
      elim (keygen-file seen words (keygen_part before) (keygen_part after) does.answer does.ran
      (own_is (line.status_of does.answer) 33 _ does.says is (λ x. omega arith) (λ x. omega arith))) [
        | inl rose ↦ inl rose
        | inr none ↦ inr (Keygen words, refl, inr (words.key, refl, none))
      ]
  does_file (Some (Sign words)) does is =
      elim (sign-file seen words (sign_part before) (sign_part after) does.answer does.ran
      (own_is (line.status_of does.answer) 33 _ does.says is (λ x. omega arith) (λ x. omega arith))) [
        | inl rose ↦ inl rose
        | inr lacks ↦ elim lacks [
          | inl absent ↦ inr (Sign words, refl, inl (words.file, refl, absent))
          | inr none ↦ inr (Sign words, refl, inr (words.key, refl, none))
        ]
      ]
  does_file (Some (Init words)) does is =
      let fails = init_fails words 33 does is (λ x. omega arith) (λ x. omega arith) (λ x. omega arith) in
      elim (init-file seen words (init_part before) (init_part after) fails.f (init_ran words 33 does fails) fails.status_is) [
        | inl rose ↦ inl rose
        | inr lacks ↦ elim lacks [
          | inl absent ↦ inr (Init words, refl, inl (words.identity, refl, absent))
          | inr none ↦ inr (Init words, refl, inr (words.disk, refl, none))
        ]
      ]
  does_file (Some (Show disk)) does is =
      let fails = show_fails disk 33 does is (λ x. omega arith) (λ x. omega arith) (λ x. omega arith) in
      inr (Show disk, refl, inr (disk, refl, looked-file seen show.Shows disk before.disks after.disks fails.f (show_ran disk 33 does fails) fails.status_is))
  does_file (Some (Audit disk)) does is =
      let fails = audit_fails disk 33 does is (λ x. omega arith) (λ x. omega arith) (λ x. omega arith) (λ x. omega arith) in
      inr (Audit disk, refl, inr (disk, refl, looked-file seen Audits disk before.disks after.disks fails.f (audit_ran disk 33 does fails) fails.status_is))
  does_file (Some (Onboard words)) does is =
      inr (
        Onboard words,
        refl,
        inr (
          words.disk,
          refl,
          onboard-file seen words (onboard_part before) (onboard_part after) does.answer does.ran
              (onboard_own words 33 does is (λ x. omega arith) (λ x. omega arith)),
        ),
      )

  -- want of memory as the words were read has none of these statuses
  memory_not : EndsBy OutOfMemory before after status → (n : ℕ) → status ≡ n → 32 ≢ n → 70 ≢ n → ⊥
  memory_not memory n is output room = quiet_status OutOfMemory 70 refl memory n is room output room

  pub causes : (words : List (List ℕ)) → RunOk seen words before after status → HasCauses seen words before after status
  causes words ran = record {
    usage = usage_of words ran;
    not_valid = three_of words ran;
    disk = λ is. elim ran [
      | inl does ↦ does_disk (words_of words) does is
      | inr memory ↦ absurd
          (memory_not memory 30 is (λ x. omega arith) (λ x. omega arith))
    ];
    restart = λ is. elim ran [
      | inl does ↦ does_restart (words_of words) does is
      | inr memory ↦ absurd (memory_not memory 10 is (λ x. omega arith) (λ x. omega arith))
    ];
    no_source = λ is. elim ran [
      | inl does ↦ does_sourceless (words_of words) does is
      | inr memory ↦ absurd (memory_not memory 20 is (λ x. omega arith) (λ x. omega arith))
    ];
    clock = λ is. elim ran [
      | inl does ↦ does_clock (words_of words) does is
      | inr memory ↦ absurd (memory_not memory 31 is (λ x. omega arith) (λ x. omega arith))
    ];
    output = λ is. (run_output words ran).rose (is_32 status is);
    file = λ is. elim ran [
      | inl does ↦ does_file (words_of words) does is
      | inr memory ↦ absurd
          (memory_not memory 33 is (λ x. omega arith) (λ x. omega arith))
    ];
    entropy = λ is. elim ran [
      | inl does ↦ does_entropy (words_of words) does is
      | inr memory ↦ absurd
          (memory_not memory 34 is (λ x. omega arith) (λ x. omega arith))
    ];
    listener = λ is. absurd
        (elim ran [ inl does ↦ does_listener (words_of words) does is | inr memory ↦ memory_not memory 35 is (λ x. omega arith) (λ x. omega arith) ]);
  }
