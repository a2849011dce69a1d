-- What a run of the program came to, by its words.
use Rattle.std.specs.Prelude.{◌≡◌, ◌==◌, ◌⊎◌, ℕ, List, Option, Some, None}
use Rattle.sz_spec.specs.Cause.{HasCause}
use Rattle.sz_commands.specs.Ending.{output_fault}
use Rattle.sz_commands.specs.Failure.{Failure, Usage, OutOfMemory, status_of, text_of}
use Rattle.sz_commands.specs.Objects.{SinkSeen}
use Rattle.sz_commands.specs.Printed.{IsPrinted}
use Rattle.sz_keys.specs.CheckLine as check
use Rattle.sz_keys.specs.CheckRan.{Answer, CheckRan, Paths}
use Rattle.sz_device.specs.AuditRan as audit
use Rattle.sz_device.specs.Booted as booted
use Rattle.sz_device.specs.DeviceMade as device
use Rattle.sz_device.specs.DoneLine as done
use Rattle.sz_device.specs.InitRan as init
use Rattle.sz_device.specs.OnboardRan as onboard
use Rattle.sz_device.specs.OnboardText as report
use Rattle.sz_device.specs.ShowRan as show
use Rattle.sz_disk.specs.Disk.{Seen}
use Rattle.sz_keys.specs.KeyLine.{keygen_text, sign_text}
use Rattle.sz_keys.specs.KeyLine as line
use Rattle.sz_keys.specs.KeygenRan as keygen
use Rattle.sz_keys.specs.KeyMade as made
use Rattle.sz_keys.specs.SignRan as sign
use Rattle.sz_program.specs.Outside.{Outside, KeysStay, OthersStay}
use Rattle.sz_program.specs.Words.{Command, Check, Keygen, Sign, Init, Onboard, Show, Audit, words_of}

-- The text of work with this status was printed, and the given status is that of what was printed.
pub record Says (own : ℕ) (text : List ℕ) (before after : SinkSeen) (given : ℕ) : Type 0 where
  pub printed : IsPrinted own text given before.written after.written
  pub cause : HasCause before.faults after.faults (given == output_fault)

module _ {D : Type 0} where
  -- nothing was done but to print the line of a failure
  pub record EndsBy (failure : Failure) (before after : Outside D) (status : ℕ) : Type 0 where
    pub says : Says (status_of failure) (text_of failure) before.out after.out status
    pub folder : after.folder ≡ before.folder
    pub others : OthersStay before after

  -- a check was done over the folder, and its answer printed
  pub record Checks (paths : Paths) (before after : Outside D) (status : ℕ) : Type 0 where
    pub answer : Answer
    pub ran : CheckRan paths before.folder after.folder answer
    pub says : Says (check.status_of answer) (check.text_of answer) before.out after.out status
    pub others : OthersStay before after

  -- what a keygen uses of the outside
  abbrev pub keygen_part : Outside D → keygen.KeygenSeen D
  keygen_part outside = record {
    disks = outside.disks;
    beside = record { folder = outside.folder; entropy = outside.entropy };
  }

  -- what a sign uses of it
  abbrev pub sign_part : Outside D → sign.SignSeen D
  sign_part outside = record { disks = outside.disks; folder = outside.folder }

  -- what an init uses of it
  abbrev pub init_part : Outside D → init.InitSeen D
  init_part outside = record { disks = outside.disks; folder = outside.folder }

  -- what an onboard uses of it
  abbrev pub onboard_part : Outside D → onboard.OnboardSeen D
  onboard_part outside = record {
    disks = outside.disks;
    beside = record {
      folder = outside.folder;
      net = outside.net;
      clock = outside.clock;
      entropy = outside.entropy;
    };
  }

  -- all but the disks and the output stay as they are
  pub record DisksAlone (before after : Outside D) : Type 0 where
    pub folder : after.folder ≡ before.folder
    pub entropy : after.entropy ≡ before.entropy
    pub others : KeysStay before after

module _ {D : Type 0} (seen : D → Seen) where
  -- a keygen was done over the disks, the folder and the random bytes, and its answer printed
  pub record Keygens (words : keygen.Words) (before after : Outside D) (status : ℕ) : Type 0 where
    pub answer : made.Answer
    pub ran : keygen.KeygenRan seen words (keygen_part before) (keygen_part after) answer
    pub says : Says (line.status_of answer) (keygen_text answer) before.out after.out status
    pub others : KeysStay before after

  -- a sign was done over the disks and the folder, and its answer printed
  pub record Signs (words : sign.Words) (before after : Outside D) (status : ℕ) : Type 0 where
    pub answer : sign.Answer
    pub ran : sign.SignRan seen words (sign_part before) (sign_part after) answer
    pub says : Says (line.status_of answer) (sign_text answer) before.out after.out status
    pub entropy : after.entropy ≡ before.entropy
    pub others : KeysStay before after

  -- an init was done over the disks and the folder, and its answer printed
  pub record Inits (words : init.Words) (before after : Outside D) (status : ℕ) : Type 0 where
    pub answer : device.Answer
    pub ran : init.InitRan seen words (init_part before) (init_part after) answer
    pub says : Says (done.status_of answer) (done.init_text answer) before.out after.out status
    pub entropy : after.entropy ≡ before.entropy
    pub others : KeysStay before after

  -- an onboard was done over the disks, the folder, the network, the clock and the random bytes, and its answer printed
  pub record Onboards (words : onboard.Words) (before after : Outside D) (status : ℕ) : Type 0 where
    pub answer : booted.Answer
    pub ran : onboard.OnboardRan seen words (onboard_part before) (onboard_part after) answer
    pub says : Says (report.status_of answer) (report.text_of answer) before.out after.out status
    pub listener : after.listener ≡ before.listener

  -- a show was done over the disks, and its answer printed
  pub record ShowsDevice (disk : List ℕ) (before after : Outside D) (status : ℕ) : Type 0 where
    pub answer : show.Answer
    pub ran : show.ShowRan seen disk before.disks after.disks answer
    pub says : Says (done.status_of answer) (done.show_lines answer) before.out after.out status
    pub alone : DisksAlone before after

  -- an audit was done over the disks, and its answer printed
  pub record AuditsDevice (disk : List ℕ) (before after : Outside D) (status : ℕ) : Type 0 where
    pub answer : audit.Answer
    pub ran : audit.AuditRan seen disk before.disks after.disks answer
    pub says : Says (audit.status_of answer) (audit.text_of answer) before.out after.out status
    pub alone : DisksAlone before after

  -- what each command came to, one equation a command
  abbrev pub Does : Option Command → Outside D → Outside D → ℕ → Type 0
  Does None before after status = EndsBy Usage before after status
  Does (Some (Check paths)) before after status = Checks paths before after status
  Does (Some (Keygen words)) before after status = Keygens words before after status
  Does (Some (Sign words)) before after status = Signs words before after status
  Does (Some (Init words)) before after status = Inits words before after status
  Does (Some (Onboard words)) before after status = Onboards words before after status
  Does (Some (Show disk)) before after status = ShowsDevice disk before after status
  Does (Some (Audit disk)) before after status = AuditsDevice disk before after status

  -- The command that the words are was done; or memory ran out as they were read.
  abbrev pub RunOk : List (List ℕ) → Outside D → Outside D → ℕ → Type 0
  RunOk words before after status = Does (words_of words) before after status ⊎ EndsBy OutOfMemory before after status
