-- What the crate's own types stand for in the definitions.
use Rattle.std.specs.Prelude.{ℕ, List, Result, Ok, Err}
use Rattle.sz_commands.specs.Failure as spec
use Rattle.sz_commands.specs.Objects.{ClockSeen, EntropySeen, FolderSeen, NetSeen}
use Rattle.sz_commands.specs.View.{failure_of}
use Rattle.sz_commands.specs.declared.failure.Failure.{Failure}
use Rattle.sz_device.specs.Booted.{Beside}
use Rattle.sz_device.specs.InitRan as init
use Rattle.sz_device.specs.OnboardRan as onboard
use Rattle.sz_device.specs.declared.init_command.InitWords.{InitWords}
use Rattle.sz_device.specs.declared.onboard_command.OnboardWords.{OnboardWords}

-- what a command is answered
abbrev pub answer_of : {T : Type 0} → Result T Failure → Result T spec.Failure
answer_of (Ok told) = Ok told
answer_of (Err failure) = Err (failure_of failure)

abbrev pub init_words : InitWords → init.Words
init_words words = record { identity = words.identity; disk = words.disk }

abbrev pub onboard_words : OnboardWords → onboard.Words
onboard_words words = record { disk = words.disk; sources = words.sources }

abbrev pub init_seen : {D : Type 0} → List (List ℕ × D) → FolderSeen → init.InitSeen D
init_seen disks folder = record { disks = disks; folder = folder }

-- the folder, the network, the clock and the random bytes
abbrev pub beside : FolderSeen → NetSeen → ClockSeen → EntropySeen → Beside
beside folder net clock entropy = record { folder = folder; net = net; clock = clock; entropy = entropy }

abbrev pub onboard_seen : {D : Type 0} → List (List ℕ × D) → Beside → onboard.OnboardSeen D
onboard_seen disks rest = record { disks = disks; beside = rest }
