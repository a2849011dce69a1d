-- What the crate's own types stand for in the definitions.
use Rattle.std.specs.Prelude.{ℕ, List, Option, Some, None, Result, Ok, Err}
use Rattle.sz_lms.specs.Rules.{Rule}
use Rattle.sz_lms.specs.View.{rule_of}
use Rattle.sz_commands.specs.View.{failure_of}
use Rattle.sz_commands.specs.declared.failure.Failure.{Failure}
use Rattle.sz_keys.specs.CheckRan as spec
use Rattle.sz_commands.specs.Objects.{FolderSeen}
use Rattle.sz_io.specs.Folder.{FileMap}
use Rattle.sz_keys.specs.KeyMade as made
use Rattle.sz_keys.specs.KeygenRan as keygen
use Rattle.sz_keys.specs.declared.check_command.CheckPaths.{CheckPaths}
use Rattle.sz_keys.specs.declared.keygen_command.KeygenWords.{KeygenWords}
use Rattle.sz_keys.specs.LeafSpent as spent
use Rattle.sz_keys.specs.SignRan as sign
use Rattle.sz_keys.specs.declared.sign_command.SignWords.{SignWords}
use Rattle.sz_keys.specs.declared.verdict.Checked.{Checked}
use Rattle.sz_keys.specs.declared.verdict.Checked.TheVariants.{Valid, NotValid}

abbrev pub paths_of : CheckPaths → spec.Paths
paths_of paths = record { public = paths.public; file = paths.file; signature = paths.signature }

-- the first rule that a signature breaks, by what is said of it
abbrev pub broken_rule : Checked → Option Rule
broken_rule Valid = None
broken_rule (NotValid fault) = Some (rule_of fault)

abbrev pub answer_of : Result Checked Failure → spec.Answer
answer_of (Ok checked) = Ok (broken_rule checked)
answer_of (Err failure) = Err (failure_of failure)

abbrev pub keygen_words : KeygenWords → keygen.Words
keygen_words words = record { levels = words.levels; public = words.public; key = words.key }

abbrev pub sign_words : SignWords → sign.Words
sign_words words = record { file = words.file; signature = words.signature; key = words.key }

-- what a keygen or a sign is answered
abbrev pub made_of : Result ℕ Failure → made.Answer
made_of (Ok end) = Ok end
made_of (Err failure) = Err (failure_of failure)

-- the folder and the random bytes
abbrev pub beside : ℕ → Option FileMap → ℕ → Option (List ℕ) → made.Beside
beside folder_faults files entropy_faults bytes = record {
  folder = record { faults = folder_faults; files = files };
  entropy = record { faults = entropy_faults; bytes = bytes };
}

abbrev pub keygen_seen : {D : Type 0} → List (List ℕ × D) → made.Beside → keygen.KeygenSeen D
keygen_seen disks rest = record { disks = disks; beside = rest }

-- a leaf number and a signature
abbrev pub signed_of : Result (ℕ × List ℕ) Failure → spent.Answer
signed_of (Ok signed) = Ok signed
signed_of (Err failure) = Err (failure_of failure)

abbrev pub sign_seen : {D : Type 0} → List (List ℕ × D) → FolderSeen → sign.SignSeen D
sign_seen disks folder = record { disks = disks; folder = folder }
