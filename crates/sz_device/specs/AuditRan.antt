-- What `audit @DISK` comes to, over the disks before and after, its status and its text.
use Rattle.std.specs.Prelude.{ℕ, Bool, true, false, ◌&&◌, if◌then◌else◌, List, [], ◌∷◌, ◌++◌, codes, Option, Some, None, Result, Ok, Err}
use Rattle.std.specs.Fmt.{decimal}
use Rattle.sz_audit.specs.Audit.{Audits}
use Rattle.sz_audit.specs.declared.found.Audit.{Audit}
use Rattle.sz_audit.specs.declared.found.Found.{Found}
use Rattle.sz_audit.specs.declared.found.Found.TheVariants as found
use Rattle.sz_commands.specs.Ending.{number_of}
use Rattle.sz_commands.specs.Failure as failure
use Rattle.sz_commands.specs.declared.ending.Ending.{Ending}
use Rattle.sz_commands.specs.declared.ending.Ending.TheVariants.{Done, NotValid}
use Rattle.sz_device.specs.Looked.{LooksUnder}
use Rattle.sz_disk.specs.Disk.{Seen}
use Rattle.sz_evidence.specs.Reason.{number_of as reason_number}

-- What was found of the device, or a failure.
abbrev pub Answer : Type 0
Answer = Result Audit failure.Failure

abbrev pub AuditRan : {D : Type 0} → (D → Seen) → List ℕ → List (List ℕ × D) → List (List ℕ × D) → Answer → Type 0
AuditRan seen word before after answer = LooksUnder seen Audits word before after answer

-- ---- the status

-- it is authorised, or nothing is there
abbrev pub is_well : Option Found → Bool
is_well None = true
is_well (Some found.Authorised) = true
is_well (Some other) = false

-- done where all that is there is authorised
abbrev pub ending_of : Audit → Ending
ending_of audit = if is_well audit.image && is_well audit.configuration then Done else NotValid

abbrev pub status_of : Answer → ℕ
status_of (Ok audit) = number_of (ending_of audit)
status_of (Err other) = failure.status_of other

-- ---- the text

-- what is found, with the LF
abbrev pub found_text : Found → List ℕ
found_text found.Authorised = codes "authorised" ++ 10 ∷ []
found_text (found.Refused reason) =
    codes "not authorised: " ++ decimal (reason_number reason) ++ 10 ∷ []
found_text found.OtherFields = codes "other fields" ++ 10 ∷ []
found_text found.OtherBytes = codes "other bytes" ++ 10 ∷ []

-- the line of what is there, behind its name
abbrev pub found_line : List ℕ → Option Found → List ℕ
found_line name None = []
found_line name (Some is) = name ++ found_text is

abbrev pub found_lines : Option Found → Option Found → List ℕ
found_lines None None = codes "nothing committed" ++ 10 ∷ []
found_lines image configuration =
    found_line (codes "image ") image ++ found_line (codes "configuration ") configuration

abbrev pub text_of : Answer → List ℕ
text_of (Ok audit) = found_lines audit.image audit.configuration
text_of (Err other) = failure.text_of other
