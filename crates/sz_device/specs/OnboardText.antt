-- What an onboard prints: a line a visit, and then the line of the outcome; and its status.
use Rattle.std.specs.Prelude.{ℕ, ◌+◌, List, [], ◌∷◌, ◌++◌, codes, map, Ok, Err}
use Rattle.std.specs.Fmt.{decimal}
use Rattle.std.specs.List.{concat}
use Rattle.sz_agent.specs.declared.report.Outcome.{Outcome}
use Rattle.sz_agent.specs.declared.report.Outcome.TheVariants as outcome
use Rattle.sz_base.specs.Target.{target_text}
use Rattle.sz_commands.specs.Ending.{number_of}
use Rattle.sz_commands.specs.Failure as failure
use Rattle.sz_commands.specs.declared.ending.Ending.TheVariants.{Done, Restart}
use Rattle.sz_device.specs.Booted.{Answer}
use Rattle.sz_evidence.specs.Reason.{reason_text}
use Rattle.sz_record.specs.declared.device.Device.{Device}
use Rattle.sz_source.specs.declared.item.Item.{Item}
use Rattle.sz_source.specs.declared.item.Item.TheVariants.{At, File, Folder}
use Rattle.sz_walk.specs.declared.visit.Note.{Note}
use Rattle.sz_walk.specs.declared.visit.Note.TheVariants.{Accepted, Listed, Redirected, Refused}
use Rattle.sz_walk.specs.declared.visit.Visit.{Visit}

-- ---- the visits

abbrev pub item_text : Item → List ℕ
item_text (Folder path) = codes "usb:" ++ path
item_text (File path) = codes "file:" ++ path
item_text (At target) = target_text target

abbrev pub note_text : Note → List ℕ
note_text (Listed count) = codes "listed " ++ decimal count
note_text (Redirected count) = codes "redirected " ++ decimal count
note_text Accepted = codes "accepted"
note_text (Refused reason) = reason_text reason

-- the end of a visit's line: what it came to, and the LF
abbrev pub note_end : Note → List ℕ
note_end note = codes ": " ++ note_text note ++ 10 ∷ []

-- the line of a visit; sources are counted from 1
abbrev pub visit_line : Visit → List ℕ
visit_line visit =
    codes "source " ++ decimal (visit.source + 1) ++ codes " depth " ++ decimal visit.depth ++ codes " "
    ++ item_text visit.item ++ note_end visit.note

abbrev pub visit_lines : List Visit → List ℕ
visit_lines visits = concat (map visit_line visits)

-- ---- the outcome

-- the line of a device whose image was installed, with its LF
abbrev pub installed_line : Device → List ℕ
installed_line device =
    codes "installed " ++ device.identity.serial ++ codes " " ++ device.running_name ++ codes " "
    ++ device.running_version ++ codes ", restart" ++ 10 ∷ []

-- the line of an outcome with its LF
abbrev pub outcome_line : Outcome → List ℕ
outcome_line (outcome.AlreadyOnboarded device) = (codes "already onboarded " ++ device.identity.serial) ++ 10 ∷ []
outcome_line (outcome.Onboarded device) = (codes "onboarded " ++ device.identity.serial) ++ 10 ∷ []
outcome_line (outcome.Installed device) = installed_line device
outcome_line outcome.NoSource = failure.text_of failure.NoSource
outcome_line outcome.DiskFault = failure.text_of failure.DiskFault
outcome_line outcome.NotInitialised = failure.text_of failure.NotInitialised
outcome_line (outcome.Damaged slot sequence length) = failure.text_of (failure.Damaged slot length)
outcome_line (outcome.BadRecord place value) = failure.text_of (failure.Damaged place value)
outcome_line (outcome.Exhausted sequence) = failure.text_of failure.LastSequence
outcome_line outcome.OutOfMemory = failure.text_of failure.OutOfMemory

abbrev pub outcome_status : Outcome → ℕ
outcome_status (outcome.AlreadyOnboarded device) = number_of Done
outcome_status (outcome.Onboarded device) = number_of Done
outcome_status (outcome.Installed device) = number_of Restart
outcome_status outcome.NoSource = failure.status_of failure.NoSource
outcome_status outcome.DiskFault = failure.status_of failure.DiskFault
outcome_status outcome.NotInitialised = failure.status_of failure.NotInitialised
outcome_status (outcome.Damaged slot sequence length) = failure.status_of (failure.Damaged slot length)
outcome_status (outcome.BadRecord place value) = failure.status_of (failure.Damaged place value)
outcome_status (outcome.Exhausted sequence) = failure.status_of failure.LastSequence
outcome_status outcome.OutOfMemory = failure.status_of failure.OutOfMemory

-- ---- the whole

abbrev pub status_of : Answer → ℕ
status_of (Ok report) = outcome_status report.outcome
status_of (Err other) = failure.status_of other

abbrev pub text_of : Answer → List ℕ
text_of (Ok report) = visit_lines report.visits ++ outcome_line report.outcome
text_of (Err other) = failure.text_of other
