-- The numbers and the names of the reasons, as one table, and how a reason is shown.
use Rattle.std.specs.Prelude.{ℕ, List, ◌∷◌, ◌++◌, codes}
use Rattle.std.specs.Fmt.{decimal}
use Rattle.sz_evidence.specs.declared.reason.Reason.{Reason}
use Rattle.sz_evidence.specs.declared.reason.Reason.TheVariants as reason

-- its number and its name
abbrev pub row_of : Reason → ℕ × List ℕ
row_of reason.Lost = (1, codes "Lost")
row_of (reason.Absent what) = (2, codes "Absent")
row_of reason.EndedEarly = (3, codes "EndedEarly")
row_of reason.BadHttp = (4, codes "BadHttp")
row_of reason.Coding = (5, codes "Coding")
row_of (reason.TooLarge limit) = (6, codes "TooLarge")
row_of (reason.Status code) = (7, codes "Status")
row_of (reason.BadOption place) = (8, codes "BadOption")
row_of (reason.BadName place) = (9, codes "BadName")
row_of (reason.BadDer artifact place) = (10, codes "BadDer")
row_of (reason.BadCms artifact) = (11, codes "BadCms")
row_of reason.XmlContent = (12, codes "XmlContent")
row_of reason.Encrypted = (13, codes "Encrypted")
row_of reason.Unsigned = (14, codes "Unsigned")
row_of (reason.NoChain artifact fault) = (15, codes "NoChain")
row_of (reason.Member name) = (16, codes "Member")
row_of reason.WrongSerial = (17, codes "WrongSerial")
row_of reason.Nonce = (18, codes "Nonce")
row_of reason.Expired = (19, codes "Expired")
row_of reason.NoImageHash = (21, codes "NoImageHash")
row_of (reason.NoImage faults) = (22, codes "NoImage")
row_of (reason.RecordTooLarge size) = (23, codes "RecordTooLarge")
row_of reason.Depth = (24, codes "Depth")
row_of reason.BudgetSpent = (25, codes "BudgetSpent")

abbrev pub number_of : Reason → ℕ
number_of reason = (row_of reason).0

abbrev pub name_of : Reason → List ℕ
name_of reason = (row_of reason).1

-- the number, a blank and the name
abbrev pub reason_text : Reason → List ℕ
reason_text reason = decimal (number_of reason) ++ 32 ∷ name_of reason
