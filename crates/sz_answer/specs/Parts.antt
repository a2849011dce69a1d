-- What the parts of a visit say of their answers.
use Rattle.std.specs.Prelude.{◌≡◌, ◌≢◌, ◌⊎◌, Bool, false, List, Option, Some, Result, Ok, Err}
use Rattle.sz_base.specs.declared.evidence.Evidence.{Evidence}
use Rattle.sz_base.specs.declared.target.Target.{Target}
use Rattle.sz_dhcp.specs.declared.fault.DhcpFault.{DhcpFault}
use Rattle.sz_dhcp.specs.declared.fault.DhcpFault.TheVariants as dhcp
use Rattle.sz_evidence.specs.declared.reason.Reason.TheVariants as reason
use Rattle.sz_evidence.specs.declared.reason.What.{What}
use Rattle.sz_exchange.specs.Exchange.{AddsOne}
use Rattle.sz_io.specs.Folder.{FileMap}
use Rattle.sz_io.specs.Net.{Traffic}
use Rattle.sz_visit.specs.declared.fault.FileFault.{FileFault}
use Rattle.sz_visit.specs.declared.fault.FileFault.TheVariants as file
use Rattle.sz_ask.specs.Asked.{HearsReply}
use Rattle.sz_ask.specs.declared.fault.ServerFault.{ServerFault}
use Rattle.sz_ask.specs.declared.fault.ServerFault.TheVariants as server
use Rattle.sz_answer.specs.Visit.{file_reason, is_lost, request_of, Search, server_reason, ServerComesTo}
use Rattle.sz_answer.specs.declared.answer.Answer.{Answer}
use Rattle.sz_answer.specs.declared.answer.Answer.TheVariants as answer

-- the call answers that something is lost
abbrev pub loses : {E : Type 0} → Result Answer E → Bool
loses (Ok given) = is_lost given
loses (Err fault) = false

-- the fault of a file is handed on as a reason; memory didn't run out
abbrev pub RefusesFile : What → FileFault → Answer → Type 0
RefusesFile what fault given = (fault ≢ file.OutOfMemory) × (given ≡ answer.Refused (file_reason what fault))

-- the fault of a server is handed on as a reason; memory didn't run out
abbrev pub RefusesServer : ServerFault → Answer → Type 0
RefusesServer fault given = (fault ≢ server.OutOfMemory) × (given ≡ answer.Refused (server_reason fault))

-- the answer on what a DHCP message says
abbrev pub IsDhcpAnswer : Result (List Target) DhcpFault → Answer → Type 0
IsDhcpAnswer (Ok targets) given = given ≡ answer.Listed targets
IsDhcpAnswer (Err (dhcp.Bad kind place)) given = given ≡ answer.Refused (reason.BadOption place)
IsDhcpAnswer (Err dhcp.OutOfMemory) given = ⊥

-- where the folder tells its files, the answer says that it failed, or is as they tell
abbrev pub FilesComeTo : (FileMap → Answer → Type 0) → Option FileMap → Answer → Type 0
FilesComeTo IsOf files given =
    (told : FileMap) → files ≡ Some told → (given ≡ answer.Refused reason.Lost) ⊎ IsOf told given

-- one exchange was added, with the request to the target, which gives the answer
abbrev pub AsksOnce : Search → Target → Answer → Traffic → Traffic → Type 0
AsksOnce search target given = AddsOne (λ exchange. (replied : Result Evidence ServerFault)
    × HearsReply target (request_of search target) exchange replied × ServerComesTo search replied given)
