-- What one visit of an item comes to: the exchanges that it owns, and its answer.
use Rattle.std.specs.Prelude.{◌≡◌, ◌⊎◌, Bool, true, false, ℕ, List, [], ◌∷◌, Option, Some, None, Result, Ok, Err}
use Rattle.sz_spec.specs.Told.{WhereTold}
use Rattle.sz_base.specs.declared.evidence.Evidence.{Evidence}
use Rattle.sz_base.specs.declared.identity.Identity.{Identity}
use Rattle.sz_base.specs.declared.moment.Moment.{Moment}
use Rattle.sz_base.specs.declared.target.Target.{Target}
use Rattle.sz_dhcp.specs.Message4.{Gives4, IsFault4}
use Rattle.sz_dhcp.specs.Message6.{Gives6, IsFault6}
use Rattle.sz_dhcp.specs.declared.fault.DhcpKind.{DhcpKind}
use Rattle.sz_dns.specs.Answer as dns
use Rattle.sz_dns.specs.declared.fault.DnsKind.{DnsKind}
use Rattle.sz_evidence.specs.Authorised.{Authorised}
use Rattle.sz_evidence.specs.Judgement.{Judgement}
use Rattle.sz_evidence.specs.declared.judgement.Judged.{Judged}
use Rattle.sz_evidence.specs.declared.judgement.Judged.TheVariants as judged
use Rattle.sz_evidence.specs.declared.reason.Reason.{Reason}
use Rattle.sz_evidence.specs.declared.reason.Reason.TheVariants as reason
use Rattle.sz_evidence.specs.declared.reason.What.{What}
use Rattle.sz_evidence.specs.declared.reason.What.TheVariants as what
use Rattle.sz_io.specs.Added.{Adds}
use Rattle.sz_io.specs.Folder.{bytes_at, FileMap}
use Rattle.sz_io.specs.Net.{Traffic}
use Rattle.sz_io.specs.declared.exchange.Exchange.{Exchange}
use Rattle.sz_rest.specs.Request.{request_text}
use Rattle.sz_source.specs.declared.item.Item.{Item}
use Rattle.sz_source.specs.declared.item.Item.TheVariants as item
use Rattle.sz_source.specs.declared.source.Source.{Source}
use Rattle.sz_source.specs.declared.source.Source.TheVariants as source
use Rattle.sz_visit.specs.Files.{message_of}
use Rattle.sz_visit.specs.Storage.{storage_of}
use Rattle.sz_visit.specs.declared.fault.FileFault.{FileFault}
use Rattle.sz_visit.specs.declared.fault.FileFault.TheVariants as file
use Rattle.sz_ask.specs.Asked.{HearsReply}
use Rattle.sz_ask.specs.declared.fault.ServerFault.{ServerFault}
use Rattle.sz_ask.specs.declared.fault.ServerFault.TheVariants as server
use Rattle.sz_answer.specs.declared.answer.Answer.{Answer}
use Rattle.sz_answer.specs.declared.answer.Answer.TheVariants as answer

-- who looks for what, and when: the device, its moment, and the files that are there
pub record Search : Type 0 where
  pub identity : Identity
  pub when : Moment
  pub files : FileMap

abbrev pub search_of : Identity → Moment → FileMap → Search
search_of identity when files = record { identity = identity; when = when; files = files }

-- ---- evidence, and what it is judged as

-- why files give nothing, as a reason of a visit; a folder that fails is Lost
abbrev pub file_reason : What → FileFault → Reason
file_reason what file.Absent = reason.Absent what
file_reason what (file.TooLarge limit) = reason.TooLarge limit
file_reason what file.Lost = reason.Lost
file_reason what file.OutOfMemory = reason.Lost

-- why a server gives no evidence, as a reason of a visit
abbrev pub server_reason : ServerFault → Reason
server_reason server.Lost = reason.Lost
server_reason server.EndedEarly = reason.EndedEarly
server_reason server.BadHttp = reason.BadHttp
server_reason server.Coding = reason.Coding
server_reason (server.TooLarge limit) = reason.TooLarge limit
server_reason (server.Status code) = reason.Status code
server_reason (server.Member name) = reason.Member name
server_reason server.OutOfMemory = reason.Lost

abbrev pub judged_answer : Evidence → Result Judged Reason → Answer
judged_answer evidence (Ok (judged.Unsigned targets)) = answer.Redirected targets
judged_answer evidence (Ok (judged.Redirect targets)) = answer.Redirected targets
judged_answer evidence (Ok (judged.Onboarding onboarding)) = answer.Offered onboarding evidence
judged_answer evidence (Err found) = answer.Refused found

-- the evidence is judged, and the answer is that of the judgement
abbrev pub IsJudged : Search → Evidence → Answer → Type 0
IsJudged search evidence given = (judged : Result Judged Reason)
    × Judgement search.identity search.when evidence judged × (given ≡ judged_answer evidence judged)

-- whatever files and traffic tell: an offer has evidence that authorises it
abbrev pub IsSound : Identity → Moment → Answer → Type 0
IsSound identity when (answer.Offered onboarding evidence) = Authorised identity when evidence onboarding
IsSound identity when _ = Unit {0}

-- the answer is no offer
abbrev pub IsNoOffer : Answer → Type 0
IsNoOffer (answer.Offered onboarding evidence) = ⊥
IsNoOffer _ = Unit {0}

-- ---- the three kinds of items

-- what the artifacts in a folder come to
abbrev pub StorageComesTo : Search → Result Evidence FileFault → Answer → Type 0
StorageComesTo search (Ok evidence) given = IsJudged search evidence given
StorageComesTo search (Err fault) given = given ≡ answer.Refused (file_reason what.Conveyed fault)

-- what the message of a source comes to; a source that has no messages has no file
abbrev pub MessageComesTo : Source → List ℕ → Answer → Type 0
MessageComesTo (source.Dhcp4 path) bytes (answer.Listed targets) = Gives4 bytes targets
MessageComesTo (source.Dhcp4 path) bytes (answer.Refused (reason.BadOption place)) =
    (kind : DhcpKind) × IsFault4 bytes kind place
MessageComesTo (source.Dhcp6 path) bytes (answer.Listed targets) = Gives6 bytes targets
MessageComesTo (source.Dhcp6 path) bytes (answer.Refused (reason.BadOption place)) =
    (kind : DhcpKind) × IsFault6 bytes kind place
MessageComesTo (source.Dns path domain) bytes (answer.Listed targets) = dns.Gives bytes domain targets
MessageComesTo (source.Dns path domain) bytes (answer.Refused (reason.BadName place)) =
    (kind : DnsKind) × dns.IsFault bytes domain kind place
MessageComesTo (source.Usb path) bytes given = given ≡ answer.Refused (reason.Absent what.File)
MessageComesTo (source.Server target) bytes given = given ≡ answer.Refused (reason.Absent what.File)
MessageComesTo _ bytes _ = ⊥

-- what a file of a source comes to
abbrev pub FileComesTo : Source → Result (List ℕ) FileFault → Answer → Type 0
FileComesTo from (Ok bytes) given = MessageComesTo from bytes given
FileComesTo from (Err fault) given = given ≡ answer.Refused (file_reason what.File fault)

-- what a server's reply comes to
abbrev pub ServerComesTo : Search → Result Evidence ServerFault → Answer → Type 0
ServerComesTo search (Ok evidence) given = IsJudged search evidence given
ServerComesTo search (Err fault) given = given ≡ answer.Refused (server_reason fault)

-- the request for this device at this moment
abbrev pub request_of : Search → Target → List ℕ
request_of search target = request_text target search.identity.serial search.when.nonce

-- The item of this source owns these exchanges and comes to this answer. Storage and files own none; they are Lost
-- where the folder failed, and else as the files tell. A server owns one, which gives the answer.
abbrev pub ComesTo : Search → Source → Item → List Exchange → Answer → Type 0
ComesTo search from (item.Folder path) own given =
    (own ≡ []) × ((given ≡ answer.Refused reason.Lost)
    ⊎ StorageComesTo search (storage_of search.files path search.identity.serial) given)
ComesTo search from (item.File path) own given =
    (own ≡ []) × ((given ≡ answer.Refused reason.Lost)
    ⊎ FileComesTo from (message_of (bytes_at search.files path)) given)
ComesTo search from (item.At target) own given =
    (exchange : Exchange) × (replied : Result Evidence ServerFault) × (own ≡ exchange ∷ [])
    × HearsReply target (request_of search target) exchange replied × ServerComesTo search replied given

-- ---- one visit

-- these exchanges were added, and a visit that began with no connection leaves none
pub record Owns (before now : Traffic) (own : List Exchange) : Type 0 where
  pub adds : Adds before now own
  pub idle : before.standing ≡ None → now.standing ≡ None

-- where folder and network tell, the visit owns the exchanges that it added, and came to this answer
abbrev pub CameTo : Identity → Moment → Source → Item → Option FileMap → Option Traffic → Option Traffic → Answer
    → Type 0
CameTo identity when from visited files before now given = (told : FileMap) → files ≡ Some told
    → WhereTold (λ old new. (own : List Exchange)
    × Owns old new own × ComesTo (search_of identity when told) from visited own given) before now

-- ---- whom an answer blames

abbrev pub is_lost : Answer → Bool
is_lost (answer.Refused reason.Lost) = true
is_lost _ = false

-- the folder failed
abbrev pub is_lost_file : Item → Answer → Bool
is_lost_file (item.At target) given = false
is_lost_file (item.Folder path) given = is_lost given
is_lost_file (item.File path) given = is_lost given

-- the exchange with the server was lost
abbrev pub is_lost_server : Item → Answer → Bool
is_lost_server (item.At target) given = is_lost given
is_lost_server (item.Folder path) given = false
is_lost_server (item.File path) given = false

abbrev pub blames_folder : {E : Type 0} → Item → Result Answer E → Bool
blames_folder visited (Ok given) = is_lost_file visited given
blames_folder visited (Err fault) = false

abbrev pub blames_net : {E : Type 0} → Item → Result Answer E → Bool
blames_net visited (Ok given) = is_lost_server visited given
blames_net visited (Err fault) = false
