-- What the parts of a visit come to, joined.
use Rattle.std.proofs.Common.{◌≡◌, ℕ, List, [], ◌∷◌, Option, Some, Result, Ok, Err, refl, sym, subst, inl, inr}
use Rattle.std.proofs.lemmas.Result.{IfOk-weaker}
use Rattle.std.specs.Prelude.{IfErr, IfOk, IfSome}
use Rattle.sz_spec.specs.Told.{WhereTold}
use Rattle.sz_base.specs.declared.evidence.Evidence.{Evidence}
use Rattle.sz_base.specs.declared.identity.Identity.{Identity}
use Rattle.sz_base.specs.declared.moment.Moment.{Moment}
use Rattle.sz_base.specs.declared.target.Target.{Target}
use Rattle.sz_dhcp.specs.Fault.{IsFault}
use Rattle.sz_dhcp.specs.declared.fault.DhcpFault.{DhcpFault}
use Rattle.sz_dhcp.specs.declared.fault.DhcpFault.TheVariants as dhcp
use Rattle.sz_dhcp.specs.declared.fault.DhcpKind.{DhcpKind}
use Rattle.sz_evidence.specs.Judgement.{Judgement}
use Rattle.sz_evidence.specs.View.{IsReason}
use Rattle.sz_evidence.specs.declared.judgement.Judged.{Judged}
use Rattle.sz_evidence.specs.declared.judgement.Refusal.{Refusal}
use Rattle.sz_evidence.specs.declared.judgement.Refusal.TheVariants as refusals
use Rattle.sz_evidence.specs.declared.reason.Reason.{Reason}
use Rattle.sz_evidence.specs.declared.reason.Reason.TheVariants as reason
use Rattle.sz_evidence.specs.declared.reason.What.{What}
use Rattle.sz_exchange.specs.Exchange.{AddsOne}
use Rattle.sz_io.proofs.Exchanges.{Adds-refl}
use Rattle.sz_io.specs.Folder.{bytes_at, FileMap}
use Rattle.sz_io.specs.Net.{Traffic}
use Rattle.sz_source.specs.declared.item.Item.{Item}
use Rattle.sz_source.specs.declared.item.Item.TheVariants as item
use Rattle.sz_source.specs.declared.source.Source.{Source}
use Rattle.sz_visit.specs.Files.{blames_folder as blames_files, Gives, message_of}
use Rattle.sz_visit.specs.Storage.{storage_of}
use Rattle.sz_visit.specs.declared.fault.FileFault.{FileFault}
use Rattle.sz_visit.specs.declared.fault.FileFault.TheVariants as file
use Rattle.sz_ask.proofs.Runs.{ran_heard, told_same, told_weaker}
use Rattle.sz_ask.specs.Asked.{HearsReply, Ran}
use Rattle.sz_ask.specs.declared.fault.ServerFault.{ServerFault}
use Rattle.sz_answer.specs.Parts.{AsksOnce, FilesComeTo, IsDhcpAnswer, RefusesFile, RefusesServer}
use Rattle.sz_answer.specs.Visit.{CameTo, FileComesTo, file_reason, IsJudged, judged_answer, request_of, Search, search_of, ServerComesTo, StorageComesTo}
use Rattle.sz_answer.specs.declared.answer.Answer.{Answer}
use Rattle.sz_answer.specs.declared.answer.Answer.TheVariants as answer

-- ---- files

-- what these files are told to give
told_given : {T : Type 0} → (given : FileMap → Result T FileFault) (files : Option FileMap) (value : Result T FileFault)
    (told : FileMap) → IfSome files (λ files. value ≡ given files) → files ≡ Some told → value ≡ given told
told_given given files value told is same = subst (λ (o : Option FileMap). IfSome o (λ files. value ≡ given files)) same is

-- files were read, and the answer is what they come to
pub read_comes : {T E : Type 0} → (Comes : FileMap → Result T FileFault → Answer → Type 0)
    (given : FileMap → Result T FileFault) (files : Option FileMap) (value : T) (result : Result Answer E)
    → Gives files given (Ok value) → ((told : FileMap) → IfOk result (Comes told (Ok value)))
    → IfOk result (FilesComeTo (λ told. Comes told (given told)) files)
read_comes {T = T} Comes given files value (Ok found) gives comes = λ told same.
    inr (subst (λ (r : Result T FileFault). Comes told r found) (told_given given files (Ok value) told (gives tt) same)
    (comes told))
read_comes Comes given files value (Err fault) gives comes = tt

-- files were refused, and the answer is that refusal
refused_for : {T : Type 0} → (Comes : FileMap → Result T FileFault → Answer → Type 0) (what : What)
    (given : FileMap → Result T FileFault) (files : Option FileMap) (fault : FileFault) (found : Answer)
    → ((told : FileMap) → found ≡ answer.Refused (file_reason what fault) → Comes told (Err fault) found)
    → IfSome files (λ files. Err fault ≡ given files) → found ≡ answer.Refused (file_reason what fault)
    → FilesComeTo (λ told. Comes told (given told)) files found
refused_for {T = T} Comes what given files fault found hands gives is = λ told same.
    inr (subst (λ (r : Result T FileFault). Comes told r found) (told_given given files (Err fault) told gives same)
    (hands told is))

refused_on : {T : Type 0} → (Comes : FileMap → Result T FileFault → Answer → Type 0) (what : What)
    (given : FileMap → Result T FileFault) (files : Option FileMap) (fault : FileFault) (found : Answer)
    → ((told : FileMap) → found ≡ answer.Refused (file_reason what fault) → Comes told (Err fault) found)
    → Gives files given (Err fault) → RefusesFile what fault found → FilesComeTo (λ told. Comes told (given told)) files found
refused_on Comes what given files file.Lost found hands gives refuses = λ told same. inl refuses.1
refused_on Comes what given files file.OutOfMemory found hands gives refuses = absurd (refuses.0 refl)
refused_on Comes what given files file.Absent found hands gives refuses =
    refused_for Comes what given files file.Absent found hands (gives tt) refuses.1
refused_on Comes what given files (file.TooLarge limit) found hands gives refuses =
    refused_for Comes what given files (file.TooLarge limit) found hands (gives tt) refuses.1

pub refused_comes : {T E : Type 0} → (Comes : FileMap → Result T FileFault → Answer → Type 0) (what : What)
    (given : FileMap → Result T FileFault) (files : Option FileMap) (fault : FileFault) (result : Result Answer E)
    → ((told : FileMap) (found : Answer) → found ≡ answer.Refused (file_reason what fault) → Comes told (Err fault) found)
    → Gives files given (Err fault) → IfOk result (RefusesFile what fault)
    → IfOk result (FilesComeTo (λ told. Comes told (given told)) files)
refused_comes Comes what given files fault result hands gives refuses =
    IfOk-weaker result (RefusesFile what fault) (FilesComeTo (λ told. Comes told (given told)) files)
    (λ found. refused_on Comes what given files fault found (λ told. hands told found) gives) refuses

-- whom a fault of files blames does not hang on what they would have given
pub blames_alike : (A B : Type 0) (fault : FileFault) → blames_files {T = A} (Err fault) ≡ blames_files {T = B} (Err fault)
blames_alike A B file.Lost = refl
blames_alike A B file.Absent = refl
blames_alike A B (file.TooLarge limit) = refl
blames_alike A B file.OutOfMemory = refl

-- ---- messages

-- the reading of a DHCP message was handed on, and the answer is what it says
pub dhcp_comes : {E : Type 0} → (Comes : Answer → Type 0) (GivesThese : List Target → Type 0) (Is : DhcpKind → ℕ → Type 0)
    (read : Result (List Target) DhcpFault) (result : Result Answer E)
    → ((targets : List Target) → GivesThese targets → Comes (answer.Listed targets))
    → ((kind : DhcpKind) (place : ℕ) → Is kind place → Comes (answer.Refused (reason.BadOption place)))
    → IfOk read GivesThese → IfErr read (IsFault Is) → IfOk result (IsDhcpAnswer read) → IfOk result Comes
dhcp_comes Comes GivesThese Is (Ok targets) result lists refuses gives refused handed =
    IfOk-weaker result (IsDhcpAnswer (Ok targets)) Comes
    (λ found is. subst Comes (sym is) (lists targets gives)) handed
dhcp_comes Comes GivesThese Is (Err (dhcp.Bad kind place)) result lists refuses gives refused handed =
    IfOk-weaker result (IsDhcpAnswer (Err (dhcp.Bad kind place))) Comes
    (λ found is. subst Comes (sym is) (refuses kind place (refused kind place refl))) handed
dhcp_comes Comes GivesThese Is (Err dhcp.OutOfMemory) result lists refuses gives refused handed =
    IfOk-weaker result (IsDhcpAnswer (Err dhcp.OutOfMemory)) Comes (λ found is. absurd is) handed

-- ---- evidence

-- what evidence was judged as, which is this
pub judged_as : (search : Search) (evidence : Evidence) (judged this : Result Judged Reason) (found : Answer) → judged ≡ this
    → Judgement search.identity search.when evidence judged → found ≡ judged_answer evidence this
    → IsJudged search evidence found
judged_as search evidence judged this found same judgement is = (
  this,
  subst (λ (j : Result Judged Reason). Judgement search.identity search.when evidence j) same judgement,
  is,
)

-- why evidence was refused
pub refused_as : (identity : Identity) (when : Moment) (evidence : Evidence) (refusal : Refusal) (found : Reason)
    → refusal ≡ refusals.Reason found → IsReason (λ reason. Judgement identity when evidence (Err reason)) refusal
    → Judgement identity when evidence (Err found)
refused_as identity when evidence refusal found same refused =
    subst (IsReason (λ reason. Judgement identity when evidence (Err reason))) same refused

-- ---- a server

-- the one exchange that was added gives the answer
asked_once : (search : Search) (target : Target) (replied : Result Evidence ServerFault) (found : Answer)
    (a b : Option Traffic) → WhereTold (AddsOne (λ exchange. HearsReply target (request_of search target) exchange replied)) a b
    → ServerComesTo search replied found → WhereTold (AsksOnce search target found) a b
asked_once search target replied found a b heard comes =
    told_weaker (AddsOne (λ exchange. HearsReply target (request_of search target) exchange replied))
    (AsksOnce search target found) a b (λ x y h. (h.0, h.1, (replied, h.2, comes))) heard

pub evidence_comes : {E : Type 0} → (identity : Identity) (when : Moment) (target : Target) (evidence : Evidence)
    (result : Result Answer E) (a b : Option Traffic) (told : FileMap)
    → Ran target (request_of (search_of identity when told) target) (Ok evidence) a b
    → IfOk result (IsJudged (search_of identity when told) evidence)
    → IfOk result (λ found. WhereTold (AsksOnce (search_of identity when told) target found) a b)
evidence_comes identity when target evidence result a b told ran judged =
    IfOk-weaker result (IsJudged (search_of identity when told) evidence)
    (λ found. WhereTold (AsksOnce (search_of identity when told) target found) a b)
    (λ found is. asked_once (search_of identity when told) target (Ok evidence) found a b ran is) judged

pub fault_comes : {E : Type 0} → (identity : Identity) (when : Moment) (target : Target) (fault : ServerFault)
    (result : Result Answer E) (a b : Option Traffic) (told : FileMap)
    → Ran target (request_of (search_of identity when told) target) (Err fault) a b
    → IfOk result (RefusesServer fault)
    → IfOk result (λ found. WhereTold (AsksOnce (search_of identity when told) target found) a b)
fault_comes identity when target fault result a b told ran refuses =
    IfOk-weaker result (RefusesServer fault)
    (λ found. WhereTold (AsksOnce (search_of identity when told) target found) a b)
    (λ found is. asked_once (search_of identity when told) target (Err fault) found a b
    (ran_heard target (request_of (search_of identity when told) target) (Err fault) a b (λ same. is.0 cc) ran) is.1)
    refuses

-- ---- the visit

pub storage_came : {E : Type 0} → (identity : Identity) (when : Moment) (from : Source) (visited : Item) (path : List ℕ)
    (files : Option FileMap) (traffic : Option Traffic) (result : Result Answer E) → visited ≡ item.Folder path
    → IfOk result (FilesComeTo (λ told. StorageComesTo (search_of identity when told)
    (storage_of told path identity.serial)) files)
    → IfOk result (CameTo identity when from visited files traffic traffic)
storage_came identity when from visited path files traffic result is comes =
    subst (λ (i : Item). IfOk result (CameTo identity when from i files traffic traffic)) (sym is)
    (IfOk-weaker result (FilesComeTo (λ told. StorageComesTo (search_of identity when told)
    (storage_of told path identity.serial)) files) (CameTo identity when from (item.Folder path) files traffic traffic)
    (λ found came told same. told_same _ traffic
    (λ x. ([], record { adds = Adds-refl x; idle = λ idle. idle }, (refl, came told same)))) comes)

pub file_came : {E : Type 0} → (identity : Identity) (when : Moment) (from : Source) (visited : Item) (path : List ℕ)
    (files : Option FileMap) (traffic : Option Traffic) (result : Result Answer E) → visited ≡ item.File path
    → IfOk result (FilesComeTo (λ told. FileComesTo from (message_of (bytes_at told path))) files)
    → IfOk result (CameTo identity when from visited files traffic traffic)
file_came identity when from visited path files traffic result is comes =
    subst (λ (i : Item). IfOk result (CameTo identity when from i files traffic traffic)) (sym is)
    (IfOk-weaker result (FilesComeTo (λ told. FileComesTo from (message_of (bytes_at told path))) files)
    (CameTo identity when from (item.File path) files traffic traffic)
    (λ found came told same. told_same _ traffic
    (λ x. ([], record { adds = Adds-refl x; idle = λ idle. idle }, (refl, came told same)))) comes)

server_asked : (identity : Identity) (when : Moment) (from : Source) (target : Target) (files : Option FileMap)
    (a b : Option Traffic) (found : Answer)
    → ((told : FileMap) → WhereTold (AsksOnce (search_of identity when told) target found) a b)
    → CameTo identity when from (item.At target) files a b found
server_asked identity when from target files a b found asks = λ told same.
    told_weaker (AsksOnce (search_of identity when told) target found) _ a b
    (λ x y h. (h.0 ∷ [], record { adds = h.1.adds; idle = λ idle. h.1.idle }, (h.0, h.2.0, refl, h.2.1, h.2.2)))
    (asks told)

pub server_came : {E : Type 0} → (identity : Identity) (when : Moment) (from : Source) (visited : Item) (target : Target)
    (files : Option FileMap) (a b : Option Traffic) (result : Result Answer E) → visited ≡ item.At target
    → ((told : FileMap) → IfOk result (λ found. WhereTold (AsksOnce (search_of identity when told) target found) a b))
    → IfOk result (CameTo identity when from visited files a b)
server_came identity when from visited target files a b (Ok found) is asks =
    subst (λ (i : Item). CameTo identity when from i files a b found) (sym is)
    (server_asked identity when from target files a b found asks)
server_came identity when from visited target files a b (Err fault) is asks = tt
