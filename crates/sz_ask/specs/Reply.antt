-- What the bytes of a server's reply tell: the evidence in it, or why it gives none.
use Rattle.std.specs.Prelude.{◌≡◌, ◌⊎◌, ℕ, Bool, List}
use Rattle.sz_base.specs.declared.evidence.Evidence.{Evidence}
use Rattle.sz_http.specs.Parts.{Parts}
use Rattle.sz_http.specs.declared.fault.HttpFault.{HttpFault}
use Rattle.sz_http.specs.declared.fault.HttpFault.TheVariants as http
use Rattle.sz_http.specs.declared.side.Side.TheVariants as side
use Rattle.sz_http.specs.Message.{BeginsWith}
use Rattle.sz_http.specs.Verdict.{done_with, refused, Verdict}
use Rattle.sz_rest.specs.Reply.{FitsLimits, IsReplyFault, ReplyOf}
use Rattle.sz_rest.specs.declared.fault.RestFault.{RestFault}
use Rattle.sz_rest.specs.declared.fault.RestFault.TheVariants as rest
use Rattle.sz_ask.specs.Limits.{most_reply_bytes}
use Rattle.sz_ask.specs.declared.fault.ServerFault.{ServerFault}
use Rattle.sz_ask.specs.declared.fault.ServerFault.TheVariants as server

abbrev pub of_http : HttpFault → ServerFault
of_http http.BadHead = server.BadHttp
of_http http.BadChunk = server.BadHttp
of_http (http.TooLarge limit) = server.TooLarge limit
of_http http.Coding = server.Coding
of_http http.EndedEarly = server.EndedEarly

abbrev pub of_rest : RestFault → ServerFault
of_rest (rest.Status code) = server.Status code
of_rest (rest.Member name) = server.Member name
of_rest (rest.TooLarge limit) = server.TooLarge limit
of_rest rest.OutOfMemory = server.OutOfMemory

-- the bytes begin with a head of this status
abbrev pub HasStatus : List ℕ → ℕ → Type 0
HasStatus bytes status =
    (head : Parts) × (behind : List ℕ) × BeginsWith side.Reply bytes head behind × (head.status ≡ status)

-- the bytes, behind which the server closed the connection or not, are a reply with this status and this body, and
-- maybe more
pub record HasReply (bytes : List ℕ) (closed : Bool) (status : ℕ) (body : List ℕ) : Type 0 where
  pub status_is : HasStatus bytes status
  pub whole : (head : Parts) × (used : ℕ)
      × Verdict side.Reply most_reply_bytes bytes closed (done_with head body used)

-- they are a reply with this evidence
abbrev pub TellsEvidence : List ℕ → Bool → Evidence → Type 0
TellsEvidence bytes closed evidence =
    (body : List ℕ) × HasReply bytes closed 200 body × ReplyOf body evidence × FitsLimits evidence

-- no message has such bytes at its front
abbrev pub IsNoMessage : List ℕ → Bool → ServerFault → Type 0
IsNoMessage bytes closed fault = (cause : HttpFault)
    × Verdict side.Reply most_reply_bytes bytes closed (refused cause) × (fault ≡ of_http cause)

-- they are a reply with this fault
abbrev pub IsReplyWith : List ℕ → Bool → ServerFault → Type 0
IsReplyWith bytes closed fault = (status : ℕ) × (body : List ℕ) × (cause : RestFault)
    × HasReply bytes closed status body × IsReplyFault status body cause × (fault ≡ of_rest cause)

-- they tell this fault; want of memory is told by no bytes
abbrev pub TellsFault : List ℕ → Bool → ServerFault → Type 0
TellsFault bytes closed server.Lost = ⊥
TellsFault bytes closed server.OutOfMemory = Unit {0}
TellsFault bytes closed fault = IsNoMessage bytes closed fault ⊎ IsReplyWith bytes closed fault
