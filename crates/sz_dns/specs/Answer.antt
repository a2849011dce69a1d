-- What a DNS message says of the bootstrap servers of a domain, and why it is refused (RFC 1035 section 4.1).
use Rattle.std.specs.Prelude.{◌≡◌, ◌≢◌, ℕ, zero, suc, ◌-◌, ◌%◌, ◌<◌, ◌≤◌, ◌⊎◌, true, List, [], ◌++◌, length, drop, map, slice_index}
use Rattle.sz_base.specs.declared.target.Target.{Target}
use Rattle.sz_dns.specs.Order.{AreByPriority}
use Rattle.sz_dns.specs.Record.{IsQuestion, IsQuestionFault, IsRecord, IsRecordFault, number_at, Record}
use Rattle.sz_dns.specs.Service.{counts, GivesCandidates, IsServiceFault, service_name}
use Rattle.sz_dns.specs.Limits.{header_bytes}
use Rattle.sz_dns.specs.declared.fault.DnsKind.{DnsKind}
use Rattle.sz_dns.specs.declared.fault.DnsKind.TheVariants.{Short}
use Rattle.sz_dns.specs.declared.service.Candidate.{Candidate}

-- The header has twelve bytes (section 4.1.1). Its response code is in the low four bits of the fourth, and the numbers
-- of questions and of answer records stand at 4 and 6.
abbrev pub response_code : List ℕ → ℕ
response_code message = slice_index message 3 % 16

abbrev pub question_count : List ℕ → ℕ
question_count message = number_at message 4

abbrev pub answer_count : List ℕ → ℕ
answer_count message = number_at message 6

-- so many questions at the front of the bytes, and what comes after them
abbrev pub AreQuestions : List ℕ → ℕ → List ℕ → List ℕ → Type 0
AreQuestions message zero bytes rest = bytes ≡ rest
AreQuestions message (suc count) bytes rest =
    (after : List ℕ) × IsQuestion message bytes after × AreQuestions message count after rest

-- so many records at the front of the bytes, the candidates that they give in order, and what comes after them
abbrev pub AreRecords : List ℕ → List ℕ → ℕ → List ℕ → List Candidate → List ℕ → Type 0
AreRecords message name zero bytes candidates rest = (candidates ≡ []) × (bytes ≡ rest)
AreRecords message name (suc count) bytes candidates rest =
    (item : Record) × (own : List Candidate) × (others : List Candidate) × (after : List ℕ)
    × IsRecord message bytes item after × GivesCandidates message name item own
    × (candidates ≡ own ++ others) × AreRecords message name count after others rest

-- the message has a whole header without an error
pub record IsWithoutError (message : List ℕ) : Type 0 where
  pub long : header_bytes ≤ length message
  pub code : response_code message ≡ 0

-- the questions and the answer records are read, and the records give these targets by priority
pub record GivesByPriority (message domain : List ℕ) (targets : List Target) : Type 0 where
  pub header : IsWithoutError message
  pub middle : List ℕ
  pub rest : List ℕ
  pub candidates : List Candidate
  pub ordered : List Candidate
  pub questions : AreQuestions message (question_count message) (drop header_bytes message) middle
  pub records : AreRecords message (service_name domain) (answer_count message) middle candidates rest
  pub order : AreByPriority candidates ordered
  pub taken : targets ≡ map (λ candidate. candidate.target) ordered

-- an answer with an error gives nothing, whatever follows its header
pub record GivesNothing (message : List ℕ) (targets : List Target) : Type 0 where
  pub long : header_bytes ≤ length message
  pub error : response_code message ≢ 0
  pub none : targets ≡ []

-- the message gives these targets for the domain
abbrev pub Gives : List ℕ → List ℕ → List Target → Type 0
Gives message domain targets = GivesNothing message targets ⊎ GivesByPriority message domain targets

-- ---- the first fault

-- why the record at the front of the bytes is not read, or is one that counts and no service; with its place
pub data IsItemFault (message name bytes : List ℕ) : DnsKind → ℕ → Type 0 where
  in_fields : {kind : DnsKind} → IsRecordFault message bytes kind
      → IsItemFault message name bytes kind (length message - length bytes)
  in_service : {item : Record} {rest : List ℕ} {kind : DnsKind} {place : ℕ} → IsRecord message bytes item rest
      → counts name item ≡ true
      → IsServiceFault message item.contents (length message - length bytes)
      (length message - length rest - length item.contents) kind place
      → IsItemFault message name bytes kind place

-- The rules in their order: the header, the questions from the front, the answer records from the front.
pub data IsFault (message domain : List ℕ) : DnsKind → ℕ → Type 0 where
  in_header : length message < header_bytes → IsFault message domain Short 0
  in_question : (count : ℕ) (bytes : List ℕ) {kind : DnsKind} → IsWithoutError message
      → count < question_count message → AreQuestions message count (drop header_bytes message) bytes
      → IsQuestionFault message bytes kind → IsFault message domain kind (length message - length bytes)
  in_record : (count : ℕ) (middle bytes : List ℕ) (candidates : List Candidate) {kind : DnsKind} {place : ℕ}
      → IsWithoutError message → AreQuestions message (question_count message) (drop header_bytes message) middle
      → count < answer_count message → AreRecords message (service_name domain) count middle candidates bytes
      → IsItemFault message (service_name domain) bytes kind place → IsFault message domain kind place
