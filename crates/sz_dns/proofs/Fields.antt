-- The fields of a record at the front of bytes, and the header of a message.
use Rattle.std.proofs.Common.{◌≡◌, ℕ, ◌-◌, ◌%◌, ◌<◌, ◌≤◌, List, ◌++◌, length, get_or, take, drop, refl, sym, ap, ◌∙◌, arith, length-drop}
use Rattle.std.proofs.lemmas.List.{get_or-take, length-take-le}
use Rattle.sz_dns.specs.Answer.{answer_count, AreQuestions, AreRecords, in_question, in_record, IsFault, IsItemFault, IsWithoutError, question_count}
use Rattle.sz_dns.specs.Record.{AreFields, IsQuestionFault, number_at, two_bytes}
use Rattle.sz_dns.specs.Service.{service_name}
use Rattle.sz_dns.specs.Limits.{header_bytes}
use Rattle.sz_dns.specs.declared.fault.DnsKind.{DnsKind}
use Rattle.sz_dns.specs.declared.service.Candidate.{Candidate}
use Rattle.sz_dns.proofs.Parts.{in_order}
use Rattle.sz_dns.proofs.Splits.{AreOctets, four_at, pair_at}

-- the four bytes of the time to live
time_in : List ℕ → List ℕ
time_in bytes = take 4 (drop 4 bytes)

time_size : (bytes : List ℕ) → 10 ≤ length bytes → length (time_in bytes) ≡ 4
unfolding time_in
time_size bytes long = length-take-le 4 (drop 4 bytes) (omega (arith, length-drop 4 bytes))

-- the ten bytes before the data, and the data
in_parts : (bytes tail : List ℕ) → 10 ≤ length bytes → AreOctets bytes → drop 10 bytes ≡ tail
    → bytes ≡ two_bytes (number_at bytes 0) ++ (two_bytes (number_at bytes 2) ++ (time_in bytes ++ (two_bytes (number_at bytes 8) ++ tail)))
unfolding time_in
in_parts bytes tail long octets behind =
    pair_at bytes 0 (omega arith) octets
    ∙ ap (λ (xs : List ℕ). two_bytes (number_at bytes 0) ++ xs) (pair_at bytes 2 (omega arith) octets)
    ∙ ap (λ (xs : List ℕ). two_bytes (number_at bytes 0) ++ (two_bytes (number_at bytes 2) ++ xs)) (four_at bytes 4 8 refl)
    ∙ ap (λ (xs : List ℕ). two_bytes (number_at bytes 0) ++ (two_bytes (number_at bytes 2) ++ (take 4 (drop 4 bytes) ++ xs)))
    (pair_at bytes 8 (omega arith) octets)
    ∙ ap (λ (xs : List ℕ). two_bytes (number_at bytes 0)
    ++ (two_bytes (number_at bytes 2) ++ (take 4 (drop 4 bytes) ++ (two_bytes (number_at bytes 8) ++ xs)))) behind

pub fields_at : (bytes contents rest : List ℕ) (kind class : ℕ) → AreOctets bytes → 10 ≤ length bytes
    → drop 10 bytes ≡ contents ++ rest → kind ≡ number_at bytes 0 → class ≡ number_at bytes 2 → length contents ≡ number_at bytes 8
    → (own : List ℕ) × AreFields kind class contents own × (bytes ≡ own ++ rest)
fields_at bytes contents rest kind class octets long behind kinds classes sizes =
    let own : List ℕ = two_bytes kind ++ two_bytes class ++ time_in bytes ++ two_bytes (length contents) ++ contents in
    let are : AreFields kind class contents own =
    record { time_to_live = time_in bytes; size = time_size bytes long; spelled = refl } in
    let whole = in_parts bytes (contents ++ rest) long octets behind in (
      own,
      are,
      whole
          ∙ ap (λ (n : ℕ). two_bytes n
          ++ (two_bytes (number_at bytes 2) ++ (time_in bytes ++ (two_bytes (number_at bytes 8) ++ (contents ++ rest))))) (sym kinds)
          ∙ ap (λ (n : ℕ). two_bytes kind ++ (two_bytes n ++ (time_in bytes ++ (two_bytes (number_at bytes 8) ++ (contents ++ rest))))) (sym classes)
          ∙ ap (λ (n : ℕ). two_bytes kind ++ (two_bytes class ++ (time_in bytes ++ (two_bytes n ++ (contents ++ rest))))) (sym sizes)
          ∙ sym (in_order kind class contents own rest are),
    )

-- a header without an error
pub header_is : (message header : List ℕ) → header_bytes ≤ length message → header ≡ take header_bytes message → get_or header 3 0 % 16 ≡ 0
    → IsWithoutError message
header_is message header long is code =
    let same : get_or header 3 0 ≡ get_or message 3 0 =
    ap (λ (xs : List ℕ). get_or xs 3 0) is ∙ get_or-take header_bytes message 3 0 (omega arith) in
    record { long = long; code = ap (λ (n : ℕ). n % 16) (sym same) ∙ code }

-- the fault of a question
pub question_fault : (message domain body left : List ℕ) (read count : ℕ) (kind : DnsKind) (place : ℕ) → IsWithoutError message
    → body ≡ drop header_bytes message → count ≡ question_count message → read < count → AreQuestions message read body left
    → IsQuestionFault message left kind → place ≡ length message - length left → IsFault message domain kind place
question_fault message domain body left read count kind place header is counted few questions fault at =
    let there = rw is at questions in
    rw at (in_question read left header (omega arith) there fault)

-- the fault of a record
pub record_fault : (message domain body middle left : List ℕ) (read count questions_read : ℕ) (candidates : List Candidate) (kind : DnsKind)
    (place : ℕ) → IsWithoutError message → body ≡ drop header_bytes message → questions_read ≡ question_count message
    → AreQuestions message questions_read body middle → count ≡ answer_count message → read < count
    → AreRecords message (service_name domain) read middle candidates left → IsItemFault message (service_name domain) left kind place
    → IsFault message domain kind place
record_fault message domain body middle left read count questions_read candidates kind place header is all questions counted few records fault =
    let there = rw (is, all) at questions in
    in_record read middle left candidates header there (omega arith) records fault
