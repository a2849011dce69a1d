-- A message has one meaning or one fault.
use Rattle.std.proofs.Common.{◌≡◌, ℕ, zero, suc, ◌-◌, ◌<◌, inl, inr, List, ◌++◌, length, drop, map, refl, sym, ap, ◌∙◌, arith}
use Rattle.std.proofs.lemmas.Bool.{cases_order}
use Rattle.sz_base.specs.declared.target.Target.{Target}
use Rattle.sz_dns.specs.Answer.{answer_count, AreQuestions, AreRecords, Gives, in_fields, in_header, in_question, in_record, in_service, IsFault, IsItemFault, question_count}
use Rattle.sz_dns.specs.Record.{IsQuestion, IsQuestionFault, IsRecord, Record}
use Rattle.sz_dns.specs.Service.{GivesCandidates, service_name}
use Rattle.sz_dns.specs.Limits.{header_bytes}
use Rattle.sz_dns.specs.declared.fault.DnsKind.{DnsKind}
use Rattle.sz_dns.specs.declared.service.Candidate.{Candidate}
use Rattle.sz_dns.proofs.Orders.{one_order}
use Rattle.sz_dns.proofs.Parts.{given_or_fault, one_of_record, one_question, one_question_fault, one_record, one_record_fault, one_service_fault, question_or_fault, record_or_fault}

-- ---- questions

pub one_end : (message : List ℕ) (count : ℕ) (bytes rest more : List ℕ) → AreQuestions message count bytes rest
    → AreQuestions message count bytes more → rest ≡ more
one_end message zero bytes rest more a b = sym a ∙ b
one_end message (suc count) bytes rest more a b =
    let same = one_question message bytes a.0 b.0 a.1 b.1 in
    let first = rw same at a.2 in
    one_end message count b.0 rest more first b.2

-- of more questions than were read, one stands where they end
next_question : (message : List ℕ) (read count : ℕ) (bytes left rest : List ℕ) → read < count → AreQuestions message read bytes left
    → AreQuestions message count bytes rest → (after : List ℕ) × IsQuestion message left after
next_question message read zero bytes left rest few a b = absurd (omega arith)
next_question message zero (suc count) bytes left rest few a b =
    let first = rw a at b.1 in
    (b.0, first)
next_question message (suc read) (suc count) bytes left rest few a b =
    let same = one_question message bytes a.0 b.0 a.1 b.1 in
    let first = rw same at a.2 in
    next_question message read count b.0 left rest (omega arith) first b.2

questions_or_fault : (message : List ℕ) (read count : ℕ) (bytes left rest : List ℕ) (kind : DnsKind) → read < count
    → AreQuestions message read bytes left → AreQuestions message count bytes rest → IsQuestionFault message left kind → ⊥
questions_or_fault message read count bytes left rest kind few a b fault =
    let next = next_question message read count bytes left rest few a b in
    question_or_fault message left next.0 kind next.1 fault

-- the same kind at the same place
abbrev Same : DnsKind → DnsKind → ℕ → ℕ → Type 0
Same kind other place at = (kind ≡ other) × (place ≡ at)

same_question_fault : (message : List ℕ) (read : ℕ) (bytes left other : List ℕ) (kind second : DnsKind)
    → AreQuestions message read bytes left → AreQuestions message read bytes other → IsQuestionFault message left kind
    → IsQuestionFault message other second → Same kind second (length message - length left) (length message - length other)
same_question_fault message read bytes left other kind second a b fault wrong =
    let same = one_end message read bytes left other a b in
    let first = rw same at fault in
    (one_question_fault message other kind second first wrong, ap (λ (xs : List ℕ). length message - length xs) same)

one_in_questions : (message : List ℕ) (read second : ℕ) (bytes left other : List ℕ) (kind last : DnsKind)
    → AreQuestions message read bytes left → AreQuestions message second bytes other → IsQuestionFault message left kind
    → IsQuestionFault message other last → Same kind last (length message - length left) (length message - length other)
one_in_questions message read second bytes left other kind last a b fault wrong =
    elim (cases_order read second) [
      | inl same ↦ let first = rw same at a in same_question_fault message second bytes left other kind last first b fault wrong
      | inr (inl below) ↦ absurd (questions_or_fault message read second bytes left other kind below a b fault)
      | inr (inr above) ↦ absurd (questions_or_fault message second read bytes other left last above b a wrong)
    ]

-- ---- records

pub one_answer : (message name : List ℕ) (count : ℕ) (bytes rest more : List ℕ) (candidates others : List Candidate)
    → AreRecords message name count bytes candidates rest → AreRecords message name count bytes others more
    → (candidates ≡ others) × (rest ≡ more)
one_answer message name zero bytes rest more candidates others a b = (a.0 ∙ sym b.0, sym a.1 ∙ b.1)
one_answer message name (suc count) bytes rest more candidates others (item, own, tail, after, is, gives, joined, records)
    (other, second, behind, last, is_other, gives_other, joined_other, records_other) =
    let same = one_record message bytes after last item other is is_other in
    let gives_same = rw same.0 at gives in
    let firsts = one_of_record message name other own second gives_same gives_other in
    let records_same = rw same.1 at records in
    let tails = one_answer message name count last rest more tail behind records_same records_other in (
      joined ∙ ap (λ (xs : List Candidate). xs ++ tail) firsts ∙ ap (λ (xs : List Candidate). second ++ xs) tails.0 ∙ sym joined_other,
      tails.1,
    )

-- of more records than were read, one stands where they end, and gives its candidates
record IsNext (message name left : List ℕ) : Type 0 where
  item : Record
  own : List Candidate
  after : List ℕ
  is : IsRecord message left item after
  gives : GivesCandidates message name item own

next_record : (message name : List ℕ) (read count : ℕ) (bytes left rest : List ℕ) (candidates others : List Candidate) → read < count
    → AreRecords message name read bytes candidates left → AreRecords message name count bytes others rest
    → IsNext message name left
next_record message name read zero bytes left rest candidates others few a b = absurd (omega arith)
next_record message name zero (suc count) bytes left rest candidates others few a
    (item, own, tail, after, is, gives, joined, records) =
    let here = rw a.1 at is in
    record { item = item; own = own; after = after; is = here; gives = gives }
next_record message name (suc read) (suc count) bytes left rest candidates others few (item, own, tail, after, is, gives, joined, records)
    (other, second, behind, last, is_other, gives_other, joined_other, records_other) =
    let same = one_record message bytes after last item other is is_other in
    let records_same = rw same.1 at records in
    next_record message name read count last left rest tail behind (omega arith) records_same records_other

item_or_fault : (message name left : List ℕ) (kind : DnsKind) (place : ℕ) → IsNext message name left
    → IsItemFault message name left kind place → ⊥
item_or_fault message name left kind place next (in_fields fault) = record_or_fault message left next.after next.item kind next.is fault
item_or_fault message name left kind place next (in_service {item = item} {rest = rest} is counted fault) =
    let same = one_record message left next.after rest next.item item next.is is in
    let gives = rw same.0 at next.gives in
    given_or_fault message name item next.own _ _ kind place gives counted fault

records_or_fault : (message name : List ℕ) (read count : ℕ) (bytes left rest : List ℕ) (candidates others : List Candidate)
    (kind : DnsKind) (place : ℕ) → read < count → AreRecords message name read bytes candidates left
    → AreRecords message name count bytes others rest → IsItemFault message name left kind place → ⊥
records_or_fault message name read count bytes left rest candidates others kind place few a b fault =
    item_or_fault message name left kind place (next_record message name read count bytes left rest candidates others few a b) fault

one_item_fault : (message name left : List ℕ) (kind other : DnsKind) (place at : ℕ) → IsItemFault message name left kind place
    → IsItemFault message name left other at → Same kind other place at
one_item_fault message name left kind other place at (in_fields a) (in_fields b) = (one_record_fault message left kind other a b, refl)
one_item_fault message name left kind other place at (in_fields a) (in_service {item = item} {rest = rest} is counted b) =
    absurd (record_or_fault message left rest item kind is a)
one_item_fault message name left kind other place at (in_service {item = item} {rest = rest} is counted a) (in_fields b) =
    absurd (record_or_fault message left rest item other is b)
one_item_fault message name left kind other place at (in_service {item = item} {rest = rest} is counted a)
    (in_service {item = second} {rest = more} again twice b) =
    let same = one_record message left rest more item second is again in
    let first = rw (same.0, same.1) at a in
    one_service_fault message second.contents _ _ kind other place at first b

same_item_fault : (message name : List ℕ) (read : ℕ) (bytes left second : List ℕ) (candidates others : List Candidate)
    (kind other : DnsKind) (place at : ℕ) → AreRecords message name read bytes candidates left
    → AreRecords message name read bytes others second → IsItemFault message name left kind place
    → IsItemFault message name second other at → Same kind other place at
same_item_fault message name read bytes left second candidates others kind other place at a b fault wrong =
    let same = one_answer message name read bytes left second candidates others a b in
    let first = rw same.1 at fault in
    one_item_fault message name second kind other place at first wrong

one_in_records : (message name : List ℕ) (read further : ℕ) (bytes left second : List ℕ) (candidates others : List Candidate)
    (kind other : DnsKind) (place at : ℕ) → AreRecords message name read bytes candidates left
    → AreRecords message name further bytes others second → IsItemFault message name left kind place
    → IsItemFault message name second other at → Same kind other place at
one_in_records message name read further bytes left second candidates others kind other place at a b fault wrong =
    elim (cases_order read further) [
      | inl same ↦
          let first = rw same at a in
          same_item_fault message name further bytes left second candidates others kind other place at first b fault wrong
      | inr (inl below) ↦ absurd (records_or_fault message name read further bytes left second candidates others kind place below a b fault)
      | inr (inr above) ↦ absurd (records_or_fault message name further read bytes second left others candidates other at above b a wrong)
    ]

-- ---- messages

pub one_reading : (message domain : List ℕ) (targets others : List Target) → Gives message domain targets → Gives message domain others
    → targets ≡ others
one_reading message domain targets others (inl a) (inl b) = a.none ∙ sym b.none
one_reading message domain targets others (inl a) (inr b) = absurd (a.error b.header.code)
one_reading message domain targets others (inr a) (inl b) = absurd (b.error a.header.code)
one_reading message domain targets others (inr a) (inr b) =
    let middles = one_end message (question_count message) (drop header_bytes message) a.middle b.middle a.questions b.questions in
    let records = rw middles at a.records in
    let same = one_answer message (service_name domain) (answer_count message) b.middle a.rest b.rest a.candidates b.candidates records b.records in
    let order = rw same.0 at a.order in
    let orders = one_order b.candidates a.ordered b.ordered order b.order in
    a.taken ∙ ap (λ (xs : List Candidate). map (λ (candidate : Candidate). candidate.target) xs) orders ∙ sym b.taken

pub never_both : (message domain : List ℕ) (targets : List Target) (kind : DnsKind) (place : ℕ) → Gives message domain targets
    → IsFault message domain kind place → ⊥
never_both message domain targets kind place (inl a) (in_header short) = omega (arith, a.long)
never_both message domain targets kind place (inl a) (in_question read left header few questions fault) = a.error header.code
never_both message domain targets kind place (inl a) (in_record read middle left candidates header questions few records fault) = a.error header.code
never_both message domain targets kind place (inr a) (in_header short) = omega (arith, a.header.long)
never_both message domain targets kind place (inr a) (in_question read left header few questions fault) =
    questions_or_fault message read (question_count message) (drop header_bytes message) left a.middle kind few questions a.questions fault
never_both message domain targets kind place (inr a) (in_record read middle left candidates header questions few records fault) =
    let same = one_end message (question_count message) (drop header_bytes message) middle a.middle questions a.questions in
    let there = rw same at records in
    records_or_fault message (service_name domain) read (answer_count message) a.middle left a.rest candidates a.candidates kind place few there a.records fault

pub one_fault : (message domain : List ℕ) (kind other : DnsKind) (place at : ℕ) → IsFault message domain kind place
    → IsFault message domain other at → Same kind other place at
one_fault message domain kind other place at (in_header a) (in_header b) = (refl, refl)
one_fault message domain kind other place at (in_header a) (in_question read left header few questions fault) = absurd (omega (arith, header.long))
one_fault message domain kind other place at (in_header a) (in_record read middle left candidates header questions few records fault) =
    absurd (omega (arith, header.long))
one_fault message domain kind other place at (in_question read left header few questions fault) (in_header b) = absurd (omega (arith, header.long))
one_fault message domain kind other place at (in_question read left header few questions fault) (in_question second behind again less others wrong) =
    one_in_questions message read second (drop header_bytes message) left behind kind other questions others fault wrong
one_fault message domain kind other place at (in_question read left header few questions fault)
    (in_record further middle behind candidates again others less records wrong) =
    absurd (questions_or_fault message read (question_count message) (drop header_bytes message) left middle kind few questions others fault)
one_fault message domain kind other place at (in_record read middle left candidates header questions few records fault) (in_header b) =
    absurd (omega (arith, header.long))
one_fault message domain kind other place at (in_record further middle behind candidates header questions few records fault)
    (in_question read left again less others wrong) =
    absurd (questions_or_fault message read (question_count message) (drop header_bytes message) left middle other less others questions wrong)
one_fault message domain kind other place at (in_record read middle left candidates header questions few records fault)
    (in_record further between behind second again others less more wrong) =
    let same = one_end message (question_count message) (drop header_bytes message) middle between questions others in
    let there = rw same at records in
    one_in_records message (service_name domain) read further between left behind candidates second kind other place at there more fault wrong
