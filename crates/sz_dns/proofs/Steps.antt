-- One question more, and one record more.
use Rattle.std.proofs.Common.{◌≡◌, ℕ, zero, suc, ◌+◌, List, [], ◌++◌, refl, sym, ap, ◌∙◌, append_assoc, arith}
use Rattle.std.proofs.lemmas.List.{append-nil}
use Rattle.sz_dns.specs.Answer.{AreQuestions, AreRecords}
use Rattle.sz_dns.specs.Record.{IsQuestion, IsRecord, Record}
use Rattle.sz_dns.specs.Service.{GivesCandidates}
use Rattle.sz_dns.specs.declared.service.Candidate.{Candidate}

one_more : (message : List ℕ) (count : ℕ) (bytes left rest : List ℕ) → AreQuestions message count bytes left
    → IsQuestion message left rest → AreQuestions message (suc count) bytes rest
one_more message zero bytes left rest none is = let here = rw (← none) at is in (rest, here, refl)
one_more message (suc count) bytes left rest read is = (read.0, read.1, one_more message count read.0 left rest read.2 is)

pub question_more : (message : List ℕ) (count : ℕ) (bytes left rest : List ℕ) → AreQuestions message count bytes left
    → IsQuestion message left rest → AreQuestions message (count + 1) bytes rest
question_more message count bytes left rest read is =
    let same : count + 1 ≡ suc count = omega arith in rw same (one_more message count bytes left rest read is)

another : (message name : List ℕ) (count : ℕ) (bytes left rest : List ℕ) (candidates own : List Candidate) (item : Record)
    → AreRecords message name count bytes candidates left → IsRecord message left item rest → GivesCandidates message name item own
    → AreRecords message name (suc count) bytes (candidates ++ own) rest
another message name zero bytes left rest candidates own item none is gives =
    let here = rw (← none.1) at is in
    (item, own, [], rest, here, gives, ap (λ (xs : List Candidate). xs ++ own) none.0 ∙ sym (append-nil own), (refl, refl))
another message name (suc count) bytes left rest candidates own item (first, firsts, others, after, read, given, joined, records) is gives = (
  first,
  firsts,
  others ++ own,
  after,
  read,
  given,
  ap (λ (xs : List Candidate). xs ++ own) joined ∙ append_assoc firsts others own,
  another message name count after left rest others own item records is gives,
)

pub record_more : (message name : List ℕ) (count : ℕ) (bytes left rest : List ℕ) (candidates new own : List Candidate) (item : Record)
    → AreRecords message name count bytes candidates left → IsRecord message left item rest → GivesCandidates message name item own
    → new ≡ candidates ++ own → AreRecords message name (count + 1) bytes new rest
record_more message name count bytes left rest candidates new own item read is gives put =
    let same : count + 1 ≡ suc count = omega arith in
    rw (same, put) (another message name count bytes left rest candidates own item read is gives)
