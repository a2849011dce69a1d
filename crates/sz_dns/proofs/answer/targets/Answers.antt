use Rattle.std.proofs.Common.{◌≡◌, ◌∙◌, refl, inr, arith}
use Rattle.std.proofs.lemmas.Result.{err_from_is_err_and}
use Rattle.sz_dns.specs.Answer.{answer_count, in_header, IsFault, question_count}
use Rattle.sz_dns.specs.declared.fault.DnsFault.TheVariants.{Bad}
use Rattle.sz_dns.specs.declared.fault.DnsKind.TheVariants.{Short}
use Rattle.sz_dns.proofs.Fields.{header_is, question_fault, record_fault}
use Rattle.sz_dns.proofs.Splits.{number_in}
use Rattle.sz_dns.proofs.Told.{told}
use Rattle.sz_dns.proofs.answer.targets.Goals as goal

pub returns-in_default-clause-refused : goal.returns-in_default-clause-refused
returns-in_default-clause-refused c =
    told (IsFault c.args.answer.now c.args.domain.now) (Bad Short 0) Short 0 refl (in_header c.in_default.ensures.cases)

pub returns-in_err-records-clause-refused : goal.returns-in_err-records-clause-refused
returns-in_err-records-clause-refused c =
    let split = c.in-Some.ensures.cases in
    let header = header_is c.args.answer.now c.in-Some.header.now split.0 split.1 c.if-header-ne0.false in
    let questions : c.number.result ≡ question_count c.args.answer.now =
    c.number.ensures ∙ number_in c.args.answer.now c.in-Some.header.now 12 4 split.1 (omega arith) in
    let p = err_from_is_err_and c.from_residual.result c.from_residual.ensures.1 in
    rw (p.1, p.2)
    (λ kind place e.
    let found = c.in_err-records.ensures.refused kind place e in
    question_fault c.args.answer.now c.args.domain.now c.in-Some.body.now found.1 found.0 c.number.result kind place header split.2
    questions found.2 found.3 found.4 found.5)

pub returns-in_err-candidates-clause-refused : goal.returns-in_err-candidates-clause-refused
returns-in_err-candidates-clause-refused c =
    let split = c.in-Some.ensures.cases in
    let header = header_is c.args.answer.now c.in-Some.header.now split.0 split.1 c.if-header-ne0.false in
    let questions : c.number.result ≡ question_count c.args.answer.now =
    c.number.ensures ∙ number_in c.args.answer.now c.in-Some.header.now 12 4 split.1 (omega arith) in
    let answers : c.number-2.result ≡ answer_count c.args.answer.now =
    c.number-2.ensures ∙ number_in c.args.answer.now c.in-Some.header.now 12 6 split.1 (omega arith) in
    let p = err_from_is_err_and c.from_residual-in_err-candidates.result c.from_residual-in_err-candidates.ensures.1 in
    rw (p.1, p.2)
    (λ kind place e.
    let found = c.in_err-candidates.ensures.refused kind place e in
    record_fault c.args.answer.now c.args.domain.now c.in-Some.body.now c.in_ok-records.records.now found.2 found.0 c.number-2.result
    c.number.result found.1 kind place header split.2 questions c.in_ok-records.ensures.ok answers found.3 found.4 found.5)

pub returns-clause-ok : goal.returns-clause-ok
returns-clause-ok c =
    let split = c.in-Some.ensures.cases in
    let header = header_is c.args.answer.now c.in-Some.header.now split.0 split.1 c.if-header-ne0.false in
    let questions : c.number.result ≡ question_count c.args.answer.now =
    c.number.ensures ∙ number_in c.args.answer.now c.in-Some.header.now 12 4 split.1 (omega arith) in
    let answers : c.number-2.result ≡ answer_count c.args.answer.now =
    c.number-2.ensures ∙ number_in c.args.answer.now c.in-Some.header.now 12 6 split.1 (omega arith) in
    let read = rw (split.2, questions) at c.in_ok-records.ensures.ok in
    let records = c.in_ok-candidates.ensures.ok in
    let given = rw answers at records.1 in
    let order = c.in_ok-by_priority.ensures in
    inr (record {
      header = header;
      middle = c.in_ok-records.records.now;
      rest = records.0;
      candidates = c.in_ok-candidates.candidates;
      ordered = order.0;
      questions = read;
      records = given;
      order = order.1;
      taken = order.2;
    })
