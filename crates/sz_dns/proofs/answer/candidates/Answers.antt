use Rattle.std.proofs.Common.{◌≡◌, ◌∙◌, arith}
use Rattle.std.proofs.lemmas.Result.{err_from_is_err_and}
use Rattle.sz_dns.specs.Answer.{in_fields, in_service}
use Rattle.sz_dns.specs.Record.{record_of}
use Rattle.sz_dns.specs.Service.{service_name}
use Rattle.sz_dns.proofs.Steps.{record_more}
use Rattle.sz_dns.proofs.answer.candidates.Goals as goal

pub returns-in_err-item-clause-refused : goal.returns-in_err-item-clause-refused
returns-in_err-item-clause-refused c =
    let p = err_from_is_err_and c.from_residual-in_err-item.result c.from_residual-in_err-item.ensures.1 in
    rw (p.1, p.2)
    (λ kind place e.
    let found = c.in_err-item.ensures.refused kind place e in
    let at = found.0 in (
      c.records.read,
      c.records.candidates,
      c.records.left.now,
      c.records-test.true,
      c.records.invariant.records,
      rw at (in_fields found.1),
    ))

pub returns-in_err-push_candidate-clause-refused : goal.returns-in_err-push_candidate-clause-refused
returns-in_err-push_candidate-clause-refused c =
    let p = err_from_is_err_and c.from_residual-in_err-push_candidate.result c.from_residual-in_err-push_candidate.ensures.1 in
    let named = c.as_slice.ensures ∙ c.in_ok-name.ensures in
    let refused = rw named at c.in_err-push_candidate.ensures.refused in
    rw (p.1, p.2)
    (λ kind place e.
    let found = refused kind place e in (
      c.records.read,
      c.records.candidates,
      c.records.left.now,
      c.records-test.true,
      c.records.invariant.records,
      in_service c.in_ok-item.ensures.ok found.0 found.1,
    ))

pub records-preserved : goal.records-preserved
records-preserved c =
    let named = c.as_slice.ensures ∙ c.in_ok-name.ensures in
    let own = c.in_ok-push_candidate.ensures.ok in
    let gives = rw named at own.1 in
    record {
      counted = omega arith;
      records = record_more c.args.message.now (service_name c.args.domain.now) c.records.read c.args.body.now c.records.left.now
          c.in_ok-item.item.rest.now c.records.candidates c.push_candidate.new.candidates own.0 (record_of c.in_ok-item.item)
          c.records.invariant.records c.in_ok-item.ensures.ok gives own.2;
      within = omega (arith, c.in_ok-item.ensures.shorter, c.records.invariant.within);
    }

pub returns-clause-ok : goal.returns-clause-ok
returns-clause-ok c =
    let counted = c.records.invariant.counted in
    let same : c.records.read ≡ c.args.count = omega arith in
    (c.records.left.now, rw (← same) c.records.invariant.records)
