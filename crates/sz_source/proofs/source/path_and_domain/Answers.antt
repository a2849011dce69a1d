use Rattle.std.proofs.Common.{ℕ, List}
use Rattle.std.proofs.lemmas.Result.{err_from_is_err_and}
use Rattle.sz_source.proofs.Words.{is_read, memory_ran_out}
use Rattle.sz_source.specs.Source.{IsAnswerFor}
use Rattle.sz_source.proofs.source.path_and_domain.Goals as goal

pub returns-in_err-path : goal.returns-in_err-path
returns-in_err-path c =
    let p = err_from_is_err_and c.from_residual.result c.from_residual.ensures.1 in
    record {
      reads = rw (p.1, p.2) (memory_ran_out
          (λ (parts : List ℕ × List ℕ). IsAnswerFor c.args.text.now parts.0 parts.1)
          (c.in-Some.path.now, c.in-Some.domain.now) c.in-Some.ensures.some);
    }

pub returns-in_err-domain : goal.returns-in_err-domain
returns-in_err-domain c =
    let p =
    err_from_is_err_and c.from_residual-in_err-domain.result c.from_residual-in_err-domain.ensures.1 in
    record {
      reads = rw (p.1, p.2) (memory_ran_out
          (λ (parts : List ℕ × List ℕ). IsAnswerFor c.args.text.now parts.0 parts.1)
          (c.in-Some.path.now, c.in-Some.domain.now) c.in-Some.ensures.some);
    }

pub returns : goal.returns
returns c = record {
  reads = is_read (λ (parts : List ℕ × List ℕ). IsAnswerFor c.args.text.now parts.0 parts.1)
      (c.in_ok-path.path, c.in_ok-domain.domain)
      (rw (c.in_ok-path.ensures, c.in_ok-domain.ensures) c.in-Some.ensures.some);
}
