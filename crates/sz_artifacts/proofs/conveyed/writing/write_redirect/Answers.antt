use Rattle.std.proofs.Common.{arith}
use Rattle.std.proofs.lemmas.Result.{IfOk-weaker}
use Rattle.sz_artifacts.proofs.RedirectBack.{redirect_reads_back}
use Rattle.sz_artifacts.proofs.PlainInformation.{plain_redirect}
use Rattle.sz_artifacts.specs.WrittenInformation.{redirect_value}
use Rattle.sz_artifacts.proofs.conveyed.writing.write_redirect.Goals as goal

pub returns-clause-written : goal.returns-clause-written
returns-clause-written c =
    let plain = plain_redirect c.args.targets.now in
    let compact = rw c.in_ok-value.ensures at c.write.ensures.compact in
    IfOk-weaker c.write.result _ _ (λ bytes h. h plain.no_float) compact

pub returns-clause-reads_back : goal.returns-clause-reads_back
returns-clause-reads_back c =
    let targets = c.args.targets.now in
    let plain = plain_redirect targets in
    let again = rw c.in_ok-value.ensures at c.write.ensures.reads_back in
    IfOk-weaker c.write.result _ _
    (λ bytes h value is few. (
      redirect_value targets,
      record { bounded = few; json = h (omega (arith, plain.shallow)) },
      redirect_reads_back value targets is.1,
    ))
    again
