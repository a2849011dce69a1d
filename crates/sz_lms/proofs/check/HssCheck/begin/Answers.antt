use Rattle.std.proofs.Common.{◌∙◌, ap, sym}
use Rattle.std.proofs.lemmas.List.{append-nil}
use Rattle.std.proofs.lemmas.Result.{err_from_is_err_and}
use Rattle.sz_lms.specs.Parts.{rules_before_message, signed_head}
use Rattle.sz_lms.specs.Rules.{first_failing, root_rules}
use Rattle.sz_lms.proofs.Levels.{before-fails}
use Rattle.sz_lms.proofs.RuleLists.{front-passes}
use Rattle.sz_lms.proofs.check.HssCheck.begin.Goals as goal

pub returns-in_err-last-clause-err : goal.returns-in_err-last-clause-err
returns-in_err-last-clause-err c =
    let p = err_from_is_err_and c.from_residual.result c.from_residual.ensures.1 in
    rw (p.1, p.2) (λ message. before-fails c.args.public.now message c.args.signature.now _ (sym c.in_err-last.ensures.first))

pub returns-clause-ok : goal.returns-clause-ok
returns-clause-ok c =
    let last = c.in_ok-last.last in
    record {
      left = λ whole.
          ap first_failing (c.in_ok-last.ensures.left whole)
          ∙ front-passes (rules_before_message c.args.public.now c.args.signature.now) (root_rules last.key.now whole last.bytes.now)
          (sym c.in_ok-last.ensures.first);
      holds = rw (append-nil (signed_head last.key.now last.bytes.now)) c.message_hasher-hasher.ensures;
    }
