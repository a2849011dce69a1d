use Rattle.std.proofs.Common.{sym, ◌∙◌, arith}
use Rattle.sz_cms.specs.View.{covered_bytes}
use Rattle.sz_chain.proofs.Verified.{not_wanted, verified_all, verified_in, verified_out}
use Rattle.sz_chain.proofs.verify.verifying.Goals as goal
use Rattle.sz_chain.proofs.verify.verifying.Goals.{then-has+then-valid, then-has+else-valid, else-has}

pub loop-at-preserved : goal.loop-at-preserved
loop-at-preserved c =
    let bytes = covered_bytes c.args.covered.now in
    elim c.if-has.branch [
      | then-has+then-valid w ↦
          verified_in c.args.places.now c.args.wanted bytes c.args.signature.now c.loop-at.at c.loop-at-test.true c.loop-at.verified c.if-has.verified
          c.loop-at.invariant w.with-verified.result w.verifies_once-valid.result (sym c.has.ensures ∙ w.if-has.true) w.verifies_once-valid.ensures
          w.if-valid.true w.with-verified.ensures w.verified-is
      | then-has+else-valid w ↦
          verified_out c.args.places.now c.args.wanted bytes c.args.signature.now c.loop-at.at c.loop-at-test.true c.loop-at.verified c.if-has.verified
          c.loop-at.invariant w.verifies_once-valid.result w.verifies_once-valid.ensures w.if-valid.false w.verified-is
      | else-has w ↦
          not_wanted c.args.places.now c.args.wanted bytes c.args.signature.now c.loop-at.at c.loop-at-test.true c.loop-at.verified c.if-has.verified
          c.loop-at.invariant (sym c.has.ensures ∙ w.if-has.false) w.verified-is
    ]

pub returns : goal.returns
returns c =
    verified_all c.args.places.now c.args.wanted (covered_bytes c.args.covered.now) c.args.signature.now c.loop-at.at c.loop-at.verified (omega arith)
    c.loop-at.invariant
