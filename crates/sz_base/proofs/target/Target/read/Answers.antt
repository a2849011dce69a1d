use Rattle.std.proofs.Common.{refl}
use Rattle.std.proofs.lemmas.List.{take_rest}
use Rattle.std.proofs.lemmas.Result.{err_from_is_err_and}
use Rattle.sz_base.proofs.Splits.{made_target, no_target, refused_with_host, target_port}
use Rattle.sz_base.proofs.target.Target.read.Goals as goal

-- without a colon
pub returns-in_default : goal.returns-in_default
returns-in_default c = record {
  reads = record {
    ok = tt;
    refused = (λ _ target h. no_target c.args.text.now c.in_default.ensures.none target h, λ _. refl);
  };
}

-- without a port behind it
pub returns-in_default-port : goal.returns-in_default-port
returns-in_default-port c = record {
  reads = record {
    ok = tt;
    refused = (
      λ _ target h.
          c.in_default-port.ensures.none.0 refl target.port
          (rw take_rest (target_port c.args.text.now c.in-Some.at c.in-Some.ensures.some target h)),
      λ _. refl,
    );
  };
}

-- with no host before it
pub returns-in_err-host : goal.returns-in_err-host
returns-in_err-host c =
    let p = err_from_is_err_and c.from_residual.result c.from_residual.ensures.1 in
    let refused = c.in_err-host.ensures.reads.refused in
    record {
      reads = rw (p.1, p.2) (record {
        ok = tt;
        refused = refused_with_host c.args.text.now c.in-Some.at c.in-Some-port.port c.in-Some.ensures.some
            (rw take_rest at c.in-Some-port.ensures.some) c.in_err-host.field-0.0 refused;
      });
    }

pub returns : goal.returns
returns c =
    let host = c.in_ok-host.ensures.reads in
    let made = made_target c.args.text.now c.in-Some.at c.in-Some-port.port c.in-Some.ensures.some host.form
    (rw take_rest at c.in-Some-port.ensures.some) in
    record { reads = record { ok = rw host.ok made; refused = (λ e. cc e, λ none. absurd (none _ made)) } }
