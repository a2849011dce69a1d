use Rattle.std.proofs.Common.{refl, subst}
use Rattle.std.proofs.lemmas.Result.{err_from_is_err_and}
use Rattle.sz_record.specs.Stored.{IsStored}
use Rattle.sz_state.specs.Held.{IsRecordFault}
use Rattle.sz_state.proofs.Finding.{read_refused, record_refused}
use Rattle.sz_state.proofs.found.read_record.Goals as goal

pub returns-in-Ok-clause-found : goal.returns-in-Ok-clause-found
returns-in-Ok-clause-found g c payload ready = (
  refl,
  (
    c.in_ok-payload.payload.items,
    c.in_ok-payload.ensures.read payload ready,
    subst (λ p. IsStored c.args.space p c.in-Ok.device) c.as_slice.ensures.value c.in-Ok.ensures.ok,
  ),
)

pub returns-in_err-payload-clause-found : goal.returns-in_err-payload-clause-found
returns-in_err-payload-clause-found g c payload ready =
    let p = err_from_is_err_and c.from_residual.result c.from_residual.ensures.1 in
    rw (p.1, p.2)
    (read_refused (g.D.Disk.seen c.read_payload.new.disk) c.args.space c.args.ready _ c.in_err-payload.ensures.refused)

pub returns-clause-found : goal.returns-clause-found
returns-clause-found g c payload ready =
    record_refused (g.D.Disk.seen c.read_payload.new.disk) c.args.space c.args.ready
    c.in_ok-payload.payload.items c.in-Err.fault (c.in_ok-payload.ensures.read payload ready)
    (subst (λ p. IsRecordFault c.args.space p c.in-Err.fault) c.as_slice.ensures.value c.in-Err.ensures.refused)
