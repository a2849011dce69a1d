use Rattle.std.proofs.Common.{◌≡◌, ◌∙◌, ap, arith}
use Rattle.sz_cell.specs.Cell.{spare_place}
use Rattle.sz_cell.proofs.Regions.{spare_inside}
use Rattle.sz_cell.proofs.States.{clear-any_moment, clear-ok}
use Rattle.sz_cell.proofs.Writes.{on_ok-refused}
use Rattle.sz_cell.proofs.state.Ready.clear.Goals as goal

pub returns-in_err-close_gate-clause-ran : goal.returns-in_err-close_gate-clause-ran
returns-in_err-close_gate-clause-ran g c payload ready =
    let is : c.spare_place.result ≡ spare_place c.args.self = c.spare_place.ensures.place ∙ ap spare_place c.self.view_is in
    record {
      ok = on_ok-refused c.from_residual.result _ c.from_residual.ensures.0;
      any_moment = clear-any_moment _ _ (g.met.D.Disk.lawful c.args.disk.now) c.args.self payload c.close_gate.result ready
          (rw is at c.close_gate.ensures.closes);
    }

pub returns-clause-ran : goal.returns-clause-ran
returns-clause-ran g c payload ready =
    let is : c.spare_place.result ≡ spare_place c.args.self = c.spare_place.ensures.place ∙ ap spare_place c.self.view_is in
    let lawful = g.met.D.Disk.lawful c.args.disk.now in
    record {
      ok = clear-ok _ _ lawful c.args.self payload tt (g.met.D.Disk.lawful c.close_gate.new.disk)
          (omega (arith, c.requires.within, spare_inside c.args.self)) ready (rw is at c.in_ok-close_gate.ensures.closes);
      any_moment = clear-any_moment _ _ lawful c.args.self payload c.close_gate.result ready (rw is at c.close_gate.ensures.closes);
    }
