use Rattle.std.proofs.Common.{◌≡◌, ◌∙◌, ap, arith}
use Rattle.sz_cell.specs.Cell.{Pending, spare_place}
use Rattle.sz_cell.proofs.Regions.{spare_inside}
use Rattle.sz_cell.proofs.States.{publish-any_moment, publish-ok}
use Rattle.sz_cell.proofs.Writes.{on_ok-refused}
use Rattle.sz_cell.proofs.state.Filled.publish.Goals as goal

pub returns-in_err-write_gate-clause-ran : goal.returns-in_err-write_gate-clause-ran
returns-in_err-write_gate-clause-ran g c before after filled =
    let is : c.spare_place.result ≡ spare_place c.args.self.kept =
    c.spare_place.ensures.place ∙ ap (λ (p : Pending). spare_place p.kept) c.self.view_is in
    record {
      ok = on_ok-refused c.from_residual.result _ c.from_residual.ensures.0;
      settled = on_ok-refused c.from_residual.result _ c.from_residual.ensures.0;
      any_moment = publish-any_moment _ _ (g.met.D.Disk.lawful c.args.disk.now) c.args.self before after filled
          (rw is at c.write_gate.ensures.wrote.elsewhere);
    }

pub returns-clause-ran : goal.returns-clause-ran
returns-clause-ran g c before after filled =
    let is : c.spare_place.result ≡ spare_place c.args.self.kept =
    c.spare_place.ensures.place ∙ ap (λ (p : Pending). spare_place p.kept) c.self.view_is in
    let wrote = rw is at c.in_ok-write_gate.ensures.wrote in
    let lawful = g.met.D.Disk.lawful c.args.disk.now in
    record {
      ok = publish-ok _ _ lawful c.args.self before after filled wrote.elsewhere (g.met.D.Disk.lawful c.write_gate.new.disk)
          (omega (arith, c.requires.within, spare_inside c.args.self.kept)) wrote.ok;
      settled = wrote.ok.settled;
      any_moment = publish-any_moment _ _ lawful c.args.self before after filled wrote.elsewhere;
    }
