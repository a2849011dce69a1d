use Rattle.std.proofs.Common.{◌+◌, Ok, Err, sym, ap, ◌∙◌, subst, arith}
use Rattle.std.proofs.lemmas.Result.{err_from_is_err_and}
use Rattle.sz_disk.specs.Disk.{LeavesOnly}
use Rattle.sz_hss.specs.Key.{HssKey}
use Rattle.sz_hss.specs.Stored.{IsStorable, spelled}
use Rattle.sz_signer.specs.Answer.{MeansOldOrAdvanced, handed_out}
use Rattle.sz_signer.specs.KeyDisk.{advanced}
use Rattle.sz_signer.specs.Leaves.{Reserved}
use Rattle.sz_signer.specs.State.{Holds, IsKeyCell, SignerState}
use Rattle.sz_signer.proofs.Opened.{Stands-replaced, last-refused, reserve-moments, reserve-none}
use Rattle.sz_signer.proofs.signer.Signer.reserve.Goals as goal

pub returns-then-n-end-clause-any_moment : goal.returns-then-n-end-clause-any_moment
returns-then-n-end-clause-any_moment g c =
    reserve-none (g.D.Disk.seen c.args.disk.now) c.args.n c.args.self.now (g.met.D.Disk.lawful c.args.disk.now)
    (subst (λ (s : SignerState). IsStorable s.stored) c.self.view_is c.self.invariant.0)
    (subst (λ (s : SignerState). IsKeyCell s.cell) c.self.view_is c.self.invariant.1) c.requires.holds

pub returns-in_err-ready-clause-any_moment : goal.returns-in_err-ready-clause-any_moment
returns-in_err-ready-clause-any_moment g c =
    let old = g.D.Disk.seen c.args.disk.now in
    let new = g.D.Disk.seen c.replace.new.disk in
    let inside = c.self.inside in
    let signer : SignerState = record { stored = record { key = inside.trees; next = inside.next; end = inside.end }; cell = inside.cell } in
    let moments = reserve-moments c.args.n signer c.in-Some.ready c.as_slice.result.now old new (Err c.in_err-ready.field-0.0)
    (record {
      cell_is = sym c.take.ensures.value ∙ c.in-Some.is;
      key_cell = c.self.invariant.1;
      storable = c.self.invariant.0;
      fits = omega (arith, c.self.invariant.0.begun);
      payload_is = c.as_slice.ensures.value ∙ c.spell-payload.ensures
          ∙ ap (λ (k : HssKey). spelled (record { key = k; next = inside.next + c.args.n; end = inside.end })) c.key.ensures;
      replaced = c.in_err-ready.ensures.replaced;
    }) (subst (Holds old) (sym c.self.view_is) c.requires.holds) in
    subst (λ (s : SignerState). LeavesOnly old new (MeansOldOrAdvanced c.args.n s.stored)) c.self.view_is moments

pub returns-in_err-ready-clause-last : goal.returns-in_err-ready-clause-last
returns-in_err-ready-clause-last g c some sequence =
    let from = err_from_is_err_and c.from_residual.result c.from_residual.ensures.1 in
    let cell = ap (λ (s : SignerState). s.cell) c.self.view_is in
    last-refused c.from_residual.result c.in_err-ready.field-0.0 c.args.self.now.cell c.in-Some.ready sequence
    (from.1 ∙ ap Err from.2) (sym cell ∙ sym c.take.ensures.value ∙ c.in-Some.is) (c.in_err-ready.ensures.exhausted sequence)

pub returns-clause-any_moment : goal.returns-clause-any_moment
returns-clause-any_moment g c =
    let old = g.D.Disk.seen c.args.disk.now in
    let new = g.D.Disk.seen c.replace.new.disk in
    let inside = c.self.inside in
    let signer : SignerState = record { stored = record { key = inside.trees; next = inside.next; end = inside.end }; cell = inside.cell } in
    let moments = reserve-moments c.args.n signer c.in-Some.ready c.as_slice.result.now old new (Ok c.in_ok-ready.ready)
    (record {
      cell_is = sym c.take.ensures.value ∙ c.in-Some.is;
      key_cell = c.self.invariant.1;
      storable = c.self.invariant.0;
      fits = omega (arith, c.self.invariant.0.begun);
      payload_is = c.as_slice.ensures.value ∙ c.spell-payload.ensures
          ∙ ap (λ (k : HssKey). spelled (record { key = k; next = inside.next + c.args.n; end = inside.end })) c.key.ensures;
      replaced = c.in_ok-ready.ensures.replaced;
    }) (subst (Holds old) (sym c.self.view_is) c.requires.holds) in
    subst (λ (s : SignerState). LeavesOnly old new (MeansOldOrAdvanced c.args.n s.stored)) c.self.view_is moments

pub returns-clause-answer : goal.returns-clause-answer
returns-clause-answer g c =
    let old = g.D.Disk.seen c.args.disk.now in
    let new = g.D.Disk.seen c.replace.new.disk in
    let inside = c.self.inside in
    let signer : SignerState = record { stored = record { key = inside.trees; next = inside.next; end = inside.end }; cell = inside.cell } in
    let leaves = c.of.ensures
    ∙ ap (λ (k : HssKey). let r : Reserved = record { key = k; first = inside.next; left = c.args.n } in r) (c.copy.ensures ∙ c.key-2.ensures)
    ∙ ap (λ (s : SignerState). handed_out c.args.n s) c.self.view_is in (
      leaves,
      ap (λ (s : SignerState). advanced c.args.n s.stored) c.self.view_is,
      Stands-replaced c.args.n signer c.in-Some.ready c.in_ok-ready.ready c.as_slice.result.now old new c.in_ok-ready.ready
          (record {
            cell_is = sym c.take.ensures.value ∙ c.in-Some.is;
            key_cell = c.self.invariant.1;
            storable = c.self.invariant.0;
            fits = omega (arith, c.self.invariant.0.begun);
            payload_is = c.as_slice.ensures.value ∙ c.spell-payload.ensures
                ∙ ap (λ (k : HssKey). spelled (record { key = k; next = inside.next + c.args.n; end = inside.end })) c.key.ensures;
            replaced = c.in_ok-ready.ensures.replaced;
          }) (subst (Holds old) (sym c.self.view_is) c.requires.holds) c.in_ok-ready.ensures.same,
    )
