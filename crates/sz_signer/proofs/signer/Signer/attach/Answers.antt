use Rattle.std.proofs.Common.{ℕ, Option, Some, Err, List, refl, sym, ap, ◌∙◌, subst}
use Rattle.std.proofs.lemmas.Result.{err_from_is_err_and}
use Rattle.sz_cell.specs.Cell.{IsReady}
use Rattle.sz_hss.specs.Key.{HssKey}
use Rattle.sz_hss.specs.Stored.{IsStorable, StoredKey, spelled}
use Rattle.sz_signer.specs.Answer.{ReadsBadKey}
use Rattle.sz_signer.proofs.Opened.{AttachAnswers-read, ReadsBadKey-told, Stands-ready}
use Rattle.sz_signer.proofs.signer.Signer.attach.Goals as goal

pub returns-in_err-key-clause-answer : goal.returns-in_err-key-clause-answer
returns-in_err-key-clause-answer g c =
    let old = g.D.Disk.seen c.args.disk.now in
    let attached = c.in_ok-ready.ensures.ok in
    let reads = (c.in_ok-ready.ensures.synced refl).quiet.reads in
    let from = err_from_is_err_and c.from_residual-in_err-key.result c.from_residual-in_err-key.ensures.1 in
    AttachAnswers-read old (g.D.Disk.seen c.read_stored.new.disk) c.from_residual-in_err-key.result c.in_err-key.field-0.0
    (from.1 ∙ ap Err from.2) c.in_err-key.ensures.only
    (λ place byte is.
    subst (λ (r : Option (List ℕ)). ReadsBadKey r place byte) reads
    (ReadsBadKey-told (g.D.Disk.seen c.attach.new.disk).reads c.in_ok-ready.ready.slot c.in_ok-ready.ready.sequence attached.payload place byte
    attached.read (c.in_err-key.ensures.bad attached.payload place byte attached.ready (ap Err is))))

pub invariant_of-result : goal.invariant_of-result
invariant_of-result g c = (
  subst (λ (k : HssKey). IsStorable (record { key = k; next = c.in_ok-key.field-0.next; end = c.in_ok-key.field-0.end }))
      (sym c.of-trees.ensures) c.in_ok-key.ensures.storable,
  (c.in_ok-ready.ensures.ok.at_is, c.in_ok-ready.ensures.ok.capacity_is),
)

pub returns-clause-answer : goal.returns-clause-answer
returns-clause-answer g c =
    let new = g.D.Disk.seen c.read_stored.new.disk in
    let attached = c.in_ok-ready.ensures.ok in
    let found = c.in_ok-key.field-0 in
    let stored : StoredKey = record { key = c.of-trees.result; next = found.next; end = found.end } in
    let key = sym c.of-trees.ensures in
    let ready = (c.in_ok-key.ensures.stored attached.payload attached.ready).0 in
    Stands-ready new (record { stored = stored; cell = Some c.in_ok-ready.ready }) c.in_ok-ready.ready (spelled stored) refl
    attached.at_is attached.capacity_is
    (subst (λ (k : HssKey). IsReady new c.in_ok-ready.ready (spelled (record { key = k; next = found.next; end = found.end }))) key ready)
    refl
    (subst (λ (k : HssKey). IsStorable (record { key = k; next = found.next; end = found.end })) key c.in_ok-key.ensures.storable)
