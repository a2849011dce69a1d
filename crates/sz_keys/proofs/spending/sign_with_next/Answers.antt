use Rattle.std.proofs.Common.{Err, inr, refl}
use Rattle.sz_keys.specs.LeafSpent.{IsFound}
use Rattle.sz_keys.proofs.NextLeaf.{refused, spent, spent-signed}
use Rattle.sz_keys.proofs.spending.sign_with_next.Goals as goal

pub returns-in-Err-reserve-clause-may : goal.returns-in-Err-reserve-clause-may
returns-in-Err-reserve-clause-may g c =
    let found : IsFound g.D.Disk.seen c.args.disk.now c.attach.new.disk c.in-Ok.signer =
    record { synced = c.in-Ok.ensures.synced refl refl; stands = c.in-Ok.ensures.answer } in
    let ensures = c.in-Err-reserve.ensures in
    rw c.failure_from-in-Err-reserve.ensures
    (refused g.D.Disk.seen c.args.message.now c.args.disk.now c.attach.new.disk c.reserve.new.disk c.in-Ok.signer c.reserve.new.self found
    ensures.any_moment c.in-Err-reserve.fault ensures.exhausted ensures.last ensures.answer ensures.untouched)

pub returns-in-Ok-signed-clause-may : goal.returns-in-Ok-signed-clause-may
returns-in-Ok-signed-clause-may g c =
    let found : IsFound g.D.Disk.seen c.args.disk.now c.attach.new.disk c.in-Ok.signer =
    record { synced = c.in-Ok.ensures.synced refl refl; stands = c.in-Ok.ensures.answer } in
    let ensures = c.in-Ok-reserve.ensures in
    spent-signed g.D.Disk.seen c.args.message.now c.args.disk.now c.attach.new.disk c.reserve.new.disk c.in-Ok.signer c.reserve.new.self found
    ensures.any_moment c.in-Ok-reserve.leaves c.first-leaf.result c.in-Ok-signed.signature ensures.answer c.first-leaf.ensures
    c.in-Ok-signed.ensures.exact c.in-Ok-signed.ensures.verifies

pub returns-clause-may : goal.returns-clause-may
returns-clause-may g c =
    let found : IsFound g.D.Disk.seen c.args.disk.now c.attach.new.disk c.in-Ok.signer =
    record { synced = c.in-Ok.ensures.synced refl refl; stands = c.in-Ok.ensures.answer } in
    let ensures = c.in-Ok-reserve.ensures in
    inr (
      c.in-Ok.signer,
      spent g.D.Disk.seen c.args.message.now c.args.disk.now c.attach.new.disk c.reserve.new.disk c.in-Ok.signer c.reserve.new.self found
          ensures.any_moment c.in-Ok-reserve.leaves ensures.answer,
    )
