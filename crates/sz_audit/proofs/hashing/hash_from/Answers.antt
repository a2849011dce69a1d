use Rattle.std.proofs.Common.{◌≡◌, ◌+◌, ◌≤◌, ◌++◌, length, drop, subst, arith}
use Rattle.std.proofs.lemmas.Grind.{common_steps}
use Rattle.sz_disk.proofs.Moments.{quiet-quiet}
use Rattle.sz_audit.proofs.Pieces.{Hashed, hashed_more}
use Rattle.sz_audit.proofs.hashing.hash_from.Goals as goal

pub loop-done-preserved : goal.loop-done-preserved
loop-done-preserved g c =
    let begun = g.D.Disk.seen c.args.disk.now in
    let before = g.D.Disk.seen c.loop-done.disk in
    let now = g.D.Disk.seen c.read.new.self in
    let done = c.loop-done.done in
    let given = c.read.new.into in
    let count = c.min-count.result in
    let within : done + count ≤ c.args.size = grind (arith, common_steps) in
    let taken : length given ≡ count = grind (arith, common_steps) in
    let hashed : Hashed now.reads c.args.at (done + length given) c.update.new.self =
    hashed_more before.reads now.reads c.args.at done given c.loop-done.hasher c.update.new.self
    c.in_ok-read.ensures.quiet.reads c.in_ok-read.ensures.bytes c.update.ensures c.loop-done.invariant.hashed in
    let piece : length (given ++ drop count c.loop-done.piece) ≡ length c.args.piece.now = grind (arith, common_steps) in
    let faults : now.faults ≡ begun.faults = grind (arith, common_steps) in
    record {
      within = within;
      hashed = subst (λ n. Hashed now.reads c.args.at (done + n) c.update.new.self) taken hashed;
      quiet = quiet-quiet begun before now c.loop-done.invariant.quiet c.in_ok-read.ensures.quiet;
      faults = faults;
      piece = piece;
    }
