use Rattle.std.proofs.Common.{take, rules, arith}
use Rattle.std.proofs.lemmas.Grind.{common_steps}
use Rattle.sz_keys.proofs.Taking.{took_more, took_whole}
use Rattle.sz_keys.proofs.pieces.take_pieces.Goals as goal

pub loop-taken-preserved : goal.loop-taken-preserved
loop-taken-preserved g c =
    let count = c.in_ok-count.count in
    record {
      front =
          took_more (g.F.Folder.files c.args.folder.now) (g.F.Folder.files c.loop-taken.folder) c.args.path.now _ (take count c.read_at.new.into)
          c.args.check.now c.loop-taken.check c.update.new.self c.loop-taken.taken count
          c.loop-taken.invariant.files c.loop-taken.invariant.front c.in_ok-count.ensures.bytes (grind (arith, common_steps)) c.update.ensures;
      within = grind (arith, common_steps);
      files = search rules;
      faults = search rules;
    }

pub returns-after-loop-taken-clause-taken : goal.returns-after-loop-taken-clause-taken
returns-after-loop-taken-clause-taken g c =
    took_whole (g.F.Folder.files c.args.folder.now) c.args.path.now c.args.check.now c.loop-taken.check c.args.size c.loop-taken.taken
    c.requires.size c.loop-taken-test.false c.loop-taken.invariant.front
