use Rattle.std.proofs.Common.{rules, arith}
use Rattle.std.proofs.lemmas.Grind.{common_steps}
use Rattle.sz_commands.proofs.Filling.{filled_more}
use Rattle.sz_commands.proofs.input.fill_front.Goals as goal

pub loop-count-preserved : goal.loop-count-preserved
loop-count-preserved g c = record {
  front =
      filled_more (g.F.Folder.files c.args.folder.now) (g.F.Folder.files c.loop-count.folder) c.args.path.now c.loop-count.into c.read_at.new.into
      c.loop-count.count _ c.in_ok-more.more c.loop-count.invariant.files c.loop-count.invariant.within (grind (arith, common_steps))
      c.loop-count.invariant.front c.in_ok-more.ensures.bytes;
  within = grind (arith, common_steps);
  files = search rules;
  faults = search rules;
}
