use Rattle.std.proofs.Common.{◌≡◌, ◌++◌, length, take, rules, arith}
use Rattle.std.proofs.lemmas.Grind.{common_steps}
use Rattle.sz_io.proofs.Fronts.{told-more}
use Rattle.sz_io.proofs.read.read_chunks.Goals as goal

pub loop-bytes-preserved : goal.loop-bytes-preserved
loop-bytes-preserved g c =
    let count = c.in_ok-count.count in
    let more = take count c.read_at.new.into in
    let long : length more ≡ count = grind (arith, common_steps) in
    let joined : c.append.new.self ≡ c.loop-bytes.bytes ++ more = grind (arith, common_steps) in
    record {
      front =
          told-more (g.F.Folder.files c.loop-bytes.folder) (g.F.Folder.files c.read_at.new.self) c.args.path.now c.loop-bytes.bytes more c.append.new.self count
          (search rules) c.loop-bytes.invariant.front (search rules) long joined;
      within = grind (arith, common_steps);
      files = search rules;
      faults = search rules;
    }
