use Rattle.std.proofs.Common.{ap, ◌++◌, ◌∙◌, length}
use Rattle.std.specs.Int.{w32, to_be_bytes}
use Rattle.sz_record.specs.Spelling.{long_bytes}
use Rattle.sz_record.proofs.Appending.{adds, then_adds, then_appended}
use Rattle.sz_record.proofs.writing.put_long.Goals as goal

pub returns : goal.returns
unfolding long_bytes
returns c =
    record {
      ok = then_appended c.append-2.result _ _
          (adds c.args.out.now (to_be_bytes w32 (length c.args.long.now)) _
          (c.in_ok-append.ensures.ok ∙ ap (λ s. c.args.out.now ++ s) c.to_be_bytes.ensures))
          (then_adds c.append-2.result c.append.new.self c.args.long.now _ c.append-2.ensures.ok);
    }
