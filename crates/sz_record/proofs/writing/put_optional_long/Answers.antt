use Rattle.std.proofs.Common.{[], ◌∷◌}
use Rattle.sz_record.specs.Spelling.{long_bytes, optional_bytes}
use Rattle.sz_record.proofs.Appending.{adds, then_adds, then_appended, then_part_of}
use Rattle.sz_record.proofs.writing.put_optional_long.Goals as goal

pub returns-in-None : goal.returns-in-None
unfolding optional_bytes
returns-in-None c =
    rw c.in-None.is
    (record { ok = then_adds c.push.result c.args.out.now (0 ∷ []) _ c.push.ensures.ok })

pub returns-in_ok-push-in-Some : goal.returns-in_ok-push-in-Some
unfolding optional_bytes
returns-in_ok-push-in-Some c =
    rw c.in-Some.is
    (record {
      ok = then_appended c.put_long.result _ _
          (adds c.args.out.now (1 ∷ []) _ c.in_ok-push-in-Some.ensures.ok)
          (then_part_of c.put_long.result long_bytes _ _ c.as_slice.ensures c.put_long.ensures.ok);
    })
