use Rattle.std.proofs.Common.{[], ◌∷◌}
use Rattle.sz_record.specs.Spelling.{optional_bytes}
use Rattle.sz_record.proofs.Appending.{adds, then_adds, then_appended}
use Rattle.sz_record.proofs.writing.put_optional_image.Goals as goal

pub returns-in-None : goal.returns-in-None
unfolding optional_bytes
returns-in-None c =
    rw c.in-None.is
    (record { ok = then_adds c.push.result c.args.out.now (0 ∷ []) _ c.push.ensures.ok })

pub returns-in_ok-push-in-Some : goal.returns-in_ok-push-in-Some
unfolding optional_bytes
returns-in_ok-push-in-Some c =
    rw c.in-Some.is
    (record {
      ok = then_appended c.put_image.result _ _
          (adds c.args.out.now (1 ∷ []) _ c.in_ok-push-in-Some.ensures.ok) c.put_image.ensures.ok;
    })
