use Rattle.std.proofs.Common.{ap, [], ◌∷◌, ◌++◌, ◌∙◌}
use Rattle.std.specs.Int.{w64, to_be_bytes}
use Rattle.sz_record.specs.Spelling.{image_bytes}
use Rattle.sz_record.proofs.Appending.{adds, then_appended, then_last}
use Rattle.sz_record.proofs.writing.put_image.Goals as goal

pub returns : goal.returns
unfolding image_bytes
returns c =
    record {
      ok = then_appended c.put_evidence.result _ _ (adds c.args.out.now (c.args.image.now.area ∷ []) _ c.in_ok-push.ensures.ok)
          (then_appended c.put_evidence.result _ _ (adds c.push.new.self (to_be_bytes w64 c.args.image.now.size) _
          (c.in_ok-append.ensures.ok ∙ ap (λ s. c.push.new.self ++ s) c.to_be_bytes.ensures))
          (then_appended c.put_evidence.result _ _ (adds c.append.new.self c.args.image.now.hash _ c.in_ok-append-2.ensures.ok)
          (then_appended c.put_evidence.result _ _ c.in_ok-put_moment.ensures.ok
          (then_last c.put_evidence.result _ _ _ c.put_evidence.ensures.ok))));
    }
