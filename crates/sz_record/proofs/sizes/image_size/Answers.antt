use Rattle.std.proofs.Common.{[], ◌∷◌, ◌≡◌, ap}
use Rattle.std.specs.Int.{w64, to_be_bytes}
use Rattle.sz_record.specs.Size.{capped, size_of}
use Rattle.sz_record.specs.Spelling.{evidence_bytes, image_bytes, moment_bytes, new_version}
use Rattle.sz_record.proofs.Totals.{total_is}
use Rattle.sz_record.proofs.sizes.image_size.Goals as goal

pub returns : goal.returns
unfolding image_bytes
returns c = λ image hash when evidence.
    let wide : size_of image.hash ≡ size_of c.args.hash.now = ap (λ n. capped n) hash in
    total_is _ (
    1
    ∷ 8
    ∷ c.bytes_size.result
    ∷ c.moment_size.result
    ∷ c.evidence_size.result
    ∷ []) (
    (image.area ∷ [])
    ∷ to_be_bytes w64 image.size
    ∷ image.hash
    ∷ moment_bytes new_version image.when
    ∷ evidence_bytes image.evidence
    ∷ []) c.total.ensures (cc)
