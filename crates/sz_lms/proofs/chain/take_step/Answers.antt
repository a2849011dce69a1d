use Rattle.std.proofs.Common.{◌≡◌, ◌≤◌, ◌+◌, ◌++◌, ◌∷◌, length, take, drop, set, ap, ◌∙◌, arith}
use Rattle.std.proofs.Math.ListN.{length-set, drop_of_length-le}
use Rattle.std.proofs.lemmas.List.{take-set, append-nil}
use Rattle.sha2.specs.Sha256.{sha256}
use Rattle.sz_lms.proofs.Digests.{length-sha256}
use Rattle.sz_lms.proofs.Buffers.{set-parts, take-put, drop-put}
use Rattle.sz_lms.proofs.chain.take_step.Goals as goal

pub returns-clause-head : goal.returns-clause-head
returns-clause-head c =
    let input = c.args.input.now in
    let long : 23 ≤ length (set input 22 c.args.j) = omega (arith, c.told-input, length-set input 22 c.args.j) in
    ap (take 22) c.put.ensures ∙ take-put (set input 22 c.args.j) _ _ 22 23 (omega arith) long ∙ take-set input 22 c.args.j

pub returns-clause-value : goal.returns-clause-value
returns-clause-value c =
    let input = c.args.input.now in
    let written = set input 22 c.args.j in
    let digest = c.digest-digest.result in
    let all : length written ≡ 55 = omega (arith, c.told-input, length-set input 22 c.args.j) in
    let size : length digest ≡ 32 = rw c.digest-digest.ensures (length-sha256 c.as_slice.result.now) in
    let past : length written ≤ 23 + length digest = omega arith in
    let parts : written ≡ take 22 input ++ c.args.j ∷ drop 23 input = set-parts input 22 c.args.j (omega arith) in
    ap (drop 23) c.put.ensures ∙ drop-put written digest _ 23 (omega arith)
    ∙ rw (drop_of_length-le written past, append-nil digest) (c.digest-digest.ensures ∙ ap sha256 (c.as_slice.ensures ∙ parts))
