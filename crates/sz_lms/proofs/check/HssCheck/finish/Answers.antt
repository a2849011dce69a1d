use Rattle.std.proofs.Common.{◌++◌, ◌∙◌, take, drop, ap, sym, append_assoc}
use Rattle.std.specs.Int.{w16, w32, to_be_bytes}
use Rattle.sha2.specs.Sha256.{sha256}
use Rattle.sz_lms.specs.Bits.{u32_at}
use Rattle.sz_lms.specs.Ots.{D_MESG}
use Rattle.sz_lms.specs.Parts.{signed_head}
use Rattle.sz_lms.proofs.check.HssCheck.finish.Goals as goal

pub returns : goal.returns
returns c public signature message checks =
    let last = c.args.self.last in
    let bytes = last.bytes.now in
    let front = take 16 (drop 8 last.key.now) ++ to_be_bytes w32 (u32_at bytes 0) ++ to_be_bytes w16 D_MESG in
    let digest = c.finalize-digest.ensures (signed_head last.key.now bytes ++ message) checks.holds in
    c.check_digest.ensures message (digest ∙ ap sha256 (append_assoc front (take 32 (drop 4 (drop 4 bytes))) message))
    ∙ sym (checks.left message)
