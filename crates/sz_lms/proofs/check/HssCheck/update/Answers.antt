use Rattle.std.proofs.Common.{◌++◌, append_assoc}
use Rattle.sz_lms.specs.Parts.{signed_head}
use Rattle.sz_lms.proofs.check.HssCheck.update.Goals as goal

pub returns : goal.returns
returns c public signature message checks =
    let last = c.args.self.now.last in
    let head = signed_head last.key.now last.bytes.now in
    let fed = c.update.ensures (head ++ message) checks.holds in
    record { left = checks.left; holds = rw (← (append_assoc head message c.args.piece.now)) fed }
