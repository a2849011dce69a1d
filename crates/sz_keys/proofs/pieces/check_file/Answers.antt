use Rattle.std.proofs.Common.{arith, Some}
use Rattle.sz_lms.specs.View.{rule_of}
use Rattle.sz_keys.proofs.Taking.{decided, refused, ruled}
use Rattle.sz_keys.specs.View.{broken_rule}
use Rattle.sz_keys.proofs.pieces.check_file.Goals as goal

pub returns-in-Err-clause-signed : goal.returns-in-Err-clause-signed
returns-in-Err-clause-signed g c =
    decided (g.F.Folder.files c.args.folder.now) c.args.path.now c.args.public.now c.args.signature.now (Some (rule_of c.in-Err.fault))
    (λ k. omega (arith, c.type_inv.signature k))
    (refused (g.F.Folder.files c.args.folder.now) c.args.path.now c.args.public.now c.args.signature.now (rule_of c.in-Err.fault) c.in-Err.ensures.err)

pub returns-in-Ok-take_pieces-clause-rule : goal.returns-in-Ok-take_pieces-clause-rule
returns-in-Ok-take_pieces-clause-rule g c =
    ruled (g.F.Folder.files c.args.folder.now) c.args.path.now c.args.public.now c.args.signature.now c.in-Ok.check c.take_pieces.new.check
    (broken_rule c.verdict.result)
    c.in-Ok.ensures.ok c.in-Ok-take_pieces.ensures.taken c.verdict.ensures

pub returns-in-Ok-take_pieces-clause-signed : goal.returns-in-Ok-take_pieces-clause-signed
returns-in-Ok-take_pieces-clause-signed g c =
    decided (g.F.Folder.files c.args.folder.now) c.args.path.now c.args.public.now c.args.signature.now (broken_rule c.verdict.result)
    (λ k. omega (arith, c.type_inv.signature k))
    (ruled (g.F.Folder.files c.args.folder.now) c.args.path.now c.args.public.now c.args.signature.now c.in-Ok.check c.take_pieces.new.check
    (broken_rule c.verdict.result)
    c.in-Ok.ensures.ok c.in-Ok-take_pieces.ensures.taken c.verdict.ensures)
