use Rattle.serde_json.specs.View.{view}
use Rattle.sz_evidence.specs.IdentityFile.{HasText, identity_fault_of, IsShort, Lacks}
use Rattle.sz_evidence.proofs.Members.{exit, lacks_text}
use Rattle.sz_evidence.proofs.identity.short_text.Goals as goal

pub returns-in_err-text-clause-refused : goal.returns-in_err-text-clause-refused
returns-in_err-text-clause-refused c =
    exit c.from_residual.result (identity_fault_of c.in_err-text.field-0.0) (Lacks c.args.name (HasText c.args.name IsShort (view c.args.value.now)))
    c.from_residual.ensures.1 (lacks_text c.args.name IsShort (view c.args.value.now) c.in_err-text.field-0.0 c.in_err-text.ensures.refused)
