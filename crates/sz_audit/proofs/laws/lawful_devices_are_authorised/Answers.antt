use Rattle.sz_audit.proofs.Findings.{all_authorised}
use Rattle.sz_audit.proofs.laws.lawful_devices_are_authorised.Goals as goal

pub returns : goal.returns
returns c = all_authorised
