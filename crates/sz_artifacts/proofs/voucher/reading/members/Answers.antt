use Rattle.serde_json.specs.View.{view}
use Rattle.sz_json.proofs.Instants.{instant_where, required_instant}
use Rattle.sz_json.specs.declared.name.Name.TheVariants as name
use Rattle.sz_artifacts.proofs.voucher.reading.members.Goals as goal

pub returns-clause-writable : goal.returns-clause-writable
returns-clause-writable c =
    let inside = view c.args.inside.now in
    record {
      created_on = required_instant name.CreatedOn inside c.in_ok-created_on.created_on c.in_ok-created_on.ensures.ok;
      expires_on = instant_where name.ExpiresOn inside c.in_ok-expires_on.expires_on c.in_ok-expires_on.ensures.ok;
      serial_number = c.in_ok-serial.ensures.utf8;
    }
