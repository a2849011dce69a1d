-- What contracts see of revocation lists.
use Rattle.std.specs.Prelude.{ℤ, [], Option, option_map}
use Rattle.sz_base.specs.declared.moment.Seconds.{Seconds}
use Rattle.sz_x509.specs.RevocationList.{RevocationList}
use Rattle.sz_x509.specs.declared.crl.Crl.{Crl}
use Rattle.sz_x509.specs.declared.tbs_list.TbsList.{TbsList}

-- a time that may be missing, in seconds since 1970
abbrev pub seconds_of : Option Seconds → Option ℤ
seconds_of time = option_map (λ seconds. seconds.0) time

-- the fields of TBSCertList, as they are read, without those of the whole list
unfoldable pub list_fields : TbsList → RevocationList
list_fields list = record {
  whole = [];
  tbs = [];
  issuer = list.issuer.now;
  this_update = list.this_update.0;
  next_update = seconds_of list.next_update;
  entries = list.entries.now;
  signature = [];
}

-- what is kept of a list
unfoldable pub list_view : Crl → RevocationList
list_view list = record {
  whole = list.whole.now;
  tbs = list.tbs.now;
  issuer = list.issuer.now;
  this_update = list.this_update.0;
  next_update = seconds_of list.next_update;
  entries = list.entries.now;
  signature = list.signature.now;
}
