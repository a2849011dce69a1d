-- What contracts see of the types of this crate.
use Rattle.std.specs.Prelude.{[]}
use Rattle.std.specs.Option.{option_copied}
use Rattle.sz_x509.specs.Certificate.{Certificate}
use Rattle.sz_x509.specs.Extensions.{Restrictions}
use Rattle.sz_x509.specs.declared.cert.Cert.{Cert}
use Rattle.sz_x509.specs.declared.extensions.Restrictions as found
use Rattle.sz_x509.specs.declared.tbs.Tbs.{Tbs}

-- what its extensions restrict a certificate to
abbrev pub restrictions_of : Cert → Restrictions
restrictions_of cert = record {
  ca = cert.ca;
  path_len = cert.path_len;
  usage = cert.usage;
  key_id = option_copied cert.key_id;
}

-- what extensions restrict a certificate to, as they are read
abbrev pub extensions_of : found.Restrictions → Restrictions
extensions_of read = record {
  ca = read.ca;
  path_len = read.path_len;
  usage = read.usage;
  key_id = option_copied read.key_id;
}

-- the fields of TBSCertificate, as they are read, without those of the whole certificate
unfoldable pub fields_of : Tbs → Certificate
fields_of tbs = record {
  whole = [];
  tbs = [];
  serial = tbs.serial.now;
  issuer = tbs.issuer.now;
  not_before = tbs.not_before.0;
  not_after = tbs.not_after.0;
  subject = tbs.subject.now;
  key = tbs.key.now;
  restrictions = extensions_of tbs.restrictions;
  signature = [];
}

-- what is kept of a certificate
unfoldable pub view : Cert → Certificate
view cert = record {
  whole = cert.whole.now;
  tbs = cert.tbs.now;
  serial = cert.serial.now;
  issuer = cert.issuer.now;
  not_before = cert.not_before.0;
  not_after = cert.not_after.0;
  subject = cert.subject.now;
  key = cert.key.now;
  restrictions = restrictions_of cert;
  signature = cert.signature.now;
}
