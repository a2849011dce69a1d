-- The fields of a revocation list that has no fault, at their places.
use Rattle.std.specs.Prelude.{◌≡◌, ℕ, ℤ, if◌then◌else◌, List, [], Option, Some, None}
use Rattle.sz_der.specs.Spots.{after, content_at, front, inside, is_next, Spot, whole_at}
use Rattle.sz_der.specs.Tags.{sequence_tag}
use Rattle.sz_x509.specs.CertFault.{integer_fault, octets_at, part}
use Rattle.sz_x509.specs.CertPlaces.{seconds_at}
use Rattle.sz_x509.specs.CrlFault.{is_time_next, list_issuer_spot, next_update_spot, revoked_spot, this_update_spot}
use Rattle.sz_x509.specs.RevocationList.{RevocationList}
use Rattle.sz_x509.specs.declared.fault.CertKind.TheVariants.{Der}

unfoldable pub next_update_at : Spot → Option ℤ
next_update_at spot = if is_time_next spot then Some (seconds_at spot) else None

-- the entries, which are the content of a SEQUENCE where one is next
unfoldable pub entries_at : Spot → List ℕ
entries_at spot = if is_next sequence_tag spot then content_at spot else []

-- an entry begins there, with its serial number
pub record BeginsEntry (spot : Spot) : Type 0 where
  pub sequence : part Der sequence_tag spot ≡ None
  pub number : integer_fault (inside spot) ≡ None

-- the fields of TBSCertList, from the spot of its first part on
pub record ListAt (first : Spot) (fields : RevocationList) : Type 0 where
  pub issuer : fields.issuer ≡ whole_at (list_issuer_spot first)
  pub this_update : fields.this_update ≡ seconds_at (this_update_spot first)
  pub next_update : fields.next_update ≡ next_update_at (next_update_spot first)
  pub entries : fields.entries ≡ entries_at (revoked_spot first)

-- the fields of the list that the bytes are
pub record CrlAt (bytes : List ℕ) (fields : RevocationList) : Type 0 where
  pub whole : fields.whole ≡ bytes
  pub tbs : fields.tbs ≡ whole_at (inside (front bytes))
  pub parts : ListAt (inside (inside (front bytes))) fields
  pub signature : fields.signature ≡ octets_at (after (after (inside (front bytes))))
