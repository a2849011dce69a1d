-- What is written of the values of a revocation list is one string.
use Rattle.std.proofs.Common.{◌≡◌, ℕ, ℤ, List, [], ◌∷◌, Option, Some, None, refl, sym, ◌∙◌}
use Rattle.sz_issue.specs.RevocationList.{AreWrittenEntries, CrlValues, IsWrittenEntry, IsWrittenNextUpdate, IsWrittenRevoked, IsWrittenTbsList}
use Rattle.sz_issue.proofs.SharedParts.{both, one_algorithm, one_item, one_name, one_serial, one_time_item}

one_entry : {date : ℤ} {serial : ℕ} {bytes other : List ℕ} → IsWrittenEntry date serial bytes → IsWrittenEntry date serial other → bytes ≡ other
one_entry a b =
    one_item (both a.number b.number a.time b.time (one_serial a.is_number b.is_number) (one_time_item a.is_date b.is_date)) a.is_sequence b.is_sequence

one_entries : (date : ℤ) (serials bytes other : List ℕ) → AreWrittenEntries date serials bytes → AreWrittenEntries date serials other → bytes ≡ other
one_entries date [] bytes other a b = a ∙ sym b
one_entries date (serial ∷ serials) bytes other a b =
    a.3 ∙ both a.0 b.0 a.1 b.1 (one_entry a.2 b.2) (one_entries date serials a.1 b.1 a.4 b.4) ∙ sym b.3

one_next_update : (next_update : Option ℤ) (bytes other : List ℕ) → IsWrittenNextUpdate next_update bytes → IsWrittenNextUpdate next_update other →
    bytes ≡ other
one_next_update None bytes other a b = a ∙ sym b
one_next_update (Some seconds) bytes other a b = one_time_item a b

one_revoked : (serials entries same bytes other : List ℕ) → entries ≡ same → IsWrittenRevoked serials entries bytes → IsWrittenRevoked serials same other →
    bytes ≡ other
one_revoked [] entries same bytes other is a b = a ∙ sym b
one_revoked (serial ∷ serials) entries same bytes other is a b = one_item is a b

pub one_list : (values : CrlValues) (bytes other : List ℕ) → IsWrittenTbsList values bytes → IsWrittenTbsList values other → bytes ≡ other
one_list values bytes other a b =
    let entries = one_entries values.this_update values.serials a.entries b.entries a.are_entries b.are_entries in
    let revoked = one_revoked values.serials a.entries b.entries a.revoked b.revoked entries a.is_revoked b.is_revoked in
    let next = one_next_update values.next_update a.next_update b.next_update a.is_next_update b.is_next_update in
    let from_next = both a.next_update b.next_update a.revoked b.revoked next revoked in
    let from_this = both a.this_update b.this_update _ _ (one_time_item a.is_this_update b.is_this_update) from_next in
    let from_issuer = both a.issuer b.issuer _ _ (one_name a.is_issuer b.is_issuer) from_this in
    let from_algorithm = both a.algorithm b.algorithm _ _ (one_algorithm a.is_algorithm b.is_algorithm) from_issuer in
    one_item (both a.version b.version _ _ (one_item refl a.is_version b.is_version) from_algorithm) a.is_sequence b.is_sequence
