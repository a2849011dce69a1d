-- What is written is a revocation list that says the values.
use Rattle.std.proofs.Common.{◌≡◌, ℕ, zero, suc, ℤ, pos, inl, inr, ◌<◌, ◌⊎◌, true, false, List, [], ◌∷◌, length, Option, Some, None, refl, sym, subst, ◌∙◌, arith}
use Rattle.std.specs.Bool.{Decides}
use Rattle.std.specs.List.{Any, slice_index_or}
use Rattle.std.specs.Prelude.{bytes_eq}
use Rattle.std.proofs.lemmas.Bool.{cases_Bool}
use Rattle.std.proofs.lemmas.List.{append-nil}
use Rattle.std.proofs.lemmas.Slice.Eq.{bytes_eq-Decides}
use Rattle.sz_der.proofs.Values.{one_content}
use Rattle.sz_der.specs.Integer.{IsIntegerOf}
use Rattle.sz_issue.specs.Parts.{IsSignedForm}
use Rattle.sz_issue.specs.RevocationList.{AreWrittenEntries, CrlValues, IsWrittenEntry, IsWrittenNextUpdate, IsWrittenRevoked, IsWrittenTbsList, Lists, SaysList, signed_list}
use Rattle.sz_issue.proofs.SharedParts.{is_time}
use Rattle.sz_x509.specs.RevocationList.{AreEntries, CrlOf, is_listed, IsEntry, IsNextUpdate, IsRevoked, IsTbsList, RevocationList}

-- ---- an element of a list that begins with x

any_first : (P : ℕ → Type 0) (x : ℕ) (xs : List ℕ) → P x → Any P (x ∷ xs)
any_first P x xs holds = (0, x, omega arith, refl, holds)

any_later : (P : ℕ → Type 0) (x : ℕ) (xs : List ℕ) → Any P xs → Any P (x ∷ xs)
any_later P x xs any = (suc any.0, any.1, omega (arith, any.2), any.3, any.4)

at_place : (P : ℕ → Type 0) (x : ℕ) (xs : List ℕ) (k y : ℕ) → k < length (x ∷ xs) → slice_index_or (x ∷ xs) k y ≡ y → P y → P x ⊎ Any P xs
at_place P x xs zero y within is holds = inl (subst P (sym is) holds)
at_place P x xs (suc k) y within is holds = inr (k, y, omega (arith, within), is, holds)

first_or_later : (P : ℕ → Type 0) (x : ℕ) (xs : List ℕ) → Any P (x ∷ xs) → P x ⊎ Any P xs
first_or_later P x xs any = at_place P x xs any.0 any.1 any.2 any.3 any.4

-- ---- entries

is_entry : {date : ℤ} {serial : ℕ} {bytes : List ℕ} (w : IsWrittenEntry date serial bytes) → IsEntry w.is_number.content bytes
is_entry {date} w = record {
  number = w.number;
  date = w.time;
  extensions = [];
  seconds = date;
  is_number = record { minimal = w.is_number.is_integer.minimal; is_item = w.is_number.is_item };
  is_date = is_time w.is_date;
  has_extensions = inl refl;
  is_sequence = rw append-nil w.is_sequence;
}

-- the serial number of the first entry, and those of the others
listed_first : (octets number : List ℕ) (numbers : List (List ℕ)) (serial : ℕ) (serials : List ℕ) → IsIntegerOf (pos serial) number →
    Decides (is_listed octets numbers) (Any (λ one. IsIntegerOf (pos one) octets) serials) →
    Decides (is_listed octets (number ∷ numbers)) (Any (λ one. IsIntegerOf (pos one) octets) (serial ∷ serials))
listed_first octets number numbers serial serials is others =
    let P : ℕ → Type 0 = λ one. IsIntegerOf (pos one) octets in
    elim (cases_Bool (bytes_eq number octets)) [
      | inl same ↦
          let given = subst (λ (x : List ℕ). IsIntegerOf (pos serial) x) ((bytes_eq-Decides number octets).0 same) is in
          rw same ((λ listed. any_first P serial serials given), (λ any. refl))
      | inr differs ↦ rw differs (
        (λ listed. any_later P serial serials (others.0 listed)),
        (λ any. elim (first_or_later P serial serials any) [
          | inl here ↦
              let same = (bytes_eq-Decides number octets).1 (one_content serial number octets is here) in
              let wrong : true ≡ false = sym same ∙ differs in
              absurd cc
          | inr later ↦ others.1 later
        ]),
      )
    ]

lists : (date : ℤ) (serials bytes : List ℕ) → AreWrittenEntries date serials bytes → Lists serials bytes
lists date [] bytes are = record {
  numbers = [];
  are_entries = are;
  exactly = λ octets. ((λ listed. absurd cc), (λ any. absurd (omega (arith, any.2))));
}
lists date (serial ∷ serials) bytes are =
    let others = lists date serials are.1 are.4 in
    let number = are.2.is_number in
    record {
      numbers = number.content ∷ others.numbers;
      are_entries = (are.0, are.1, is_entry are.2, are.3, others.are_entries);
      exactly = λ octets. listed_first octets number.content others.numbers serial serials number.is_integer (others.exactly octets);
    }

-- ---- the whole

is_next_update : (next_update : Option ℤ) (bytes : List ℕ) → IsWrittenNextUpdate next_update bytes → IsNextUpdate next_update bytes
is_next_update None bytes none = none
is_next_update (Some seconds) bytes time = is_time time

is_revoked : (date : ℤ) (serials entries bytes : List ℕ) (numbers : List (List ℕ)) → AreWrittenEntries date serials entries → AreEntries numbers entries →
    IsWrittenRevoked serials entries bytes → IsRevoked entries bytes
is_revoked date [] entries bytes numbers are read none = inl (none, are)
is_revoked date (serial ∷ serials) entries bytes numbers are read item = inr (numbers, read, item)

abbrev fields_of : (values : CrlValues) (bytes : List ℕ) → IsWrittenTbsList values bytes → RevocationList
fields_of values bytes w = record {
  whole = [];
  tbs = [];
  issuer = w.issuer;
  this_update = values.this_update;
  next_update = values.next_update;
  entries = w.entries;
  signature = [];
}

is_tbs_list : (values : CrlValues) (bytes : List ℕ) (w : IsWrittenTbsList values bytes) → IsTbsList (fields_of values bytes w) bytes
is_tbs_list values bytes w = record {
  version = w.version;
  algorithm = w.algorithm;
  this_update = w.this_update;
  next_update = w.next_update;
  revoked = w.revoked;
  extensions = [];
  is_version = inr w.is_version;
  is_algorithm = w.is_algorithm;
  is_issuer = (w.is_issuer.names, w.is_issuer.is_sequence);
  is_this_update = is_time w.is_this_update;
  is_next_update = is_next_update values.next_update w.next_update w.is_next_update;
  is_revoked = is_revoked values.this_update values.serials w.entries w.revoked (lists values.this_update values.serials w.entries w.are_entries).numbers
      w.are_entries (lists values.this_update values.serials w.entries w.are_entries).are_entries w.is_revoked;
  has_extensions = inl refl;
  is_sequence = rw (append-nil w.revoked) w.is_sequence;
}

pub says : (values : CrlValues) (bytes : List ℕ) → IsWrittenTbsList values bytes →
    (fields : RevocationList) × SaysList values fields × IsTbsList fields bytes
says values bytes w = (
  fields_of values bytes w,
  record {
    issuer = w.is_issuer;
    this_update = refl;
    next_update = refl;
    entries = w.are_entries;
    lists = lists values.this_update values.serials w.entries w.are_entries;
  },
  is_tbs_list values bytes w,
)

pub is_list : (fields : RevocationList) (tbs signature whole : List ℕ) → IsTbsList fields tbs → IsSignedForm tbs signature whole →
    CrlOf whole (signed_list fields tbs signature whole)
unfolding signed_list
is_list fields tbs signature whole is w = record {
  algorithm = w.algorithm;
  bits = w.bits;
  whole = refl;
  is_tbs = record {
    version = is.version;
    algorithm = is.algorithm;
    this_update = is.this_update;
    next_update = is.next_update;
    revoked = is.revoked;
    extensions = is.extensions;
    is_version = is.is_version;
    is_algorithm = is.is_algorithm;
    is_issuer = is.is_issuer;
    is_this_update = is.is_this_update;
    is_next_update = is.is_next_update;
    is_revoked = is.is_revoked;
    has_extensions = is.has_extensions;
    is_sequence = is.is_sequence;
  };
  is_algorithm = w.is_algorithm;
  is_signature = w.is_signature;
  is_sequence = w.is_sequence;
}
