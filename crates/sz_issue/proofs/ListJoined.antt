-- Parts of a revocation list that a writer joins, one after another in an item.
use Rattle.std.proofs.Common.{◌≡◌, ℕ, ℤ, List, [], ◌∷◌, ◌++◌, refl, sym, ap, subst, ◌∙◌, append_assoc}
use Rattle.std.proofs.lemmas.List.{append-nil}
use Rattle.sz_der.specs.Der.{Der}
use Rattle.sz_der.specs.Items.{AppendsInteger, AppendsItem}
use Rattle.sz_der.specs.Spots.{AreEach}
use Rattle.sz_der.specs.Tags.{integer_tag, sequence_tag}
use Rattle.sz_x509.specs.Certificate.{IsHssAlgorithm}
use Rattle.sz_issue.specs.Parts.{Appends, IsCommonName, IsWrittenTime}
use Rattle.sz_issue.specs.RevocationList.{AreWrittenEntries, CrlValues, IsWrittenEntry, IsWrittenNextUpdate, IsWrittenRevoked, IsWrittenTbsList}
use Rattle.sz_issue.proofs.SharedParts.{and_after, Der_of, from_start}

-- ---- entries

pub entry_written : {date : ℤ} {serial : ℕ} {start first second read old new : List ℕ} → start ≡ [] → AppendsInteger start first serial →
    Appends (IsWrittenTime date) first second → read ≡ second → AppendsItem old new sequence_tag read → Appends (IsWrittenEntry date serial) old new
entry_written {start = start} {first = first} {second = second} empty number time is out =
    let parts = from_start start second (number.item.whole ++ time.part) empty
    (and_after start number.item.whole time.part first second number.item.appended time.appended) in
    record {
      part = out.whole;
      is_part = record {
        number = number.item.whole;
        time = time.part;
        is_number = record { content = number.content; is_integer = number.is_integer; is_item = number.item.is_item };
        is_date = time.is_part;
        is_sequence = Der_of (is ∙ parts) out.is_item;
      };
      appended = out.appended;
    }

-- one more behind those that are there
each_last : {A : Type 0} (Is : A → List ℕ → Type 0) (all : List A) (one : A) (bytes part : List ℕ) → AreEach Is all bytes → Is one part →
    AreEach Is (all ++ one ∷ []) (bytes ++ part)
each_last Is [] one bytes part are is = (part, [], is, ap (λ (x : List ℕ). x ++ part) are ∙ sym (append-nil part), refl)
each_last Is (first ∷ others) one bytes part are is =
    (are.0, are.1 ++ part, are.2, ap (λ (x : List ℕ). x ++ part) are.3 ∙ append_assoc are.0 are.1 part, each_last Is others one are.1 part are.4 is)

pub entry_last : (date : ℤ) (serials : List ℕ) (serial : ℕ) (old new : List ℕ) → AreWrittenEntries date serials old →
    Appends (IsWrittenEntry date serial) old new → AreWrittenEntries date (serials ++ serial ∷ []) new
entry_last date serials serial old new are more =
    subst (λ (x : List ℕ). AreWrittenEntries date (serials ++ serial ∷ []) x) (sym more.appended)
    (each_last (IsWrittenEntry date) serials serial old more.part are more.is_part)

-- ---- the whole

pub list_written : (values : CrlValues) (entries : List ℕ) {start a b c d e new read : List ℕ} → AreWrittenEntries values.this_update values.serials entries →
    start ≡ [] → AppendsItem start a integer_tag (1 ∷ []) → Appends IsHssAlgorithm a b → Appends (IsCommonName values.issuer) b c →
    Appends (IsWrittenTime values.this_update) c d → Appends (IsWrittenNextUpdate values.next_update) d e →
    Appends (IsWrittenRevoked values.serials entries) e new → read ≡ new → (bytes : List ℕ) → Der sequence_tag read bytes → IsWrittenTbsList values bytes
list_written values entries {start} {a} {b} {c} {d} {e} {new} are empty version algorithm issuer this next revoked is bytes out =
    let from_next = and_after d next.part revoked.part e new next.appended revoked.appended in
    let from_this = and_after c this.part (next.part ++ revoked.part) d new this.appended from_next in
    let from_issuer = and_after b issuer.part (this.part ++ (next.part ++ revoked.part)) c new issuer.appended from_this in
    let from_algorithm = and_after a algorithm.part (issuer.part ++ (this.part ++ (next.part ++ revoked.part))) b new algorithm.appended from_issuer in
    let parts = from_start start new (version.whole ++ (algorithm.part ++ (issuer.part ++ (this.part ++ (next.part ++ revoked.part))))) empty
    (and_after start version.whole (algorithm.part ++ (issuer.part ++ (this.part ++ (next.part ++ revoked.part)))) a new version.appended
    from_algorithm) in
    record {
      version = version.whole;
      algorithm = algorithm.part;
      issuer = issuer.part;
      this_update = this.part;
      next_update = next.part;
      entries = entries;
      revoked = revoked.part;
      is_version = version.is_item;
      is_algorithm = algorithm.is_part;
      is_issuer = issuer.is_part;
      is_this_update = this.is_part;
      is_next_update = next.is_part;
      are_entries = are;
      is_revoked = revoked.is_part;
      is_sequence = Der_of (is ∙ parts) out;
    }
