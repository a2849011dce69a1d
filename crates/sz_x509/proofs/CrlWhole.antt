-- A revocation list as a whole: its bytes have no fault exactly where they are spelled as the relation says, and are
-- those of one list.
use Rattle.std.specs.Prelude.{IfErr, IfOk, IsOkAnd, OnOk}
use Rattle.std.proofs.Common.{◌≡◌, ℕ, inl, inr, List, [], ◌++◌, Some, None, Result, Ok, Err, refl, sym, ap, subst, ◌∙◌, arith}
use Rattle.sz_der.specs.Der.{AreOctets, Der}
use Rattle.sz_der.specs.Spots.{after, after_optional, at, content_at, front, inside, Spot, whole_at}
use Rattle.sz_der.specs.Tags.{context_constructed, generalized_time_tag, integer_tag, sequence_tag, utc_time_tag}
use Rattle.sz_der.specs.declared.parts.PartFault.{PartFault}
use Rattle.sz_der.proofs.Optional.{BeginsWithout, without_item, without_nothing}
use Rattle.sz_der.proofs.Joined.{alone, and_then, Der_with, last}
use Rattle.sz_der.proofs.Spots.{end_from_nothing, Found, found_part, inside-left, no_part-stands, nothing_left, parts_of_none, stands}
use Rattle.sz_x509.specs.CertFault.{octets_at}
use Rattle.sz_x509.specs.CertPlaces.{seconds_at}
use Rattle.sz_x509.specs.CrlFault.{crl_fault, list_algorithm_spot, list_extensions_spot, list_issuer_spot, list_parts_fault, next_update_spot, revoked_spot, this_update_spot}
use Rattle.sz_x509.specs.CrlPlaces.{CrlAt, entries_at, ListAt, next_update_at}
use Rattle.sz_x509.specs.CrlView.{list_view}
use Rattle.sz_x509.specs.RevocationList.{CrlOf, HasListExtensions, IsRevoked, IsTbsList, RevocationList}
use Rattle.sz_x509.specs.declared.crl.Crl.{Crl}
use Rattle.sz_x509.specs.declared.fault.CertKind.TheVariants as kinds
use Rattle.sz_x509.specs.declared.fault.CertKind.{CertKind}
use Rattle.sz_x509.proofs.CrlParts.{list_extensions_clear, list_extensions_read, list_version_clear, list_version_reads, next_update_clear, next_update_reads, revoked_clear, revoked_reads}
use Rattle.sz_x509.proofs.Spelled.{algorithm_clear, IsAlgorithm_from_none, IsSignature_from_none, IsTime_from_none, signature_clear, time_clear}
use Rattle.sz_x509.proofs.Whole.{front-left}

-- ---- TBSCertList

algorithm_after : (first : Spot) → list_algorithm_spot first ≡ after_optional integer_tag first
unfolding list_algorithm_spot
algorithm_after first = refl

IsTbsList_from_none : (spot : Spot) (fields : RevocationList) → Found spot sequence_tag → list_parts_fault (inside spot) ≡ None →
    ListAt (inside spot) fields → IsTbsList fields (whole_at spot)
unfolding list_parts_fault
IsTbsList_from_none spot fields found n at =
    let first = inside spot in
    let a = parts_of_none _ _ n in
    let b = parts_of_none _ _ a.1 in
    let c = parts_of_none _ _ b.1 in
    let d = parts_of_none _ _ c.1 in
    let e = parts_of_none _ _ d.1 in
    let f = parts_of_none _ _ e.1 in
    let g = parts_of_none _ _ f.1 in
    let h = parts_of_none _ _ g.1 in
    let version = list_version_reads first found.inside a.0 in
    let starts = algorithm_after first in
    let octets : AreOctets (list_algorithm_spot first).left = subst (λ (s : Spot). AreOctets s.left) (sym starts) version.after in
    let begins : first.left ≡ version.piece ++ (list_algorithm_spot first).left =
    subst (λ (s : Spot). first.left ≡ version.piece ++ s.left) (sym starts) version.joined in
    let algorithm = IsAlgorithm_from_none (list_algorithm_spot first) octets b.0 in
    let issuer = found_part _ _ sequence_tag (list_issuer_spot first) algorithm.1.after c.0 in
    let this_update = IsTime_from_none (this_update_spot first) issuer.after d.0 in
    let next_update = next_update_reads (next_update_spot first) this_update.1.after e.0 in
    let revoked = revoked_reads (revoked_spot first) next_update.after f.0 in
    let extensions = list_extensions_read (list_extensions_spot first) revoked.after g.0 in
    let only = last extensions.piece extensions.joined (nothing_left _ _ (after_optional context_constructed (list_extensions_spot first)) h.0) in
    let tail = and_then (whole_at (this_update_spot first)) this_update.1.joined
    (and_then next_update.piece next_update.joined (and_then revoked.piece revoked.joined only)) in
    let all = and_then version.piece begins (and_then (whole_at (list_algorithm_spot first)) algorithm.1.joined
    (and_then (whole_at (list_issuer_spot first)) issuer.joined tail)) in
    record {
      version = version.piece;
      algorithm = whole_at (list_algorithm_spot first);
      this_update = whole_at (this_update_spot first);
      next_update = next_update.piece;
      revoked = revoked.piece;
      extensions = extensions.piece;
      is_version = version.is_piece;
      is_algorithm = algorithm.0;
      is_issuer = (content_at (list_issuer_spot first), rw at.issuer issuer.is_item);
      is_this_update = rw at.this_update this_update.0;
      is_next_update = rw at.next_update next_update.is_piece;
      is_revoked = rw at.entries revoked.is_piece;
      has_extensions = extensions.is_piece;
      is_sequence = rw at.issuer (Der_with (sym (inside-left spot) ∙ all) found.is_item);
    }

-- what the later parts do not begin with
extensions_without : (tag : ℕ) (piece : List ℕ) → HasListExtensions piece → (context_constructed ≡ tag → ⊥) → BeginsWithout tag piece
extensions_without tag piece (inl nothing) differ = λ spot left. without_nothing tag spot (left ∙ nothing)
extensions_without tag piece (inr some) differ = λ spot left.
    without_item tag context_constructed some.0 piece [] some.2 differ spot (alone piece left)

revoked_without : (tag : ℕ) (entries piece rest : List ℕ) → IsRevoked entries piece → (sequence_tag ≡ tag → ⊥) → BeginsWithout tag rest →
    BeginsWithout tag (piece ++ rest)
revoked_without tag entries piece rest (inl nothing) differ without = λ spot joined.
    without spot (joined ∙ ap (λ (x : List ℕ). x ++ rest) nothing.0)
revoked_without tag entries piece rest (inr some) differ without = without_item tag sequence_tag entries piece rest some.2 differ

list_clear : (first : Spot) (fields : RevocationList) (bytes : List ℕ) (is : IsTbsList fields bytes) →
    first.left ≡ is.version ++ (is.algorithm ++ (fields.issuer ++ (is.this_update ++ (is.next_update ++ (is.revoked ++ is.extensions))))) →
    (list_parts_fault first ≡ None) × ListAt first fields
unfolding list_parts_fault
list_clear first fields bytes is left =
    let no_version = without_item integer_tag sequence_tag is.is_algorithm.identifier is.algorithm _ is.is_algorithm.is_sequence (λ e. absurd (omega arith)) in
    let version = list_version_clear first is.version _ is.is_version no_version left in
    let begins = ap (λ (s : Spot). s.left) (algorithm_after first) ∙ version.1 in
    let algorithm = algorithm_clear (list_algorithm_spot first) is.algorithm _ is.is_algorithm begins in
    let issuer = stands (list_issuer_spot first) sequence_tag is.is_issuer.0 fields.issuer _ is.is_issuer.1 algorithm.1 in
    let this_update = time_clear (this_update_spot first) fields.this_update is.this_update _ is.is_this_update issuer.after_is in
    let no_utc = revoked_without utc_time_tag fields.entries is.revoked is.extensions is.is_revoked (λ e. absurd (omega arith))
    (extensions_without utc_time_tag is.extensions is.has_extensions (λ e. absurd (omega arith))) in
    let no_generalized = revoked_without generalized_time_tag fields.entries is.revoked is.extensions is.is_revoked (λ e. absurd (omega arith))
    (extensions_without generalized_time_tag is.extensions is.has_extensions (λ e. absurd (omega arith))) in
    let next_update = next_update_clear (next_update_spot first) fields.next_update is.next_update (is.revoked ++ is.extensions) is.is_next_update no_utc
    no_generalized this_update.2 in
    let revoked = revoked_clear (revoked_spot first) fields.entries is.revoked is.extensions is.is_revoked
    (extensions_without sequence_tag is.extensions is.has_extensions (λ e. absurd (omega arith))) next_update.2 in
    let extensions = list_extensions_clear (list_extensions_spot first) is.extensions is.has_extensions revoked.2 in (
      rw (
        version.0,
        algorithm.0,
        no_part-stands kinds.Der kinds.Der (list_issuer_spot first) sequence_tag _ _ _ issuer,
        this_update.0,
        next_update.0,
        revoked.0,
        extensions.0,
        end_from_nothing kinds.Der kinds.Der (after_optional context_constructed (list_extensions_spot first)) extensions.1,
      ) refl,
      record {
        issuer = sym issuer.whole_is;
        this_update = sym this_update.1;
        next_update = sym next_update.1;
        entries = sym revoked.1;
      },
    )

-- ---- CertificateList

CrlOf_from_none : (bytes : List ℕ) (fields : RevocationList) → AreOctets bytes → crl_fault bytes ≡ None → CrlAt bytes fields → CrlOf bytes fields
unfolding crl_fault
CrlOf_from_none bytes fields fits n at =
    let a = parts_of_none _ _ n in
    let b = parts_of_none _ _ a.1 in
    let c = parts_of_none _ _ b.1 in
    let d = parts_of_none _ _ c.1 in
    let e = parts_of_none _ _ d.1 in
    let f = parts_of_none _ _ e.1 in
    let g = parts_of_none _ _ f.1 in
    let list = found_part _ _ sequence_tag (front bytes) (rw (front-left bytes) fits) a.0 in
    let tbs = found_part _ _ sequence_tag (inside (front bytes)) list.inside b.0 in
    let algorithm = IsAlgorithm_from_none (after (inside (front bytes))) tbs.after d.0 in
    let signature = IsSignature_from_none kinds.Der (after (after (inside (front bytes)))) algorithm.1.after e.0 in
    let only = last (whole_at (after (after (inside (front bytes))))) signature.1.joined
    (nothing_left _ _ (after (after (after (inside (front bytes))))) f.0) in
    let parts = and_then (whole_at (inside (front bytes))) tbs.joined (and_then (whole_at (after (inside (front bytes)))) algorithm.1.joined only) in
    let whole = sym (front-left bytes) ∙ last (whole_at (front bytes)) list.joined (nothing_left _ _ (after (front bytes)) g.0) in
    let item = Der_with (sym (inside-left (front bytes)) ∙ parts) list.is_item in
    record {
      algorithm = whole_at (after (inside (front bytes)));
      bits = whole_at (after (after (inside (front bytes))));
      whole = at.whole;
      is_tbs = subst (λ (x : List ℕ). IsTbsList fields x) (sym at.tbs) (IsTbsList_from_none (inside (front bytes)) fields tbs c.0 at.parts);
      is_algorithm = algorithm.0;
      is_signature = rw at.signature signature.0;
      is_sequence = subst (λ (x : List ℕ). Der sequence_tag (fields.tbs
          ++ (whole_at (after (inside (front bytes))) ++ whole_at (after (after (inside (front bytes)))))) x) (sym whole) (rw at.tbs item);
    }

pub crl_clear : (bytes : List ℕ) (fields : RevocationList) → CrlOf bytes fields → (crl_fault bytes ≡ None) × CrlAt bytes fields
unfolding crl_fault
crl_clear bytes fields is =
    let list = stands (front bytes) sequence_tag (fields.tbs ++ (is.algorithm ++ is.bits)) bytes [] is.is_sequence (alone bytes (front-left bytes)) in
    let tbs = stands (inside (front bytes)) sequence_tag _ fields.tbs (is.algorithm ++ is.bits) is.is_tbs.is_sequence list.inside_is in
    let parts = list_clear (inside (inside (front bytes))) fields fields.tbs is.is_tbs tbs.inside_is in
    let algorithm = algorithm_clear (after (inside (front bytes))) is.algorithm is.bits is.is_algorithm tbs.after_is in
    let signature = signature_clear kinds.Der (after (after (inside (front bytes)))) fields.signature is.bits [] is.is_signature
    (alone is.bits algorithm.1) in (
      rw (
        no_part-stands kinds.Der kinds.Der (front bytes) sequence_tag (fields.tbs ++ (is.algorithm ++ is.bits)) bytes [] list,
        no_part-stands kinds.Der kinds.Der (inside (front bytes)) sequence_tag _ fields.tbs (is.algorithm ++ is.bits) tbs,
        parts.0,
        algorithm.0,
        signature.0,
        end_from_nothing kinds.Der kinds.Der (after (after (after (inside (front bytes))))) signature.2.after_is,
        end_from_nothing kinds.Der kinds.Der (after (front bytes)) list.after_is,
      ) refl,
      record { whole = is.whole; tbs = sym tbs.whole_is; parts = parts.1; signature = sym signature.1 },
    )

-- ---- one list

same_list : (a b : RevocationList) → a.whole ≡ b.whole → a.tbs ≡ b.tbs → a.issuer ≡ b.issuer → a.this_update ≡ b.this_update →
    a.next_update ≡ b.next_update → a.entries ≡ b.entries → a.signature ≡ b.signature → a ≡ b
same_list a b whole tbs issuer this_update next_update entries signature =
    let is : a ≡ record {
      whole = b.whole;
      tbs = b.tbs;
      issuer = b.issuer;
      this_update = b.this_update;
      next_update = b.next_update;
      entries = b.entries;
      signature = b.signature;
    } = rw (← whole, ← tbs, ← issuer, ← this_update, ← next_update, ← entries, ← signature) refl in
    is

list_same : (bytes : List ℕ) (a b : RevocationList) → CrlAt bytes a → CrlAt bytes b → a ≡ b
list_same bytes a b at other =
    same_list a b (at.whole ∙ sym other.whole) (at.tbs ∙ sym other.tbs) (at.parts.issuer ∙ sym other.parts.issuer)
    (at.parts.this_update ∙ sym other.parts.this_update) (at.parts.next_update ∙ sym other.parts.next_update)
    (at.parts.entries ∙ sym other.parts.entries) (at.signature ∙ sym other.signature)

pub one_list : (bytes : List ℕ) (a b : RevocationList) → CrlOf bytes a → CrlOf bytes b → a ≡ b
one_list bytes a b is other = list_same bytes a b (crl_clear bytes a is).1 (crl_clear bytes b other).1

pub read_ok : (bytes : List ℕ) → AreOctets bytes → (answer : Result Crl (PartFault CertKind)) → OnOk answer (crl_fault bytes ≡ None) →
    IfOk answer (λ list. CrlAt bytes (list_view list)) → IfOk answer (λ list. CrlOf bytes (list_view list))
read_ok bytes fits (Ok list) none fields = CrlOf_from_none bytes (list_view list) fits none fields
read_ok bytes fits (Err fault) none fields = tt

pub read_only : (bytes : List ℕ) (fields : RevocationList) → CrlOf bytes fields → (answer : Result Crl (PartFault CertKind)) →
    IfOk answer (λ list. CrlAt bytes (list_view list)) → IfErr answer (λ fault. crl_fault bytes ≡ Some (at fault)) →
    IsOkAnd answer (λ list. list_view list ≡ fields)
read_only bytes fields is (Ok list) here fails = list_same bytes (list_view list) fields here (crl_clear bytes fields is).1
read_only bytes fields is (Err fault) here fails = let none = (crl_clear bytes fields is).0 in absurd (cc (sym none ∙ fails))

pub list_from_none : (bytes : List ℕ) → AreOctets bytes → crl_fault bytes ≡ None → (fields : RevocationList) × CrlOf bytes fields
list_from_none bytes fits n =
    let first = inside (inside (front bytes)) in
    let fields : RevocationList = record {
      whole = bytes;
      tbs = whole_at (inside (front bytes));
      issuer = whole_at (list_issuer_spot first);
      this_update = seconds_at (this_update_spot first);
      next_update = next_update_at (next_update_spot first);
      entries = entries_at (revoked_spot first);
      signature = octets_at (after (after (inside (front bytes))));
    } in (
      fields,
      CrlOf_from_none bytes fields fits n (record {
        whole = refl;
        tbs = refl;
        parts = record { issuer = refl; this_update = refl; next_update = refl; entries = refl };
        signature = refl;
      }),
    )
