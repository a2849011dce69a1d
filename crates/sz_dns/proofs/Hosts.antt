-- What a host's labels are with dots between them, and the tests of names.
use Rattle.std.proofs.Common.{◌≡◌, ℕ, ◌+◌, ◌≤◌, Bool, true, false, not, ◌||◌, eqb, inl, List, [], ◌∷◌, length, refl, sym, arith, length-append}
use Rattle.std.specs.Prelude.{◌↔◌}
use Rattle.std.specs.Char.{is_ascii_alphanumeric}
use Rattle.std.specs.List.{flat_map, list_all}
use Rattle.std.specs.Str.{bytes_eq}
use Rattle.std.proofs.lemmas.Bool.{and_from, and_parts, eqb-false, false_from_ne_true, not-true}
use Rattle.std.proofs.lemmas.List.Folds.{list_all-append}
use Rattle.std.proofs.lemmas.List.Sums.{AllPass-from_list_all}
use Rattle.std.proofs.lemmas.Slice.Eq.{bytes_eq-Decides}
use Rattle.sz_base.specs.Host.{is_name_byte, IsHost, IsName}
use Rattle.sz_dns.specs.Name.{labels_size}
use Rattle.sz_dns.specs.Service.{dotted, is_host, is_host_byte}
use Rattle.sz_dns.specs.Limits.{most_name_bytes}

more_marks : (a x y z : Bool) → (a || (x || (y || false))) ≡ true → (a || (x || (y || (z || false)))) ≡ true
more_marks true x y z e = refl
more_marks false true y z e = refl
more_marks false false true z e = refl
more_marks false false false z e = cc e

-- a byte of a host's label is one of a name
name_byte : (byte : ℕ) → is_host_byte byte ≡ true → is_name_byte byte ≡ true
name_byte byte e = more_marks (is_ascii_alphanumeric byte) (eqb 45 byte) (eqb 95 byte) (eqb 46 byte) e

label_passes : (label : List ℕ) → list_all is_host_byte label ≡ true → list_all is_name_byte label ≡ true
label_passes [] e = refl
label_passes (byte ∷ label) e =
    let parts = and_parts (is_host_byte byte) (list_all is_host_byte label) e in
    and_from (is_name_byte byte) (list_all is_name_byte label) (name_byte byte parts.0) (label_passes label parts.1)

-- the labels behind the first, each after a dot
abbrev behind : List (List ℕ) → List ℕ
behind labels = flat_map (λ (more : List ℕ). 46 ∷ more) labels

behind_passes : (labels : List (List ℕ)) → list_all (list_all is_host_byte) labels ≡ true → list_all is_name_byte (behind labels) ≡ true
behind_passes [] e = refl
behind_passes (label ∷ labels) e =
    let parts = and_parts (list_all is_host_byte label) (list_all (list_all is_host_byte) labels) e in
    rw list_all-append
    (and_from (list_all is_name_byte label) (list_all is_name_byte (behind labels)) (label_passes label parts.0) (behind_passes labels parts.1))

passes : (labels : List (List ℕ)) → list_all (list_all is_host_byte) labels ≡ true → list_all is_name_byte (dotted labels) ≡ true
passes [] e = refl
passes (label ∷ labels) e =
    let parts = and_parts (list_all is_host_byte label) (list_all (list_all is_host_byte) labels) e in
    rw list_all-append
    (and_from (list_all is_name_byte label) (list_all is_name_byte (behind labels)) (label_passes label parts.0) (behind_passes labels parts.1))

behind_size : (labels : List (List ℕ)) → length (behind labels) ≡ labels_size labels
behind_size [] = refl
behind_size (label ∷ labels) = omega (arith, length-append label (behind labels), behind_size labels)

dotted_size : (labels : List (List ℕ)) → length (dotted labels) ≤ labels_size labels
dotted_size [] = omega arith
dotted_size (label ∷ labels) = omega (arith, length-append label (behind labels), behind_size labels)

-- the text of a host's labels is a host
pub host_text_is : (labels : List (List ℕ)) → is_host labels ≡ true → labels_size labels + 1 ≤ most_name_bytes → IsHost (dotted labels)
host_text_is labels e short =
    let parts = and_parts (not (eqb (length (dotted labels)) 0)) (list_all (list_all is_host_byte) labels) e in
    let size = dotted_size labels in
    let some = eqb-false (length (dotted labels)) 0 (not-true (eqb (length (dotted labels)) 0) parts.0) in
    let text : IsName (dotted labels) = record {
      some = omega arith;
      most = omega arith;
      allowed = AllPass-from_list_all is_name_byte (dotted labels) (passes labels parts.1);
    } in
    inl text

-- a test of two texts that says whether they are equal
pub equal_is : (b : Bool) (xs ys : List ℕ) → ((b ≡ true) ↔ (xs ≡ ys)) → b ≡ bytes_eq xs ys
equal_is true xs ys h = sym ((bytes_eq-Decides xs ys).1 (h.0 refl))
equal_is false xs ys h =
    sym (false_from_ne_true (bytes_eq xs ys) (λ t. let e = h.1 ((bytes_eq-Decides xs ys).0 t) in cc e))
