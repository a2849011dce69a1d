-- How far a name was read: what is left of it decides what it is.
use Rattle.std.proofs.Common.{◌≡◌, ℕ, suc, ◌+◌, ◌<◌, ◌≤◌, List, [], ◌∷◌, ◌++◌, length, drop, Option, Some, None, refl, ap, append_assoc, arith, length-append}
use Rattle.std.specs.Prelude.{unwrap_or}
use Rattle.std.specs.Option.{option_or}
use Rattle.std.proofs.lemmas.List.{append-nil}
use Rattle.sz_dns.specs.Name.{BeginsWithLabel, BeginsWithPointer, behind_label, behind_pointer, front_fault, GoesWrong, IsName, labelled, labels_size, NameOf, pointed, root}
use Rattle.sz_dns.specs.declared.fault.DnsKind.{DnsKind}
use Rattle.sz_dns.specs.Limits.{most_name_bytes, most_pointers}
use Rattle.sz_dns.proofs.Fronts.{label_fits, pointer_allowed}

-- A name goes on at `left`, after these labels and so many pointers; what comes after it is known once a pointer was
-- followed.
pub record IsOnWay (message start left : List ℕ) (labels : List (List ℕ)) (size pointers : ℕ) (after : Option (List ℕ)) : Type 0 where
  pub name : (more : List (List ℕ)) (further : ℕ) (rest : List ℕ) → NameOf message left more further rest
      → NameOf message start (labels ++ more) (pointers + further) (unwrap_or after rest)
  pub fault : (kind : DnsKind) → GoesWrong message left size pointers kind → GoesWrong message start 0 0 kind
  pub size_is : size ≡ labels_size labels
  pub short : size + 1 ≤ most_name_bytes
  pub few : pointers ≤ most_pointers

pub way_begins : (message start : List ℕ) → IsOnWay message start start [] 0 0 None
way_begins message start = record {
  name = λ more further rest name. let same : 0 + further ≡ further = omega arith in rw same name;
  fault = λ kind fault. fault;
  size_is = refl;
  short = omega arith;
  few = omega arith;
}

labels_size-push : (labels : List (List ℕ)) (label : List ℕ) → labels_size (labels ++ label ∷ []) ≡ labels_size labels + (1 + length label)
labels_size-push [] label = omega arith
labels_size-push (x ∷ labels) label = omega (arith, labels_size-push labels label)

pub past_label : (message start left label rest : List ℕ) (labels : List (List ℕ)) (size pointers : ℕ) (after : Option (List ℕ))
    → IsOnWay message start left labels size pointers after → front_fault left size pointers ≡ None
    → BeginsWithLabel left label rest → IsOnWay message start rest (labels ++ label ∷ []) (size + (1 + length label)) pointers after
past_label message start left label rest labels size pointers after way none begins = record {
  name = λ more further tail name.
      let whole = way.name (label ∷ more) further tail (labelled begins name) in
      rw (append_assoc labels (label ∷ []) more) whole;
  fault = λ kind wrong.
      let same : size + (1 + length label) ≡ size + 1 + length label = omega arith in
      let behind = rw same at wrong in
      way.fault kind (behind_label none begins behind);
  size_is = rw (labels_size-push labels label) (omega (arith, way.size_is));
  short = let fits = label_fits left label rest size pointers none begins in omega arith;
  few = way.few;
}

-- what comes after a name is told by its first pointer
first_pointer : (after : Option (List ℕ)) (rest tail : List ℕ) → unwrap_or (option_or after (Some rest)) tail ≡ unwrap_or after rest
first_pointer None rest tail = refl
first_pointer (Some known) rest tail = refl

pub past_pointer : (message start left rest : List ℕ) (labels : List (List ℕ)) (size pointers to : ℕ) (after : Option (List ℕ))
    → IsOnWay message start left labels size pointers after → front_fault left size pointers ≡ None
    → BeginsWithPointer left to rest
    → IsOnWay message start (drop to message) labels size (pointers + 1) (option_or after (Some rest))
past_pointer message start left rest labels size pointers to after way none begins = record {
  name = λ more further tail name.
      let whole = way.name more (suc further) rest (pointed begins name) in
      let same : pointers + 1 + further ≡ pointers + suc further = omega arith in
      rw (same, first_pointer after rest tail) whole;
  fault = λ kind wrong.
      let same : pointers + 1 ≡ suc pointers = omega arith in
      let behind = rw same at wrong in
      way.fault kind (behind_pointer none begins behind);
  size_is = way.size_is;
  short = way.short;
  few = let allowed = pointer_allowed left rest to size pointers none begins in omega arith;
}

pub way_ends : (message start left rest : List ℕ) (labels : List (List ℕ)) (size pointers : ℕ) (after : Option (List ℕ))
    → IsOnWay message start left labels size pointers after → left ≡ 0 ∷ rest → IsName message start labels (unwrap_or after rest)
way_ends message start left rest labels size pointers after way spelled =
    let whole = way.name [] 0 rest (root spelled) in
    let none : pointers + 0 ≡ pointers = omega arith in
    let size_is = way.size_is in
    let short = way.short in
    record {
      pointers = pointers;
      name = rw (append-nil labels, none) at whole;
      short = omega arith;
      few = way.few;
    }

-- what comes after a name is shorter than what it begins
pub shorter_behind : (message bytes rest : List ℕ) (labels : List (List ℕ)) (pointers : ℕ) → NameOf message bytes labels pointers rest
    → length rest < length bytes
shorter_behind message bytes rest labels pointers (root spelled) = omega (arith, ap length spelled)
shorter_behind message bytes rest labels pointers (labelled {label = label} {after = after} {labels = more} begins name) =
    let behind = shorter_behind message after rest more pointers name in
    omega (arith, ap length begins.spelled, length-append label after)
shorter_behind message bytes rest labels pointers (pointed begins name) = omega (arith, ap length begins.spelled)

pub IsName-shorter : (message bytes rest : List ℕ) (labels : List (List ℕ)) → IsName message bytes labels rest → length rest < length bytes
IsName-shorter message bytes rest labels h = shorter_behind message bytes rest labels h.pointers h.name
