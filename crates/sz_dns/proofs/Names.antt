-- What stands at a place is one name, or has one fault.
use Rattle.std.proofs.Common.{◌≡◌, ℕ, suc, ◌+◌, ◌≤◌, List, ◌∷◌, ◌++◌, length, drop, refl, sym, ap, ◌∙◌, arith}
use Rattle.sz_dns.specs.Name.{BeginsWithLabel, BeginsWithPointer, behind_label, behind_pointer, GoesWrong, here, IsName, IsNameFault, labelled, labels_size, NameOf, pointed, root}
use Rattle.sz_dns.specs.declared.fault.DnsKind.{DnsKind}
use Rattle.sz_dns.specs.Limits.{most_name_bytes, most_pointers}
use Rattle.sz_dns.proofs.Fronts.{label_front, pointer_front, root_front}
use Rattle.sz_dns.proofs.Splits.{same_fronts}

no_root_label : (bytes label rest more : List ℕ) → bytes ≡ 0 ∷ rest → BeginsWithLabel bytes label more → ⊥
no_root_label bytes label rest more spelled begins =
    let whole = sym spelled ∙ begins.spelled in
    let none : 0 ≡ length label = cc whole in
    let some = begins.some in
    omega arith

no_root_pointer : (bytes rest more : List ℕ) (to : ℕ) → bytes ≡ 0 ∷ rest → BeginsWithPointer bytes to more → ⊥
no_root_pointer bytes rest more to spelled begins =
    let whole = sym spelled ∙ begins.spelled in
    let first : 0 ≡ 192 + begins.high = cc whole in
    omega arith

no_label_pointer : (bytes label rest more : List ℕ) (to : ℕ) → BeginsWithLabel bytes label rest → BeginsWithPointer bytes to more → ⊥
no_label_pointer bytes label rest more to begins points =
    let whole = sym begins.spelled ∙ points.spelled in
    let first : length label ≡ 192 + points.high = cc whole in
    let few = begins.few in
    omega arith

same_label : (bytes label other rest more : List ℕ) → BeginsWithLabel bytes label rest → BeginsWithLabel bytes other more
    → (label ≡ other) × (rest ≡ more)
same_label bytes label other rest more a b =
    let whole = sym a.spelled ∙ b.spelled in
    let sizes : length label ≡ length other = cc whole in
    let tails : label ++ rest ≡ other ++ more = cc whole in
    same_fronts label other rest more sizes tails

same_pointer : (bytes rest more : List ℕ) (to at : ℕ) → BeginsWithPointer bytes to rest → BeginsWithPointer bytes at more
    → (to ≡ at) × (rest ≡ more)
same_pointer bytes rest more to at a b =
    let whole = sym a.spelled ∙ b.spelled in
    let firsts : 192 + a.high ≡ 192 + b.high = cc whole in
    let lows : a.low ≡ b.low = cc whole in
    let rests : rest ≡ more = cc whole in
    let leads = a.leads in
    let second = b.leads in
    (omega arith, rests)

-- a name is read in one way
pub one_name_of : (message bytes rest more : List ℕ) (labels others : List (List ℕ)) (pointers further : ℕ)
    → NameOf message bytes labels pointers rest → NameOf message bytes others further more
    → (labels ≡ others) × (pointers ≡ further) × (rest ≡ more)
one_name_of message bytes rest more labels others pointers further (root a) (root b) =
    let whole = sym a ∙ b in
    let rests : rest ≡ more = cc whole in
    (refl, refl, rests)
one_name_of message bytes rest more labels others pointers further (root a) (labelled {label = label} {after = after} b name) =
    absurd (no_root_label bytes label rest after a b)
one_name_of message bytes rest more labels others pointers further (root a) (pointed {to = to} b name) =
    absurd (no_root_pointer bytes rest more to a b)
one_name_of message bytes rest more labels others pointers further (labelled {label = label} {after = after} a name) (root b) =
    absurd (no_root_label bytes label more after b a)
one_name_of message bytes rest more labels others pointers further
    (labelled {label = label} {after = after} {labels = tail} a name) (labelled {label = other} {after = behind} {labels = second} b last) =
    let same = same_label bytes label other after behind a b in
    let first = rw same.1 at name in
    let others_are = one_name_of message behind rest more tail second pointers further first last in (
      ap (λ (l : List ℕ). l ∷ tail) same.0 ∙ ap (λ (ls : List (List ℕ)). other ∷ ls) others_are.0,
      others_are.1,
      others_are.2,
    )
one_name_of message bytes rest more labels others pointers further (labelled {label = label} {after = after} a name) (pointed {to = to} b last) =
    absurd (no_label_pointer bytes label after more to a b)
one_name_of message bytes rest more labels others pointers further (pointed {to = to} a name) (root b) =
    absurd (no_root_pointer bytes more rest to b a)
one_name_of message bytes rest more labels others pointers further (pointed {to = to} a name) (labelled {label = label} {after = after} b last) =
    absurd (no_label_pointer bytes label after rest to b a)
one_name_of message bytes rest more labels others pointers further
    (pointed {after = after} {pointers = n} {to = to} a name) (pointed {after = behind} {pointers = m} {to = at} b last) =
    let same = same_pointer bytes rest more to at a b in
    let first = rw same.0 at name in
    let others_are = one_name_of message (drop at message) after behind labels others n m first last in
    (others_are.0, ap suc others_are.1, same.1)

pub one_name : (message bytes rest more : List ℕ) (labels others : List (List ℕ)) → IsName message bytes labels rest
    → IsName message bytes others more → (labels ≡ others) × (rest ≡ more)
one_name message bytes rest more labels others a b =
    let same = one_name_of message bytes rest more labels others a.pointers b.pointers a.name b.name in
    (same.0, same.2)

-- a fault is found at one place
one_wrong : (message bytes : List ℕ) (size pointers : ℕ) (kind other : DnsKind) → GoesWrong message bytes size pointers kind
    → GoesWrong message bytes size pointers other → kind ≡ other
one_wrong message bytes size pointers kind other (here a) (here b) = let e = sym a ∙ b in cc e
one_wrong message bytes size pointers kind other (here a) (behind_label none begins wrong) = let e = sym a ∙ none in cc e
one_wrong message bytes size pointers kind other (here a) (behind_pointer none begins wrong) = let e = sym a ∙ none in cc e
one_wrong message bytes size pointers kind other (behind_label none begins wrong) (here b) = let e = sym b ∙ none in cc e
one_wrong message bytes size pointers kind other (behind_label {label = label} {after = after} none begins wrong)
    (behind_label {label = second} {after = behind} again last worse) =
    let same = same_label bytes label second after behind begins last in
    let first = rw (same.0, same.1) at wrong in
    one_wrong message behind (size + 1 + length second) pointers kind other first worse
one_wrong message bytes size pointers kind other (behind_label {label = label} {after = after} none begins wrong)
    (behind_pointer {rest = rest} {to = to} again last worse) =
    absurd (no_label_pointer bytes label after rest to begins last)
one_wrong message bytes size pointers kind other (behind_pointer none begins wrong) (here b) = let e = sym b ∙ none in cc e
one_wrong message bytes size pointers kind other (behind_pointer {rest = rest} {to = to} none begins wrong)
    (behind_label {label = label} {after = after} again last worse) =
    absurd (no_label_pointer bytes label after rest to last begins)
one_wrong message bytes size pointers kind other (behind_pointer {rest = rest} {to = to} none begins wrong)
    (behind_pointer {rest = more} {to = at} again last worse) =
    let same = same_pointer bytes rest more to at begins last in
    let first = rw same.0 at wrong in
    one_wrong message (drop at message) size (suc pointers) kind other first worse

pub one_name_fault : (message bytes : List ℕ) (kind other : DnsKind) → IsNameFault message bytes kind → IsNameFault message bytes other
    → kind ≡ other
one_name_fault message bytes kind other a b = one_wrong message bytes 0 0 kind other a b

-- a name within its limits has no fault
not_wrong : (message bytes rest : List ℕ) (labels : List (List ℕ)) (further size pointers : ℕ) (kind : DnsKind)
    → NameOf message bytes labels further rest → size + labels_size labels + 1 ≤ most_name_bytes → pointers + further ≤ most_pointers
    → GoesWrong message bytes size pointers kind → ⊥
not_wrong message bytes rest labels further size pointers kind (root a) short few (here b) =
    let e = sym (root_front bytes rest size pointers a) ∙ b in cc e
not_wrong message bytes rest labels further size pointers kind (root a) short few (behind_label {label = label} {after = after} none begins wrong) =
    no_root_label bytes label rest after a begins
not_wrong message bytes rest labels further size pointers kind (root a) short few (behind_pointer {rest = more} {to = to} none begins wrong) =
    no_root_pointer bytes rest more to a begins
not_wrong message bytes rest labels further size pointers kind (labelled {label = label} {after = after} a name) short few (here b) =
    let e = sym (label_front bytes label after size pointers a (omega arith)) ∙ b in cc e
not_wrong message bytes rest labels further size pointers kind (labelled {label = label} {after = after} {labels = tail} a name) short few
    (behind_label {label = other} {after = behind} none begins wrong) =
    let same = same_label bytes label other after behind a begins in
    let first = rw (← same.0, ← same.1) at wrong in
    not_wrong message after rest tail further (size + 1 + length label) pointers kind name (omega arith) few first
not_wrong message bytes rest labels further size pointers kind (labelled {label = label} {after = after} a name) short few
    (behind_pointer {rest = more} {to = to} none begins wrong) =
    no_label_pointer bytes label after more to a begins
not_wrong message bytes rest labels further size pointers kind (pointed {to = to} a name) short few (here b) =
    let e = sym (pointer_front bytes rest to size pointers a (omega arith)) ∙ b in cc e
not_wrong message bytes rest labels further size pointers kind (pointed {to = to} a name) short few
    (behind_label {label = label} {after = after} none begins wrong) =
    no_label_pointer bytes label after rest to begins a
not_wrong message bytes rest labels further size pointers kind (pointed {after = after} {pointers = n} {to = to} a name) short few
    (behind_pointer {rest = more} {to = at} none begins wrong) =
    let same = same_pointer bytes rest more to at a begins in
    let first = rw (← same.0) at wrong in
    not_wrong message (drop to message) after labels n size (suc pointers) kind name short (omega arith) first

pub name_or_fault : (message bytes rest : List ℕ) (labels : List (List ℕ)) (kind : DnsKind) → IsName message bytes labels rest
    → IsNameFault message bytes kind → ⊥
name_or_fault message bytes rest labels kind a b =
    let few = a.few in
    let short = a.short in
    not_wrong message bytes rest labels a.pointers 0 0 kind a.name (omega arith) (omega arith) b
