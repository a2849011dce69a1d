-- What the table of faults says of a root, a label and a pointer.
use Rattle.std.proofs.Common.{◌≡◌, ℕ, suc, ◌+◌, ◌<◌, ◌≤◌, ltb, leb, inl, inr, List, ◌∷◌, ◌++◌, length, Some, None, refl, sym, ◌∙◌, arith, length-append}
use Rattle.std.proofs.lemmas.Bool.{and_right, cases_lt, le-leb, le-ltb, lt-leb, lt-ltb, ne_eqb}
use Rattle.sz_dns.specs.Name.{BeginsWithLabel, BeginsWithPointer, front_fault}
use Rattle.sz_dns.specs.declared.fault.DnsKind.TheVariants.{Pointer}
use Rattle.sz_dns.specs.Limits.{most_name_bytes, most_pointers}

pub root_front : (bytes rest : List ℕ) (size pointers : ℕ) → bytes ≡ 0 ∷ rest → front_fault bytes size pointers ≡ None
unfolding front_fault
root_front bytes rest size pointers spelled = rw (spelled, ne_eqb (suc (length rest)) 0 (omega arith)) refl

-- how long the bytes are that begin with a label
longer : (label rest : List ℕ) → length label < suc (length (label ++ rest))
longer label rest = omega (arith, length-append label rest)

front_of_label : (label rest : List ℕ) (size pointers : ℕ) → 1 ≤ length label → length label ≤ 63
    → size + 1 + length label + 1 ≤ most_name_bytes → front_fault (length label ∷ label ++ rest) size pointers ≡ None
unfolding front_fault
front_of_label label rest size pointers some few fits =
    rw (
      ne_eqb (suc (length (label ++ rest))) 0 (omega arith),
      lt-leb 192 (length label) (omega arith),
      lt-ltb 0 (length label) some,
      lt-ltb (length label) 64 (omega arith),
      lt-leb (suc (length (label ++ rest))) (length label) (longer label rest),
      le-ltb most_name_bytes (size + 1 + length label + 1) fits,
      lt-leb 64 (length label) (omega arith),
    ) refl

too_long_label : (label rest : List ℕ) (size pointers : ℕ) → 1 ≤ length label → length label ≤ 63
    → most_name_bytes < size + 1 + length label + 1 → front_fault (length label ∷ label ++ rest) size pointers ≡ Some Pointer
unfolding front_fault
too_long_label label rest size pointers some few long =
    rw (
      ne_eqb (suc (length (label ++ rest))) 0 (omega arith),
      lt-leb 192 (length label) (omega arith),
      lt-ltb 0 (length label) some,
      lt-ltb (length label) 64 (omega arith),
      lt-leb (suc (length (label ++ rest))) (length label) (longer label rest),
      lt-ltb most_name_bytes (size + 1 + length label + 1) long,
    ) refl

pub label_front : (bytes label rest : List ℕ) (size pointers : ℕ) → BeginsWithLabel bytes label rest
    → size + 1 + length label + 1 ≤ most_name_bytes → front_fault bytes size pointers ≡ None
label_front bytes label rest size pointers begins fits =
    rw begins.spelled (front_of_label label rest size pointers begins.some begins.few fits)

front_of_pointer : (high low : ℕ) (rest : List ℕ) (size pointers : ℕ) → pointers < most_pointers
    → front_fault ((192 + high) ∷ low ∷ rest) size pointers ≡ None
unfolding front_fault
front_of_pointer high low rest size pointers few =
    rw (
      ne_eqb (suc (suc (length rest))) 0 (omega arith),
      le-leb 192 (192 + high) (omega arith),
      ne_eqb (suc (suc (length rest))) 1 (omega arith),
      lt-leb most_pointers pointers few,
      and_right (ltb 0 (192 + high)) (ltb (192 + high) 64) (le-ltb (192 + high) 64 (omega arith)),
      and_right (leb 64 (192 + high)) (ltb (192 + high) 192) (le-ltb (192 + high) 192 (omega arith)),
    ) refl

too_far_pointer : (high low : ℕ) (rest : List ℕ) (size pointers : ℕ) → most_pointers ≤ pointers
    → front_fault ((192 + high) ∷ low ∷ rest) size pointers ≡ Some Pointer
unfolding front_fault
too_far_pointer high low rest size pointers many =
    rw (
      ne_eqb (suc (suc (length rest))) 0 (omega arith),
      le-leb 192 (192 + high) (omega arith),
      ne_eqb (suc (suc (length rest))) 1 (omega arith),
      le-leb most_pointers pointers many,
    ) refl

pub pointer_front : (bytes rest : List ℕ) (to size pointers : ℕ) → BeginsWithPointer bytes to rest → pointers < most_pointers
    → front_fault bytes size pointers ≡ None
pointer_front bytes rest to size pointers begins few =
    rw begins.spelled (front_of_pointer begins.high begins.low rest size pointers few)

-- ---- what holds where the table finds nothing

pub label_fits : (bytes label rest : List ℕ) (size pointers : ℕ) → front_fault bytes size pointers ≡ None
    → BeginsWithLabel bytes label rest → size + 1 + length label + 1 ≤ most_name_bytes
label_fits bytes label rest size pointers none begins =
    elim (cases_lt most_name_bytes (size + 1 + length label + 1)) [
      | inl long ↦
          let spelled = begins.spelled in
          let at = rw spelled at none in
          let e = sym at ∙ too_long_label label rest size pointers begins.some begins.few long in cc e
      | inr fits ↦ fits
    ]

pub pointer_allowed : (bytes rest : List ℕ) (to size pointers : ℕ) → front_fault bytes size pointers ≡ None
    → BeginsWithPointer bytes to rest → pointers < most_pointers
pointer_allowed bytes rest to size pointers none begins =
    elim (cases_lt pointers most_pointers) [
      | inl few ↦ few
      | inr many ↦
          let spelled = begins.spelled in
          let at = rw spelled at none in
          let e = sym at ∙ too_far_pointer begins.high begins.low rest size pointers many in cc e
    ]
