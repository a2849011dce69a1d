-- Tests of contents say what the definitions of the types say.
use Rattle.std.specs.Prelude.{◌==◌, nat_lt, bytes_eq}
use Rattle.std.proofs.Common.{◌≡◌, ℕ, inl, inr, ◌+◌, ◌^◌, ◌<◌, Bool, true, false, List, [], ◌∷◌, ◌++◌, length, get_or, take, drop, refl, sym, ap, ◌∙◌, arith, pos}
use Rattle.std.proofs.lemmas.Bool.{eqb-true, eq-eqb, ne_eqb, ltb-true, lt-ltb, leb-true, le-leb, cases_Bool, cases_lt, or_cases, or_left, or_right, and_parts, and_from}
use Rattle.std.proofs.lemmas.List.{take-append-drop}
use Rattle.sz_der.specs.Content.{IsBits, IsBoolean}
use Rattle.sz_der.specs.Der.{AreOctets, number_of}
use Rattle.sz_der.specs.Integer.{is_integer, IsIntegerOf}
use Rattle.sz_der.proofs.IntegerTest.{IsInteger_from_test}
use Rattle.sz_der.proofs.Octets.{same_bytes}
use Rattle.sz_der.proofs.Values.{integer_of-negative, integer_of-positive, one_number}
use Rattle.sz_x509.specs.Certificate.{HoldsKey, key_length}
use Rattle.sz_x509.specs.CertFault.{holds_key, is_wrapped, key_in}
use Rattle.sz_x509.specs.Contents.{is_bits, is_boolean, is_true_content, is_u32, is_whole_octets}

-- ---- BOOLEAN

pub IsBoolean_from_test : (content : List ℕ) → is_boolean content ≡ true → IsBoolean (is_true_content content) content
IsBoolean_from_test content e =
    elim (or_cases (bytes_eq content (0 ∷ [])) (is_true_content content) e) [
      | inl clear ↦ let is = same_bytes content (0 ∷ []) clear in rw is refl
      | inr set ↦ rw set (same_bytes content (255 ∷ []) set)
    ]

pub boolean_test : (flag : Bool) (content : List ℕ) → IsBoolean flag content → is_boolean content ≡ true
boolean_test false content is = rw is refl
boolean_test true content is = rw is refl

pub boolean_value : (flag : Bool) (content : List ℕ) → IsBoolean flag content → is_true_content content ≡ flag
boolean_value false content is = rw is refl
boolean_value true content is = rw is refl

-- ---- an INTEGER of 32 bits

pub IsIntegerOf_from_tests : (content : List ℕ) → AreOctets content → is_integer content ≡ true → is_u32 content ≡ true →
    (number_of content < 2 ^ 32) × IsIntegerOf (pos (number_of content)) content
IsIntegerOf_from_tests content fits minimal e =
    let tests = and_parts (nat_lt (get_or content 0 0) 128) (nat_lt (number_of content) (2 ^ 32)) e in (
      ltb-true (number_of content) (2 ^ 32) tests.1,
      record {
        minimal = IsInteger_from_test content minimal;
        octets = fits;
        writes = integer_of-positive content (ltb-true (get_or content 0 0) 128 tests.0);
      },
    )

-- the first bit of a number from 0 on is clear
first_bit : (n : ℕ) (content : List ℕ) → IsIntegerOf (pos n) content → get_or content 0 0 < 128
first_bit n content is =
    elim (cases_lt (get_or content 0 0) 128) [
      | inl low ↦ low
      | inr high ↦ absurd (integer_of-negative content is.octets high n is.writes)
    ]

pub number_is : (n : ℕ) (content : List ℕ) → IsIntegerOf (pos n) content → number_of content ≡ n
number_is n content is = one_number content n (first_bit n content is) is.writes

pub u32_test : (n : ℕ) (content : List ℕ) → n < 2 ^ 32 → IsIntegerOf (pos n) content → is_u32 content ≡ true
u32_test n content below is =
    let number = number_is n content is in
    and_from (nat_lt (get_or content 0 0) 128) (nat_lt (number_of content) (2 ^ 32)) (lt-ltb (get_or content 0 0) 128 (first_bit n content is))
    (lt-ltb (number_of content) (2 ^ 32) (rw number below))

-- ---- BIT STRING

pub whole_octets_from_test : (content : List ℕ) → is_whole_octets content ≡ true → content ≡ 0 ∷ drop 1 content
whole_octets_from_test [] e = absurd cc
whole_octets_from_test (unused ∷ octets) e = let none = eqb-true unused 0 e in rw none refl

pub whole_octets_test : (octets content : List ℕ) → content ≡ 0 ∷ octets → is_whole_octets content ≡ true
whole_octets_test octets content is = rw is refl

pub IsBits_from_test : (unused : ℕ) (octets : List ℕ) → is_bits (unused ∷ octets) ≡ true → IsBits unused octets
IsBits_from_test unused [] e =
    let none : unused ≡ 0 = eqb-true unused 0 e in
    record { at_most_seven = omega arith; none_of_none = λ empty. none; clear = rw none refl }
IsBits_from_test unused (octet ∷ octets) e =
    let tests = and_parts _ _ e in
    record {
      at_most_seven = leb-true unused 7 tests.0;
      none_of_none = λ empty. absurd cc;
      clear = eqb-true _ _ tests.1;
    }

pub bits_test : (unused : ℕ) (octets : List ℕ) → IsBits unused octets → is_bits (unused ∷ octets) ≡ true
bits_test unused [] is = eq-eqb unused 0 (is.none_of_none refl)
bits_test unused (octet ∷ octets) is = and_from _ _ (le-leb unused 7 is.at_most_seven) (eq-eqb _ _ is.clear)

-- ---- the key

length_of_wrapped : (octets : List ℕ) → bytes_eq (take 2 octets) (4 ∷ key_length ∷ []) ≡ true → octets ≡ 4 ∷ key_length ∷ drop 2 octets
length_of_wrapped octets e =
    let front = same_bytes (take 2 octets) (4 ∷ key_length ∷ []) e in
    sym (take-append-drop 2 octets) ∙ ap (λ (x : List ℕ). x ++ drop 2 octets) front

pub HoldsKey_from_test : (octets : List ℕ) → holds_key octets ≡ true → HoldsKey (key_in octets) octets
HoldsKey_from_test octets e =
    elim (cases_Bool (length octets == key_length)) [
      | inl raw ↦ rw raw (record { of_length = eqb-true (length octets) key_length raw; raw_or_wrapped = inl refl })
      | inr not_raw ↦
          let wrapped : is_wrapped octets ≡ true = rw not_raw at e in
          let tests = and_parts _ _ wrapped in
          let is = length_of_wrapped octets tests.0 in
          let long = eqb-true (length octets) (2 + key_length) tests.1 in
          rw not_raw (record { of_length = omega (arith, ap length is); raw_or_wrapped = inr is })
    ]

pub key_test : (key octets : List ℕ) → HoldsKey key octets → holds_key octets ≡ true
key_test key octets is =
    elim is.raw_or_wrapped [
      | inl raw ↦ or_left _ _ (eq-eqb (length octets) key_length (ap length raw ∙ is.of_length))
      | inr wrapped ↦
          let long : length octets ≡ 2 + key_length = omega (arith, ap length wrapped, is.of_length) in
          let front : bytes_eq (take 2 octets) (4 ∷ key_length ∷ []) ≡ true = rw wrapped refl in
          or_right _ _ (and_from _ _ front (eq-eqb (length octets) (2 + key_length) long))
    ]

pub key_value : (key octets : List ℕ) → HoldsKey key octets → key_in octets ≡ key
key_value key octets is =
    elim is.raw_or_wrapped [
      | inl raw ↦ let long = eq-eqb (length octets) key_length (ap length raw ∙ is.of_length) in rw long raw
      | inr wrapped ↦
          let other : length octets ≡ key_length → ⊥ = λ e. omega (arith, ap length wrapped, is.of_length) in
          let long = ne_eqb (length octets) key_length other in
          rw long (ap (λ (x : List ℕ). drop 2 x) wrapped)
    ]
