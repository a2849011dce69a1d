-- A one-time signature breaks no rule exactly where it is spelled as one.
use Rattle.std.proofs.Common.{◌≡◌, ℕ, ◌+◌, ◌*◌, ◌^◌, ◌<◌, ◌↔◌, ap₂, List, [], ◌++◌, length, take, drop, Some, sym, refl, ap, ◌∙◌, arith, take_all, length-drop, length-take-le, length-append, append_assoc, append-nil, le-leb, eqb-true, eq-eqb}
use Rattle.std.proofs.lemmas.Bool.Decides.{nat_tests}
use Rattle.std.specs.List.{concat}
use Rattle.std.specs.Int.{w32, to_be_bytes}
use Rattle.sz_lms.specs.Bits.{u32_at, values_of}
use Rattle.sz_lms.specs.Ots.{OtsType, ots_type, ots_key, ots_signature, AreValues}
use Rattle.sz_lms.specs.Rules.{ots_length, ots_rules, ots_key_at}
use Rattle.sz_lms.specs.Spelled.{IsOtsSignature}
use Rattle.sz_lms.proofs.LawTests.{Pass, pass_one, one_passes, none_passes, pass_known, known_passes}
use Rattle.sz_lms.proofs.LawBytes.{small_number_spelled, number_at, part_at, behind, three_parts, values_are, concat-values_of, values_at, length-values}

pub ots_code_small : (code : ℕ) (type : OtsType) → ots_type code ≡ Some type → code < 256
ots_code_small code type h = grind (arith, nat_tests)

-- ---- the parts that the rules name are the parts of a spelling

-- the spelling of the parts that stand at the front
pub ots_spelled : (bytes : List ℕ) (chains : ℕ) → to_be_bytes w32 (u32_at bytes 0) ≡ take 4 bytes
    → ots_signature (u32_at bytes 0) (take 32 (drop 4 bytes)) (values_of chains (drop 36 bytes)) ≡ take (36 + 32 * chains) bytes
ots_spelled bytes chains code =
    three_parts (to_be_bytes w32 (u32_at bytes 0)) (take 32 (drop 4 bytes)) (concat (values_of chains (drop 36 bytes))) bytes
    4 32 (32 * chains) code refl (concat-values_of chains (drop 36 bytes))

-- the parts of a spelling, whatever follows it
pub record Parts (bytes : List ℕ) (chains code : ℕ) (randomizer : List ℕ) (values : List (List ℕ)) : Type 0 where
  pub code_is : u32_at bytes 0 ≡ code
  pub randomizer_is : take 32 (drop 4 bytes) ≡ randomizer
  pub values_are : values_of chains (drop 36 bytes) ≡ values

pub wide : (n : ℕ) → n < 256 → n < 2 ^ 32
wide n small = omega arith

pub ots_parts : (code chains : ℕ) (randomizer rest : List ℕ) (values : List (List ℕ)) → code < 256 → length randomizer ≡ 32
    → AreValues chains values → Parts (ots_signature code randomizer values ++ rest) chains code randomizer values
ots_parts code chains randomizer rest values small r v =
    let bytes : List ℕ = ots_signature code randomizer values ++ rest in
    let behind_code : drop 4 bytes ≡ randomizer ++ (concat values ++ rest) = append_assoc randomizer (concat values) rest in
    let behind_it : drop 36 bytes ≡ concat values ++ rest =
    behind bytes randomizer (concat values ++ rest) 4 32 behind_code r in
    record {
      code_is = number_at bytes (randomizer ++ concat values ++ rest) 0 code refl (wide code small);
      randomizer_is = part_at bytes randomizer (concat values ++ rest) 4 32 behind_code r;
      values_are = values_at chains (drop 36 bytes) rest values behind_it v;
    }

pub length-ots : (code chains : ℕ) (randomizer : List ℕ) (values : List (List ℕ)) → length randomizer ≡ 32
    → AreValues chains values → length (ots_signature code randomizer values) ≡ 36 + 32 * chains
length-ots code chains randomizer values r v = rw length-append (omega (arith, length-values chains values v))

-- ---- the law

form_of : (signature : List ℕ) (type : OtsType) → ots_type (u32_at signature 0) ≡ Some type
    → length signature ≡ ots_length type → IsOtsSignature signature
form_of signature type known size =
    let code = small_number_spelled signature 0 (ots_code_small (u32_at signature 0) type known) (omega arith) in
    record {
      code = u32_at signature 0;
      type = type;
      known = known;
      randomizer = take 32 (drop 4 signature);
      values = values_of type.chains (drop 36 signature);
      randomizer_length = length-take-le 32 (drop 4 signature) (simp length-drop (omega arith));
      values_are = values_are type.chains (drop 36 signature) (simp length-drop (omega arith));
      bytes_are =
          sym (ots_spelled signature type.chains code ∙ take_all (36 + 32 * type.chains) signature (omega arith));
    }

ots_form : (signature : List ℕ) → Pass (ots_rules signature) → IsOtsSignature signature
ots_form signature pass =
    let there = pass_one _ _ _ pass in
    let known = pass_known _ _ there.1 in
    form_of signature known.0 known.1 (eqb-true (length signature) (ots_length known.0) (pass_one _ _ _ known.2).0)

ots_passes : (signature : List ℕ) (type : OtsType) → ots_type (u32_at signature 0) ≡ Some type
    → length signature ≡ ots_length type → Pass (ots_rules signature)
ots_passes signature type known size =
    one_passes _ _ _ (le-leb 4 (length signature) (omega arith))
    (known_passes _ _ type known (one_passes _ _ _ (eq-eqb (length signature) (ots_length type) size) none_passes))

-- what a spelling tells of the bytes
form_parts : (signature : List ℕ) (form : IsOtsSignature signature)
    → Parts signature form.type.chains form.code form.randomizer form.values
form_parts signature form =
    rw (form.bytes_are ∙ sym (append-nil (ots_signature form.code form.randomizer form.values)))
    (ots_parts form.code form.type.chains form.randomizer [] form.values (ots_code_small form.code form.type form.known)
    form.randomizer_length form.values_are)

pub form_type : (signature : List ℕ) (form : IsOtsSignature signature) → ots_type (u32_at signature 0) ≡ Some form.type
form_type signature form = ap ots_type (form_parts signature form).code_is ∙ form.known

form_length : (signature : List ℕ) (form : IsOtsSignature signature) → length signature ≡ ots_length form.type
form_length signature form =
    ap length form.bytes_are
    ∙ length-ots form.code form.type.chains form.randomizer form.values form.randomizer_length form.values_are

pub ots_law : (signature : List ℕ) → Pass (ots_rules signature) ↔ IsOtsSignature signature
ots_law signature =
    (ots_form signature, λ form. ots_passes signature form.type (form_type signature form) (form_length signature form))

pub key_of_parts : (q : ℕ) (type : OtsType) (code : ℕ) (id bytes randomizer message : List ℕ) (values : List (List ℕ))
    → Parts bytes type.chains code randomizer values
    → ots_key_at id q type bytes message ≡ ots_key id q type randomizer values message
key_of_parts q type code id bytes randomizer message values parts =
    ap₂ (λ (r : List ℕ) (v : List (List ℕ)). ots_key id q type r v message) parts.randomizer_is parts.values_are

pub ots_key_law : (id signature message : List ℕ) (q : ℕ) (form : IsOtsSignature signature)
    → ots_key_at id q form.type signature message ≡ ots_key id q form.type form.randomizer form.values message
ots_key_law id signature message q form =
    key_of_parts q form.type form.code id signature form.randomizer message form.values (form_parts signature form)
