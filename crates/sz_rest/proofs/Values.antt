-- The one value of a name, field by field.
use Rattle.std.proofs.Common.{◌≡◌, ℕ, ◌+◌, ◌<◌, List, [], ◌∷◌, ◌++◌, length, get_or, take, drop, sym, ap, ◌∙◌, arith, length-append, Option, Some, None, IfSome, IfNone, IsSome, option_to_list, option_copied, Bor}
use Rattle.sz_http.specs.Framing.{FieldList, value_if, values}
use Rattle.sz_http.proofs.Values.{values_all, values_at, values_more}

-- what was found, with what one more field adds
pub one_more : (name : List ℕ) (fields : FieldList) (i : ℕ) (found value one : Option (List ℕ)) → i < length fields
    → value ≡ value_if name (get_or fields i ([], [])) → values name (take i fields) ≡ option_to_list found
    → option_to_list one ≡ option_to_list found ++ option_to_list value → values name (take (i + 1) fields) ≡ option_to_list one
one_more name fields i found value one inside e before adds =
    values_more name fields i value inside e ∙ ap (λ (t : List (List ℕ)). t ++ option_to_list value) before ∙ sym adds

-- two are not one
pub two_values : (name : List ℕ) (fields : FieldList) (i : ℕ) (found value : Option (List ℕ)) → i < length fields
    → value ≡ value_if name (get_or fields i ([], [])) → values name (take i fields) ≡ option_to_list found
    → IsSome found → IsSome value → (one : List ℕ) → values name fields ≡ one ∷ [] → ⊥
two_values name fields i None value inside e before some another one only = cc
two_values name fields i (Some first) None inside e before some another one only = cc
two_values name fields i (Some first) (Some second) inside e before some another one only =
    absurd (omega (
      arith,
      ap length (sym only ∙ values_at name fields i second inside e),
      length-append (values name (take i fields) ++ second ∷ []) (values name (drop (i + 1) fields)),
      length-append (values name (take i fields)) (second ∷ []),
      ap length before,
    ))

-- what all fields come to
pub one_found : (name : List ℕ) (fields : FieldList) (i : ℕ) (found : Option (Bor (List ℕ))) → i ≡ length fields
    → values name (take i fields) ≡ option_to_list (option_copied found) → IfSome found (λ value. values name fields ≡ value.now ∷ [])
one_found name fields i None end before = tt
one_found name fields i (Some value) end before = sym (values_all name fields i end) ∙ before

pub none_found : (name : List ℕ) (fields : FieldList) (i : ℕ) (found : Option (Bor (List ℕ))) → i ≡ length fields
    → values name (take i fields) ≡ option_to_list (option_copied found)
    → IfNone found ((value : List ℕ) → values name fields ≡ value ∷ [] → ⊥)
none_found name fields i (Some value) end before = tt
none_found name fields i None end before =
    λ value only. absurd (omega (arith, ap length (sym only ∙ sym (values_all name fields i end) ∙ before)))
