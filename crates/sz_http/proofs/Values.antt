-- The values of the fields of one name, field by field.
use Rattle.std.proofs.Common.{◌≡◌, ℕ, ◌+◌, ◌<◌, ◌≤◌, true, false, List, [], ◌∷◌, ◌++◌, length, get_or, take, drop, refl, sym, ap, ◌∙◌, subst, arith, append_assoc, append-nil, take-append-drop, length-append, take_all, le_refl, Option, Some, None, IfSome, is_some, option_to_list, option_copied, All, Any, IsSomeAnd, Bor}
use Rattle.std.proofs.lemmas.Bool.{false_from_ne_true}
use Rattle.std.proofs.lemmas.List.{take_more, get_or_at}
use Rattle.std.proofs.lemmas.List.Elements.{filter_map-append, All-push}
use Rattle.std.proofs.lemmas.Slice.Eq.{bytes_eq-Decides}
use Rattle.std.specs.Str.{bytes_eq, str_to_ascii_lowercase}
use Rattle.std.specs.List.{cons_option}
use Rattle.sz_http.specs.Framing.{FieldList, value_if, values}

one_value : (found : Option (List ℕ)) → cons_option found [] ≡ option_to_list found
one_value None = refl
one_value (Some text) = refl

-- the values up to the next field
pub values_more : (name : List ℕ) (fields : FieldList) (i : ℕ) (found : Option (List ℕ)) → i < length fields
    → found ≡ value_if name (get_or fields i ([], []))
    → values name (take (i + 1) fields) ≡ values name (take i fields) ++ option_to_list found
values_more name fields i found inside e =
    ap (λ (fs : FieldList). values name fs) (take_more fields i ([], []) inside)
    ∙ filter_map-append (value_if name) (take i fields) (get_or fields i ([], []) ∷ [])
    ∙ ap (λ (t : List (List ℕ)). values name (take i fields) ++ t)
    (one_value (value_if name (get_or fields i ([], []))) ∙ ap (λ (o : Option (List ℕ)). option_to_list o) (sym e))

-- the values up to a field, and those behind it
pub values_split : (name : List ℕ) (fields : FieldList) (i : ℕ)
    → values name fields ≡ values name (take i fields) ++ values name (drop i fields)
values_split name fields i =
    ap (λ (fs : FieldList). values name fs) (sym (take-append-drop i fields))
    ∙ filter_map-append (value_if name) (take i fields) (drop i fields)

-- a field of the name, with what stands before and behind its value
pub values_at : (name : List ℕ) (fields : FieldList) (i : ℕ) (text : List ℕ) → i < length fields
    → Some text ≡ value_if name (get_or fields i ([], []))
    → values name fields ≡ (values name (take i fields) ++ text ∷ []) ++ values name (drop (i + 1) fields)
values_at name fields i text inside e =
    values_split name fields (i + 1)
    ∙ ap (λ (t : List (List ℕ)). t ++ values name (drop (i + 1) fields)) (values_more name fields i (Some text) inside e)

pub values_all : (name : List ℕ) (fields : FieldList) (i : ℕ) → i ≡ length fields → values name (take i fields) ≡ values name fields
values_all name fields i e =
    ap (λ (fs : FieldList). values name fs)
    (take_all i fields (subst (λ (n : ℕ). length fields ≤ n) (sym e) (le_refl (length fields))))

-- ---- what a loop over the fields finds

-- a value that was found is one of those of the name
pub found_some : (name : List ℕ) (fields : FieldList) (i : ℕ) (r : Option (Bor (List ℕ))) → i < length fields
    → option_copied r ≡ value_if name (get_or fields i ([], [])) → is_some r ≡ true → 0 < length (values name fields)
found_some name fields i None inside e some = absurd (cc)
found_some name fields i (Some text) inside e some =
    omega (
      arith,
      ap length (values_at name fields i text.now inside e),
      length-append (values name (take i fields) ++ text.now ∷ []) (values name (drop (i + 1) fields)),
      length-append (values name (take i fields)) (text.now ∷ []),
    )

pub found_none : (name : List ℕ) (fields : FieldList) (i : ℕ) (r : Option (Bor (List ℕ))) → i < length fields
    → option_copied r ≡ value_if name (get_or fields i ([], [])) → is_some r ≡ false → values name (take i fields) ≡ []
    → values name (take (i + 1) fields) ≡ []
found_none name fields i (Some text) inside e none before = absurd (cc)
found_none name fields i None inside e none before =
    values_more name fields i None inside e ∙ append-nil (values name (take i fields)) ∙ before

-- what holds of each value holds of the one in the middle
all_at : (P : List ℕ → Type 0) (front back : List (List ℕ)) (text : List ℕ) → All P ((front ++ text ∷ []) ++ back) → P text
all_at P front back text all =
    let joined = subst (λ (t : List (List ℕ)). All P t) (append_assoc front (text ∷ []) back) all in
    subst P (get_or_at front text back text (length front) refl)
    (joined (length front) text (omega (arith, length-append front (text ∷ back))))

pub each_found : (P : List ℕ → Type 0) (name : List ℕ) (fields : FieldList) (i : ℕ) (found : Option (List ℕ)) → i < length fields
    → found ≡ value_if name (get_or fields i ([], [])) → All P (values name fields) → IfSome found P
each_found P name fields i None inside e all = tt
each_found P name fields i (Some text) inside e all =
    all_at P (values name (take i fields)) (values name (drop (i + 1) fields)) text
    (subst (λ (t : List (List ℕ)). All P t) (values_at name fields i text inside e) all)

pub each_more : (P : List ℕ → Type 0) (name : List ℕ) (fields : FieldList) (i : ℕ) (found : Option (List ℕ)) → i < length fields
    → found ≡ value_if name (get_or fields i ([], [])) → All P (values name (take i fields)) → IfSome found P
    → All P (values name (take (i + 1) fields))
each_more P name fields i None inside e all some =
    subst (λ (t : List (List ℕ)). All P t) (sym (values_more name fields i None inside e ∙ append-nil (values name (take i fields)))) all
each_more P name fields i (Some text) inside e all some =
    subst (λ (t : List (List ℕ)). All P t) (sym (values_more name fields i (Some text) inside e))
    (All-push P (values name (take i fields)) text all some)

-- a value that was found and has this is one of those of the name
pub any_found : (P : List ℕ → Type 0) (name : List ℕ) (fields : FieldList) (i : ℕ) (found : Option (List ℕ)) → i < length fields
    → found ≡ value_if name (get_or fields i ([], [])) → IsSomeAnd found P → Any P (values name fields)
any_found P name fields i None inside e has = absurd has
any_found P name fields i (Some text) inside e has =
    let front = values name (take i fields) in
    let back = values name (drop (i + 1) fields) in
    let at = values_at name fields i text inside e ∙ append_assoc front (text ∷ []) back in (
      length front,
      text,
      omega (arith, ap length at, length-append front (text ∷ back)),
      ap (λ (t : List (List ℕ)). get_or t (length front) text) at ∙ get_or_at front text back text (length front) refl,
      has,
    )

-- where no value of the front has this and the next one has not, none up to there has
pub none_found : (P : List ℕ → Type 0) (name : List ℕ) (fields : FieldList) (i : ℕ) (found : Option (List ℕ)) → i < length fields
    → found ≡ value_if name (get_or fields i ([], [])) → All (λ text. P text → ⊥) (values name (take i fields)) → (IsSomeAnd found P → ⊥)
    → All (λ text. P text → ⊥) (values name (take (i + 1) fields))
none_found P name fields i found inside e before none = each_more (λ text. P text → ⊥) name fields i found inside e before (other found none)
  where
    other : (found : Option (List ℕ)) → (IsSomeAnd found P → ⊥) → IfSome found (λ text. P text → ⊥)
    other None none = tt
    other (Some text) none = none

pub not_any : (P : List ℕ → Type 0) (texts : List (List ℕ)) → All (λ text. P text → ⊥) texts → Any P texts → ⊥
not_any P texts all any = subst (λ (t : List ℕ). P t → ⊥) any.3 (all any.0 any.1 any.2) any.4

-- ---- one field

pub value_named : (name : List ℕ) (field : List ℕ × List ℕ) → str_to_ascii_lowercase field.0 ≡ str_to_ascii_lowercase name
    → Some field.1 ≡ value_if name field
value_named name field e = rw ((bytes_eq-Decides (str_to_ascii_lowercase field.0) (str_to_ascii_lowercase name)).1 e) refl

pub value_unnamed : (name : List ℕ) (field : List ℕ × List ℕ) → (str_to_ascii_lowercase field.0 ≡ str_to_ascii_lowercase name → ⊥)
    → None ≡ value_if name field
value_unnamed name field other =
    rw (false_from_ne_true (bytes_eq (str_to_ascii_lowercase field.0) (str_to_ascii_lowercase name))
    (λ e. other ((bytes_eq-Decides (str_to_ascii_lowercase field.0) (str_to_ascii_lowercase name)).0 e))) refl
