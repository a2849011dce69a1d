-- No signature of the standard is longer than the longest, and what stands past one byte more has no part in the first
-- rule that is broken.
use Rattle.std.proofs.Common.{◌≡◌, ℕ, zero, suc, ◌+◌, ◌-◌, ◌*◌, ◌^◌, ◌<◌, ◌≤◌, ◌↔◌, Bool, List, [], ◌∷◌, ◌++◌, length, take, drop, Option, Some, None, is_some, nat_le, nat_lt, nat_eq, refl, sym, ap, ap₂, ◌∙◌, inl, inr, arith, take_all, subst₂, length-take-le, length-drop, length-append, eqb-true, leb-true, ◌&&◌}
use Rattle.std.proofs.lemmas.Bool.{and_parts, cases_lt}
use Rattle.std.proofs.lemmas.Bool.Decides.{nat_tests}
use Rattle.std.proofs.lemmas.List.{drop-take, take-take}
use Rattle.std.specs.Int.{w32, from_be_bytes}
use Rattle.sz_lms.specs.Bits.{u32_at}
use Rattle.sz_lms.specs.Ots.{OtsType, ots_type}
use Rattle.sz_lms.specs.Lms.{height_of}
use Rattle.sz_lms.specs.Hss.{HssOk, LevelsOk}
use Rattle.sz_lms.specs.Rules.{Rule, Length, Levels, Scheme, LeafNumber, TreeType, first_failing, head_rules, hss_first, hss_rules, level_rules, lms_length, next_bytes, next_key, ots_length, signature_rules, tree_type, where_known}
use Rattle.sz_lms.proofs.LawHss.{levels_key}
use Rattle.sz_lms.proofs.LawLms.{both_parts, height_small, ok_length, ok_whole_level, types_of}
use Rattle.sz_lms.proofs.LawTests.{Pass, pass_append, pass_known, pass_one}
use Rattle.sz_lms.proofs.RuleLists.{equal-false, front-fails, front-passes, nat_le-true, test-fails}

-- ---- how long the levels are at most

chains_few : (code : ℕ) (type : OtsType) → ots_type code ≡ Some type → type.chains ≤ 265
chains_few code type known = grind (arith, nat_tests)

within_longest : (key : List ℕ) (type : TreeType) → tree_type key ≡ Some type → lms_length type ≤ 9324
within_longest key type known =
    let parts = both_parts (height_of (u32_at key 0)) (ots_type (u32_at key 4)) type known in
    omega (arith, height_small (u32_at key 0) type.height parts.0, chains_few (u32_at key 4) type.ots parts.1)

-- the most bytes of the signatures and keys of a key's own level and n levels below it
abbrev most_of : ℕ → ℕ
most_of n = 9324 + 9380 * n

levels_within : (n : ℕ) (key message bytes : List ℕ) → LevelsOk n key message bytes → length bytes ≤ most_of n
unfolding LevelsOk
levels_within zero key message bytes ok =
    omega (arith, ok_length key message bytes ok, within_longest key (types_of key message bytes ok) (ok_whole_level key message bytes ok).known)
levels_within (suc n) key message bytes h =
    let (signature, next, rest, e, ok, more) = h in
    omega (
      arith,
      ap length e,
      length-append (signature ++ next) rest,
      length-append signature next,
      ok_length key next signature ok,
      within_longest key (types_of key next signature ok) (ok_whole_level key next signature ok).known,
      (levels_key n next message rest more).0,
      levels_within n next message rest more,
    )

pub no_longer : (public message signature : List ℕ) → HssOk public message signature → (length public ≡ 60) × (length signature ≤ 74988)
no_longer public message signature ok =
    let size = (levels_key ok.below ok.key message ok.levels ok.each).0 in
    let few = ok.few in (
      omega (arith, ap length ok.public_is, size),
      omega (arith, ap length ok.signature_is, levels_within ok.below ok.key message ok.levels ok.each, few),
    )

-- ---- a front of bytes

-- what stands before the cut stays
part_of_front : (at n c : ℕ) (bytes : List ℕ) → at + n ≤ c → take n (drop at (take c bytes)) ≡ take n (drop at bytes)
part_of_front at n c bytes before =
    let rest : ℕ = c - at in
    let split : c ≡ at + rest = omega arith in
    ap (λ (m : ℕ). take n (drop at (take m bytes))) split ∙ ap (take n) (drop-take at rest bytes)
    ∙ take-take n rest (drop at bytes) (omega arith)

number_of_front : (at c : ℕ) (bytes : List ℕ) → at + 4 ≤ c → u32_at (take c bytes) at ≡ u32_at bytes at
number_of_front at c bytes before = ap (from_be_bytes w32) (part_of_front at 4 c bytes before)

module _ (c : ℕ) (bytes : List ℕ) (whole : c ≤ length bytes) where
  -- so many bytes are there in both
  enough_in_both : (n : ℕ) → n ≤ c → nat_le n (length (take c bytes)) ≡ nat_le n (length bytes)
  enough_in_both n front =
      let size : length (take c bytes) ≡ c = length-take-le c bytes whole in
      nat_le-true n (length (take c bytes)) (omega arith) ∙ sym (nat_le-true n (length bytes) (omega arith))

  -- neither has just so many
  more_in_both : (n : ℕ) → n < c → nat_eq (length (take c bytes)) n ≡ nat_eq (length bytes) n
  more_in_both n front =
      let size : length (take c bytes) ≡ c = length-take-le c bytes whole in
      equal-false (length (take c bytes)) n (λ e. omega arith) ∙ sym (equal-false (length bytes) n (λ e. omega arith))

-- ---- the rules on one level

abbrev six_rules : Bool → Bool → Bool → Bool → Bool → Bool → List (Bool × Rule)
six_rules a b c d e f = (a, Length) ∷ (b, Scheme) ∷ (c, Length) ∷ (d, Scheme) ∷ (e, Length) ∷ (f, LeafNumber) ∷ []

same_six : (a b c d e f g h i j k l : Bool) → a ≡ g → b ≡ h → c ≡ i → d ≡ j → e ≡ k → f ≡ l → six_rules a b c d e f ≡ six_rules g h i j k l
same_six a b c d e f g h i j k l p q r s t u = rw (p, q, r, s, t, u) refl

signature_rules_of_front : (key : List ℕ) (type : TreeType) (c : ℕ) (bytes : List ℕ) → lms_length type ≤ c → c ≤ length bytes
    → signature_rules key type (take c bytes) ≡ signature_rules key type bytes
signature_rules_of_front key type c bytes front whole =
    same_six _ _ _ _ _ _ _ _ _ _ _ _
    (enough_in_both c bytes whole 8 (omega arith))
    (ap (λ (n : ℕ). nat_eq n (u32_at key 4)) (number_of_front 4 c bytes (omega arith)))
    (enough_in_both c bytes whole (8 + ots_length type.ots) (omega arith))
    (ap (λ (n : ℕ). nat_eq n (u32_at key 0)) (number_of_front (4 + ots_length type.ots) c bytes (omega arith)))
    (enough_in_both c bytes whole (lms_length type) front)
    (ap (λ (n : ℕ). nat_lt n (2 ^ type.height)) (number_of_front 0 c bytes (omega arith)))

-- ---- the rules on all levels

same_where : {T : Type 0} (o : Option T) (f g : T → List (Bool × Rule)) → ((type : T) → o ≡ Some type → f type ≡ g type) → where_known o f ≡ where_known o g
same_where None f g same = refl
same_where (Some type) f g same = same type refl

levels_of_front : (n : ℕ) (key : List ℕ) (c : ℕ) (bytes : List ℕ) → most_of n < c → c ≤ length bytes → level_rules n key
    (take c bytes) ≡ level_rules n key bytes
unfolding level_rules
levels_of_front zero key c bytes room whole =
    same_where (tree_type key) _ _ (λ type known.
    let few = within_longest key type known in
    ap₂ (λ (rules : List (Bool × Rule)) (exact : Bool). rules ++ (exact, Length) ∷ [])
    (signature_rules_of_front key type c bytes (omega (arith, few)) whole) (more_in_both c bytes whole (lms_length type) (omega (arith, few))))
levels_of_front (suc n) key c bytes room whole =
    same_where (tree_type key) _ _ (λ type known.
    let few = within_longest key type known in
    let at : ℕ = lms_length type + 56 in
    let rest : ℕ = c - at in
    let split : c ≡ at + rest = omega (arith, few) in
    let behind : next_bytes type (take c bytes) ≡ take rest (next_bytes type bytes) =
    ap (λ (m : ℕ). drop at (take m bytes)) split ∙ drop-take at rest bytes in
    let key_is : next_key type (take c bytes) ≡ next_key type bytes = part_of_front (lms_length type) 56 c bytes (omega (arith, few)) in
    let long : rest ≤ length (next_bytes type bytes) = omega (arith, length-drop at bytes) in
    let below : level_rules n (next_key type (take c bytes)) (next_bytes type (take c bytes)) ≡ level_rules n (next_key type bytes) (next_bytes type bytes) =
    ap₂ (level_rules n) key_is behind ∙ levels_of_front n (next_key type bytes) rest (next_bytes type bytes) (omega (arith, few)) long in
    ap (λ (rules : List (Bool × Rule)). rules ++ (nat_le at (length (take c bytes)), Length) ∷ level_rules n (next_key type (take c bytes))
    (next_bytes type (take c bytes)))
    (signature_rules_of_front key type c bytes (omega (arith, few)) whole)
    ∙ ap₂ (λ (there : Bool) (rules : List (Bool × Rule)). signature_rules key type bytes ++ (there, Length) ∷ rules)
    (enough_in_both c bytes whole at (omega (arith, few))) below)

-- bytes longer than the levels are at most break one of the rules
levels_fail : (n : ℕ) (key bytes : List ℕ) → most_of n < length bytes → Pass (level_rules n key bytes) → ⊥
unfolding level_rules
levels_fail zero key bytes long pass =
    let known = pass_known (tree_type key) (λ type. signature_rules key type bytes ++ (nat_eq (length bytes) (lms_length type), Length) ∷ []) pass in
    let type : TreeType = known.0 in
    let parts = pass_append (signature_rules key type bytes) ((nat_eq (length bytes) (lms_length type), Length) ∷ []) known.2 in
    let whole : length bytes ≡ lms_length type = eqb-true (length bytes) (lms_length type)
    (pass_one (nat_eq (length bytes) (lms_length type)) Length [] parts.1).0 in
    omega (arith, within_longest key type known.1)
levels_fail (suc n) key bytes long pass =
    let known = pass_known (tree_type key) (λ type. signature_rules key type bytes
    ++ (nat_le (lms_length type + 56) (length bytes), Length) ∷ level_rules n (next_key type bytes) (next_bytes type bytes)) pass in
    let type : TreeType = known.0 in
    let few : lms_length type ≤ 9324 = within_longest key type known.1 in
    let below = level_rules n (next_key type bytes) (next_bytes type bytes) in
    let parts = pass_append (signature_rules key type bytes) ((nat_le (lms_length type + 56) (length bytes), Length) ∷ below) known.2 in
    levels_fail n (next_key type bytes) (next_bytes type bytes) (omega (arith, few, length-drop (lms_length type + 56) bytes))
    (pass_one (nat_le (lms_length type + 56) (length bytes)) Length below parts.1).1

-- ---- the whole signature

-- rules that fail alike, whatever stands behind them
same_failing : (front whole more rest : List (Bool × Rule)) (first : Option Rule) → first_failing whole ≡ first → front ≡ whole → (Pass whole → ⊥)
    → first_failing (front ++ more) ≡ first_failing (whole ++ rest)
same_failing front whole more rest None is same fails = absurd (fails is)
same_failing front whole more rest (Some rule) is same fails =
    front-fails front more rule (ap first_failing same ∙ is) ∙ sym (front-fails whole rest rule is)

abbrev head_with : List ℕ → Bool → Bool → List (Bool × Rule)
head_with public there same =
    (nat_eq (length public) 60, Length) ∷ (nat_le 1 (u32_at public 0) && nat_le (u32_at public 0) 8, Levels)
    ∷ (is_some (tree_type (drop 4 public)), Scheme) ∷ (there, Length) ∷ (same, Levels) ∷ []

few_levels : (public signature : List ℕ) → Pass (head_rules public signature) → u32_at public 0 ≤ 8
few_levels public signature pass =
    let size = pass_one _ _ _ pass in
    let few = pass_one _ _ _ size.1 in
    leb-true (u32_at public 0) 8 (and_parts (nat_le 1 (u32_at public 0)) (nat_le (u32_at public 0) 8) few.0).1

module _ (public message signature : List ℕ) (long : 74988 < length signature) where
  head_same : head_rules public (take 74989 signature) ≡ head_rules public signature
  head_same =
      ap₂ (head_with public) (enough_in_both 74989 signature (omega arith) 4 (omega arith))
      (ap (λ (n : ℕ). nat_eq n (u32_at public 0 - 1)) (number_of_front 0 74989 signature (omega arith)))

  longer_cut : (first : Option Rule) → first_failing (head_rules public signature) ≡ first
      → hss_first public message (take 74989 signature) ≡ hss_first public message signature
  unfolding hss_rules
  longer_cut (Some rule) is =
      front-fails (head_rules public (take 74989 signature)) _ rule (ap first_failing head_same ∙ is)
      ∙ sym (front-fails (head_rules public signature) _ rule is)
  longer_cut None is =
      let below : ℕ = u32_at public 0 - 1 in
      let few = few_levels public signature is in
      let size = length-drop 4 signature in
      let levels : level_rules below (drop 4 public) (drop 4 (take 74989 signature)) ≡ level_rules below (drop 4 public) (drop 4 signature) =
      ap (level_rules below (drop 4 public)) (drop-take 4 74985 signature)
      ∙ levels_of_front below (drop 4 public) 74985 (drop 4 signature) (omega (arith, few)) (omega (arith, size)) in
      front-passes (head_rules public (take 74989 signature)) _ (ap first_failing head_same ∙ is)
      ∙ same_failing _ _ _ _ (first_failing (level_rules below (drop 4 public) (drop 4 signature))) refl levels
      (levels_fail below (drop 4 public) (drop 4 signature) (omega (arith, few, size)))
      ∙ sym (front-passes (head_rules public signature) _ is)

pub signature_cut : (public message signature : List ℕ) → hss_first public message (take 74989 signature) ≡ hss_first public message signature
signature_cut public message signature = elim (cases_lt 74988 (length signature)) [
  | inl long ↦ longer_cut public message signature long (first_failing (head_rules public signature)) refl
  | inr short ↦ ap (hss_first public message) (take_all 74989 signature (omega arith))
]

pub public_cut : (public message signature : List ℕ) → hss_first (take 61 public) message signature ≡ hss_first public message signature
unfolding hss_rules
public_cut public message signature = elim (cases_lt 60 (length public)) [
  | inl long ↦
      let size : length (take 61 public) ≡ 61 = length-take-le 61 public (omega arith) in
      sym (test-fails _ Length _ (equal-false (length (take 61 public)) 60 (λ e. omega arith)))
      ∙ test-fails _ Length _ (equal-false (length public) 60 (λ e. omega arith))
  | inr short ↦ ap (λ (key : List ℕ). hss_first key message signature) (take_all 61 public (omega arith))
]

-- a front that is no longer than the longest is the whole
uncut : (most : ℕ) (bytes : List ℕ) → length (take (most + 1) bytes) ≤ most → take (most + 1) bytes ≡ bytes
uncut most bytes short = elim (cases_lt most (length bytes)) [
  | inl long ↦
      let size : length (take (most + 1) bytes) ≡ most + 1 = length-take-le (most + 1) bytes (omega arith) in
      absurd (omega arith)
  | inr whole ↦ take_all (most + 1) bytes (omega arith)
]

pub ok_cut : (public message signature : List ℕ) → HssOk (take 61 public) message (take 74989 signature) ↔ HssOk public message signature
ok_cut public message signature = (
  λ ok.
      let sizes = no_longer (take 61 public) message (take 74989 signature) ok in
      subst₂ (λ (key bytes : List ℕ). HssOk key message bytes) (uncut 60 public (omega (arith, sizes.0))) (uncut 74988 signature sizes.1) ok,
  λ ok.
      let sizes = no_longer public message signature ok in
      subst₂ (λ (key bytes : List ℕ). HssOk key message bytes) (sym (take_all 61 public (omega (arith, sizes.0))))
      (sym (take_all 74989 signature (omega (arith, sizes.1)))) ok,
)
