-- The levels of an HSS signature pass all tests exactly where each is an LMS signature.
use Rattle.std.proofs.Common.{◌≡◌, ℕ, zero, suc, ◌+◌, ◌-◌, ◌^◌, ◌<◌, ◌≤◌, ◌↔◌, true, List, ◌++◌, length, take, drop, is_some, nat_le, sym, ap, ◌∙◌, arith, subst, subst₂, length-drop, length-take-le, length-append, append_assoc, take-add, take-append-drop, drop_at, le-leb, leb-true, eqb-true, eq-eqb}
use Rattle.std.proofs.lemmas.Bool.{and_parts, and_from}
use Rattle.std.specs.Int.{w32, to_be_bytes}
use Rattle.sz_lms.specs.Bits.{AreBytes, u32_at}
use Rattle.sz_lms.specs.Hss.{LevelsOk, HssOk}
use Rattle.sz_lms.specs.Rules.{TreeType, tree_type, lms_length, signature_rules, root_rules, next_key, next_bytes, root_from, level_rules, climb_rules, hss_rules}
use Rattle.sz_lms.proofs.LawTests.{Pass, pass_one, one_passes, none_passes, pass_append, append_passes, pass_known, known_passes, pass_at}
use Rattle.sz_lms.proofs.LawBytes.{small_number_spelled, number_at, part_at, behind, drop_bytes}
use Rattle.sz_lms.proofs.LawLms.{Level, pass_stands, stands_passes, level_ok, level_ok_whole, ok_level, ok_whole_level, ok_length, types_of, pass_root, root_passes}

-- bytes are what stands up to a place, the 56 bytes there, and the rest
cut_at : (n : ℕ) (bytes : List ℕ) → bytes ≡ take n bytes ++ take 56 (drop n bytes) ++ drop (n + 56) bytes
cut_at n bytes = cc (take-add n 56 bytes, take-append-drop (n + 56) bytes)

-- ---- from the tests to the relation

pub levels_ok : (n : ℕ) (key message bytes : List ℕ) → AreBytes bytes → length key ≡ 56
    → Pass (level_rules n key bytes) → Pass (climb_rules n key message bytes) → LevelsOk n key message bytes
unfolding level_rules climb_rules LevelsOk
levels_ok zero key message bytes b size rules climbs =
    let known = pass_known _ _ rules in
    let type : TreeType = known.0 in
    let parts = pass_append (signature_rules key type bytes) _ known.2 in
    let whole = pass_one _ _ _ parts.1 in
    level_ok_whole key type message bytes b size known.1 (pass_stands key type bytes parts.0)
    (pass_root key type message bytes known.1 climbs) (eqb-true (length bytes) (lms_length type) whole.0)
levels_ok (suc n) key message bytes b size rules climbs =
    let known = pass_known _ _ rules in
    let type : TreeType = known.0 in
    let parts = pass_append (signature_rules key type bytes) _ known.2 in
    let more = pass_one _ _ _ parts.1 in
    let enough : lms_length type + 56 ≤ length bytes = leb-true (lms_length type + 56) (length bytes) more.0 in
    let ways = pass_append (root_rules key (next_key type bytes) bytes) _ (pass_at (tree_type key) _ type known.1 climbs) in
    let ok = level_ok key type (next_key type bytes) bytes b size known.1 (pass_stands key type bytes parts.0)
    (pass_root key type (next_key type bytes) bytes known.1 ways.0) in
    let next_size : length (next_key type bytes) ≡ 56 =
    length-take-le 56 (drop (lms_length type) bytes) (simp length-drop (omega (arith, enough))) in (
      take (lms_length type) bytes,
      next_key type bytes,
      next_bytes type bytes,
      cut_at (lms_length type) bytes,
      ok,
      levels_ok n (next_key type bytes) message (next_bytes type bytes)
          (drop_bytes (lms_length type + 56) bytes b) next_size more.1 ways.1,
    )

-- ---- from the relation to the tests

-- the key above levels is one of known types
pub levels_key : (n : ℕ) (key message bytes : List ℕ) → LevelsOk n key message bytes
    → (length key ≡ 56) × (is_some (tree_type key) ≡ true)
unfolding LevelsOk
levels_key zero key message bytes ok =
    let level = ok_whole_level key message bytes ok in
    (level.key_length, ap is_some level.known)
levels_key (suc n) key message bytes h =
    let level = ok_whole_level key h.1 h.0 h.4 in
    (level.key_length, ap is_some level.known)

pub levels_pass : (n : ℕ) (key message bytes : List ℕ) → LevelsOk n key message bytes
    → Pass (level_rules n key bytes) × Pass (climb_rules n key message bytes)
unfolding level_rules climb_rules LevelsOk
levels_pass zero key message bytes ok =
    let type : TreeType = types_of key message bytes ok in
    let level = ok_whole_level key message bytes ok in
    let size : length bytes ≡ lms_length type = ok_length key message bytes ok in (
      known_passes (tree_type key) _ type level.known
          (append_passes (signature_rules key type bytes) _ (stands_passes key type bytes level.stands)
          (one_passes _ _ _ (eq-eqb (length bytes) (lms_length type) size) none_passes)),
      root_passes key type message bytes level.known level.root,
    )
levels_pass (suc n) key message bytes h =
    let (signature, next, rest, e, ok, more) = h in
    let type : TreeType = types_of key next signature ok in
    let size : length signature ≡ lms_length type = ok_length key next signature ok in
    let next_size : length next ≡ 56 = (levels_key n next message rest more).0 in
    let split : bytes ≡ signature ++ (next ++ rest) = e ∙ append_assoc signature next rest in
    let level : Level key type next bytes =
    subst (λ (xs : List ℕ). Level key type next xs) (sym split) (ok_level key next signature (next ++ rest) ok) in
    let behind_it : drop (lms_length type) bytes ≡ next ++ rest =
    ap (drop (lms_length type)) split ∙ drop_at signature (next ++ rest) (lms_length type) size in
    let is_next : next_key type bytes ≡ next = part_at bytes next rest (lms_length type) 56 behind_it next_size in
    let is_rest : next_bytes type bytes ≡ rest = behind bytes next rest (lms_length type) 56 behind_it next_size in
    let below = levels_pass n next message rest more in
    let enough : lms_length type + 56 ≤ length bytes =
    omega (arith, size, next_size, ap length split, length-append signature (next ++ rest), length-append next rest) in
    let root = subst (λ (k : List ℕ). root_from key type k bytes ≡ drop 24 key) (sym is_next) level.root in (
      known_passes (tree_type key) _ type level.known
          (append_passes (signature_rules key type bytes) _ (stands_passes key type bytes level.stands)
          (one_passes _ _ _ (le-leb (lms_length type + 56) (length bytes) enough)
          (subst₂ (λ (k b : List ℕ). Pass (level_rules n k b)) (sym is_next) (sym is_rest) below.0))),
      known_passes (tree_type key) _ type level.known
          (append_passes (root_rules key (next_key type bytes) bytes) _
          (root_passes key type (next_key type bytes) bytes level.known root)
          (subst₂ (λ (k b : List ℕ). Pass (climb_rules n k message b)) (sym is_next) (sym is_rest) below.1)),
    )

-- ---- the whole signature

-- a number of four bytes at the front, and what follows it
front_number : (bytes : List ℕ) (n : ℕ) → n < 256 → 4 ≤ length bytes → u32_at bytes 0 ≡ n
    → bytes ≡ to_be_bytes w32 n ++ drop 4 bytes
front_number bytes n small l e =
    let below : u32_at bytes 0 < 256 = subst (λ (number : ℕ). number < 256) (sym e) small in
    sym (take-append-drop 4 bytes) ∙ ap (λ (front : List ℕ). front ++ drop 4 bytes) (sym (small_number_spelled bytes 0 below l))
    ∙ ap (λ (number : ℕ). to_be_bytes w32 number ++ drop 4 bytes) e

-- one to eight levels are one, and none to seven below it
levels_below : (levels : ℕ) → 1 ≤ levels → levels ≤ 8 → (levels ≡ suc (levels - 1)) × (levels - 1 < 8)
levels_below levels some few = (omega arith, omega arith)

levels_with : (levels below : ℕ) → levels ≡ suc below → below < 8 → (1 ≤ levels) × (levels ≤ 8) × (levels - 1 ≡ below) × (below < 2 ^ 32)
levels_with levels below e few = (omega arith, omega arith, omega arith, omega arith)

pub hss_ok : (public message signature : List ℕ) → AreBytes signature
    → Pass (hss_rules public message signature) → HssOk public message signature
unfolding hss_rules
hss_ok public message signature s pass =
    let size = pass_one _ _ _ pass in
    let few = pass_one _ _ _ size.1 in
    let known = pass_one _ _ _ few.1 in
    let there = pass_one _ _ _ known.1 in
    let same = pass_one _ _ _ there.1 in
    let below : ℕ = u32_at public 0 - 1 in
    let rest = pass_append (level_rules below (drop 4 public) (drop 4 signature)) _ same.1 in
    let long : length public ≡ 60 = eqb-true (length public) 60 size.0 in
    let is_there : 4 ≤ length public = omega (arith, long) in
    let key_size : length (drop 4 public) ≡ 56 = simp length-drop (omega (arith, long)) in
    let both_few = and_parts (nat_le 1 (u32_at public 0)) (nat_le (u32_at public 0) 8) few.0 in
    let some : 1 ≤ u32_at public 0 = leb-true 1 (u32_at public 0) both_few.0 in
    let not_many : u32_at public 0 ≤ 8 = leb-true (u32_at public 0) 8 both_few.1 in
    let counted = levels_below (u32_at public 0) some not_many in
    record {
      below = below;
      few = counted.1;
      key = drop 4 public;
      levels = drop 4 signature;
      public_is = front_number public (suc below) (omega (arith, counted.1)) is_there counted.0;
      signature_is = front_number signature below (omega (arith, counted.1)) (leb-true 4 (length signature) there.0)
          (eqb-true (u32_at signature 0) below same.0);
      each = levels_ok below (drop 4 public) message (drop 4 signature) (drop_bytes 4 signature s)
          key_size rest.0 rest.1;
    }

level_count_small : (below : ℕ) → below < 8 → suc below < 2 ^ 32
level_count_small below few = omega arith

moved : (n below : ℕ) (key k bytes b message : List ℕ) → n ≡ below → k ≡ key → b ≡ bytes
    → Pass (level_rules below key bytes) × Pass (climb_rules below key message bytes)
    → Pass (level_rules n k b ++ climb_rules n k message b)
moved n below key k bytes b message e p q h =
    rw (e, p, q) (append_passes (level_rules below key bytes) (climb_rules below key message bytes) h.0 h.1)

pub hss_passes : (public message signature : List ℕ) → HssOk public message signature → Pass (hss_rules public message signature)
unfolding hss_rules
hss_passes public message signature ok =
    let levels : ℕ = u32_at public 0 in
    let key = levels_key ok.below ok.key message ok.levels ok.each in
    let levels_is : levels ≡ suc ok.below =
    number_at public ok.key 0 (suc ok.below) ok.public_is (level_count_small ok.below ok.few) in
    let counted = levels_with levels ok.below levels_is ok.few in
    let key_is : drop 4 public ≡ ok.key = ap (drop 4) ok.public_is in
    let bytes_are : drop 4 signature ≡ ok.levels = ap (drop 4) ok.signature_is in
    let below_is : u32_at signature 0 ≡ ok.below = number_at signature ok.levels 0 ok.below ok.signature_is counted.3 in
    let public_size : length public ≡ 60 = omega (arith, ap length ok.public_is, key.0) in
    let signature_size : 4 ≤ length signature = omega (arith, ap length ok.signature_is) in
    one_passes _ _ _ (eq-eqb (length public) 60 public_size)
    (one_passes _ _ _ (and_from (nat_le 1 levels) (nat_le levels 8) (le-leb 1 levels counted.0) (le-leb levels 8 counted.1))
    (one_passes _ _ _ (subst (λ (k : List ℕ). is_some (tree_type k) ≡ true) (sym key_is) key.1)
    (one_passes _ _ _ (le-leb 4 (length signature) signature_size)
    (one_passes _ _ _ (eq-eqb (u32_at signature 0) (levels - 1) (below_is ∙ sym counted.2))
    (moved (levels - 1) ok.below ok.key (drop 4 public) ok.levels (drop 4 signature) message counted.2 key_is bytes_are
    (levels_pass ok.below ok.key message ok.levels ok.each))))))

pub hss_law : (public message signature : List ℕ) → AreBytes signature
    → Pass (hss_rules public message signature) ↔ HssOk public message signature
hss_law public message signature s =
    (hss_ok public message signature s, hss_passes public message signature)
