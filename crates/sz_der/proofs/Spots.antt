-- What stands at a spot without a fault, and that no fault is where an item stands.
use Rattle.std.specs.Prelude.{◌==◌, is_some, not}
use Rattle.std.specs.List.{AllByRecursion}
use Rattle.std.proofs.Common.{◌≡◌, ℕ, zero, suc, ◌≤◌, Bool, true, false, List, [], ◌∷◌, ◌++◌, length, take, drop, Option, Some, None, refl, sym, ap, subst, ◌∙◌, arith, inl, inr}
use Rattle.std.proofs.lemmas.Bool.{eqb-true, eq-eqb, ne_eqb, cases_Bool}
use Rattle.std.proofs.lemmas.List.{take-append-drop, drop_at, length-take-le}
use Rattle.sz_der.specs.Der.{AreOctets, Der}
use Rattle.sz_der.specs.Fault.{content_size, fault_of, header_size}
use Rattle.sz_der.specs.Spots.{after, content_at, first_of, inside, is_at_end, no_end, no_item, no_part, or_later, place_at, rule, size_at, Spot, tag_at, whole_at}
use Rattle.sz_der.specs.declared.fault.DerKind.{DerKind}
use Rattle.sz_der.proofs.Front.{Clear_from_none, Der_from_Clear, Front, Front_from_Der, none_from_Clear}
use Rattle.sz_der.proofs.Octets.{AreOctets-take, IsBytes}

-- ---- tables

-- no rule of a table is broken: not the first, and none behind it
pub parts_of_none : {A : Type 0} (one later : Option A) → or_later one later ≡ None → (one ≡ None) × (later ≡ None)
parts_of_none None later e = (refl, e)
parts_of_none (Some fault) later e = absurd cc

pub all_none : {A : Type 0} (rules : List (Option A)) → first_of rules ≡ None → AllByRecursion (λ rule. rule ≡ None) rules
all_none [] e = tt
all_none (one ∷ rules) e = let parts = parts_of_none one (first_of rules) e in (parts.0, all_none rules parts.1)

-- a rule that is not broken holds
pub holds_from_rule : {K : Type 0} (holds : Bool) (kind : K) (spot : Spot) → rule holds kind spot ≡ None → holds ≡ true
holds_from_rule true kind spot e = refl
holds_from_rule false kind spot e = absurd cc

pub rule_from_holds : {K : Type 0} (holds : Bool) (kind : K) (spot : Spot) → holds ≡ true → rule holds kind spot ≡ None
rule_from_holds true kind spot e = refl
rule_from_holds false kind spot e = absurd cc

-- ---- octets

pub AreOctets-drop : (n : ℕ) (octets : List ℕ) → AreOctets octets → AreOctets (drop n octets)
AreOctets-drop zero octets fits = fits
AreOctets-drop (suc n) [] fits = tt
AreOctets-drop (suc n) (octet ∷ octets) fits = AreOctets-drop n octets fits.1

octets_by_place : (octets : List ℕ) → AreOctets octets → IsBytes octets
octets_by_place [] fits i = omega arith
octets_by_place (octet ∷ octets) fits zero = fits.0
octets_by_place (octet ∷ octets) fits (suc i) = octets_by_place octets fits.1 i

pub octets_inside : (spot : Spot) → AreOctets spot.left → AreOctets (inside spot).left
unfolding inside content_at
octets_inside spot fits =
    AreOctets-take (content_size spot.left) (drop (header_size spot.left) spot.left) (AreOctets-drop (header_size spot.left) spot.left fits)

pub octets_after : (spot : Spot) → AreOctets spot.left → AreOctets (after spot).left
unfolding after
octets_after spot fits = AreOctets-drop (size_at spot) spot.left fits

-- the content is what is left inside
pub inside-left : (spot : Spot) → (inside spot).left ≡ content_at spot
unfolding inside
inside-left spot = refl

-- ---- an item stands at a spot without a fault

fault-none : (fault : Option DerKind) → not (is_some fault) ≡ true → fault ≡ None
fault-none None e = refl
fault-none (Some kind) e = absurd cc

pub no_fault_there : {K : Type 0} (kind : K) (spot : Spot) → no_item kind spot ≡ None → fault_of spot.left ≡ None
unfolding no_item
no_fault_there kind spot e = fault-none (fault_of spot.left) (holds_from_rule (not (is_some (fault_of spot.left))) kind spot e)

-- the item, and what follows it
pub record Found (spot : Spot) (tag : ℕ) : Type 0 where
  pub is_item : Der tag (content_at spot) (whole_at spot)
  pub joined : spot.left ≡ whole_at spot ++ (after spot).left
  pub inside : AreOctets (inside spot).left
  pub after : AreOctets (after spot).left

pub found : {K : Type 0} (kind : K) (spot : Spot) → AreOctets spot.left → no_item kind spot ≡ None → Found spot (tag_at spot)
unfolding tag_at content_at whole_at after
found kind spot fits e =
    let clear = Clear_from_none spot.left (no_fault_there kind spot e) in
    record {
      is_item = Der_from_Clear spot.left (octets_by_place spot.left fits) clear;
      joined = sym (take-append-drop (size_at spot) spot.left);
      inside = octets_inside spot fits;
      after = octets_after spot fits;
    }

pub item_of_part : {K : Type 0} (broken other : K) (tag : ℕ) (spot : Spot) → no_part broken other tag spot ≡ None →
    (no_item broken spot ≡ None) × (tag_at spot ≡ tag)
unfolding no_part
item_of_part broken other tag spot e =
    let a = parts_of_none (no_item broken spot) (first_of (rule (tag_at spot == tag) other spot ∷ [])) e in
    let b = parts_of_none (rule (tag_at spot == tag) other spot) None a.1 in
    (a.0, eqb-true (tag_at spot) tag (holds_from_rule (tag_at spot == tag) other spot b.0))

pub found_part : {K : Type 0} (broken other : K) (tag : ℕ) (spot : Spot) → AreOctets spot.left → no_part broken other tag spot ≡ None → Found spot tag
found_part broken other tag spot fits e =
    let item = item_of_part broken other tag spot e in
    subst (λ (t : ℕ). Found spot t) item.1 (found broken spot fits item.0)

-- what follows the item at a spot
pub record Behind (spot : Spot) : Type 0 where
  pub joined : spot.left ≡ whole_at spot ++ (after spot).left
  pub after : AreOctets (after spot).left

pub behind : {spot : Spot} {tag : ℕ} → Found spot tag → Behind spot
behind here = record { joined = here.joined; after = here.after }

-- ---- and nothing where nothing more may stand

pub no_bytes : (bytes : List ℕ) → length bytes ≤ 0 → bytes ≡ []
no_bytes [] few = refl
no_bytes (byte ∷ bytes) few = absurd (omega arith)

pub nil_from_end : (spot : Spot) (b : Bool) → is_at_end spot ≡ b → b ≡ true → spot.left ≡ []
unfolding is_at_end
nil_from_end spot b is end =
    let none : length spot.left ≡ 0 = eqb-true (length spot.left) 0 (is ∙ end) in
    no_bytes spot.left (omega arith)

pub nothing_left : {K : Type 0} (broken other : K) (spot : Spot) → no_end broken other spot ≡ None → spot.left ≡ []
unfolding no_end
nothing_left broken other spot e =
    elim (cases_Bool (is_at_end spot)) [
      | inl at_end ↦ nil_from_end spot true at_end refl
      | inr more ↦ absurd (some_is_left (no_item broken spot) (other, place_at spot) (rw more at e))
    ]
  where
    some_is_left : {A : Type 0} (one : Option A) (fault : A) → or_later one (Some fault) ≡ None → ⊥
    some_is_left None fault e = absurd cc
    some_is_left (Some one) fault e = absurd cc

-- ---- no fault is where an item stands

-- the item that the bytes from the spot on begin with
pub record Stands (spot : Spot) (tag : ℕ) (content whole rest : List ℕ) : Type 0 where
  pub tag_is : tag_at spot ≡ tag
  pub content_is : content_at spot ≡ content
  pub whole_is : whole_at spot ≡ whole
  pub inside_is : (inside spot).left ≡ content
  pub after_is : (after spot).left ≡ rest
  pub no_fault : fault_of spot.left ≡ None
  pub is_some : is_at_end spot ≡ false

after_whole : (bytes whole rest : List ℕ) (n : ℕ) → bytes ≡ whole ++ rest → take n bytes ≡ whole → n ≤ length bytes → drop n bytes ≡ rest
after_whole bytes whole rest n joined is within =
    let long : n ≡ length whole = sym (length-take-le n bytes within) ∙ ap length is in
    rw joined (drop_at whole rest n (sym long))

pub stands : (spot : Spot) (tag : ℕ) (content whole rest : List ℕ) → Der tag content whole → spot.left ≡ whole ++ rest →
    Stands spot tag content whole rest
unfolding tag_at content_at whole_at inside after is_at_end
stands spot tag content whole rest item joined =
    let fronts : List ℕ → Type 0 = λ (bytes : List ℕ). Front bytes tag content whole in
    let front : Front spot.left tag content whole = subst fronts (sym joined) (Front_from_Der tag content whole rest item) in
    let some : length spot.left ≡ 0 → ⊥ = λ e. omega (arith, front.clear.two) in
    record {
      tag_is = front.tag_is;
      content_is = front.content_is;
      whole_is = front.whole_is;
      inside_is = front.content_is;
      after_is = after_whole spot.left whole rest (size_at spot) joined front.whole_is front.clear.whole;
      no_fault = none_from_Clear spot.left front.clear;
      is_some = ne_eqb (length spot.left) 0 some;
    }

none_fault : (fault : Option DerKind) → fault ≡ None → not (is_some fault) ≡ true
none_fault fault e = rw e refl

pub no_item-stands : {K : Type 0} (broken : K) {spot : Spot} {tag : ℕ} {content whole rest : List ℕ} → Stands spot tag content whole rest →
    no_item broken spot ≡ None
unfolding no_item
no_item-stands broken {spot} here =
    rule_from_holds (not (is_some (fault_of spot.left))) broken spot (none_fault (fault_of spot.left) here.no_fault)

pub no_part-stands : {K : Type 0} (broken other : K) (spot : Spot) (tag : ℕ) (content whole rest : List ℕ) → Stands spot tag content whole rest →
    no_part broken other tag spot ≡ None
unfolding no_part
no_part-stands broken other spot tag content whole rest here =
    rw (no_item-stands broken here, rule_from_holds (tag_at spot == tag) other spot (eq-eqb (tag_at spot) tag here.tag_is)) refl

pub end_from_nothing : {K : Type 0} (broken other : K) (spot : Spot) → spot.left ≡ [] → no_end broken other spot ≡ None
unfolding no_end is_at_end
end_from_nothing broken other spot nothing = rw nothing refl
