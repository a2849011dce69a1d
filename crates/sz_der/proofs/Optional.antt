-- Items that need not be there.
use Rattle.std.proofs.Common.{◌≡◌, ℕ, true, false, List, [], ◌++◌, None, refl, sym, subst, ◌∙◌}
use Rattle.std.proofs.lemmas.Bool.{and_right, and_parts, and_from, eqb-true, eq-eqb, ne_eqb, not_from_false}
use Rattle.sz_der.specs.Der.{AreOctets, Der}
use Rattle.sz_der.specs.Spots.{after, after_optional, is_at_end, is_next, no_item, Spot, tag_at, whole_at}
use Rattle.sz_der.proofs.Spots.{Found, found, Stands, stands}

pub after_next : (tag : ℕ) (spot : Spot) → is_next tag spot ≡ true → after_optional tag spot ≡ after spot
unfolding after_optional
after_next tag spot next = rw next refl

pub after_other : (tag : ℕ) (spot : Spot) → is_next tag spot ≡ false → after_optional tag spot ≡ spot
unfolding after_optional
after_other tag spot other = rw other refl

pub next_tag : (tag : ℕ) (spot : Spot) → is_next tag spot ≡ true → tag_at spot ≡ tag
unfolding is_next
next_tag tag spot next = eqb-true (tag_at spot) tag (and_parts _ _ next).1

pub next_stands : (spot : Spot) (tag : ℕ) (content whole rest : List ℕ) → Stands spot tag content whole rest → is_next tag spot ≡ true
unfolding is_next
next_stands spot tag content whole rest here =
    and_from _ _ (not_from_false (is_at_end spot) here.is_some) (eq-eqb (tag_at spot) tag here.tag_is)

-- what begins with no item of this tag
abbrev pub BeginsWithout : ℕ → List ℕ → Type 0
BeginsWithout tag bytes = (spot : Spot) → spot.left ≡ bytes → is_next tag spot ≡ false

pub without_nothing : (tag : ℕ) → BeginsWithout tag []
unfolding is_next is_at_end
without_nothing tag spot nothing = rw nothing refl

pub without_item : (tag other : ℕ) (content whole rest : List ℕ) → Der other content whole → (other ≡ tag → ⊥) → BeginsWithout tag (whole ++ rest)
unfolding is_next
without_item tag other content whole rest item differ spot joined =
    let here = stands spot other content whole rest item joined in
    let not_tag : tag_at spot ≡ tag → ⊥ = λ e. differ (sym here.tag_is ∙ e) in
    and_right _ _ (ne_eqb (tag_at spot) tag not_tag)

-- what is spelled at a spot where an item with this tag may stand, and what follows it
pub record Optional (spot : Spot) (tag : ℕ) (IsPiece : List ℕ → Type 0) : Type 0 where
  pub piece : List ℕ
  pub is_piece : IsPiece piece
  pub joined : spot.left ≡ piece ++ (after_optional tag spot).left
  pub after : AreOctets (after_optional tag spot).left

pub absent : (spot : Spot) (tag : ℕ) (IsPiece : List ℕ → Type 0) → AreOctets spot.left → is_next tag spot ≡ false → IsPiece [] → Optional spot tag IsPiece
absent spot tag IsPiece fits other is =
    let stays = after_other tag spot other in
    record { piece = []; is_piece = is; joined = rw stays refl; after = rw stays fits }

pub present : (spot : Spot) (tag : ℕ) (IsPiece : List ℕ → Type 0) → Found spot tag → is_next tag spot ≡ true → IsPiece (whole_at spot) →
    Optional spot tag IsPiece
present spot tag IsPiece here next is =
    let moves = after_next tag spot next in
    record { piece = whole_at spot; is_piece = is; joined = rw moves here.joined; after = rw moves here.after }

pub found_next : {K : Type 0} (broken : K) (tag : ℕ) (spot : Spot) → AreOctets spot.left → is_next tag spot ≡ true → no_item broken spot ≡ None →
    Found spot tag
found_next broken tag spot fits next n = subst (λ (t : ℕ). Found spot t) (next_tag tag spot next) (found broken spot fits n)
