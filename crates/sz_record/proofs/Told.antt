-- What is spelled is told by its field.
use Rattle.std.proofs.Common.{◌≡◌, ℕ, ◌+◌, ◌<◌, ◌≤◌, ◌^◌, Bool, if◌then◌else◌, List, [], ◌∷◌, ◌++◌, length, take, drop, replicate, Result, Ok, Err, Option, Some, None, IfSome, refl, sym, ap, subst, ◌∙◌, arith, append_assoc, length-append}
use Rattle.std.proofs.Math.Seq.{drop-append_seam, take-append_seam}
use Rattle.std.proofs.lemmas.Bool.{le-leb}
use Rattle.std.proofs.lemmas.List.Elements.{All-head, All-tail}
use Rattle.std.proofs.lemmas.Nat.{from_be_bytes-to_be_bytes_2, from_be_bytes-to_be_bytes_4, from_be_bytes-to_be_bytes_8}
use Rattle.std.specs.Int.{Width, w8, w16, w32, w64, byte_len, from_be_bytes, to_be_bytes}
use Rattle.std.specs.List.{All, flat_map}
use Rattle.sz_record.specs.Field.{Field, nothing, bytes, in_order, followed, number, number_then, optional, where_there, text, long, longest}
use Rattle.sz_record.specs.Reading.{TakesField, TakesNumber}
use Rattle.sz_record.specs.Spelling.{optional_bytes, text_bytes, long_bytes}
use Rattle.sz_record.proofs.Fields.{takes_none, takes_next, takes_number, number_told}

-- bytes that a field takes wherever they stand at the front
pub record Told (field : Field) (own : List ℕ) : Type 0 where
  pub takes : (old new : List ℕ) → old ≡ own ++ new → TakesField field own old new

pub told_none : Told nothing []
told_none = record { takes = λ old new is. subst (λ s. TakesField nothing [] s new) (sym is) (takes_none new) }

pub told_next : {first next : Field} {own others : List ℕ} → Told first own → Told next others
    → Told (followed first next) (own ++ others)
told_next {own = own} {others = others} one rest = record {
  takes = λ old new is.
      takes_next (one.takes old (others ++ new) (is ∙ append_assoc own others new)) (rest.takes (others ++ new) new refl);
}

pub told_bytes : (n : ℕ) (own : List ℕ) → length own ≡ n → Told (bytes n) own
unfolding bytes
told_bytes n own size = record {
  takes = λ old new is. record {
    joined = is;
    told =
        let enough : n ≤ length old =
        omega (arith, ap (λ (s : List ℕ). length s) is, length-append own new, size) in
        ap (λ (b : Bool). let r : Result ℕ ℕ = if b then Ok n else Err (length old) in r) (le-leb n (length old) enough)
        ∙ ap (λ k. let r : Result ℕ ℕ = Ok k in r) (sym size);
  };
}

-- a number that its bytes tell, whatever follows
pub record Tells (width : Width) (own : List ℕ) (n : ℕ) : Type 0 where
  pub size : length own ≡ byte_len width
  pub value : (rest : List ℕ) → from_be_bytes width (own ++ rest) ≡ n

pub tells_8 : (n : ℕ) → Tells w8 (n ∷ []) n
tells_8 n = record { size = refl; value = λ rest. refl }

pub tells_16 : (n : ℕ) → n < 2 ^ 16 → Tells w16 (to_be_bytes w16 n) n
tells_16 n fits = record { size = refl; value = λ rest. from_be_bytes-to_be_bytes_2 n fits }

pub tells_32 : (n : ℕ) → n < 2 ^ 32 → Tells w32 (to_be_bytes w32 n) n
tells_32 n fits = record { size = refl; value = λ rest. from_be_bytes-to_be_bytes_4 n fits }

pub tells_64 : (n : ℕ) → n < 2 ^ 64 → Tells w64 (to_be_bytes w64 n) n
tells_64 n fits = record { size = refl; value = λ rest. from_be_bytes-to_be_bytes_8 n fits }

pub told_number : {width : Width} {low most n : ℕ} {own others : List ℕ} (next : ℕ → Field) → Tells width own n
    → low ≤ n → n ≤ most → Told (next n) others → Told (number_then width low most next) (own ++ others)
told_number {width} {low} {most} {n} {own} {others} next tells above below rest = record {
  takes = λ old new is.
      let joined : old ≡ own ++ (others ++ new) = is ∙ append_assoc own others new in
      let one : TakesNumber width low most own n old (others ++ new) = record {
        joined = joined;
        size = tells.size;
        value = ap (λ s. from_be_bytes width s) joined ∙ tells.value (others ++ new);
        above = above;
        below = below;
      } in
      takes_number next one (rest.takes (others ++ new) new refl);
}

-- a number by itself
pub told_alone : {width : Width} {low most n : ℕ} {own : List ℕ} → Tells width own n → low ≤ n → n ≤ most
    → Told (number width low most) own
told_alone {width} {low} {most} {n} {own} tells above below = record {
  takes = λ old new is. record {
    joined = is;
    told =
        let one : TakesNumber width low most own n old new = record {
          joined = is;
          size = tells.size;
          value = ap (λ s. from_be_bytes width s) is ∙ tells.value new;
          above = above;
          below = below;
        } in
        number_told (λ _. nothing) one ∙ ap (λ k. let r : Result ℕ ℕ = Ok k in r) (omega arith);
  };
}

pub told_text : (low most : ℕ) (own : List ℕ) → low ≤ length own → length own ≤ most → most ≤ 65535
    → Told (text low most) (text_bytes own)
unfolding text_bytes
told_text low most own above below fits =
    told_number bytes (tells_16 (length own) (omega arith)) above below (told_bytes (length own) own refl)

pub told_long : (most : ℕ) (own : List ℕ) → length own ≤ most → most ≤ longest → Told (long most) (long_bytes own)
unfolding long_bytes
told_long most own below fits =
    told_number bytes (tells_32 (length own) (omega arith)) (omega arith) below (told_bytes (length own) own refl)

pub told_optional : {T : Type 0} (field : Field) (spelled : T → List ℕ) (value : Option T)
    → IfSome value (λ v. Told field (spelled v)) → Told (optional field) (optional_bytes spelled value)
unfolding optional_bytes
told_optional field spelled None told =
    told_number (where_there field) (tells_8 0) (omega arith) (omega arith) told_none
told_optional field spelled (Some value) told =
    told_number (where_there field) (tells_8 1) (omega arith) (omega arith) told

pub told_each : (most : ℕ) (items : List (List ℕ)) → most ≤ longest → All (λ item. length item ≤ most) items
    → Told (in_order (replicate (length items) (long most))) (flat_map long_bytes items)
told_each most [] fits short = told_none
told_each most (item ∷ items) fits short =
    let P : List ℕ → Type 0 = λ i. length i ≤ most in
    told_next (told_long most item (All-head P item items short) fits)
    (told_each most items fits (All-tail P item items short))

-- ---- one reading

cancelled : (a b x y : List ℕ) → length a ≡ length b → a ++ x ≡ b ++ y → (a ≡ b) × (x ≡ y)
cancelled a b x y same is = (
  sym (take-append_seam a x)
      ∙ ap (λ s. take (length a) s) is
      ∙ ap (λ k. take k (b ++ y)) same
      ∙ take-append_seam b y,
  sym (drop-append_seam a x)
      ∙ ap (λ s. drop (length a) s) is
      ∙ ap (λ k. drop k (b ++ y)) same
      ∙ drop-append_seam b y,
)

-- a field that takes both takes one and the same
pub same_front : {field : Field} {a b x y : List ℕ} → Told field a → Told field b → a ++ x ≡ b ++ y
    → (a ≡ b) × (x ≡ y)
same_front {field} {a} {b} {x} {y} one other is =
    let left = one.takes (a ++ x) x refl in
    let right = other.takes (a ++ x) y is in
    let same : length a ≡ length b = cc (left.told, right.told) in
    cancelled a b x y same is
