-- Texts of levels, split at their marks.
use Rattle.std.proofs.Common.{◌≡◌, ◌≢◌, ℕ, ◌+◌, ◌^◌, ◌<◌, ◌≤◌, Bool, true, false, List, [], ◌∷◌, ◌++◌, length, get_or, map, take, drop, Option, Some, None, Result, Ok, Err, inl, inr, refl, sym, ap, ap₂, ◌∙◌, subst, arith, rules, append_assoc, length-append, IsTrue}
use Rattle.std.specs.Prelude.{◌==◌, ◌&&◌, IfNone, IfSome, OnErr, OnOk}
use Rattle.std.specs.Result.{OkIff, result_ok}
use Rattle.std.specs.Char.{is_ascii_digit}
use Rattle.std.specs.Fmt.{decimal}
use Rattle.std.specs.Str.Parse.{digits_value}
use Rattle.std.specs.List.{All, join_with_byte, list_all, position, position_or_len, slice_split}
use Rattle.std.proofs.lemmas.Bool.{and_parts}
use Rattle.std.proofs.lemmas.Fmt.{digits_decimal, digits_value-decimal}
use Rattle.std.proofs.lemmas.Grind.{common_steps}
use Rattle.std.proofs.lemmas.List.{drop_more, get_or-take, length-map, length-take, map_push, take-append-drop}
use Rattle.std.proofs.lemmas.List.Elements.{All-append, All-head, All-tail, All-cons, All-nil, All-weaker}
use Rattle.std.proofs.lemmas.List.Quantifiers.{position-Some}
use Rattle.std.proofs.lemmas.List.Splits.{join_with_byte-slice_split, slice_split_at, slice_split_none}
use Rattle.std.proofs.lemmas.List.Sums.{fails_before_first}
use Rattle.sz_base.specs.Number.{IsNumber}
use Rattle.sz_base.specs.Reading.{GivesUnlessMemory, ReadsValue}
use Rattle.sz_base.specs.declared.fault.BaseFault.{BaseFault}
use Rattle.sz_base.specs.declared.fault.BaseFault.TheVariants.{Form, OutOfMemory}
use Rattle.sz_base.proofs.Numerals.{IsDecimal-decimal, IsDecimal-text, own}
use Rattle.sz_lms_tree.specs.Tree.{is_height, is_width}
use Rattle.sz_hss.specs.Key.{Shape, is_shape}
use Rattle.sz_hss.specs.View.{shape_of, shapes_of}
use Rattle.sz_hss.specs.declared.level.Level.{Level}
use Rattle.sz_hss.specs.LevelsText.{IsLevelsText, comma, levels_text, parts_at, shape_text, slash}

-- what holds in any case holds where there is no value
pub IfNone-any : {T : Type 0} (o : Option T) (P : Type 0) → P → IfNone o P
IfNone-any None P p = p
IfNone-any (Some x) P p = tt

-- no byte of the text is the mark
abbrev pub Lacks : ℕ → List ℕ → Type 0
Lacks mark text = All (λ byte. (byte == mark) ≡ false) text

-- ---- split at a mark

-- parts without the mark, joined by it, are the parts of what they make
pub parts_at-joined : (mark : ℕ) (part : List ℕ) (parts : List (List ℕ)) → Lacks mark part → All (Lacks mark) parts
    → parts_at mark (join_with_byte mark (part ∷ parts)) ≡ part ∷ parts
parts_at-joined mark part [] lacks all = slice_split_none (λ byte. byte == mark) part lacks
parts_at-joined mark part (next ∷ parts) lacks all =
    let rest = parts_at-joined mark next parts (All-head (Lacks mark) next parts all) (All-tail (Lacks mark) next parts all) in
    slice_split_at (λ byte. byte == mark) part mark (join_with_byte mark (next ∷ parts)) lacks (search rules)
    ∙ ap (λ (all : List (List ℕ)). part ∷ all) rest

-- a part is a text that has no mark
pub one_part : (mark : ℕ) (text part : List ℕ) → parts_at mark text ≡ part ∷ [] → text ≡ part
one_part mark text part e = sym (join_with_byte-slice_split mark text) ∙ ap (join_with_byte mark) e

-- the text is its parts, joined
pub joined-parts_at : (mark : ℕ) (text : List ℕ) (parts : List (List ℕ)) → parts ≡ parts_at mark text → text ≡ join_with_byte mark parts
joined-parts_at mark text parts e = sym (join_with_byte-slice_split mark text) ∙ ap (join_with_byte mark) (sym e)

get_or-take-under : (mark n : ℕ) (text : List ℕ) (k d : ℕ) → k < n → (get_or (take n text) k d == mark) ≡ (get_or text k d == mark)
get_or-take-under mark n text k d lt = ap (λ (byte : ℕ). byte == mark) (get_or-take n text k d lt)

-- cut at the first mark
pub parts_at-cut : (mark at : ℕ) (text : List ℕ) → position (λ byte. byte == mark) text ≡ Some at
    → (at < length text) × (parts_at mark text ≡ take at text ∷ parts_at mark (drop (at + 1) text))
parts_at-cut mark at text e =
    let p : ℕ → Bool = λ byte. byte == mark in
    let first = position-Some p text at 0 e in
    let lacks : Lacks mark (take at text) = λ k d lt.
    let below : k < at = omega (arith, length-take at text) in
    get_or-take-under mark at text k d below ∙ (position-Some p text at d e).2 k below in (
      first.0,
      ap (slice_split p) (sym (take-append-drop at text) ∙ ap (λ (rest : List ℕ). take at text ++ rest) (drop_more text at 0 first.0))
          ∙ slice_split_at p (take at text) (get_or text at 0) (drop (at + 1) text) lacks first.1,
    )

pub parts_at-whole : (mark : ℕ) (text : List ℕ) → position (λ byte. byte == mark) text ≡ None → parts_at mark text ≡ text ∷ []
parts_at-whole mark text e =
    let p : ℕ → Bool = λ byte. byte == mark in
    slice_split_none p text (λ k d lt.
    let end : length text ≤ position_or_len p text = grind (arith, common_steps) in
    fails_before_first p text k d (omega arith))

-- ---- decimals have no marks

digit-is-no-mark : (mark byte : ℕ) → mark < 48 → is_ascii_digit byte ≡ true → (byte == mark) ≡ false
digit-is-no-mark mark byte low digit = grind (arith, common_steps)

pub Lacks-decimal : (mark n : ℕ) → mark < 48 → n < 2 ^ 64 → Lacks mark (decimal n)
Lacks-decimal mark n low below =
    All-weaker (λ byte. is_ascii_digit byte ≡ true) (λ byte. (byte == mark) ≡ false) (λ byte digit. digit-is-no-mark mark byte low digit)
    (decimal n) (digits_decimal own n below)

-- ---- a level

small-height : (height : ℕ) → IsTrue (is_height height) → height < 256
small-height height h = grind (arith, common_steps)

small-width : (width : ℕ) → IsTrue (is_width width) → width < 256
small-width width h = grind (arith, common_steps)

-- heights and widths that exist are small
pub small-shape : (shape : Shape) → IsTrue (is_shape shape) → (shape.height < 256) × (shape.width < 256)
small-shape shape h =
    let both = and_parts (is_height shape.height) (is_width shape.width) h in
    (small-height shape.height both.0, small-width shape.width both.1)

pub parts_at-shape_text : (shape : Shape) → IsTrue (is_shape shape)
    → parts_at slash (shape_text shape) ≡ decimal shape.height ∷ decimal shape.width ∷ []
parts_at-shape_text shape h =
    let small = small-shape shape h in
    parts_at-joined slash (decimal shape.height) (decimal shape.width ∷ []) (Lacks-decimal slash shape.height (omega arith) (omega arith))
    (All-cons (Lacks slash) (decimal shape.width) [] (Lacks-decimal slash shape.width (omega arith) (omega arith)) (All-nil (Lacks slash)))

pub Lacks-shape_text : (shape : Shape) → IsTrue (is_shape shape) → Lacks comma (shape_text shape)
Lacks-shape_text shape h =
    let small = small-shape shape h in
    let P : ℕ → Type 0 = λ byte. (byte == comma) ≡ false in
    All-append P (decimal shape.height) (slash ∷ decimal shape.width) (Lacks-decimal comma shape.height (omega arith) (omega arith))
    (All-cons P slash (decimal shape.width) refl (Lacks-decimal comma shape.width (omega arith) (omega arith)))

-- a number has one text
pub decimal_once : (m n : ℕ) → m < 2 ^ 64 → n < 2 ^ 64 → decimal m ≡ decimal n → m ≡ n
decimal_once m n m_fits n_fits e = sym (digits_value-decimal own m m_fits) ∙ ap (digits_value 10) e ∙ digits_value-decimal own n n_fits

-- a text whose parts are those of a shape is the text of the shape
pub shape_text-from_parts : (text : List ℕ) (a b : ℕ) → a < 2 ^ 64 → b < 2 ^ 64 → (height width : List ℕ) → height ≡ decimal a → width ≡ decimal b
    → parts_at slash text ≡ height ∷ parts_at slash width → text ≡ shape_text (record { height = a; width = b })
shape_text-from_parts text a b a_fits b_fits height width a_is b_is cut =
    let one : parts_at slash width ≡ decimal b ∷ [] =
    ap (parts_at slash) b_is ∙ slice_split_none (λ byte. byte == slash) (decimal b) (Lacks-decimal slash b (omega arith) b_fits) in
    joined-parts_at slash text (decimal a ∷ decimal b ∷ []) (sym (cut ∙ ap₂ (λ (x : List ℕ) (xs : List (List ℕ)). x ∷ xs) a_is one))

-- the two parts of the text of a shape
pub parts-of-shape : (text height width : List ℕ) (shape : Shape) → IsTrue (is_shape shape) → text ≡ shape_text shape
    → parts_at slash text ≡ height ∷ parts_at slash width → (height ≡ decimal shape.height) × (width ≡ decimal shape.width)
parts-of-shape text height width shape h e cut =
    let all : height ∷ parts_at slash width ≡ decimal shape.height ∷ decimal shape.width ∷ [] =
    sym cut ∙ ap (parts_at slash) e ∙ parts_at-shape_text shape h in
    (cc, one_part slash width (decimal shape.width) cc)

pub uncut-is-no-shape : (text : List ℕ) (shape : Shape) → IsTrue (is_shape shape) → text ≡ shape_text shape → parts_at slash text ≡ text ∷ [] → ⊥
uncut-is-no-shape text shape h e whole =
    let all : text ∷ [] ≡ decimal shape.height ∷ decimal shape.width ∷ [] = sym whole ∙ ap (parts_at slash) e ∙ parts_at-shape_text shape h in
    cc all

-- a level that is the one of a shape
pub is_shape-same : (shape : Shape) (a b : ℕ) → shape.height ≡ a → shape.width ≡ b → IsTrue (is_shape shape)
    → is_shape (record { height = a; width = b }) ≡ true
is_shape-same shape a b height width h =
    sym (ap₂ (λ (x y : ℕ). is_height x && is_width y) height width) ∙ h

-- ---- numbers below 256

-- the number that was read, where it is below 256
pub byte-read : {E : Type 0} (text : List ℕ) (n : ℕ) (t : Result ℕ E) → IsNumber text n → OkIff t (n < 256) n
    → IfSome (result_ok t) (λ k. text ≡ decimal k) × IfNone (result_ok t) ((k : ℕ) → k < 256 → text ≢ decimal k)
byte-read text n (Ok k) h is = (sym (IsDecimal-text text n h.decimal h.below) ∙ ap decimal (sym is.1), tt)
byte-read text n (Err e) h refused = (
  tt,
  λ k low same.
      let one : k ≡ n = decimal_once k n (omega arith) h.below (sym same ∙ sym (IsDecimal-text text n h.decimal h.below)) in
      refused (omega arith),
)

-- there is none in a text that is no number
pub byte-unread : (text : List ℕ) → ((n : ℕ) → ¬ (IsNumber text n)) → (k : ℕ) → k < 256 → text ≢ decimal k
byte-unread text none k low same =
    none k (subst (λ (digits : List ℕ). IsNumber digits k) (sym same) (record { decimal = IsDecimal-decimal k (omega arith); below = omega arith }))

-- ---- all levels

all-lack : (shapes : List Shape) → IsTrue (list_all is_shape shapes) → All (Lacks comma) (map shape_text shapes)
all-lack [] h = All-nil (Lacks comma)
all-lack (shape ∷ shapes) h =
    let both = and_parts (is_shape shape) (list_all is_shape shapes) h in
    All-cons (Lacks comma) (shape_text shape) (map shape_text shapes) (Lacks-shape_text shape both.0) (all-lack shapes both.1)

joined-levels : (shapes : List Shape) → 1 ≤ length shapes → IsTrue (list_all is_shape shapes) → parts_at comma (levels_text shapes) ≡ map shape_text shapes
joined-levels [] some h = absurd (omega arith)
joined-levels (shape ∷ shapes) some h =
    let both = and_parts (is_shape shape) (list_all is_shape shapes) h in
    parts_at-joined comma (shape_text shape) (map shape_text shapes) (Lacks-shape_text shape both.0) (all-lack shapes both.1)

-- the parts of the text of levels are the texts of the levels
pub parts-of-levels : (text : List ℕ) (shapes : List Shape) → IsLevelsText text shapes → parts_at comma text ≡ map shape_text shapes
parts-of-levels text shapes h = ap (parts_at comma) h.spelled ∙ joined-levels shapes h.levels.some h.levels.allowed

-- a text among those of shapes is that of a shape
among-shapes : (shapes : List Shape) (done : List (List ℕ)) (part : List ℕ) (more : List (List ℕ)) → IsTrue (list_all is_shape shapes)
    → done ++ part ∷ more ≡ map shape_text shapes → (shape : Shape) × IsTrue (is_shape shape) × (part ≡ shape_text shape)
among-shapes [] [] part more h e = cc e
among-shapes [] (first ∷ done) part more h e = cc e
among-shapes (shape ∷ shapes) [] part more h e = (shape, (and_parts (is_shape shape) (list_all is_shape shapes) h).0, cc)
among-shapes (shape ∷ shapes) (first ∷ done) part more h e =
    among-shapes shapes done part more (and_parts (is_shape shape) (list_all is_shape shapes) h).1 cc

-- where a part is no text of a shape, the text is none of levels
pub no-levels-part : (text : List ℕ) (done : List (List ℕ)) (part : List ℕ) (more : List (List ℕ)) → done ++ part ∷ more ≡ parts_at comma text
    → ((shape : Shape) → IsTrue (is_shape shape) → part ≢ shape_text shape) → (shapes : List Shape) → ¬ (IsLevelsText text shapes)
no-levels-part text done part more e none shapes h =
    let found = among-shapes shapes done part more h.levels.allowed (e ∙ parts-of-levels text shapes h) in
    none found.0 found.1 found.2

-- nor where there are too many parts
pub no-levels-many : (text : List ℕ) (levels : List Level) (part : List ℕ) (more : List (List ℕ)) → 3 ≤ length levels
    → map shape_text (shapes_of levels) ++ part ∷ more ≡ parts_at comma text → (shapes : List Shape) → ¬ (IsLevelsText text shapes)
no-levels-many text levels part more many e shapes h =
    let all : map shape_text (shapes_of levels) ++ part ∷ more ≡ map shape_text shapes = e ∙ parts-of-levels text shapes h in
    let few = h.levels.few in
    absurd (omega (
      arith,
      ap length all,
      length-append (map shape_text (shapes_of levels)) (part ∷ more),
      length-map (shapes_of levels) shape_text,
      length-map levels shape_of,
      length-map shapes shape_text,
    ))

-- one more part is the text of one more level
pub one-more-part : (levels : List Level) (level : Level) (part : List ℕ) (more all : List (List ℕ)) → part ≡ shape_text (shape_of level)
    → map shape_text (shapes_of levels) ++ part ∷ more ≡ all
    → map shape_text (shapes_of (levels ++ level ∷ [])) ++ more ≡ all
one-more-part levels level part more all is before =
    ap (λ (shapes : List Shape). map shape_text shapes ++ more) (map_push shape_of levels level)
    ∙ ap (λ (texts : List (List ℕ)). texts ++ more) (map_push shape_text (shapes_of levels) (shape_of level))
    ∙ append_assoc (map shape_text (shapes_of levels)) (shape_text (shape_of level) ∷ []) more
    ∙ ap (λ (text : List ℕ). map shape_text (shapes_of levels) ++ text ∷ more) (sym is)
    ∙ before

-- ---- one reading

shape_text-once : (a b : Shape) → IsTrue (is_shape a) → IsTrue (is_shape b) → shape_text a ≡ shape_text b → a ≡ b
shape_text-once a b ha hb e =
    let parts : decimal a.height ∷ decimal a.width ∷ [] ≡ decimal b.height ∷ decimal b.width ∷ [] =
    sym (parts_at-shape_text a ha) ∙ ap (parts_at slash) e ∙ parts_at-shape_text b hb in
    let small_a = small-shape a ha in
    let small_b = small-shape b hb in
    let height = decimal_once a.height b.height (omega arith) (omega arith) cc in
    let width = decimal_once a.width b.width (omega arith) (omega arith) cc in
    let made : ℕ → ℕ → Shape = λ h w. record { height = h; width = w } in
    ap₂ made height width

shapes-once : (one two : List Shape) → IsTrue (list_all is_shape one) → IsTrue (list_all is_shape two) → map shape_text one ≡ map shape_text two → one ≡ two
shapes-once [] [] ha hb e = refl
shapes-once [] (b ∷ rest) ha hb e = cc e
shapes-once (a ∷ more) [] ha hb e = cc e
shapes-once (a ∷ more) (b ∷ rest) ha hb e =
    let all_a = and_parts (is_shape a) (list_all is_shape more) ha in
    let all_b = and_parts (is_shape b) (list_all is_shape rest) hb in
    let head : shape_text a ≡ shape_text b = cc in
    let tail : map shape_text more ≡ map shape_text rest = cc in
    ap₂ (λ (x : Shape) (xs : List Shape). x ∷ xs) (shape_text-once a b all_a.0 all_b.0 head) (shapes-once more rest all_a.1 all_b.1 tail)

pub levels-once : (text : List ℕ) (a b : List Shape) → IsLevelsText text a → IsLevelsText text b → a ≡ b
levels-once text a b ha hb =
    shapes-once a b ha.levels.allowed hb.levels.allowed (sym (parts-of-levels text a ha) ∙ parts-of-levels text b hb)

abbrev ok_levels : List Shape → Result (List Shape) BaseFault
ok_levels shapes = Ok shapes

-- what is read is the levels that the text stands for
pub levels-again : (text : List ℕ) (shapes : List Shape) (answer : Result (List Shape) BaseFault) → IsLevelsText text shapes
    → ReadsValue (IsLevelsText text) answer → GivesUnlessMemory answer shapes
levels-again text shapes (Ok found) h reads = inl (ap ok_levels (levels-once text found shapes reads.ok h))
levels-again text shapes (Err Form) h reads = absurd (reads.refused.0 refl shapes h)
levels-again text shapes (Err OutOfMemory) h reads = inr refl

-- ---- results of which the value is known

pub holds-at-some : {T E : Type 0} (r : Result T E) (o : Option T) (x : T) (P : Type 0) → OnOk r P → o ≡ result_ok r → o ≡ Some x → P
holds-at-some (Ok y) o x P p e some = p
holds-at-some (Err f) o x P p e some = cc (sym e ∙ some)

pub holds-at-none : {T E : Type 0} (r : Result T E) (o : Option T) (P : Type 0) → OnErr r P → o ≡ result_ok r → o ≡ None → P
holds-at-none (Ok y) o P p e none = cc (sym e ∙ none)
holds-at-none (Err f) o P p e none = p
