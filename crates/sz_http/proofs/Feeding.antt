-- A chunked body after a piece.
use Rattle.std.proofs.Common.{◌≡◌, ◌≢◌, ℕ, ◌+◌, ◌-◌, ◌<◌, ◌≤◌, ◌⊎◌, true, false, List, [], ◌∷◌, ◌++◌, length, take, drop, get_or, refl, sym, ap, ◌∙◌, subst, arith, append_assoc, length-append, length-take, length-drop, take-append-drop, inl, inr}
use Rattle.std.proofs.Math.Seq.{take-add}
use Rattle.std.proofs.lemmas.Bool.{cases_lt}
use Rattle.std.proofs.lemmas.List.{drop_more}
use Rattle.sz_http.specs.declared.head_reading.HeadReading.{HeadReading}
use Rattle.sz_http.specs.declared.chunk_fault.ChunkFault.{ChunkFault}
use Rattle.sz_http.specs.declared.chunk_fault.ChunkFault.TheVariants.{TooLarge}
use Rattle.sz_http.specs.declared.chunk_place.Place.{Place}
use Rattle.sz_http.specs.declared.chunk_place.Place.TheVariants.{InSize, InExtension, LineFeed, InData, DataEnd, DataLineFeed, Between, InTrailer, Whole}
use Rattle.sz_http.specs.ChunkPart.{IsPart}
use Rattle.sz_http.specs.ChunkPlace.{is_at_line, is_framing}
use Rattle.sz_http.specs.ChunkReading.{Stands, Came}
use Rattle.sz_http.specs.ChunkRefusal.{RefusesNext, IsRefused}
use Rattle.sz_http.proofs.Bodies.{data_more, data_whole}
use Rattle.sz_http.proofs.ChunkParts.{part_of}

-- a place in a line, in the trailer, or neither
pub line_otherwise : (place : Place) → is_framing place ≡ true → place ≢ InTrailer → is_at_line place ≡ true
line_otherwise (InSize size) framing other = refl
line_otherwise (InExtension size len) framing other = refl
line_otherwise (LineFeed size) framing other = refl
line_otherwise (InData left) framing other = absurd (cc)
line_otherwise DataEnd framing other = refl
line_otherwise DataLineFeed framing other = refl
line_otherwise Between framing other = absurd (cc)
line_otherwise InTrailer framing other = absurd (other refl)
line_otherwise Whole framing other = absurd (cc)

-- a text around one of its bytes
pub around : (before piece : List ℕ) (used : ℕ) → used < length piece
    → before ++ piece ≡ (before ++ take used piece) ++ get_or piece used 0 ∷ drop (used + 1) piece
around before piece used inside =
    ap (λ (t : List ℕ). before ++ t)
    (sym (take-append-drop used piece) ∙ ap (λ (t : List ℕ). take used piece ++ t) (drop_more piece used 0 inside))
    ∙ sym (append_assoc before (take used piece) (get_or piece used 0 ∷ drop (used + 1) piece))

pub refused_at : (trailer : HeadReading) (place : Place) (limit used : ℕ) (before content piece : List ℕ) (fault : ChunkFault) → used < length piece
    → Came trailer place (before ++ take used piece) content → place ≢ Whole → length content ≤ limit
    → RefusesNext limit (before ++ take used piece) content (get_or piece used 0) fault → IsRefused limit (before ++ piece) fault
refused_at trailer place limit used before content piece fault inside came other few why = record {
  front = before ++ take used piece;
  content = content;
  byte = get_or piece used 0;
  rest = drop (used + 1) piece;
  text_is = around before piece used inside;
  part = part_of trailer place (before ++ take used piece) content came other;
  few = few;
  why = why;
}

-- one byte more of a chunk
byte_more : (trailer : HeadReading) (left byte : ℕ) (bytes content : List ℕ) → Stands (InData left) bytes content → 0 < left
    → IsPart (bytes ++ byte ∷ []) (content ++ byte ∷ [])
byte_more trailer left byte bytes content stands some = judged (cases_lt 1 left)
  where
    judged : (1 < left) ⊎ (left ≤ 1) → IsPart (bytes ++ byte ∷ []) (content ++ byte ∷ [])
    judged (inl more) =
        part_of trailer (InData (left - 1)) (bytes ++ byte ∷ []) (content ++ byte ∷ []) (data_more left bytes content (byte ∷ []) stands more) (λ e. cc)
    judged (inr last) =
        part_of trailer DataEnd (bytes ++ byte ∷ []) (content ++ byte ∷ []) (data_whole left bytes content (byte ∷ []) stands (omega arith)) (λ e. cc)

-- the first byte past the limit
pub refused_over : (trailer : HeadReading) (limit left room : ℕ) (bytes content rest : List ℕ) → Stands (InData left) bytes content
    → length content + room ≡ limit → room < left → room < length rest → IsRefused limit (bytes ++ rest) (TooLarge limit)
refused_over trailer limit left room bytes content rest stands full some inside =
    let short : length (take room rest) ≡ room = omega (arith, length-take room rest) in
    let here = data_more left bytes content (take room rest) stands (omega arith) in
    let most : length (content ++ take room rest) ≡ limit = omega (arith, length-append content (take room rest)) in
    record {
      front = bytes ++ take room rest;
      content = content ++ take room rest;
      byte = get_or rest room 0;
      rest = drop (room + 1) rest;
      text_is = around bytes rest room inside;
      part = part_of trailer (InData (left - length (take room rest))) (bytes ++ take room rest) (content ++ take room rest) here (λ e. cc);
      few = omega (arith, most);
      why = inl (
        refl,
        (
          most,
          byte_more trailer (left - length (take room rest)) (get_or rest room 0) (bytes ++ take room rest) (content ++ take room rest) here (omega arith),
        ),
      );
    }

-- ---- the bytes of a chunk

-- a place in or behind a chunk is not behind the body
pub not_whole : (left count : ℕ) (place : Place) → count ≤ left → (count < left → place ≡ InData (left - count)) → (count ≡ left → place ≡ DataEnd)
    → place ≡ Whole → ⊥
not_whole left count place few more all is = judged (cases_lt count left)
  where
    judged : (count < left) ⊎ (left ≤ count) → ⊥
    judged (inl short) = let e = more short in cc
    judged (inr long) = let e = all (omega arith) in cc

-- what stands after so many bytes of the chunk behind so many bytes of the piece
pub data_taken : (trailer : HeadReading) (left count used : ℕ) (before content piece : List ℕ) (place : Place)
    → Stands (InData left) (before ++ take used piece) content → count ≤ left → used + count ≤ length piece
    → (count < left → place ≡ InData (left - count)) → (count ≡ left → place ≡ DataEnd)
    → Came trailer place (before ++ take (used + count) piece) (content ++ take count (drop used piece))
data_taken trailer left count used before content piece place stands few inside more all = judged (cases_lt count left)
  where
    long : length (take count (drop used piece)) ≡ count
    long = omega (arith, length-take count (drop used piece), length-drop used piece)

    joined : (before ++ take used piece) ++ take count (drop used piece) ≡ before ++ take (used + count) piece
    joined = append_assoc before (take used piece) (take count (drop used piece)) ∙ ap (λ (t : List ℕ). before ++ t) (sym (take-add used count piece))

    judged : (count < left) ⊎ (left ≤ count) → Came trailer place (before ++ take (used + count) piece) (content ++ take count (drop used piece))
    judged (inl short) =
        let here = data_more left (before ++ take used piece) content (take count (drop used piece)) stands (omega (arith, long)) in
        let some = take count (drop used piece) in
        let there = subst (λ (n : ℕ). Stands (InData (left - n)) ((before ++ take used piece) ++ some) (content ++ some)) long here in
        subst (λ (p : Place). Came trailer p (before ++ take (used + count) piece) (content ++ take count (drop used piece))) (sym (more short))
        (subst (λ (t : List ℕ). Stands (InData (left - count)) t (content ++ take count (drop used piece))) joined there)
    judged (inr rest) =
        let here = data_whole left (before ++ take used piece) content (take count (drop used piece)) stands (omega (arith, long)) in
        subst (λ (p : Place). Came trailer p (before ++ take (used + count) piece) (content ++ take count (drop used piece))) (sym (all (omega arith)))
        (subst (λ (t : List ℕ). Stands DataEnd t (content ++ take count (drop used piece))) joined here)

pub data_length : (count used : ℕ) (piece : List ℕ) → used + count ≤ length piece → length (take count (drop used piece)) ≡ count
data_length count used piece inside = omega (arith, length-take count (drop used piece), length-drop used piece)

-- a piece whose data goes past the limit
pub refused_data : (trailer : HeadReading) (limit most left room count used : ℕ) (before content piece : List ℕ) → most ≡ limit
    → Stands (InData left) (before ++ take used piece) content → length content + room ≡ limit → room < count → count ≤ left
    → used + count ≤ length piece → IsRefused limit (before ++ piece) (TooLarge most)
refused_data trailer limit most left room count used before content piece e stands full over few inside =
    let joined : (before ++ take used piece) ++ drop used piece ≡ before ++ piece =
    append_assoc before (take used piece) (drop used piece) ∙ ap (λ (t : List ℕ). before ++ t) (take-append-drop used piece) in
    subst (λ (m : ℕ). IsRefused limit (before ++ piece) (TooLarge m)) (sym e)
    (subst (λ (t : List ℕ). IsRefused limit t (TooLarge limit)) joined
    (refused_over trailer limit left room (before ++ take used piece) content (drop used piece) stands full (omega arith)
    (omega (arith, length-drop used piece))))

-- ---- the other places

pub framing_otherwise : (trailer : HeadReading) (place : Place) (bytes content : List ℕ) → Came trailer place bytes content
    → ((left : ℕ) → place ≡ InData left → ⊥) → place ≢ Whole → is_framing place ≡ true
framing_otherwise trailer (InSize size) bytes content came no_data other = refl
framing_otherwise trailer (InExtension size len) bytes content came no_data other = refl
framing_otherwise trailer (LineFeed size) bytes content came no_data other = refl
framing_otherwise trailer (InData left) bytes content came no_data other = absurd (no_data left refl)
framing_otherwise trailer DataEnd bytes content came no_data other = refl
framing_otherwise trailer DataLineFeed bytes content came no_data other = refl
framing_otherwise trailer Between bytes content came no_data other = absurd came
framing_otherwise trailer InTrailer bytes content came no_data other = refl
framing_otherwise trailer Whole bytes content came no_data other = absurd (other refl)

-- a place in a line, behind a chunk's bytes or in the trailer is not behind the body
pub framing_other : (place : Place) → is_framing place ≡ true → place ≢ Whole
framing_other place framing e = let shut : is_framing Whole ≡ false = refl in cc
