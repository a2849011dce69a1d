-- Bytes and numbers at the front of those that are left.
use Rattle.std.proofs.Common.{◌≡◌, ◌⊎◌, inl, inr, ℕ, ℤ, ◌+◌, ◌<◌, ◌≤◌, ◌^◌, Bool, true, false, ◌&&◌, if◌then◌else◌, List, [], ◌∷◌, ◌++◌, length, take, drop, get_or, Result, Ok, Err, IfOk, nat_le, refl, sym, ap, subst, ◌∙◌, arith, length-append}
use Rattle.std.proofs.lemmas.Bool.{le-leb, leb-true, lt-leb}
use Rattle.std.proofs.lemmas.Int.{of_z-to_z, to_z-of_z}
use Rattle.std.proofs.lemmas.List.{take-append-drop}
use Rattle.std.proofs.lemmas.Nat.{be_bytes_2, be_bytes_4, be_bytes_8}
use Rattle.std.specs.Prelude.{FitsSigned}
use Rattle.std.specs.Int.{Width, w8, w16, w32, w64, byte_len, cast_signed, cast_unsigned, from_be_bytes, to_be_bytes, is_in_range}
use Rattle.sz_record.specs.Field.{behind, bytes, long, number, number_then, text}
use Rattle.sz_record.specs.Reading.{TakesField, TakesNumber, IsWrong}
use Rattle.sz_record.specs.Spelling.{long_bytes, text_bytes, time_bytes}
use Rattle.sz_record.specs.declared.unread.Wrong.{Wrong}
use Rattle.sz_record.specs.declared.unread.Wrong.TheVariants.{At}
use Rattle.sz_record.proofs.Fields.{takes_number, wrong_at}
use Rattle.sz_record.proofs.Told.{Tells, tells_8, tells_16, tells_32, tells_64}

pub bytes_split : (n : ℕ) (old front rest : List ℕ) → n ≤ length old → front ≡ take n old → rest ≡ drop n old
    → length front ≡ n → TakesField (bytes n) front old rest
unfolding bytes
bytes_split n old front rest enough front_is rest_is size = record {
  joined = sym (take-append-drop n old)
      ∙ ap (λ s. s ++ drop n old) (sym front_is)
      ∙ ap (λ s. front ++ s) (sym rest_is);
  told =
      ap (λ (b : Bool). let r : Result ℕ ℕ = if b then Ok n else Err (length old) in r) (le-leb n (length old) enough)
      ∙ ap (λ k. let r : Result ℕ ℕ = Ok k in r) (sym size);
}

pub bytes_short : (n : ℕ) (old : List ℕ) → length old < n → IsWrong (bytes n) old (At 0)
unfolding bytes
bytes_short n old short =
    wrong_at (bytes n) old (At 0) (length old) 0 refl
    (ap (λ (b : Bool). let r : Result ℕ ℕ = if b then Ok n else Err (length old) in r) (lt-leb n (length old) short))
    (omega arith)

-- ---- numbers

taken_number : (width : Width) (low most n : ℕ) (given own old new : List ℕ) → TakesField (bytes (byte_len width)) given old new
    → Tells width own n → own ≡ given → low ≤ n → n ≤ most → TakesNumber width low most own n old new
taken_number width low most n given own old new took tells same above below =
    let joined : old ≡ own ++ new = took.joined ∙ ap (λ s. s ++ new) (sym same) in
    record {
      joined = joined;
      size = tells.size;
      value = ap (λ s. from_be_bytes width s) joined ∙ tells.value new;
      above = above;
      below = below;
    }

pub taken_16 : (low most n : ℕ) (given old new : List ℕ) → TakesField (bytes 2) given old new → length given ≡ 2
    → ((i : ℕ) → get_or given i 0 < 256) → n ≡ from_be_bytes w16 given → n < 2 ^ 16 → low ≤ n → n ≤ most
    → TakesNumber w16 low most (to_be_bytes w16 n) n old new
taken_16 low most n given old new took size small is fits above below =
    taken_number w16 low most n given (to_be_bytes w16 n) old new took (tells_16 n fits) (be_bytes_2 given n size small is)
    above below

pub taken_32 : (low most n : ℕ) (given old new : List ℕ) → TakesField (bytes 4) given old new → length given ≡ 4
    → ((i : ℕ) → get_or given i 0 < 256) → n ≡ from_be_bytes w32 given → n < 2 ^ 32 → low ≤ n → n ≤ most
    → TakesNumber w32 low most (to_be_bytes w32 n) n old new
taken_32 low most n given old new took size small is fits above below =
    taken_number w32 low most n given (to_be_bytes w32 n) old new took (tells_32 n fits) (be_bytes_4 given n size small is)
    above below

pub taken_64 : (low most n : ℕ) (given old new : List ℕ) → TakesField (bytes 8) given old new → length given ≡ 8
    → ((i : ℕ) → get_or given i 0 < 256) → n ≡ from_be_bytes w64 given → n < 2 ^ 64 → low ≤ n → n ≤ most
    → TakesNumber w64 low most (to_be_bytes w64 n) n old new
taken_64 low most n given old new took size small is fits above below =
    taken_number w64 low most n given (to_be_bytes w64 n) old new took (tells_64 n fits) (be_bytes_8 given n size small is)
    above below

pub taken_8 : (low most n : ℕ) (given old new : List ℕ) → TakesField (bytes 1) given old new → n ∷ [] ≡ given → low ≤ n
    → n ≤ most → TakesNumber w8 low most (n ∷ []) n old new
taken_8 low most n given old new took is above below =
    taken_number w8 low most n given (n ∷ []) old new took (tells_8 n) is above below

-- ---- wrong numbers

both_false : (a b : Bool) → (a ≡ true → b ≡ true → ⊥) → (a && b) ≡ false
both_false true true h = absurd (h refl refl)
both_false true false h = refl
both_false false b h = refl

abbrev tests : Bool → Bool → Result ℕ ℕ → ℕ → Result ℕ ℕ
tests there within told end = if there then (if within then told else Err 0) else Err end

fails : (there within : Bool) (told : Result ℕ ℕ) (end : ℕ) → there ≡ true → within ≡ false
    → tests there within told end ≡ Err 0
fails there within told end a b =
    ap (λ x. tests x within told end) a ∙ ap (λ y. tests true y told end) b

-- a number out of its bounds
pub number_out : (width : Width) (low most n : ℕ) (given own old new : List ℕ) → TakesField (bytes (byte_len width)) given old new
    → Tells width own n → own ≡ given → (low ≤ n → n ≤ most → ⊥) → IsWrong (number width low most) old (At (length old))
unfolding number_then
number_out width low most n given own old new took tells same out =
    let joined : old ≡ own ++ new = took.joined ∙ ap (λ s. s ++ new) (sym same) in
    let long : length old ≡ length own + length new =
    ap (λ (s : List ℕ). length s) joined ∙ length-append own new in
    let enough : byte_len width ≤ length old = omega (arith, long, tells.size) in
    let value : from_be_bytes width old ≡ n = ap (λ s. from_be_bytes width s) joined ∙ tells.value new in
    let range : is_in_range low most (from_be_bytes width old) ≡ false =
    ap (λ k. is_in_range low most k) value
    ∙ both_false (nat_le low n) (nat_le n most) (λ x y. out (leb-true low n x) (leb-true n most y)) in
    wrong_at (number width low most) old (At (length old)) 0 (length old) refl
    (fails (nat_le (byte_len width) (length old)) (is_in_range low most (from_be_bytes width old)) _ (length old)
    (le-leb (byte_len width) (length old) enough) range)
    (omega arith)

outside : (low most n : ℕ) → ((low ≤ n) × (most < n)) ⊎ (n < low) → low ≤ n → n ≤ most → ⊥
outside low most n (inl over) above below = omega (arith, over.1)
outside low most n (inr under) above below = omega arith

pub single : (s : List ℕ) → length s ≡ 1 → get_or s 0 0 ∷ [] ≡ s
single [] is = absurd (omega arith)
single (x ∷ []) is = refl
single (x ∷ y ∷ s) is = absurd (omega arith)

pub out_8 : (low most n : ℕ) (given old new : List ℕ) → TakesField (bytes 1) given old new → n ∷ [] ≡ given
    → ((low ≤ n) × (most < n)) ⊎ (n < low) → IsWrong (number w8 low most) old (At (length old))
out_8 low most n given old new took is out =
    number_out w8 low most n given (n ∷ []) old new took (tells_8 n) is (outside low most n out)

pub out_16 : (low most n : ℕ) (given old new : List ℕ) → TakesField (bytes 2) given old new → length given ≡ 2
    → ((i : ℕ) → get_or given i 0 < 256) → n ≡ from_be_bytes w16 given → n < 2 ^ 16 → ((low ≤ n) × (most < n)) ⊎ (n < low)
    → IsWrong (number w16 low most) old (At (length old))
out_16 low most n given old new took size small is fits out =
    number_out w16 low most n given (to_be_bytes w16 n) old new took (tells_16 n fits) (be_bytes_2 given n size small is)
    (outside low most n out)

pub out_32 : (most n : ℕ) (given old new : List ℕ) → TakesField (bytes 4) given old new → length given ≡ 4
    → ((i : ℕ) → get_or given i 0 < 256) → n ≡ from_be_bytes w32 given → n < 2 ^ 32 → most < n
    → IsWrong (number w32 0 most) old (At (length old))
out_32 most n given old new took size small is fits over =
    number_out w32 0 most n given (to_be_bytes w32 n) old new took (tells_32 n fits) (be_bytes_4 given n size small is)
    (λ x y. omega arith)

pub out_64 : (most n : ℕ) (given old new : List ℕ) → TakesField (bytes 8) given old new → length given ≡ 8
    → ((i : ℕ) → get_or given i 0 < 256) → n ≡ from_be_bytes w64 given → n < 2 ^ 64 → most < n
    → IsWrong (number w64 0 most) old (At (length old))
out_64 most n given old new took size small is fits over =
    number_out w64 0 most n given (to_be_bytes w64 n) old new took (tells_64 n fits) (be_bytes_8 given n size small is)
    (λ x y. omega arith)

short_told : (there within : Bool) (told : Result ℕ ℕ) (n end place : ℕ)
    → (let r : Result ℕ ℕ = if there then Ok n else Err end in r) ≡ Err place → tests there within told end ≡ Err place
short_told true within told n end place is = absurd (cc is)
short_told false within told n end place is = is

-- a number of which bytes are missing
pub number_short : (width : Width) (low most : ℕ) (old : List ℕ) (wrong : Wrong) → IsWrong (bytes (byte_len width)) old wrong
    → IsWrong (number width low most) old wrong
unfolding bytes number_then
number_short width low most old wrong h = record {
  at = λ count is. let w = h.at count is in record {
    place = w.place;
    told = short_told (nat_le (byte_len width) (length old)) (is_in_range low most (from_be_bytes width old))
        (behind (byte_len width) (Ok 0)) (byte_len width) (length old) w.place w.told;
    counted = w.counted;
  };
}

-- eight bytes are those of the time that they tell
pub time_taken : (n : ℕ) (given old new : List ℕ) (seconds : ℤ) → TakesField (bytes 8) given old new → length given ≡ 8
    → ((i : ℕ) → get_or given i 0 < 256) → n ≡ from_be_bytes w64 given → n < 2 ^ 64 → seconds ≡ cast_signed w64 n
    → FitsSigned w64 seconds → TakesField (bytes 8) (time_bytes (cast_signed w64 (cast_unsigned w64 seconds))) old new
unfolding time_bytes
time_taken n given old new seconds took size small told word is fits =
    let unsigned : cast_unsigned w64 seconds ≡ n = ap (λ z. cast_unsigned w64 z) is ∙ of_z-to_z w64 n word in
    let back : cast_signed w64 (cast_unsigned w64 seconds) ≡ seconds = to_z-of_z w64 seconds fits in
    let same : given ≡ to_be_bytes w64 (cast_unsigned w64 (cast_signed w64 (cast_unsigned w64 seconds))) =
    sym (ap (λ z. to_be_bytes w64 (cast_unsigned w64 z)) back
    ∙ ap (λ k. to_be_bytes w64 k) unsigned
    ∙ be_bytes_8 given n size small told) in
    subst (λ s. TakesField (bytes 8) s old new) same took

pub time_same : (seconds : ℤ) → FitsSigned w64 seconds
    → to_be_bytes w64 (cast_unsigned w64 (cast_signed w64 (cast_unsigned w64 seconds))) ≡ time_bytes seconds
unfolding time_bytes
time_same seconds fits = ap (λ z. to_be_bytes w64 (cast_unsigned w64 z)) (to_z-of_z w64 seconds fits)

-- bytes behind their number
pub text_taken : (low most size : ℕ) (read old mid new : List ℕ)
    → TakesNumber w16 low most (to_be_bytes w16 size) size old mid → TakesField (bytes size) read mid new → length read ≡ size
    → TakesField (text low most) (text_bytes read) old new
unfolding text_bytes
text_taken low most size read old mid new one rest is =
    subst (λ n. TakesField (text low most) (to_be_bytes w16 n ++ read) old new) (sym is) (takes_number bytes one rest)

pub long_taken : (most size : ℕ) (read old mid new : List ℕ)
    → TakesNumber w32 0 most (to_be_bytes w32 size) size old mid → TakesField (bytes size) read mid new → length read ≡ size
    → TakesField (long most) (long_bytes read) old new
unfolding long_bytes
long_taken most size read old mid new one rest is =
    subst (λ n. TakesField (long most) (to_be_bytes w32 n ++ read) old new) (sym is) (takes_number bytes one rest)

pub ok_both : {T E : Type 0} (r : Result T E) (P Q R : T → Type 0) → ((v : T) → P v → Q v → R v) → IfOk r P → IfOk r Q
    → IfOk r R
ok_both (Ok v) P Q R so p q = so v p q
ok_both (Err e) P Q R so p q = tt
