-- A digit as a shifted and masked byte.
use Rattle.std.proofs.Common.{◌≡◌, ℕ, zero, suc, ◌+◌, ◌-◌, ◌*◌, ◌/◌, ◌%◌, ◌^◌, ◌<◌, ◌≤◌, List, [], ◌∷◌, ◌++◌, length, take, drop, get_or, refl, sym, ◌∙◌, ap, arith}
use Rattle.std.specs.List.{flat_map}
use Rattle.std.proofs.Math.Seq.{drop-append-add, drop-cons}
use Rattle.std.proofs.Math.ListN.{drop_of_length-le}
use Rattle.std.proofs.lemmas.List.{drop-drop}
use Rattle.sz_lms.specs.declared.types.OtsType.{OtsType}
use Rattle.sz_lms.specs.declared.types.OtsType.TheVariants.{W1, W2, W4, W8}
use Rattle.sz_lms.specs.View.{facts_of}
use Rattle.sz_lms.specs.Bits.{bits_of_byte, number_of_bits, digit}

drop_nil : (n : ℕ) → drop {A = ℕ} n [] ≡ []
drop_nil zero = refl
drop_nil (suc n) = refl

-- the bits from byte a on are those of the bytes from there on
drop-bits : (a : ℕ) (bytes : List ℕ) → drop (8 * a) (flat_map bits_of_byte bytes) ≡ flat_map bits_of_byte (drop a bytes)
drop-bits zero bytes = refl
drop-bits (suc a) [] = drop_nil (8 * suc a)
drop-bits (suc a) (byte ∷ bytes) =
    let e : 8 * suc a ≡ 8 + 8 * a = omega arith in
    rw e (drop-append-add (bits_of_byte byte) (flat_map bits_of_byte bytes) (8 * a) ∙ drop-bits a bytes)

-- the number of w bits from bit r of a byte on
abbrev read : ℕ → ℕ → ℕ → List ℕ → ℕ
read w r byte rest = number_of_bits (take w (drop r (bits_of_byte byte ++ rest)))

read-8 : (r byte : ℕ) (rest : List ℕ) → byte < 256 → r < 8 → r % 8 ≡ 0 → read 8 r byte rest ≡ byte / 2 ^ (8 - 8 - r) % 2 ^ 8
read-8 zero byte rest h k e = omega arith
read-8 (suc r) byte rest h k e = absurd (omega arith)

read-4 : (r byte : ℕ) (rest : List ℕ) → byte < 256 → r < 8 → r % 4 ≡ 0 → read 4 r byte rest ≡ byte / 2 ^ (8 - 4 - r) % 2 ^ 4
read-4 zero byte rest h k e = omega arith
read-4 (suc zero) byte rest h k e = absurd (omega arith)
read-4 (suc (suc zero)) byte rest h k e = absurd (omega arith)
read-4 (suc (suc (suc zero))) byte rest h k e = absurd (omega arith)
read-4 (suc (suc (suc (suc zero)))) byte rest h k e = omega arith
read-4 (suc (suc (suc (suc (suc r))))) byte rest h k e = absurd (omega arith)

read-2 : (r byte : ℕ) (rest : List ℕ) → byte < 256 → r < 8 → r % 2 ≡ 0 → read 2 r byte rest ≡ byte / 2 ^ (8 - 2 - r) % 2 ^ 2
read-2 zero byte rest h k e = omega arith
read-2 (suc zero) byte rest h k e = absurd (omega arith)
read-2 (suc (suc zero)) byte rest h k e = omega arith
read-2 (suc (suc (suc zero))) byte rest h k e = absurd (omega arith)
read-2 (suc (suc (suc (suc zero)))) byte rest h k e = omega arith
read-2 (suc (suc (suc (suc (suc zero))))) byte rest h k e = absurd (omega arith)
read-2 (suc (suc (suc (suc (suc (suc zero)))))) byte rest h k e = omega arith
read-2 (suc (suc (suc (suc (suc (suc (suc r))))))) byte rest h k e = absurd (omega arith)

read-1 : (r byte : ℕ) (rest : List ℕ) → byte < 256 → r < 8 → read 1 r byte rest ≡ byte / 2 ^ (8 - 1 - r) % 2 ^ 1
read-1 zero byte rest h k = omega arith
read-1 (suc zero) byte rest h k = omega arith
read-1 (suc (suc zero)) byte rest h k = omega arith
read-1 (suc (suc (suc zero))) byte rest h k = omega arith
read-1 (suc (suc (suc (suc zero)))) byte rest h k = omega arith
read-1 (suc (suc (suc (suc (suc zero))))) byte rest h k = omega arith
read-1 (suc (suc (suc (suc (suc (suc zero)))))) byte rest h k = omega arith
read-1 (suc (suc (suc (suc (suc (suc (suc zero))))))) byte rest h k = omega arith
read-1 (suc (suc (suc (suc (suc (suc (suc (suc r)))))))) byte rest h k = absurd (omega arith)

-- a digit that lies in one byte is read from that byte
digit-read : (w i a r : ℕ) (bytes : List ℕ) → w * i ≡ 8 * a + r → a < length bytes →
    digit w bytes i ≡ read w r (get_or bytes a 0) (flat_map bits_of_byte (drop (suc a) bytes))
unfolding digit
digit-read w i a r bytes e h =
    let part : drop a bytes ≡ get_or bytes a 0 ∷ drop (suc a) bytes = drop-cons bytes a 0 h in
    let bits : drop (w * i) (flat_map bits_of_byte bytes) ≡ drop r (flat_map bits_of_byte (drop a bytes)) =
    rw e (sym (drop-drop r (8 * a) (flat_map bits_of_byte bytes)) ∙ ap (drop r) (drop-bits a bytes)) in
    rw (bits, part) refl

-- The place of a digit: the bytes before its own, and the bits before it there.
digit-place : (w i : ℕ) (bytes : List ℕ) → 0 < w → w * (i + 1) ≤ 8 * length bytes →
    digit w bytes i ≡ read w (w * i % 8) (get_or bytes (w * i / 8) 0) (flat_map bits_of_byte (drop (suc (w * i / 8)) bytes))
digit-place w i bytes p k =
    let e : w * i ≡ 8 * (w * i / 8) + w * i % 8 = omega arith in
    let m : w * (i + 1) ≡ w * i + w = omega arith in
    digit-read w i (w * i / 8) (w * i % 8) bytes e (omega arith)

-- the byte of a digit, shifted and masked
abbrev shifted : ℕ → ℕ → List ℕ → ℕ
shifted w i bytes = get_or bytes (w * i / 8) 0 / 2 ^ (8 - w - w * i % 8) % 2 ^ w

-- the digits of each type are shifted and masked bytes
pub digit-shifted : (kind : OtsType) (i : ℕ) (bytes : List ℕ) → ((k : ℕ) → get_or bytes k 0 < 256) →
    (facts_of kind).width * (i + 1) ≤ 8 * length bytes →
    digit (facts_of kind).width bytes i ≡ shifted (facts_of kind).width i bytes
digit-shifted W1 i bytes b h = digit-place 1 i bytes (omega arith) h ∙ read-1 (1 * i % 8) _ _ (b (1 * i / 8)) (omega arith)
digit-shifted W2 i bytes b h = digit-place 2 i bytes (omega arith) h ∙ read-2 (2 * i % 8) _ _ (b (2 * i / 8)) (omega arith) (omega arith)
digit-shifted W4 i bytes b h = digit-place 4 i bytes (omega arith) h ∙ read-4 (4 * i % 8) _ _ (b (4 * i / 8)) (omega arith) (omega arith)
digit-shifted W8 i bytes b h = digit-place 8 i bytes (omega arith) h ∙ read-8 (8 * i % 8) _ _ (b (8 * i / 8)) (omega arith) (omega arith)

-- a digit whose first bit lies in a byte lies in it whole
pub digit-within : (kind : OtsType) (i n : ℕ) → (facts_of kind).width * i / 8 < n → (facts_of kind).width * (i + 1) ≤ 8 * n
digit-within W1 i n h = omega arith
digit-within W2 i n h = omega arith
digit-within W4 i n h = omega arith
digit-within W8 i n h = omega arith

no-bits : (w n : ℕ) → number_of_bits (take w (drop {A = ℕ} n [])) ≡ 0
no-bits zero n = refl
no-bits (suc w) n = rw (drop_nil n) refl

-- past the last byte the digits are 0
digit-past : (w i a r : ℕ) (bytes : List ℕ) → w * i ≡ 8 * a + r → length bytes ≤ a → digit w bytes i ≡ 0
unfolding digit
digit-past w i a r bytes e h =
    let none : drop a bytes ≡ [] = drop_of_length-le bytes h in
    let bits : drop (w * i) (flat_map bits_of_byte bytes) ≡ drop r [] =
    rw e (sym (drop-drop r (8 * a) (flat_map bits_of_byte bytes)) ∙ ap (drop r) (drop-bits a bytes ∙ rw none refl)) in
    rw bits (no-bits w r)

pub digit-none : (w i : ℕ) (bytes : List ℕ) → length bytes ≤ w * i / 8 → digit w bytes i ≡ 0
digit-none w i bytes h = digit-past w i (w * i / 8) (w * i % 8) bytes (omega arith) h
