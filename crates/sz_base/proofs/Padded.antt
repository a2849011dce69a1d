-- Base64, as the crate `base64` decodes it: whole, and four symbols after four.
use Rattle.std.proofs.Common.{◌≡◌, ◌≢◌, ◌⊎◌, ◌+◌, ◌<◌, List, [], ◌∷◌, ◌++◌, ℕ, zero, suc, Result, Ok, Err, OnOk, IfSome, IfNone, false, length, take, drop, refl, sym, ap, ◌∙◌, inl, inr, arith, length-append, append-nil}
use Rattle.std.specs.Prelude.{◌↔◌}
use Rattle.std.specs.Result.{result_ok}
use Rattle.std.proofs.lemmas.List.{take_at, drop_at, length-take-le, take-append-drop}
use Rattle.base64.specs.Engines.{standard}
use Rattle.base64.specs.GeneralPurpose.{IsBytes, decode_of, decode_slice_of, decoded_bytes_of}
use Rattle.base64.specs.Rfc4648.{encode_symbols}
use Rattle.base64.specs.Decode.{IsWrittenOver}
use Rattle.base64.specs.declared.decode.DecodeSliceError.{DecodeSliceError}
use Rattle.base64.specs.declared.decode.DecodeSliceError.TheVariants.{DecodeError as DecodeFailed, OutputSliceTooSmall}
use Rattle.base64.specs.declared.engine.DecodePaddingMode.TheVariants.{RequireCanonical}
use Rattle.base64.proofs.Decoding.{conservative_err, conservative_ok, conservative_small}
use Rattle.base64.proofs.EngineFacts.{decode_of-encode_of, decode_of_strict, encode_of-append, encode_of-nil, front_bytes, decode_of_bytes}
use Rattle.sz_base.specs.Encoding.{IsBase64, IsBase64Of, IsBase64Text, base64_text}

-- the text of bytes decodes to them
pub decodes : (text bytes : List ℕ) → IsBase64 text bytes → decode_of standard text ≡ Ok bytes
decodes text bytes h = rw h.spelled (decode_of-encode_of standard bytes refl h.bytes_fit)

-- and what decodes is the text of what it decodes to
pub decoded : (text bytes : List ℕ) → IsBytes text → IsBytes bytes → decode_of standard text ≡ Ok bytes
    → IsBase64 text bytes
decoded text bytes text_fits bytes_fit ok = record {
  bytes_fit = bytes_fit;
  spelled = decode_of_strict standard text bytes (refl, refl) text_fits ok;
}

-- no bytes have the empty text
pub empty_text : IsBase64 [] []
empty_text = record { bytes_fit = λ i. omega arith; spelled = sym (encode_of-nil standard) }

joined_bytes : (a b : List ℕ) → IsBytes a → IsBytes b → IsBytes (a ++ b)
joined_bytes [] b ha hb i = hb i
joined_bytes (x ∷ a) b ha hb zero = ha 0
joined_bytes (x ∷ a) b ha hb (suc i) = joined_bytes a b (λ k. ha (suc k)) hb i

-- the text of three bytes goes before that of what follows them
pub joined : (four after head tail : List ℕ) → length head ≡ 3 → IsBase64 four head → IsBase64 after tail
    → IsBase64 (four ++ after) (head ++ tail)
joined four after head tail three first rest = record {
  bytes_fit = joined_bytes head tail first.bytes_fit rest.bytes_fit;
  spelled = rw (encode_of-append standard head tail (rw three refl), ← first.spelled, ← rest.spelled) refl;
}

-- a text that begins with four symbols: they are the text of three bytes, or all of it
pub record Begins (four after : List ℕ) : Type 0 where
  pub head : List ℕ
  pub tail : List ℕ
  pub first : IsBase64 four head
  pub rest : IsBase64 after tail
  pub size : (length head ≡ 3) ⊎ (after ≡ [])

-- a text of four symbols
alone : (four after bytes : List ℕ) → length four ≡ 4 → length (base64_text bytes) ≡ 4 → IsBase64 (four ++ after) bytes
    → Begins four after
alone four [] bytes size whole h = record {
  head = bytes;
  tail = [];
  first = record { bytes_fit = h.bytes_fit; spelled = sym (append-nil four) ∙ h.spelled };
  rest = empty_text;
  size = inr refl;
}
alone four (x ∷ after) bytes size whole h =
    let long : length (four ++ x ∷ after) ≡ 4 = ap length h.spelled ∙ whole in
    absurd (omega (arith, length-append four (x ∷ after), long, size))

pub begins : (four after bytes : List ℕ) → length four ≡ 4 → IsBase64 (four ++ after) bytes → Begins four after
unfolding encode_symbols
begins four after [] size h =
    let long : length (four ++ after) ≡ 0 = ap length h.spelled in
    absurd (omega (arith, length-append four after, long, size))
begins four after (a ∷ []) size h = alone four after (a ∷ []) size refl h
begins four after (a ∷ b ∷ []) size h = alone four after (a ∷ b ∷ []) size refl h
begins four after (a ∷ b ∷ c ∷ tail) size h =
    let split : four ++ after ≡ base64_text (a ∷ b ∷ c ∷ []) ++ base64_text tail =
    h.spelled ∙ encode_of-append standard (a ∷ b ∷ c ∷ []) tail refl in
    record {
      head = a ∷ b ∷ c ∷ [];
      tail = tail;
      first = record {
        bytes_fit = front_bytes (a ∷ b ∷ c ∷ []) tail h.bytes_fit;
        spelled = sym (take_at four after 4 size) ∙ ap (take 4) split ∙ take_at (base64_text (a ∷ b ∷ c ∷ [])) (base64_text tail) 4 refl;
      };
      rest = record {
        bytes_fit = λ k. h.bytes_fit (suc (suc (suc k)));
        spelled = sym (drop_at four after 4 size) ∙ ap (drop 4) split ∙ drop_at (base64_text (a ∷ b ∷ c ∷ [])) (base64_text tail) 4 refl;
      };
      size = inl refl;
    }

-- fewer than four symbols are no text, but for none
pub short_text : (text : List ℕ) → length text < 4 → IsBase64Text text → text ≡ []
unfolding encode_symbols
short_text text short ([], h) = h.spelled ∙ encode_of-nil standard
short_text text short (a ∷ [], h) = let long : length text ≡ 4 = ap length h.spelled in absurd (omega (arith, long, short))
short_text text short (a ∷ b ∷ [], h) = let long : length text ≡ 4 = ap length h.spelled in absurd (omega (arith, long, short))
short_text text short (a ∷ b ∷ c ∷ tail, h) =
    let split = ap length (h.spelled ∙ encode_of-append standard (a ∷ b ∷ c ∷ []) tail refl) in
    let size = length-append (base64_text (a ∷ b ∷ c ∷ [])) (base64_text tail) in
    let four : length (base64_text (a ∷ b ∷ c ∷ [])) ≡ 4 = refl in
    absurd (omega (arith, split, size, four, short))

-- how many bytes four symbols stand for, as the decoder answers it
pub counted : (four old new : List ℕ) (answer : Result ℕ DecodeSliceError) → IsBytes four → length four ≡ 4 → length old ≡ 3
    → length new ≡ 3 → answer ≡ decode_slice_of standard four (length old) → OnOk answer (IsWrittenOver (decoded_bytes_of standard four) old new)
    → OnOk answer (IsBytes (decoded_bytes_of standard four)) → IfSome (result_ok answer) (IsBase64Of four)
counted four old new (Err e) four_fits size room same value written fits = tt
counted four old new (Ok count) four_fits size room same value written fits =
    let into = conservative_ok standard.decode_table four old new 61 false RequireCanonical (Ok count) count (omega (arith, size, room)) value refl written in (
      take count new,
      decoded four (take count new) four_fits (decode_of_bytes standard four (take count new) fits into.0) into.0,
      length-take-le count new (omega (arith, into.2, room, same)),
    )

pub refused : (four : List ℕ) (answer : Result ℕ DecodeSliceError) → length four ≡ 4 → answer ≡ decode_slice_of standard four 3
    → IfNone (result_ok answer) (¬ (IsBase64Text four))
refused four (Ok count) size value = tt
refused four (Err OutputSliceTooSmall) size value =
    absurd (conservative_small standard.decode_table four 61 false RequireCanonical 3 _ OutputSliceTooSmall (omega (arith, size)) value refl refl)
refused four (Err (DecodeFailed e)) size value =
    let failed = conservative_err standard.decode_table four 61 false RequireCanonical 3 _ _ e (omega (arith, size)) value refl refl in
    λ (bytes, h). cc (sym failed ∙ decodes four bytes h)

-- a text that is cut behind its first four symbols
abbrev pub IsCut : List ℕ → List ℕ → List ℕ → Type 0
IsCut text four after = (four ≡ take 4 text) × (after ≡ drop 4 text) × (length after + 4 ≡ length text)

whole : (text four after : List ℕ) → IsCut text four after → text ≡ four ++ after
whole text four after cut = sym (rw (cut.0, cut.1) (take-append-drop 4 text))

pub four_symbols : (text four after : List ℕ) → IsCut text four after → length four ≡ 4
four_symbols text four after cut = omega (arith, ap length (whole text four after cut), length-append four after, cut.2)

-- a text goes on after four symbols of three bytes, or ends with them
pub goes_on : (text four after : List ℕ) (count : ℕ) → IsCut text four after → IsBase64Of four count
    → (count ≡ 3) ⊎ (after ≡ []) → (IsBase64Text text ↔ IsBase64Text after)
goes_on text four after count cut (head, first, length_is) (inl three) = (
  λ (bytes, h).
      let parts = begins four after bytes (four_symbols text four after cut) (rw (whole text four after cut) at h) in
      (parts.tail, parts.rest),
  λ (tail, rest). (head ++ tail, rw (whole text four after cut) (joined four after head tail (length_is ∙ three) first rest)),
)
goes_on text four after count cut (head, first, length_is) (inr none) = (
  λ _. rw none ([], empty_text),
  λ _. (head, rw (whole text four after cut, none, append-nil) first),
)

-- and it is none where they aren't the text of three bytes and don't end it
pub not_on : (text four after : List ℕ) (count : ℕ) → IsCut text four after → IsBase64Of four count → count ≢ 3
    → after ≢ [] → ¬ (IsBase64Text text)
not_on text four after count cut (head, first, length_is) other more (bytes, h) =
    let parts = begins four after bytes (four_symbols text four after cut) (rw (whole text four after cut) at h) in
    elim parts.size [
      | inl three ↦
          let e : head ≡ parts.head = cc (sym (decodes four head first) ∙ decodes four parts.head parts.first) in
          other (sym length_is ∙ ap length e ∙ three)
      | inr none ↦ more none
    ]

pub not_first : (text four after : List ℕ) → IsCut text four after → ¬ (IsBase64Text four) → ¬ (IsBase64Text text)
not_first text four after cut none (bytes, h) =
    let parts = begins four after bytes (four_symbols text four after cut) (rw (whole text four after cut) at h) in
    none (parts.head, parts.first)
