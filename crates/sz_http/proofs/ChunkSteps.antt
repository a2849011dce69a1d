-- Where a byte leads from each place of a chunked body.
use Rattle.std.proofs.Common.{◌≡◌, ◌≢◌, ℕ, ◌+◌, ◌*◌, ◌≤◌, true, false, List, [], ◌∷◌, ◌++◌, length, refl, sym, ap, ◌∙◌, subst, arith, append_assoc, append-nil, None, inl, inr}
use Rattle.std.proofs.lemmas.List.{length_push}
use Rattle.std.proofs.lemmas.List.Elements.{All-nil, All-push, All-append, All-cons}
use Rattle.std.specs.Char.{is_ascii_hexdigit, digit_value}
use Rattle.std.specs.Str.Parse.{digits_value}
use Rattle.httparse.specs.Grammar.{AllPass, is_extension_byte}
use Rattle.httparse.proofs.ChunkLemmas.{digits_value_after_push}
use Rattle.sz_http.specs.declared.chunk_size.Size.{Size}
use Rattle.sz_http.specs.declared.chunk_place.Place.TheVariants.{InSize, InExtension, LineFeed, InData, DataEnd, DataLineFeed, Between, InTrailer}
use Rattle.sz_http.specs.Chunked.{SizeLine, line_text, most_line_bytes}
use Rattle.sz_http.specs.ChunkPlace.{At, NoneFrom, IsLineOf, extended}
use Rattle.sz_http.proofs.ChunkLines.{bad_after_digits, bad_digit, bad_line_feed, bad_after_cr, bad_data_end, bad_data_line_feed, plain, plain_digits}

-- ---- the size

pub digit_at : (size more : Size) (byte digit : ℕ) (tail part : List ℕ) → is_ascii_hexdigit byte ≡ true → digit ≡ digit_value byte
    → more.value ≡ size.value * 16 + digit → more.count ≡ size.count + 1 → At (InSize size) tail part
    → At (InSize more) (tail ++ byte ∷ []) part
digit_at size more byte digit tail part hex is value count here = (
  All-push (λ v. is_ascii_hexdigit v ≡ true) tail byte here.0 hex,
  omega (arith, length_push tail byte, here.1),
  value ∙ ap (λ (n : ℕ). n * 16 + digit) here.2 ∙ ap (λ (n : ℕ). digits_value 16 tail * 16 + n) is
      ∙ sym (digits_value_after_push 16 0 tail byte),
  here.3,
)

pub full_at : (size : Size) (byte : ℕ) (tail part : List ℕ) → is_ascii_hexdigit byte ≡ true → size.count ≡ 16 → At (InSize size) tail part
    → NoneFrom (tail ++ byte ∷ [])
full_at size byte tail part hex full here = bad_digit tail byte here.0 hex (here.1 ∙ full)

pub no_digit_at : (size : Size) (byte : ℕ) (tail part : List ℕ) → is_ascii_hexdigit byte ≡ false → size.count ≡ 0 → At (InSize size) tail part
    → NoneFrom (tail ++ byte ∷ [])
no_digit_at size byte tail part fails none here = bad_after_digits tail byte here.0 fails (inl (here.1 ∙ none))

pub other_at : (size : Size) (byte : ℕ) (tail part : List ℕ) → is_ascii_hexdigit byte ≡ false → byte ≢ 59 → byte ≢ 13 → At (InSize size) tail part
    → NoneFrom (tail ++ byte ∷ [])
other_at size byte tail part fails not_semicolon not_cr here = bad_after_digits tail byte here.0 fails (inr (not_semicolon, not_cr))

-- the line of the digits alone
pub plain_of : (size : Size) (tail part : List ℕ) → size.count ≢ 0 → At (InSize size) tail part
    → IsLineOf size.value (record { digits = tail; extension = None })
plain_of size tail part some here = record {
  short = record {
    valid = record { some = omega (arith, here.1); few = omega (arith, here.1, size.few); digits = here.0; extension = tt };
    few = omega (arith, here.1, size.few, ap length (append-nil tail));
  };
  sized = sym here.2;
}

pub semicolon_at : (size : Size) (byte : ℕ) (tail part : List ℕ) → size.count ≢ 0 → byte ≡ 59 → At (InSize size) tail part
    → At (InExtension size.value (size.count + 1)) (tail ++ byte ∷ []) part
semicolon_at size byte tail part some is here = (
  tail,
  [],
  record {
    short = record {
      valid = record {
        some = omega (arith, here.1);
        few = omega (arith, here.1, size.few);
        digits = here.0;
        extension = All-nil (λ v. is_extension_byte v ≡ true);
      };
      few = omega (arith, here.1, size.few, length_push tail 59);
    };
    sized = sym here.2;
  },
  ap (λ (v : ℕ). tail ++ v ∷ []) is,
  omega (arith, length_push tail byte, here.1),
  here.3,
)

pub line_end_at : (size : Size) (byte : ℕ) (tail part : List ℕ) → size.count ≢ 0 → byte ≡ 13 → At (InSize size) tail part
    → At (LineFeed size.value) (tail ++ byte ∷ []) part
line_end_at size byte tail part some is here = (
  record { digits = tail; extension = None },
  plain_of size tail part some here,
  ap (λ (v : ℕ). tail ++ v ∷ []) is ∙ ap (λ (t : List ℕ). t ++ 13 ∷ []) (sym (append-nil tail)),
  here.3,
)

-- ---- the extension

pub extension_end_at : (size len byte : ℕ) (tail part : List ℕ) → byte ≡ 13 → At (InExtension size len) tail part
    → At (LineFeed size) (tail ++ byte ∷ []) part
extension_end_at size len byte tail part is here = (
  extended here.0 here.1,
  here.2,
  ap (λ (v : ℕ). tail ++ v ∷ []) is ∙ ap (λ (t : List ℕ). t ++ 13 ∷ []) here.3,
  here.5,
)

pub extension_bad_at : (size len byte : ℕ) (tail part : List ℕ) → byte ≡ 10 → At (InExtension size len) tail part → NoneFrom (tail ++ byte ∷ [])
extension_bad_at size len byte tail part is here =
    let valid = here.2.short.valid in
    bad_line_feed tail byte
    (subst (λ (t : List ℕ). AllPass is_extension_byte t) (sym here.3)
    (All-append (λ v. is_extension_byte v ≡ true) here.0 (59 ∷ here.1) (plain_digits here.0 valid.digits)
    (All-cons (λ v. is_extension_byte v ≡ true) 59 here.1 refl valid.extension))) is

pub extension_at : (size len byte : ℕ) (tail part : List ℕ) → byte ≢ 13 → byte ≢ 10 → len ≢ most_line_bytes → At (InExtension size len) tail part
    → At (InExtension size (len + 1)) (tail ++ byte ∷ []) part
extension_at size len byte tail part not_cr not_lf other here =
    let valid = here.2.short.valid in
    let longer : tail ++ byte ∷ [] ≡ here.0 ++ 59 ∷ (here.1 ++ byte ∷ []) =
    ap (λ (t : List ℕ). t ++ byte ∷ []) here.3 ∙ append_assoc here.0 (59 ∷ here.1) (byte ∷ []) in
    let few : length tail ≤ 256 = subst (λ (t : List ℕ). length t ≤ 256) (sym here.3) here.2.short.few in (
      here.0,
      here.1 ++ byte ∷ [],
      record {
        short = record {
          valid = record {
            some = valid.some;
            few = valid.few;
            digits = valid.digits;
            extension = All-push (λ v. is_extension_byte v ≡ true) here.1 byte valid.extension (plain byte not_cr not_lf);
          };
          few = subst (λ (t : List ℕ). length t ≤ 256) longer (omega (arith, length_push tail byte, here.4));
        };
        sized = here.2.sized;
      },
      longer,
      omega (arith, length_push tail byte, here.4),
      here.5,
    )

-- ---- behind a line

pub cr_refused_at : (size byte : ℕ) (tail part : List ℕ) → byte ≢ 10 → At (LineFeed size) tail part → NoneFrom (tail ++ byte ∷ [])
cr_refused_at size byte tail part other here = bad_after_cr here.0 tail byte here.1.short.valid here.2 other

-- the line and its end
ended : (line : SizeLine) (tail : List ℕ) (byte : ℕ) → tail ≡ line_text line ++ 13 ∷ [] → byte ≡ 10
    → tail ++ byte ∷ [] ≡ line_text line ++ 13 ∷ 10 ∷ []
ended line tail byte e is =
    ap (λ (t : List ℕ). t ++ byte ∷ []) e ∙ append_assoc (line_text line) (13 ∷ []) (byte ∷ [])
    ∙ ap (λ (v : ℕ). line_text line ++ 13 ∷ v ∷ []) is

pub trailer_at : (size byte : ℕ) (tail part : List ℕ) → byte ≡ 10 → size ≡ 0 → At (LineFeed size) tail part
    → At InTrailer (tail ++ byte ∷ []) part
trailer_at size byte tail part is none here = (
  here.0,
  record { short = here.1.short; sized = here.1.sized ∙ none },
  here.3,
  ended here.0 tail byte here.2 is,
)

pub data_at : (size byte : ℕ) (tail part : List ℕ) → byte ≡ 10 → size ≢ 0 → At (LineFeed size) tail part
    → At (InData size) (tail ++ byte ∷ []) part
data_at size byte tail part is some here = (
  here.0,
  record { short = here.1.short; sized = here.1.sized ∙ subst (λ (t : List ℕ). size ≡ length t + size) (sym here.3) (omega arith) },
  omega arith,
  subst (λ (t : List ℕ). tail ++ byte ∷ [] ≡ line_text here.0 ++ 13 ∷ 10 ∷ t) (sym here.3) (ended here.0 tail byte here.2 is),
)

-- ---- behind a chunk's bytes

pub data_end_refused_at : (byte : ℕ) (tail part : List ℕ) → byte ≢ 13 → At DataEnd tail part → NoneFrom (tail ++ byte ∷ [])
data_end_refused_at byte tail part other here = bad_data_end here.0 tail part byte here.1.short.valid here.1.sized here.2 here.3 other

pub data_end_at : (byte : ℕ) (tail part : List ℕ) → byte ≡ 13 → At DataEnd tail part → At DataLineFeed (tail ++ byte ∷ []) part
data_end_at byte tail part is here = (
  here.0,
  here.1,
  here.2,
  ap (λ (t : List ℕ). t ++ byte ∷ []) here.3 ∙ append_assoc (line_text here.0) (13 ∷ 10 ∷ part) (byte ∷ [])
      ∙ ap (λ (v : ℕ). line_text here.0 ++ 13 ∷ 10 ∷ (part ++ v ∷ [])) is,
)

pub data_cr_refused_at : (byte : ℕ) (tail part : List ℕ) → byte ≢ 10 → At DataLineFeed tail part → NoneFrom (tail ++ byte ∷ [])
data_cr_refused_at byte tail part other here = bad_data_line_feed here.0 tail part byte here.1.short.valid here.1.sized here.2 here.3 other

pub between_at : (byte : ℕ) (tail part : List ℕ) → byte ≡ 10 → At DataLineFeed tail part → At Between (tail ++ byte ∷ []) part
between_at byte tail part is here = (
  record { line = here.0; bytes = part },
  record {
    valid = record { line = here.1.short.valid; some = here.2; size = here.1.sized };
    few = here.1.short.few;
  },
  ap (λ (t : List ℕ). t ++ byte ∷ []) here.3 ∙ append_assoc (line_text here.0) (13 ∷ 10 ∷ (part ++ 13 ∷ [])) (byte ∷ [])
      ∙ ap (λ (t : List ℕ). line_text here.0 ++ 13 ∷ 10 ∷ t) (append_assoc part (13 ∷ []) (byte ∷ []) ∙ ap (λ (v : ℕ). part ++ 13 ∷ v ∷ []) is),
  refl,
)
