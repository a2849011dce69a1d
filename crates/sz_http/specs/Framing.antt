-- How the fields of a head frame the body behind it (RFC 9112 section 6, RFC 9110 section 8.4).
use Rattle.std.specs.Prelude.{◌≡◌, ◌≢◌, ◌⊎◌, ℕ, ◌^◌, ◌<◌, ◌≤◌, if◌then◌else◌, List, [], length, All, Any, codes, Option, Some, None, Result, Ok, Err}
use Rattle.std.specs.Char.{is_ascii_digit}
use Rattle.std.specs.List.{AllPass, filter_map}
use Rattle.std.specs.Str.{str_to_ascii_lowercase, bytes_eq}
use Rattle.std.specs.Str.Parse.{digits_value}
use Rattle.sz_http.specs.declared.kind.Kind.{Kind}
use Rattle.sz_http.specs.declared.kind.Kind.TheVariants.{Reply}
use Rattle.sz_http.specs.declared.framing.Framing.{Framing}
use Rattle.sz_http.specs.declared.framing.Framing.TheVariants.{Length, Chunks, UntilEnd}
use Rattle.sz_http.specs.declared.framing.FramingFault.{FramingFault}
use Rattle.sz_http.specs.declared.framing.FramingFault.TheVariants.{BadHead, Coding, TooLarge}

-- the fields of a head, as names and values
abbrev pub FieldList : Type 0
FieldList = List (List ℕ × List ℕ)

-- the value of the field, if it has this name in either case
abbrev pub value_if : List ℕ → List ℕ × List ℕ → Option (List ℕ)
value_if name field =
    if bytes_eq (str_to_ascii_lowercase field.0) (str_to_ascii_lowercase name) then Some field.1 else None

-- the values of the fields of this name
abbrev pub values : List ℕ → FieldList → List (List ℕ)
values name fields = filter_map (value_if name) fields

abbrev pub content_length : List ℕ
content_length = codes "Content-Length"

abbrev pub transfer_encoding : List ℕ
transfer_encoding = codes "Transfer-Encoding"

abbrev pub content_encoding : List ℕ
content_encoding = codes "Content-Encoding"

-- the texts are the same but for the case of their letters
abbrev pub IsSameText : List ℕ → List ℕ → Type 0
IsSameText text value = str_to_ascii_lowercase text ≡ str_to_ascii_lowercase value

-- each field of this name has this value, in either case
abbrev pub EachIs : List ℕ → List ℕ → FieldList → Type 0
EachIs name value fields = All (λ text. IsSameText text value) (values name fields)

-- a field of this name has this value, in either case
abbrev pub AnyIs : List ℕ → List ℕ → FieldList → Type 0
AnyIs name value fields = Any (λ text. IsSameText text value) (values name fields)

-- one or more decimal digits, also zeros in front, that write a number below 2^64
pub record IsLength (text : List ℕ) (n : ℕ) : Type 0 where
  pub some : 0 < length text
  pub digits : AllPass is_ascii_digit text
  pub value : n ≡ digits_value 10 text
  pub below : n < 2 ^ 64

-- each of the values is this length
abbrev pub EachLengthIs : List (List ℕ) → ℕ → Type 0
EachLengthIs texts n = All (λ text. IsLength text n) texts

-- what these values declare: each is this length, or there is none
abbrev pub Declare : List (List ℕ) → Option ℕ → Type 0
Declare texts None = texts ≡ []
Declare texts (Some n) = (0 < length texts) × EachLengthIs texts n

-- there are values, and they declare no length: one is malformed, or two are unequal
abbrev pub Contradict : List (List ℕ) → Type 0
Contradict texts = (0 < length texts) × ((n : ℕ) → ¬ (EachLengthIs texts n))

-- there is a field on the length, and each has this one
abbrev pub DeclaresLength : FieldList → ℕ → Type 0
DeclaresLength fields n = Declare (values content_length fields) (Some n)

abbrev pub DeclaresNoLength : FieldList → Type 0
DeclaresNoLength fields = Declare (values content_length fields) None

-- a transfer coding is named
abbrev pub IsCoded : FieldList → Type 0
IsCoded fields = 0 < length (values transfer_encoding fields)

-- the fields on the length declare none
abbrev pub HasNoOneLength : FieldList → Type 0
HasNoOneLength fields = Contradict (values content_length fields)

-- the lengths are malformed or unequal, or a transfer coding stands beside one
abbrev pub HasBadLength : FieldList → Type 0
HasBadLength fields = HasNoOneLength fields ⊎ ((0 < length (values content_length fields)) × IsCoded fields)

-- no other transfer coding than chunked and no other content coding than identity is named
abbrev pub HasKnownCodings : FieldList → Type 0
HasKnownCodings fields =
    EachIs transfer_encoding (codes "chunked") fields × EachIs content_encoding (codes "identity") fields

-- the body's length, which a request that declares none has too
abbrev pub HasLength : Kind → FieldList → ℕ → Type 0
HasLength kind fields n = DeclaresLength fields n ⊎ ((kind ≢ Reply) × DeclaresNoLength fields × (n ≡ 0))

-- how the body is framed, or why it is refused: a bad length comes first, then a coding, then a length over the limit
abbrev pub Frames : Kind → FieldList → ℕ → Result Framing FramingFault → Type 0
Frames kind fields limit (Ok Chunks) = HasKnownCodings fields × IsCoded fields × DeclaresNoLength fields
Frames kind fields limit (Ok (Length n)) =
    HasKnownCodings fields × (¬ (IsCoded fields)) × HasLength kind fields n × (n ≤ limit)
Frames kind fields limit (Ok UntilEnd) =
    HasKnownCodings fields × (¬ (IsCoded fields)) × DeclaresNoLength fields × (kind ≡ Reply)
Frames kind fields limit (Err BadHead) = HasBadLength fields
Frames kind fields limit (Err Coding) = (¬ (HasBadLength fields)) × (¬ (HasKnownCodings fields))
Frames kind fields limit (Err (TooLarge most)) = (most ≡ limit)
    × (HasKnownCodings fields × (¬ (IsCoded fields)) × ((n : ℕ) × DeclaresLength fields n × (limit < n)))
