-- What is left of a head at each place in it, as texts that go on from there (RFC 9112 sections 2 to 5).
use Rattle.std.specs.Prelude.{◌≡◌, ◌⊎◌, ℕ, zero, suc, ◌<◌, ◌≤◌, Bool, true, ◌||◌, ◌==◌, List, [], ◌∷◌, ◌++◌, length, codes, IsUtf8}
use Rattle.std.specs.Char.{is_ascii_digit}
use Rattle.httparse.specs.Ascii.{colon, space}
use Rattle.httparse.specs.Grammar.{is_token_byte, is_uri_byte, is_value_byte, AllPass, LineEnd, print_end, print_blank, Field, ReadsSection}
use Rattle.sz_http.specs.declared.kind.Kind.{Kind}
use Rattle.sz_http.specs.declared.kind.Kind.TheVariants.{Request, Reply, Trailer}
use Rattle.sz_http.specs.Head.{most_fields}

-- what a text begins with, and the rest after it
abbrev pub Form : Type 1
Form = List ℕ → List ℕ → Type 0

-- nothing is left
abbrev pub Nothing : Form
Nothing text rest = text ≡ rest

-- nothing can come
abbrev pub Never : Form
Never text rest = ⊥

-- these bytes, and then the next form
pub record Due (bytes : List ℕ) (Next : Form) (text rest : List ℕ) : Type 0 where
  pub after : List ℕ
  pub is : text ≡ bytes ++ after
  pub left : Next after rest

-- one byte that passes the test
pub record One (test : ℕ → Bool) (Next : Form) (text rest : List ℕ) : Type 0 where
  pub byte : ℕ
  pub after : List ℕ
  pub passes : test byte ≡ true
  pub is : text ≡ byte ∷ after
  pub left : Next after rest

-- bytes that pass the test, and the byte that stops them
pub record Run (test : ℕ → Bool) (stop : ℕ) (Next : Form) (text rest : List ℕ) : Type 0 where
  pub run : List ℕ
  pub after : List ℕ
  pub pass : AllPass test run
  pub is : text ≡ run ++ stop ∷ after
  pub left : Next after rest

-- the end of a line
pub record Ends (Next : Form) (text rest : List ℕ) : Type 0 where
  pub end : LineEnd
  pub after : List ℕ
  pub is : text ≡ print_end end ++ after
  pub left : Next after rest

-- the rest of a value or of a reason phrase, with the end of its line
pub record ValueLeft (Next : Form) (text rest : List ℕ) : Type 0 where
  pub run : List ℕ
  pub pass : AllPass is_value_byte run
  pub after : List ℕ
  pub is : text ≡ run ++ after
  pub left : Ends Next after rest

-- empty lines
pub record Blank (Next : Form) (text rest : List ℕ) : Type 0 where
  pub ends : List LineEnd
  pub after : List ℕ
  pub is : text ≡ print_blank ends ++ after
  pub left : Next after rest

-- the rest of a target of which this much came before, and the space after it
pub record TargetLeft (before : List ℕ) (Next : Form) (text rest : List ℕ) : Type 0 where
  pub run : List ℕ
  pub after : List ℕ
  pub pass : AllPass is_uri_byte run
  pub some : 0 < length (before ++ run)
  pub utf8 : IsUtf8 (before ++ run)
  pub is : text ≡ run ++ space ∷ after
  pub left : Next after rest

-- field lines, of which there is room for so many, and the empty line
pub record Lines (room : ℕ) (text rest : List ℕ) : Type 0 where
  pub fields : List Field
  pub last : LineEnd
  pub reads : ReadsSection text fields last rest
  pub few : length fields ≤ room

-- the rest of a field's name, the colon and the value
abbrev pub NameLeft : ℕ → Form
NameLeft room = Run is_token_byte colon (ValueLeft (Lines room))

-- after the status code: the end of the line, or a reason phrase first
abbrev pub ReasonLeft : Form
ReasonLeft text rest = Ends (Lines most_fields) text rest ⊎ Due (space ∷ []) (ValueLeft (Lines most_fields)) text rest

-- so many digits of the status code, and what follows it
abbrev pub DigitsLeft : ℕ → Form
DigitsLeft zero = ReasonLeft
DigitsLeft (suc count) = One is_ascii_digit (DigitsLeft count)

-- what follows the version: in a status line the code, in a request line nothing
abbrev pub AfterVersion : Kind → Form
AfterVersion Reply = Due (space ∷ []) (DigitsLeft 3)
AfterVersion Request = Ends (Lines most_fields)
AfterVersion Trailer = Ends (Lines most_fields)

-- 0 or 1
abbrev pub is_minor : ℕ → Bool
is_minor byte = byte == 48 || byte == 49

-- what every version begins with
abbrev pub version_name : List ℕ
version_name = codes "HTTP/1."

-- the minor version and what follows
abbrev pub MinorLeft : Kind → Form
MinorLeft kind = One is_minor (AfterVersion kind)

-- the rest of a method, and what follows
abbrev pub MethodLeft : Kind → Form
MethodLeft kind = Run is_token_byte space (TargetLeft [] (Due version_name (MinorLeft kind)))

-- a start line from its first byte: a status line begins with the version, a request line with the method
abbrev pub StartLine : Kind → Form
StartLine Reply = Due version_name (MinorLeft Reply)
StartLine Request = One is_token_byte (MethodLeft Request)
StartLine Trailer = One is_token_byte (MethodLeft Trailer)
