-- Messages of HTTP as they are written, and what it is that a text is a message (RFC 9112 sections 2 to 6).
use Rattle.std.specs.Prelude.{◌≡◌, ℕ, ◌^◌, ◌<◌, ◌≤◌, List, [], ◌∷◌, ◌++◌, length, codes, Ok}
use Rattle.std.specs.Fmt.{decimal}
use Rattle.std.specs.List.{flat_map}
use Rattle.httparse.specs.Ascii.{colon, crlf_bytes, space}
use Rattle.sz_http.specs.Head.{IsHead}
use Rattle.sz_http.specs.Parts.{HasParts, Parts}
use Rattle.sz_http.specs.declared.kind.Kind.{Kind}
use Rattle.sz_http.specs.Framing.{content_length, FieldList, Frames}
use Rattle.sz_http.specs.declared.framing.Framing.TheVariants.{Length}

-- the version that is written
abbrev pub version : List ℕ
version = codes "HTTP/1.1"

-- the media type of what is asked and answered (RFC 8040 section 11.3.2)
abbrev pub yang_json : List ℕ
yang_json = codes "application/yang-data+json"

-- the three words of a start line (RFC 9112 sections 3 and 4)
abbrev pub start_line : List ℕ → List ℕ → List ℕ → List ℕ
start_line first second third = first ++ space ∷ second ++ space ∷ third

-- a field: its name, a colon, a space and its value (RFC 9112 section 5)
abbrev pub field_line : List ℕ × List ℕ → List ℕ
field_line field = field.0 ++ colon ∷ space ∷ field.1 ++ crlf_bytes

-- the start line and the fields, a line each
abbrev pub lines_text : List ℕ → FieldList → List ℕ
lines_text start fields = start ++ crlf_bytes ++ flat_map field_line fields

-- a head: such lines, and the empty line
abbrev pub head_text : List ℕ → FieldList → List ℕ
head_text start fields = lines_text start fields ++ crlf_bytes

-- the fields, and one more that says how long the body is
abbrev pub with_length : FieldList → List ℕ → FieldList
with_length fields body = fields ++ (content_length, decimal (length body)) ∷ []

-- a message with a body
abbrev pub message_text : List ℕ → FieldList → List ℕ → List ℕ
message_text start fields body = head_text start (with_length fields body) ++ body

-- such lines are ended as a message with this body
pub record Finishes (lines body text : List ℕ) : Type 0 where
  pub length_fits : length body < 2 ^ 64
  pub whole : (start : List ℕ) (fields : FieldList) → lines ≡ lines_text start fields
      → text ≡ message_text start fields body

-- The text is a message of this kind: a head that has these parts, and behind it this body, which is as long as the
-- head says.
pub record IsMessage (kind : Kind) (text : List ℕ) (parts : Parts) (body : List ℕ) : Type 0 where
  pub head : List ℕ
  pub whole : text ≡ head ++ body
  pub is_head : IsHead kind head
  pub has_parts : HasParts kind head parts
  pub framed : (limit : ℕ) → length body ≤ limit → Frames kind parts.fields limit (Ok (Length (length body)))
