-- The identifier octets of the types that are read and written, in their low-tag form (X.690 section 8.1.2, X.680
-- section 8.4).
use Rattle.std.specs.Prelude.{ℕ}

abbrev pub boolean_tag : ℕ
boolean_tag = 1

abbrev pub integer_tag : ℕ
integer_tag = 2

abbrev pub bit_string_tag : ℕ
bit_string_tag = 3

abbrev pub octet_string_tag : ℕ
octet_string_tag = 4

abbrev pub object_identifier_tag : ℕ
object_identifier_tag = 6

abbrev pub utf8_string_tag : ℕ
utf8_string_tag = 12

abbrev pub utc_time_tag : ℕ
utc_time_tag = 23

abbrev pub generalized_time_tag : ℕ
generalized_time_tag = 24

-- SEQUENCE and SET are constructed
abbrev pub sequence_tag : ℕ
sequence_tag = 48

abbrev pub set_tag : ℕ
set_tag = 49

-- of the tag `[0]` of a specification, where it is primitive and where it is constructed; `[N]` adds N
abbrev pub context_primitive : ℕ
context_primitive = 128

abbrev pub context_constructed : ℕ
context_constructed = 160
