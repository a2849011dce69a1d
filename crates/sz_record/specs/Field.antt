-- Fields at the front of bytes: how many bytes one takes, and where it is wrong.
use Rattle.std.specs.Prelude.{ℕ, ◌+◌, ◌==◌, nat_le, Bool, if◌then◌else◌, List, [], ◌∷◌, length, replicate, take, drop, Result, Ok, Err}
use Rattle.std.specs.Int.{Width, w8, w16, w32, byte_len, from_be_bytes, is_in_range}

-- What a field tells of bytes: 'Ok n' where it takes the first n of them, 'Err place' where the first wrong byte stands
-- at this place. Bytes that end too early are wrong at their end.
abbrev pub Field : Type 0
Field = List ℕ → Result ℕ ℕ

-- the same, told of bytes before which n others stand
abbrev pub behind : ℕ → Result ℕ ℕ → Result ℕ ℕ
behind n (Ok m) = Ok (n + m)
behind n (Err place) = Err (n + place)

abbrev pub nothing : Field
nothing input = Ok 0

-- so many bytes, any of them
unfoldable pub bytes : ℕ → Field
bytes n input = if nat_le n (length input) then Ok n else Err (length input)

abbrev pub and_then : Result ℕ ℕ → Field → Field
and_then (Ok n) next input = behind n (next (drop n input))
and_then (Err place) next input = Err place

-- a field, and then another one
unfoldable pub followed : Field → Field → Field
followed first next input = and_then (first input) next input

abbrev pub in_order : List Field → Field
in_order [] = nothing
in_order (field ∷ fields) = followed field (in_order fields)

-- A number, high byte first, and what follows it by its value. A number out of these bounds is wrong at its first byte.
unfoldable pub number_then : Width → ℕ → ℕ → (ℕ → Field) → Field
number_then width low most next input =
    if nat_le (byte_len width) (length input)
    then (if is_in_range low most (from_be_bytes width input)
    then behind (byte_len width) (next (from_be_bytes width input) (drop (byte_len width) input))
    else Err 0)
    else Err (length input)

abbrev pub number : Width → ℕ → ℕ → Field
number width low most = number_then width low most (λ _. nothing)

abbrev pub tested : (List ℕ → Bool) → Result ℕ ℕ → Field
tested test (Ok n) input = if test (take n input) then Ok n else Err 0
tested test (Err place) input = Err place

-- a field whose bytes pass a test; it is wrong at its first byte where they don't
unfoldable pub passing : (List ℕ → Bool) → Field → Field
passing test field input = tested test (field input) input

-- bytes behind their number in two bytes, which has these bounds
abbrev pub text : ℕ → ℕ → Field
text low most = number_then w16 low most bytes

-- bytes behind their number in four bytes
abbrev pub long : ℕ → Field
long most = number_then w32 0 most bytes

abbrev pub longest : ℕ
longest = 4294967295

-- 0, or 1 and the field
abbrev pub where_there : Field → ℕ → Field
where_there field there = if there == 0 then nothing else field

abbrev pub optional : Field → Field
optional field = number_then w8 0 1 (where_there field)

-- the field as often as this number before it says
abbrev pub counted : ℕ → ℕ → Field → Field
counted low most field = number_then w8 low most (λ n. in_order (replicate n field))
