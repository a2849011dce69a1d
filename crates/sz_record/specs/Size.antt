-- How long stored forms are, in numbers of 64 bits.
use Rattle.std.specs.Prelude.{ℕ, ◌-◌, ◌^◌, min, List, length}

-- how many bytes these are, or the greatest number where they are more
abbrev pub capped : ℕ → ℕ
capped n = min n (2 ^ 64 - 1)

abbrev pub size_of : List ℕ → ℕ
size_of bytes = capped (length bytes)
