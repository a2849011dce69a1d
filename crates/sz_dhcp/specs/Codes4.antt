-- The numbers of DHCPv4 messages.
use Rattle.std.specs.Prelude.{ℕ, List, [], ◌∷◌}

-- the options without a length (RFC 2132 sections 3.1 and 3.2)
abbrev pub pad_code : ℕ
pad_code = 0

abbrev pub end_code : ℕ
end_code = 255

-- the option that says which other fields hold options, and its values for `file`, `sname` and both (RFC 2132
-- section 9.3)
abbrev pub overload_code : ℕ
overload_code = 52

abbrev pub overloads_file : ℕ
overloads_file = 1

abbrev pub overloads_sname : ℕ
overloads_sname = 2

abbrev pub overloads_both : ℕ
overloads_both = 3

-- the option of bootstrap servers (RFC 8572 section 8.1)
abbrev pub redirect_code : ℕ
redirect_code = 143

-- what stands before the options (RFC 2131 section 3)
abbrev pub magic_cookie : List ℕ
magic_cookie = 99 ∷ 130 ∷ 83 ∷ 99 ∷ []
