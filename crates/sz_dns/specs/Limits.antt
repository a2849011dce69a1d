-- The numbers of DNS messages.
use Rattle.std.specs.Prelude.{ℕ}

-- the header (RFC 1035 section 4.1.1)
abbrev pub header_bytes : ℕ
header_bytes = 12

-- the longest name, with the lengths of its labels and its end (RFC 1035 section 3.1)
abbrev pub most_name_bytes : ℕ
most_name_bytes = 255

-- the most pointers that one name may follow
abbrev pub most_pointers : ℕ
most_pointers = 127

-- the type SRV (RFC 2782) and the class of the internet (RFC 1035 section 3.2.4)
abbrev pub service_type : ℕ
service_type = 33

abbrev pub internet_class : ℕ
internet_class = 1
