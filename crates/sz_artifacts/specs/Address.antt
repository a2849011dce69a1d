-- The address of a bootstrap server (RFC 8572 section 6.3): a host, or an IPv6 text, which gets brackets.
use Rattle.std.specs.Prelude.{◌≡◌, ℕ, ◌-◌, ◌&&◌, ◌||◌, ◌⊎◌, Bool, if◌then◌else◌, List, length, take, drop, Option, Some, None, option_and_then, nat_le, count_by}
use Rattle.std.specs.List.{list_all}
use Rattle.std.specs.Str.{bytes_eq}
use Rattle.serde_json.specs.Data.{Data}
use Rattle.sz_base.specs.Byte.{is_colon}
use Rattle.sz_base.specs.Host.{in_brackets, is_ipv6_byte, is_name_byte, IsHost}
use Rattle.sz_json.specs.Form.{text_of}

-- the text is this host, which it names as it stands, or without the brackets of an IPv6 text
abbrev pub IsAddress : List ℕ → List ℕ → Type 0
IsAddress text host = IsHost host × ((host ≡ text) ⊎ (host ≡ in_brackets text))

-- ---- the same as tests

abbrev pub is_name : List ℕ → Bool
is_name text = nat_le 1 (length text) && (nat_le (length text) 255 && list_all is_name_byte text)

abbrev pub is_ipv6_text : List ℕ → Bool
is_ipv6_text text =
    nat_le 2 (length text)
    && (nat_le (length text) 45 && (list_all is_ipv6_byte text && nat_le 2 (count_by is_colon text)))

-- the text between the first byte and the last
abbrev pub inner : List ℕ → List ℕ
inner text = take (length text - 2) (drop 1 text)

abbrev pub is_in_brackets : List ℕ → Bool
is_in_brackets text = bytes_eq text (in_brackets (inner text)) && is_ipv6_text (inner text)

-- the host that the text names, if it names one
unfoldable pub host_of : List ℕ → Option (List ℕ)
host_of text =
    if is_name text || is_in_brackets text then Some text
    else if is_ipv6_text text then Some (in_brackets text) else None

-- a host, as the text of an address
abbrev pub address_of : Data → Option (List ℕ)
address_of value = option_and_then host_of (text_of value)
