-- What a DHCPv4 message says of bootstrap servers, and why it is refused (RFC 2131, RFC 2132, RFC 3396, RFC 8572
-- section 8.1).
use Rattle.std.specs.Prelude.{◌≡◌, ◌≢◌, ◌⊎◌, ℕ, ◌+◌, ◌<◌, ◌≤◌, ◌==◌, ◌||◌, Bool, if◌then◌else◌, List, [], ◌∷◌, ◌++◌, length, drop, slice_range}
use Rattle.std.specs.List.{flat_map}
use Rattle.std.specs.Str.{bytes_eq}
use Rattle.sz_base.specs.declared.target.Target.{Target}
use Rattle.sz_dhcp.specs.DhcpOption.{DhcpOption}
use Rattle.sz_dhcp.specs.Spelled.{BreaksAt, Joined}
use Rattle.sz_dhcp.specs.UriList.{ListBreaksAt, ListsTargets}
use Rattle.sz_dhcp.specs.Codes4.{end_code, magic_cookie, overload_code, overloads_both, overloads_file, overloads_sname, pad_code, redirect_code}
use Rattle.sz_dhcp.specs.declared.fault.DhcpKind.{DhcpKind}
use Rattle.sz_dhcp.specs.declared.fault.DhcpKind.TheVariants.{Short, Cookie, Uri}

-- the pad option, which is its code alone (RFC 2132 section 3.1)
pub record IsPad (option : DhcpOption) (bytes : List ℕ) : Type 0 where
  pub code : option.code ≡ pad_code
  pub empty : option.value ≡ []
  pub spelled : bytes ≡ pad_code ∷ []

-- any option with a value: its code, the length of the value, and the value (RFC 2132 section 2)
pub record IsSized (option : DhcpOption) (bytes : List ℕ) : Type 0 where
  pub no_pad : option.code ≢ pad_code
  pub no_end : option.code ≢ end_code
  pub spelled : bytes ≡ option.code ∷ length option.value ∷ option.value

-- the bytes are the beginning of a length and a value, and not all of them
pub record IsUnfinishedValue (bytes : List ℕ) : Type 0 where
  pub value : List ℕ
  pub missing : List ℕ
  pub whole : bytes ++ missing ≡ length value ∷ value
  pub not_all : missing ≢ []

abbrev pub IsOption : DhcpOption → List ℕ → Type 0
IsOption option bytes = IsPad option bytes ⊎ IsSized option bytes

-- nothing, or the end option, after which nothing is read (RFC 2132 section 3.2)
abbrev pub IsEnd : List ℕ → Type 0
IsEnd bytes = (bytes ≡ []) ⊎ ((after : List ℕ) × (bytes ≡ end_code ∷ after))

-- the bytes of a field are these options, and then the end
pub record IsField (bytes : List ℕ) (options : List DhcpOption) : Type 0 where
  pub front : List ℕ
  pub rest : List ℕ
  pub joined : bytes ≡ front ++ rest
  pub spelled : Joined IsOption options front
  pub ends : IsEnd rest

-- a field ends inside an option, whose code stands at this place of it
abbrev pub FieldBreaksAt : List ℕ → ℕ → Type 0
FieldBreaksAt bytes place = BreaksAt IsOption bytes place

-- the fault of a field that ends at this place of the message: it ends inside an option
pub record IsFieldFault (bytes : List ℕ) (end : ℕ) (kind : DhcpKind) (place : ℕ) : Type 0 where
  pub short : kind ≡ Short
  pub offset : ℕ
  pub breaks : FieldBreaksAt bytes offset
  pub place_is : place + length bytes ≡ end + offset

-- the value of an option where it has this code
abbrev pub value_with : ℕ → DhcpOption → List ℕ
value_with code option = if option.code == code then option.value else []

-- all values of the options with this code, joined (RFC 3396 section 5)
abbrev pub values_of : ℕ → List DhcpOption → List ℕ
values_of code options = flat_map (value_with code) options

-- The fields of a message before its options: `sname` has 64 bytes at 44 and `file` 128 bytes at 108, and the options
-- follow a cookie at 236 (RFC 2131 section 2).
abbrev pub options_field : List ℕ → List ℕ
options_field message = drop 240 message

-- option 52 says 1 where `file` holds options, 2 where `sname` does, 3 where both do (RFC 2132 section 9.3)
abbrev pub holds_options : ℕ → List ℕ → Bool
holds_options field overload = bytes_eq overload (field ∷ []) || bytes_eq overload (overloads_both ∷ [])

-- the field `file`, where the options say that it holds options, else nothing
abbrev pub file_field : List DhcpOption → List ℕ → List ℕ
file_field options message =
    if holds_options overloads_file (values_of overload_code options) then slice_range message 108 236 else []

-- the field `sname`, where the options say that it holds options, else nothing
abbrev pub sname_field : List DhcpOption → List ℕ → List ℕ
sname_field options message =
    if holds_options overloads_sname (values_of overload_code options) then slice_range message 44 108 else []

-- the message is long enough, and has the cookie of DHCP before its options
pub record HasCookie (message : List ℕ) : Type 0 where
  pub long : 240 ≤ length message
  pub cookie : slice_range message 236 240 ≡ magic_cookie

-- the options of a message: those of its options field, of `file` and of `sname`
pub record HasOptions (message : List ℕ) (options file sname : List DhcpOption) : Type 0 where
  pub cookie : HasCookie message
  pub own : IsField (options_field message) options
  pub in_file : IsField (file_field options message) file
  pub in_sname : IsField (sname_field options message) sname

-- the list of bootstrap servers: the values of option 143 in all the fields, joined
abbrev pub server_list : List DhcpOption → List DhcpOption → List DhcpOption → List ℕ
server_list options file sname = values_of redirect_code (options ++ file ++ sname)

-- the message gives these targets
pub record Gives4 (message : List ℕ) (targets : List Target) : Type 0 where
  pub options : List DhcpOption
  pub file : List DhcpOption
  pub sname : List DhcpOption
  pub has : HasOptions message options file sname
  pub lists : ListsTargets (server_list options file sname) targets

-- ---- the first fault

-- The rules in their order. Each is tried only where those before it found nothing, and finds a kind at a place: of the
-- message, or for `Uri` of the joined list.
pub data IsFault4 (message : List ℕ) : DhcpKind → ℕ → Type 0 where
  too_short : length message < 240 → IsFault4 message Short 0
  no_cookie : 240 ≤ length message → slice_range message 236 240 ≢ magic_cookie → IsFault4 message Cookie 236
  in_options : {place : ℕ} → HasCookie message → FieldBreaksAt (options_field message) place
      → IsFault4 message Short (240 + place)
  in_file : {place : ℕ} {options : List DhcpOption} → HasCookie message → IsField (options_field message) options
      → FieldBreaksAt (file_field options message) place → IsFault4 message Short (108 + place)
  in_sname : {place : ℕ} {options file : List DhcpOption} → HasCookie message
      → IsField (options_field message) options → IsField (file_field options message) file
      → FieldBreaksAt (sname_field options message) place → IsFault4 message Short (44 + place)
  in_list : {place : ℕ} {options file sname : List DhcpOption} → HasOptions message options file sname
      → ListBreaksAt (server_list options file sname) place → IsFault4 message Uri place
