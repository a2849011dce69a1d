-- How the maker knows the owner (RFC 8366 section 5.3).
use Rattle.std.specs.Prelude.{ℕ, if◌then◌else◌, List, Option, Some, None, option_and_then, codes}
use Rattle.std.specs.Str.{bytes_eq}
use Rattle.serde_json.specs.Data.{Data}
use Rattle.sz_json.specs.Form.{text_of}
use Rattle.sz_artifacts.specs.declared.voucher.Assertion.{Assertion}
use Rattle.sz_artifacts.specs.declared.voucher.Assertion.TheVariants.{Verified, Logged, Proximity}

-- an assertion, as a text
abbrev pub assertion_text : Assertion → List ℕ
assertion_text Verified = codes "verified"
assertion_text Logged = codes "logged"
assertion_text Proximity = codes "proximity"

abbrev pub assertion_in : List ℕ → Option Assertion
assertion_in text =
    if bytes_eq text (assertion_text Verified) then Some Verified
    else if bytes_eq text (assertion_text Logged) then Some Logged
    else if bytes_eq text (assertion_text Proximity) then Some Proximity else None

abbrev pub assertion_of : Data → Option Assertion
assertion_of value = option_and_then assertion_in (text_of value)
