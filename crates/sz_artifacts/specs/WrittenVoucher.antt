-- What is written of a voucher: its members in the byte order of their names. Dates are in UTC; the certificate's
-- issuer and the date of renewal are never written.
use Rattle.std.specs.Prelude.{◌≡◌, ℕ, ◌+◌, ◌/◌, ◌%◌, List, [], ◌∷◌, ◌++◌, Option, Some, None, option_map, codes, ℤ, pos, int_lt, unsigned_abs, if◌then◌else◌, IfSome, IsUtf8, ⊤}
use Rattle.serde_json.specs.Data.{Data, boolean, object, string}
use Rattle.sz_base.specs.declared.moment.Seconds.{Seconds}
use Rattle.sz_calendar.specs.CivilTime.{CivilTime, IsTimeAt}
use Rattle.sz_json.specs.Form.{IsInstant}
use Rattle.sz_json.specs.Object.{binary_value, members_of}
use Rattle.sz_json.specs.declared.name.Name.{Name}
use Rattle.sz_json.specs.declared.name.Name.TheVariants as name
use Rattle.sz_artifacts.specs.Assertion.{assertion_text}
use Rattle.sz_artifacts.specs.Voucher.{IsVoucher, VoucherOf}
use Rattle.sz_artifacts.specs.declared.voucher.Voucher.{Voucher}

-- ---- dates (RFC 3339): `YYYY-MM-DDThh:mm:ssZ`, where a year below 0 is `-` and six digits

-- a number below 100, in two digits
abbrev pub two_digits : ℕ → List ℕ
two_digits n = (48 + n / 10) ∷ (48 + n % 10) ∷ []

-- a number below 10,000, in four digits
abbrev pub four_digits : ℕ → List ℕ
four_digits n = two_digits (n / 100) ++ two_digits (n % 100)

abbrev pub sign_text : ℤ → List ℕ
sign_text year = if int_lt year (pos 0) then codes "-00" else []

abbrev pub year_text : ℤ → List ℕ
year_text year = sign_text year ++ four_digits (unsigned_abs year)

-- `YYYY-MM-DD`
abbrev pub day_text : CivilTime → List ℕ
day_text time = year_text time.year ++ (45 ∷ two_digits time.month) ++ (45 ∷ two_digits time.day)

-- `hh:mm:ss`
abbrev pub clock_text : CivilTime → List ℕ
clock_text time = two_digits time.hour ++ (58 ∷ two_digits time.minute) ++ (58 ∷ two_digits time.second)

abbrev pub civil_text : CivilTime → List ℕ
civil_text time = day_text time ++ (84 ∷ clock_text time) ++ (90 ∷ [])

-- the text of the date and the time of day at that second
abbrev pub IsDateText : Seconds → List ℕ → Type 0
IsDateText seconds text = (time : CivilTime) × IsTimeAt seconds.0 time × (text ≡ civil_text time)

-- the text of a second that is there
abbrev pub AreDateTexts : Option Seconds → Option (List ℕ) → Type 0
AreDateTexts None None = ⊤
AreDateTexts None (Some text) = ⊥
AreDateTexts (Some seconds) None = ⊥
AreDateTexts (Some seconds) (Some text) = IsDateText seconds text

-- ---- the value, with the texts of its dates

abbrev pub inner_members : Voucher → List ℕ → Option (List ℕ) → List (Name × Option Data)
inner_members voucher created end =
    (name.CreatedOn, Some (string created))
    ∷ (name.ExpiresOn, option_map string end)
    ∷ (name.Assertion, Some (string (assertion_text voucher.assertion)))
    ∷ (name.SerialNumber, Some (string voucher.serial))
    ∷ (name.PinnedDomainCert, Some (binary_value voucher.pinned))
    ∷ (name.DomainCertRevocationChecks, Some (boolean voucher.revocation))
    ∷ (name.Nonce, option_map binary_value voucher.nonce)
    ∷ []

abbrev pub members_value : Voucher → List ℕ → Option (List ℕ) → Data
members_value voucher created end = object (members_of (inner_members voucher created end))

abbrev pub outer_members : Voucher → List ℕ → Option (List ℕ) → List (Name × Option Data)
outer_members voucher created end = (name.Voucher, Some (members_value voucher created end)) ∷ []

abbrev pub voucher_value : Voucher → List ℕ → Option (List ℕ) → Data
voucher_value voucher created end = object (members_of (outer_members voucher created end))

-- the voucher can be written: its times have dates, and its serial number is UTF-8
pub record IsWritable (voucher : Voucher) : Type 0 where
  pub created_on : IsInstant voucher.created_on
  pub expires_on : IfSome voucher.expires_on IsInstant
  pub serial_number : IsUtf8 voucher.serial

-- what was read of some value reads back from its text
abbrev pub ReadsBack : Voucher → List ℕ → Type 0
ReadsBack voucher bytes = (value : Data) → IsVoucher value voucher → VoucherOf bytes voucher
