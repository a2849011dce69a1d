-- Whether a voucher is for this device at this moment (RFC 8366 section 5.3, RFC 8572 section 5.4).
use Rattle.std.specs.Prelude.{◌≡◌, ℕ, ◌≤ℤ◌, Bool, true, false, not, int_lt, if◌then◌else◌, List, [], ◌∷◌, Option, Some, None, IfSome, Result, Ok, Err}
use Rattle.std.specs.Str.{bytes_eq}
use Rattle.sz_base.specs.declared.moment.Moment.{Moment}
use Rattle.sz_base.specs.declared.moment.Seconds.{Seconds}
use Rattle.sz_artifacts.specs.declared.voucher.judgement.VoucherFault.{VoucherFault}
use Rattle.sz_artifacts.specs.declared.voucher.judgement.VoucherFault.TheVariants.{WrongSerial, Nonce, Expired}
use Rattle.sz_artifacts.specs.declared.voucher.Voucher.{Voucher}

-- The voucher names the serial number byte for byte; its nonce, if it has one, is the moment's; and the moment is not
-- after its end, if it has one.
pub record VouchesFor (voucher : Voucher) (serial : List ℕ) (when : Moment) : Type 0 where
  pub serial_number : voucher.serial ≡ serial
  pub nonce : IfSome voucher.nonce (λ nonce. when.nonce ≡ Some nonce)
  pub end : IfSome voucher.expires_on (λ end. when.time.0 ≤ℤ end.0)

-- the same voucher without its nonce
abbrev pub without_nonce : Voucher → Voucher
without_nonce voucher = record voucher { nonce = None }

-- ---- the first fault, as a table

abbrev pub is_other_nonce : Option (List ℕ) → Option (List ℕ) → Bool
is_other_nonce None drawn = false
is_other_nonce (Some wanted) None = true
is_other_nonce (Some wanted) (Some drawn) = not (bytes_eq wanted drawn)

abbrev pub is_past : Option Seconds → Seconds → Bool
is_past None now = false
is_past (Some end) now = int_lt end.0 now.0

abbrev pub first_that_applies : List (Bool × VoucherFault) → Result (Unit {0}) VoucherFault
first_that_applies [] = Ok tt
first_that_applies (rule ∷ rules) = if rule.0 then Err rule.1 else first_that_applies rules

abbrev pub judgement : Voucher → List ℕ → Moment → Result (Unit {0}) VoucherFault
judgement voucher serial when = first_that_applies (
    (not (bytes_eq voucher.serial serial), WrongSerial)
    ∷ (is_other_nonce voucher.nonce when.nonce, Nonce)
    ∷ (is_past voucher.expires_on when.time, Expired)
    ∷ [])
