-- The table of the judgement and what it is to fit.
use Rattle.std.proofs.Common.{◌≡◌, ℕ, ◌≤ℤ◌, Bool, true, false, not, List, [], ◌∷◌, Option, Some, None, IfSome, Ok, Err, ◌↔◌, refl, sym, ap, subst, arith}
use Rattle.std.proofs.lemmas.Bool.{true≢false}
use Rattle.std.proofs.lemmas.Int.{ints}
use Rattle.std.proofs.lemmas.Slice.Eq.{bytes_eq-Decides}
use Rattle.std.specs.Str.{bytes_eq}
use Rattle.sz_base.specs.declared.moment.Moment.{Moment}
use Rattle.sz_base.specs.declared.moment.Seconds.{Seconds}
use Rattle.sz_artifacts.specs.Vouching.{first_that_applies, VouchesFor, is_other_nonce, is_past, judgement, without_nonce}
use Rattle.sz_artifacts.specs.declared.voucher.judgement.VoucherFault.{VoucherFault}
use Rattle.sz_artifacts.specs.declared.voucher.judgement.VoucherFault.TheVariants.{WrongSerial, Nonce, Expired}
use Rattle.sz_artifacts.specs.declared.voucher.Voucher.{Voucher}

passes : (test : Bool) (fault : VoucherFault) (rules : List (Bool × VoucherFault)) → first_that_applies ((test, fault) ∷ rules) ≡ Ok tt
    → (test ≡ false) × (first_that_applies rules ≡ Ok tt)
passes true fault rules h = cc
passes false fault rules h = (refl, h)

no_other : (a b : List ℕ) → not (bytes_eq a b) ≡ false → a ≡ b
no_other a b h = go (bytes_eq a b) refl h
  where
    go : (same : Bool) → bytes_eq a b ≡ same → not same ≡ false → a ≡ b
    go true e h = (bytes_eq-Decides a b).0 e
    go false e h = absurd (true≢false h)

is_same : (a b : List ℕ) → a ≡ b → not (bytes_eq a b) ≡ false
is_same a b e = ap not ((bytes_eq-Decides a b).1 e)

nonce_fits : (wanted drawn : Option (List ℕ)) → is_other_nonce wanted drawn ≡ false → IfSome wanted (λ nonce. drawn ≡ Some nonce)
nonce_fits None drawn h = tt
nonce_fits (Some wanted) None h = absurd (true≢false h)
nonce_fits (Some wanted) (Some drawn) h = ap Some (sym (no_other wanted drawn h))

fitting_nonce : (wanted drawn : Option (List ℕ)) → IfSome wanted (λ nonce. drawn ≡ Some nonce) → is_other_nonce wanted drawn ≡ false
fitting_nonce None drawn h = refl
fitting_nonce (Some wanted) None h = cc
fitting_nonce (Some wanted) (Some drawn) h = is_same wanted drawn (cc)

end_fits : (end : Option Seconds) (now : Seconds) → is_past end now ≡ false → IfSome end (λ last. now.0 ≤ℤ last.0)
end_fits None now h = tt
end_fits (Some last) now h = grind (arith, ints)

fitting_end : (end : Option Seconds) (now : Seconds) → IfSome end (λ last. now.0 ≤ℤ last.0) → is_past end now ≡ false
fitting_end None now h = refl
fitting_end (Some last) now h = grind (arith, ints)

pub fits : (voucher : Voucher) (serial : List ℕ) (when : Moment) → judgement voucher serial when ≡ Ok tt → VouchesFor voucher serial when
fits voucher serial when h =
    let last : List (Bool × VoucherFault) = (is_past voucher.expires_on when.time, Expired) ∷ [] in
    let later : List (Bool × VoucherFault) = (is_other_nonce voucher.nonce when.nonce, Nonce) ∷ last in
    let first = passes (not (bytes_eq voucher.serial serial)) WrongSerial later h in
    let second = passes (is_other_nonce voucher.nonce when.nonce) Nonce last first.1 in
    let third = passes (is_past voucher.expires_on when.time) Expired [] second.1 in
    record {
      serial_number = no_other voucher.serial serial first.0;
      nonce = nonce_fits voucher.nonce when.nonce second.0;
      end = end_fits voucher.expires_on when.time third.0;
    }

pub fitting : (voucher : Voucher) (serial : List ℕ) (when : Moment) → VouchesFor voucher serial when → judgement voucher serial when ≡ Ok tt
fitting voucher serial when h =
    rw (is_same voucher.serial serial h.serial_number, fitting_nonce voucher.nonce when.nonce h.nonce, fitting_end voucher.expires_on when.time h.end)

-- ---- a voucher with a nonce

pub fits_with_nonce : (voucher : Voucher) (serial : List ℕ) (when : Moment) (nonce : List ℕ) → voucher.nonce ≡ Some nonce
    → VouchesFor voucher serial when ↔ ((when.nonce ≡ Some nonce) × VouchesFor (without_nonce voucher) serial when)
fits_with_nonce voucher serial when nonce e = (
  λ h. (
    subst (λ (wanted : Option (List ℕ)). IfSome wanted (λ one. when.nonce ≡ Some one)) e h.nonce,
    record { serial_number = h.serial_number; nonce = tt; end = h.end },
  ),
  λ (drawn, h). record {
    serial_number = h.serial_number;
    nonce = subst (λ (wanted : Option (List ℕ)). IfSome wanted (λ one. when.nonce ≡ Some one)) (sym e) drawn;
    end = h.end;
  },
)

other_nonce : (wanted : List ℕ) (drawn : Option (List ℕ)) → (drawn ≡ Some wanted → ⊥) → is_other_nonce (Some wanted) drawn ≡ true
other_nonce wanted None other = refl
other_nonce wanted (Some drawn) other = go (bytes_eq wanted drawn) refl
  where
    go : (same : Bool) → bytes_eq wanted drawn ≡ same → not (bytes_eq wanted drawn) ≡ true
    go true e = absurd (other (ap Some (sym ((bytes_eq-Decides wanted drawn).0 e))))
    go false e = ap not e

pub other_nonce_refused : (voucher : Voucher) (serial : List ℕ) (when : Moment) (nonce : List ℕ) → voucher.nonce ≡ Some nonce
    → ¬ (when.nonce ≡ Some nonce) → voucher.serial ≡ serial → judgement voucher serial when ≡ Err Nonce
other_nonce_refused voucher serial when nonce e other same =
    rw (is_same voucher.serial serial same, e, other_nonce nonce when.nonce other)
