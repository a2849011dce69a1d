use Rattle.std.proofs.Common.{◌≡◌, ℕ, true, false, List, [], ◌∷◌, refl, sym, ap, ◌∙◌}
use Rattle.std.specs.Prelude.{bytes_eq}
use Rattle.std.proofs.lemmas.Bool.{or_left, true≢false}
use Rattle.sz_x509.specs.RevocationList.{is_listed}
use Rattle.sz_x509.proofs.Listing.{lists_none, lists_on, next_left}
use Rattle.sz_x509.proofs.crl.Crl.lists.Goals as goal

pub loop-serial-init : goal.loop-serial-init
loop-serial-init c = λ serials are. (serials, rw c.over-reader.ensures.left are, refl)

pub returns-in-Ok : goal.returns-in-Ok
returns-in-Ok c = λ serials are.
    let at = c.loop-serial.invariant serials are in
    let more : c.loop-serial.reader.left.now ≡ [] → ⊥ = λ e. true≢false (sym (c.is_at_end.ensures.1 e) ∙ c.loop-serial-test.true) in
    let on = lists_on c.loop-serial.reader at.0 at.1 more in
    let same : bytes_eq on.serial c.args.serial.now ≡ true =
    ap (λ (x : List ℕ). bytes_eq x c.args.serial.now) (sym (c.in-Ok.ensures.serial ∙ on.serial_is)) ∙ sym c.if-eq.ensures in
    sym (at.2 ∙ ap (λ (x : List (List ℕ)). is_listed c.args.serial.now x) on.serials_are ∙ or_left _ _ same)

pub loop-serial-preserved : goal.loop-serial-preserved
loop-serial-preserved c = λ serials are.
    let at = c.loop-serial.invariant serials are in
    let more : c.loop-serial.reader.left.now ≡ [] → ⊥ = λ e. true≢false (sym (c.is_at_end.ensures.1 e) ∙ c.loop-serial-test.true) in
    let on = lists_on c.loop-serial.reader at.0 at.1 more in
    let other : bytes_eq on.serial c.args.serial.now ≡ false =
    ap (λ (x : List ℕ). bytes_eq x c.args.serial.now) (sym (c.in-Ok.ensures.serial ∙ on.serial_is)) ∙ sym c.if-eq.ensures in
    let passed : is_listed c.args.serial.now (on.serial ∷ on.rest) ≡ is_listed c.args.serial.now on.rest = rw other refl in (
      on.rest,
      next_left c.loop-serial.reader c.take_serial.new.reader on.rest c.in-Ok.ensures.next on.left,
      at.2 ∙ ap (λ (x : List (List ℕ)). is_listed c.args.serial.now x) on.serials_are ∙ passed,
    )

pub returns-in-Err : goal.returns-in-Err
returns-in-Err c = λ serials are.
    let at = c.loop-serial.invariant serials are in
    let more : c.loop-serial.reader.left.now ≡ [] → ⊥ = λ e. true≢false (sym (c.is_at_end.ensures.1 e) ∙ c.loop-serial-test.true) in
    let on = lists_on c.loop-serial.reader at.0 at.1 more in
    absurd (c.in-Err.ensures.err on.begins)

pub returns : goal.returns
returns c = λ serials are.
    let at = c.loop-serial.invariant serials are in
    sym (at.2 ∙ lists_none at.0 c.loop-serial.reader.left.now c.args.serial.now at.1 (c.is_at_end.ensures.0 c.loop-serial-test.false))
