use Rattle.std.proofs.Common.{rules, ◌≡◌, ℕ, List, true, Some, refl, sym, ap, ◌∙◌, pos}
use Rattle.std.proofs.lemmas.Bool.{false≢true}
use Rattle.sz_der.specs.Der.{number_of}
use Rattle.sz_der.specs.Integer.{is_integer, IsIntegerOf}
use Rattle.sz_der.specs.Spots.{is_next, spot_of}
use Rattle.sz_der.specs.Tags.{integer_tag}
use Rattle.sz_der.proofs.Optional.{after_next, after_other, next_tag}
use Rattle.sz_der.proofs.Steps.{exit, fails, passes}
use Rattle.sz_der.proofs.IntegerTest.{integer_test, IsInteger_from_test}
use Rattle.sz_x509.specs.CertFault.{Fault, path_length_fault}
use Rattle.sz_x509.specs.Contents.{is_u32}
use Rattle.sz_x509.proofs.Chains.{path_length-next, path_length-other}
use Rattle.sz_x509.proofs.Values.{IsIntegerOf_from_tests, number_is, u32_test}
use Rattle.sz_x509.proofs.extensions.take_path_length.Goals as goal

pub returns-then-not-is_next-clause-ok : goal.returns-then-not-is_next-clause-ok
unfolding path_length_fault
returns-then-not-is_next-clause-ok c = rw (sym c.is_next.ensures ∙ c.if-not-is_next.true) refl

pub returns-then-not-is_next-clause-path_len : goal.returns-then-not-is_next-clause-path_len
returns-then-not-is_next-clause-path_len c =
    sym (path_length-other (spot_of c.args.reader.now) (sym c.is_next.ensures ∙ c.if-not-is_next.true))

pub returns-then-not-is_next-clause-next : goal.returns-then-not-is_next-clause-next
returns-then-not-is_next-clause-next c = sym (after_other integer_tag (spot_of c.args.reader.now) (sym c.is_next.ensures ∙ c.if-not-is_next.true))

pub returns-in_err-item-clause-fault : goal.returns-in_err-item-clause-fault
unfolding path_length_fault
returns-in_err-item-clause-fault c =
    exit _ _ c.in_err-item.field-0.0 c.from_residual.ensures.1
    (rw (sym c.is_next.ensures ∙ c.if-not-is_next.false, c.in_err-item.ensures.fault) refl)

pub returns-in-Ok-Some-clause-ok : goal.returns-in-Ok-Some-clause-ok
unfolding path_length_fault
returns-in-Ok-Some-clause-ok c =
    let spot = spot_of c.args.reader.now in
    let item = c.in_ok-item.item in
    let is = c.in_ok-item.ensures.item in
    let told = rw c.in-Ok-Some.field-0-is at c.in-Ok-Some.ensures.value in
    let minimal = (c.in-Ok-Some.ensures.exact.0 refl).1 in
    let test = passes is_integer spot item is (integer_test item.content.now minimal) in
    let number : IsIntegerOf (pos c.in-Ok-Some.path_len) item.content.now = record { minimal = minimal; octets = c.octets_fit.ensures; writes = told } in
    let fits = passes is_u32 spot item is (u32_test c.in-Ok-Some.path_len item.content.now (search rules) number) in
    rw (sym c.is_next.ensures ∙ c.if-not-is_next.false, c.in_ok-item.ensures.ok, test, fits) refl

pub returns-in-Ok-Some-clause-path_len : goal.returns-in-Ok-Some-clause-path_len
returns-in-Ok-Some-clause-path_len c =
    let spot = spot_of c.args.reader.now in
    let item = c.in_ok-item.item in
    let told = rw c.in-Ok-Some.field-0-is at c.in-Ok-Some.ensures.value in
    let minimal = (c.in-Ok-Some.ensures.exact.0 refl).1 in
    let number : IsIntegerOf (pos c.in-Ok-Some.path_len) item.content.now = record { minimal = minimal; octets = c.octets_fit.ensures; writes = told } in
    ap (λ (n : ℕ). Some n) (sym (number_is c.in-Ok-Some.path_len item.content.now number))
    ∙ ap (λ (x : List ℕ). Some (number_of x)) c.in_ok-item.ensures.item.content
    ∙ sym (path_length-next spot (sym c.is_next.ensures ∙ c.if-not-is_next.false))

pub returns-in-Ok-Some-clause-next : goal.returns-in-Ok-Some-clause-next
returns-in-Ok-Some-clause-next c =
    c.in_ok-item.ensures.next ∙ sym (after_next integer_tag (spot_of c.args.reader.now) (sym c.is_next.ensures ∙ c.if-not-is_next.false))

pub returns-in-Ok-None-clause-fault : goal.returns-in-Ok-None-clause-fault
unfolding path_length_fault
returns-in-Ok-None-clause-fault c =
    let spot = spot_of c.args.reader.now in
    let item = c.in_ok-item.item in
    let is = c.in_ok-item.ensures.item in
    let none = rw c.in-Ok-None.field-0-is at c.in-Ok-None.ensures.none in
    let minimal = integer_test item.content.now (c.in-Ok-None.ensures.exact.0 refl).1 in
    let test = passes is_integer spot item is minimal in
    let past = fails is_u32 spot item is (λ e.
    let number = IsIntegerOf_from_tests item.content.now c.octets_fit.ensures minimal e in
    none (number_of item.content.now) number.0 number.1.writes) in
    rw (sym c.is_next.ensures ∙ c.if-not-is_next.false, c.in_ok-item.ensures.ok, test, past)
    (ap (λ (x : Fault). Some x) (sym (c.part_fault.ensures spot is)))

pub returns-in-Err-clause-fault : goal.returns-in-Err-clause-fault
unfolding path_length_fault
returns-in-Err-clause-fault c =
    let spot = spot_of c.args.reader.now in
    let item = c.in_ok-item.item in
    let is = c.in_ok-item.ensures.item in
    let next : is_next integer_tag spot ≡ true = sym c.is_next.ensures ∙ c.if-not-is_next.false in
    let tag : item.tag ≡ integer_tag = is.tag ∙ next_tag integer_tag spot next in
    let test = fails is_integer spot item is
    (λ e. false≢true (c.in-Err.ensures.exact.1 (tag, IsInteger_from_test item.content.now e))) in
    rw (next, c.in_ok-item.ensures.ok, test) (ap (λ (x : Fault). Some x) (sym (c.part_fault-in-Err.ensures spot is)))
