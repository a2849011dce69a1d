use Rattle.std.proofs.Common.{◌≡◌, false, List, [], ◌∷◌, ◌++◌, refl, sym, ap, subst, ◌∙◌, append_assoc, arith, length-append}
use Rattle.std.proofs.lemmas.List.{append-nil}
use Rattle.sz_der.specs.Spots.{after, is_at_end, Spot, spot_of, spots_from}
use Rattle.sz_der.proofs.Steps.{exit, not_at_end}
use Rattle.sz_der.proofs.SpotLists.{spots_step}
use Rattle.sz_x509.specs.CertFault.{each_fault}
use Rattle.sz_x509.specs.CertPlaces.{LeadHere, RestrictedAt}
use Rattle.sz_x509.specs.View.{extensions_of}
use Rattle.sz_x509.proofs.Adding.{restricted_by_none, restricted_more}
use Rattle.sz_x509.proofs.ExtensionLists.{new_of}
use Rattle.sz_x509.proofs.Walking.{begins_from_none, each_fails, each_step, lead_more, lead_nowhere, no_more, none_left, or_none}
use Rattle.sz_x509.proofs.extensions.read_extensions.Goals as goal

pub loop-reader-init : goal.loop-reader-init
loop-reader-init c = ([], lead_nowhere (spot_of c.args.all.now), refl, omega arith, refl, refl, restricted_by_none)

pub returns-in_err-restrictions-clause-fault : goal.returns-in_err-restrictions-clause-fault
returns-in_err-restrictions-clause-fault c =
    let at = c.loop-reader.invariant in
    let here = spot_of c.loop-reader.reader in
    let more : is_at_end here ≡ false = not_at_end c.loop-reader.reader c.is_at_end.result c.is_at_end.ensures c.loop-reader-test.true in
    exit _ _ c.in_err-restrictions.field-0.0 c.from_residual.ensures.1
    (at.5 ∙ ap (λ (x : List Spot). each_fault at.0 x) (spots_step here more)
    ∙ each_fails at.0 (spots_from (after here)) here _ (c.in_err-restrictions.ensures.fault at.0 at.1 at.2))

pub loop-reader-preserved : goal.loop-reader-preserved
loop-reader-preserved c =
    let at = c.loop-reader.invariant in
    let all = spot_of c.args.all.now in
    let here = spot_of c.loop-reader.reader in
    let more : is_at_end here ≡ false = not_at_end c.loop-reader.reader c.is_at_end.result c.is_at_end.ensures c.loop-reader-test.true in
    let clear = c.in_ok-restrictions.ensures.ok at.0 at.1 at.2 in
    let step = spots_step here more in
    let next = c.in_ok-restrictions.ensures.next in
    let earlier = at.0 ++ here ∷ [] in (
      earlier,
      subst (λ (s : Spot). LeadHere all earlier s) (sym next) (lead_more all at.0 here at.1 more (begins_from_none at.0 here clear)),
      omega (arith, at.2, length-append at.0 (here ∷ [])),
      omega (arith, c.in_ok-restrictions.ensures.few),
      at.4 ∙ ap (λ (x : List Spot). at.0 ++ x) step ∙ sym (append_assoc at.0 (here ∷ []) (spots_from (after here)))
          ∙ ap (λ (s : Spot). earlier ++ spots_from s) (sym next),
      at.5 ∙ ap (λ (x : List Spot). each_fault at.0 x) step ∙ each_step at.0 (spots_from (after here)) here clear ∙ or_none _
          ∙ ap (λ (s : Spot). each_fault earlier (spots_from s)) (sym next),
      restricted_more at.0 here (extensions_of c.loop-reader.restrictions) (extensions_of c.in_ok-restrictions.restrictions) (new_of at.0 here clear) at.6
          c.in_ok-restrictions.ensures.adds,
    )

pub returns-clause-ok : goal.returns-clause-ok
returns-clause-ok c =
    let at = c.loop-reader.invariant in
    let none = none_left c.loop-reader.reader (c.is_at_end.ensures.0 c.loop-reader-test.false) in
    at.5 ∙ ap (λ (x : List Spot). each_fault at.0 x) none ∙ no_more at.0

pub returns-clause-restricted : goal.returns-clause-restricted
returns-clause-restricted c =
    let at = c.loop-reader.invariant in
    let none = none_left c.loop-reader.reader (c.is_at_end.ensures.0 c.loop-reader-test.false) in
    let all = at.4 ∙ ap (λ (x : List Spot). at.0 ++ x) none ∙ append-nil at.0 in
    subst (λ (x : List Spot). RestrictedAt x (extensions_of c.loop-reader.restrictions)) (sym all) at.6
