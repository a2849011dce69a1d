use Rattle.std.proofs.Common.{◌≡◌, false, List, sym, ap, ◌∙◌}
use Rattle.sz_der.specs.Spots.{after, each, is_at_end, Spot, spot_of, spots_from}
use Rattle.sz_der.proofs.Steps.{exit, not_at_end}
use Rattle.sz_der.proofs.SpotLists.{spots_step}
use Rattle.sz_x509.specs.CrlFault.{entry_fault}
use Rattle.sz_x509.proofs.Each.{each_of_none, each_on, each_stops}
use Rattle.sz_x509.proofs.Walking.{none_left, or_none}
use Rattle.sz_x509.proofs.entries.read_entries.Goals as goal

pub returns-in_err-take_entry-clause-fault : goal.returns-in_err-take_entry-clause-fault
returns-in_err-take_entry-clause-fault c =
    let here = spot_of c.loop-reader.reader in
    let more : is_at_end here ≡ false = not_at_end c.loop-reader.reader c.is_at_end.result c.is_at_end.ensures c.loop-reader-test.true in
    exit _ _ c.in_err-take_entry.field-0.0 c.from_residual.ensures.1
    (c.loop-reader.invariant ∙ ap (λ (x : List Spot). each entry_fault x) (spots_step here more)
    ∙ each_stops entry_fault here (spots_from (after here)) _ c.in_err-take_entry.ensures.fault)

pub loop-reader-preserved : goal.loop-reader-preserved
loop-reader-preserved c =
    let here = spot_of c.loop-reader.reader in
    let more : is_at_end here ≡ false = not_at_end c.loop-reader.reader c.is_at_end.result c.is_at_end.ensures c.loop-reader-test.true in
    c.loop-reader.invariant ∙ ap (λ (x : List Spot). each entry_fault x) (spots_step here more)
    ∙ each_on entry_fault here (spots_from (after here)) c.in_ok-take_entry.ensures.ok ∙ or_none _
    ∙ ap (λ (s : Spot). each entry_fault (spots_from s)) (sym c.in_ok-take_entry.ensures.next)

pub returns-clause-ok : goal.returns-clause-ok
returns-clause-ok c =
    let none = none_left c.loop-reader.reader (c.is_at_end.ensures.0 c.loop-reader-test.false) in
    c.loop-reader.invariant ∙ ap (λ (x : List Spot). each entry_fault x) none ∙ each_of_none entry_fault
