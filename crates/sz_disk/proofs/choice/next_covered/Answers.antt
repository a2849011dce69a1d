use Rattle.std.proofs.Common.{◌≡◌, ◌+◌, ◌++◌, [], ◌∷◌, take, sym, ap, ◌∙◌, arith}
use Rattle.std.proofs.lemmas.List.{take_more}
use Rattle.sz_disk.proofs.Covered.{found-same, found-nearer, found-all, none-found}
use Rattle.sz_disk.proofs.choice.next_covered.Goals as goal
use Rattle.sz_disk.proofs.choice.next_covered.Goals.{in-Some, in_default}

pub loop-event-preserved : goal.loop-event-preserved
loop-event-preserved c =
    let xs = c.args.pending.now in
    let i = c.loop-event.event-index in
    let e : take (i + 1) xs ≡ take i xs ++ c.event-item.result ∷ [] =
    take_more xs i c.event-item.result c.loop-event-test.true ∙ ap (λ x. take i xs ++ x ∷ []) (sym c.event-item.is) in
    elim c.match-covered_place.branch [
      | in-Some w ↦
          let so = found-nearer (take i xs) c.event-item.result c.args.from c.args.end c.loop-event.first c.loop-event.found
          (w.in-Some.place, w.in-Some.old) c.loop-event.invariant.within c.loop-event.invariant.so_far w.in-Some.ensures in
          record {
            within = omega (arith, w.in-Some.ensures.within);
            so_far = rw (e, w.first-is, w.found-is) so;
          }
      | in_default w ↦
          let so = found-same (take i xs) c.event-item.result c.args.from c.args.end c.loop-event.first c.loop-event.found c.loop-event.invariant.so_far
          (none-found (c.event-item.result ∷ []) c.args.from c.loop-event.first c.covered_place.result c.covered_place.ensures w.in_default.not-Some) in
          record {
            within = omega arith;
            so_far = rw (e, w.first-is, w.found-is) so;
          }
    ]

pub returns : goal.returns
returns c =
    found-all c.args.pending.now c.loop-event.event-index c.args.from c.args.end c.loop-event.first c.loop-event.found
    c.loop-event-test.false c.loop-event.invariant.so_far
