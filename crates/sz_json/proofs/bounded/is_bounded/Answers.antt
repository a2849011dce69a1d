use Rattle.std.proofs.Common.{◌<◌, refl, sym, ◌∙◌, zero-add, arith}
use Rattle.sz_json.proofs.Marks.{marks_from, marks_from-end, marks_in-from, one_more}
use Rattle.sz_json.specs.Bounded.{marks_in}
use Rattle.sz_json.specs.declared.bounded.Place.TheVariants.{Outside}
use Rattle.sz_json.proofs.bounded.is_bounded.Goals as goal
use Rattle.sz_json.proofs.bounded.is_bounded.Goals.{then-is_mark+else-marks-eq-MOST_MARKS, else-is_mark}

pub loop-byte-init : goal.loop-byte-init
loop-byte-init c = record {
  few = omega arith;
  counted = marks_in-from c.args.text.now ∙ sym (zero-add (marks_from Outside c.args.text.now));
}

pub loop-byte-preserved : goal.loop-byte-preserved
loop-byte-preserved c =
    let text = c.args.text.now in
    let inside : c.loop-byte.byte-index < _ = c.loop-byte-test.true in
    let more = one_more c.loop-byte.place c.behind-place.result text c.loop-byte.byte-index (marks_in text) c.loop-byte.marks c.is_mark.result inside
    c.loop-byte.invariant.counted c.is_mark.ensures c.behind-place.ensures in
    elim c.if-is_mark.branch [
      | then-is_mark+else-marks-eq-MOST_MARKS w ↦
          let counted = rw w.if-is_mark.true at more in
          record { few = omega (arith, w.marks-is, w.if-marks-eq-MOST_MARKS.false, c.loop-byte.invariant.few); counted = omega (arith, w.marks-is, counted) }
      | else-is_mark w ↦
          let counted = rw w.if-is_mark.false at more in
          record { few = omega (arith, w.marks-is, c.loop-byte.invariant.few); counted = omega (arith, w.marks-is, counted) }
    ]

pub returns : goal.returns
returns c =
    let text = c.args.text.now in
    let none = marks_from-end c.loop-byte.place text c.loop-byte.byte-index c.loop-byte-test.false in
    (λ _. omega (arith, none, c.loop-byte.invariant.few, c.loop-byte.invariant.counted), λ _. refl)
