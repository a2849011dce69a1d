use Rattle.std.proofs.Common.{ℕ, List, [], ap, sym, ◌∙◌, refl, subst, arith, append-nil}
use Rattle.sz_chain.specs.Places.{AreOf}
use Rattle.sz_chain.proofs.Reading.{added_none, added_one, all_strings}
use Rattle.sz_chain.proofs.Standing.{none_of}
use Rattle.sz_chain.proofs.place.add_readable.Goals as goal
use Rattle.sz_chain.proofs.place.add_readable.Goals.{in-Ok, in_default}

pub loop-bytes-init : goal.loop-bytes-init
loop-bytes-init c = ([], sym (append-nil c.args.places.now.items), none_of c.args.is_anchor, omega arith)

pub loop-bytes-preserved : goal.loop-bytes-preserved
loop-bytes-preserved c =
    let items = c.as_slice-bytes-items.result.now in
    let i = c.loop-bytes.bytes-index in
    elim c.match-read.branch [
      | in-Ok w ↦
          added_one items i _ c.loop-bytes-test.true c.args.is_anchor c.args.places.now.items c.loop-bytes.places.items c.match-read.places.items _ refl
          (ap (λ v. v.items) w.places-is ∙ w.push.ensures.items) w.in-Ok.ensures.ok w.in-Ok.ensures.only c.loop-bytes.invariant
      | in_default w ↦
          added_none items i _ c.loop-bytes-test.true c.args.is_anchor c.args.places.now.items c.loop-bytes.places.items c.match-read.places.items
          (ap (λ v. v.items) w.places-is) w.in_default.ensures.only c.loop-bytes.invariant
    ]

pub returns : goal.returns
returns c =
    let added = c.loop-bytes.invariant in (
      added.0,
      added.1,
      subst (λ (s : List (List ℕ)). AreOf c.args.is_anchor s added.0)
          (all_strings c.as_slice-bytes-items.result.now c.loop-bytes.bytes-index c.args.certs.now c.as_slice-bytes-items.ensures.each c.loop-bytes-test.false)
          added.2,
      omega (arith, added.3, c.as_slice-bytes-items.ensures.few),
    )
