use Rattle.std.proofs.Common.{◌≡◌, ℕ, ◌-◌, ◌<◌, List, ◌++◌, length, take, drop, Bool, false, refl, sym, ap, ◌∙◌, subst, arith, append_assoc, length-drop}
use Rattle.std.proofs.Math.Seq.{take-add}
use Rattle.std.proofs.lemmas.List.{take-append-drop, take_rest}
use Rattle.sz_disk.specs.Room.{Held}
use Rattle.sz_image.specs.Coming.{HasCome, IsComing}
use Rattle.sz_image.specs.Reply.{IsRefused}
use Rattle.sz_image.proofs.Comings.{blameless_room, came_more, came_whole, front_of, has_room, moved, no_cause, refusal_of, stops_for}
use Rattle.sz_image.proofs.Replies.{refused_cut}
use Rattle.sz_image.proofs.Rooms.{same_on, same_put}
use Rattle.sz_image.proofs.incoming.Incoming.take.Goals as goal

pub returns-in-Err-clause-refused : goal.returns-in-Err-clause-refused
returns-in-Err-clause-refused g c first hash bytes given =
    let coming = c.loop-at.invariant.coming first bytes given in
    let piece = c.args.piece.now in
    let front = bytes ++ take c.loop-at.at piece in
    stops_for first.space hash (bytes ++ piece) c.in-Err.fault
    (refused_cut first.space hash bytes piece c.loop-at.at c.in-Err.fault
    (subst (λ (t : List ℕ). IsRefused first.space hash (front ++ t) false c.in-Err.fault) (take_rest piece c.loop-at.at)
    (refusal_of c.loop-at.self c.loop-at.reading first (g.R.Room.held c.loop-at.room) front (take (length piece - c.loop-at.at) (drop c.loop-at.at piece))
    c.space.result c.in-Err.fault coming c.space.ensures c.in-Err.ensures.refused hash)))

pub returns-in-Err-clause-cause : goal.returns-in-Err-clause-cause
returns-in-Err-clause-cause g c =
    let first = c.requires.0 in
    let bytes = c.requires.1 in
    let coming = c.loop-at.invariant.coming first bytes c.requires.2 in
    let piece = c.args.piece.now in
    let front = bytes ++ take c.loop-at.at piece in
    let rest = take (length piece - c.loop-at.at) (drop c.loop-at.at piece) in
    let is =
    refusal_of c.loop-at.self c.loop-at.reading first (g.R.Room.held c.loop-at.room) front rest c.space.result c.in-Err.fault coming
    c.space.ensures c.in-Err.ensures.refused piece in
    no_cause (g.R.Room.held c.args.room.now).faults (g.R.Room.held c.loop-at.room).faults _ c.loop-at.invariant.faults
    (blameless_room Bool first.space piece (front ++ rest) false c.in-Err.fault is)

pub put-requires : goal.put-requires
put-requires g c =
    let first = c.requires.0 in
    let bytes = c.requires.1 in
    let coming = c.loop-at.invariant.coming first bytes c.requires.2 in
    let front = bytes ++ take c.loop-at.at c.args.piece.now in
    let piece = c.args.piece.now in
    let rest = take (length piece - c.loop-at.at) (drop c.loop-at.at piece) in
    let cut : length rest ≡ length (drop c.loop-at.at piece) = ap length (take_rest piece c.loop-at.at) in
    let headed = c.take_front.new.self.headed in
    has_room c.loop-at.self c.loop-at.reading c.take_front.new.reading first (g.R.Room.held c.loop-at.room) front rest headed c.in-Ok.fed coming
    (front_of c.loop-at.self c.loop-at.reading c.take_front.new.reading first (g.R.Room.held c.loop-at.room) front rest c.space.result headed c.in-Ok.fed coming
    c.space.ensures c.in-Ok.ensures.ok)

pub returns-then-fed-clause-ok : goal.returns-then-fed-clause-ok
returns-then-fed-clause-ok g c first bytes given =
    let coming = c.loop-at.invariant.coming first bytes given in
    let at = c.loop-at.at in
    let piece = c.args.piece.now in
    let front = bytes ++ take at piece in
    let rest = take (length piece - at) (drop at piece) in
    let fed = c.in-Ok.fed in
    let took =
    front_of c.loop-at.self c.loop-at.reading c.take_front.new.reading first (g.R.Room.held c.loop-at.room) front rest c.space.result
    c.take_front.new.self.headed fed coming c.space.ensures c.in-Ok.ensures.ok in
    let whole : (front ++ take fed.used rest) ++ drop fed.used rest ≡ bytes ++ piece =
    append_assoc front (take fed.used rest) (drop fed.used rest) ∙ ap (λ (t : List ℕ). front ++ t) (take-append-drop fed.used rest)
    ∙ ap (λ (t : List ℕ). front ++ t) (take_rest piece at) ∙ append_assoc bytes (take at piece) (drop at piece)
    ∙ ap (λ (t : List ℕ). bytes ++ t) (take-append-drop at piece) in
    subst (λ (t : List ℕ). HasCome c.put.new.self first (g.R.Room.held c.put.new.room) t false) whole
    (came_whole c.loop-at.self c.take_front.new.self c.put.new.self c.loop-at.reading c.take_front.new.reading first (g.R.Room.held c.loop-at.room)
    (g.R.Room.held c.put.new.room) front rest (drop fed.used rest) fed coming took c.if-fed.true c.take_front.ensures.hasher c.in-Ok-put.ensures.hashed
    c.in-Ok-put.ensures.ok)

pub overflow_add-at : goal.overflow_add-at
overflow_add-at g c =
    let first = c.requires.0 in
    let bytes = c.requires.1 in
    let coming = c.loop-at.invariant.coming first bytes c.requires.2 in
    let front = bytes ++ take c.loop-at.at c.args.piece.now in
    let piece = c.args.piece.now in
    let rest = take (length piece - c.loop-at.at) (drop c.loop-at.at piece) in
    let cut : length rest ≡ length (drop c.loop-at.at piece) = ap length (take_rest piece c.loop-at.at) in
    let took =
    front_of c.loop-at.self c.loop-at.reading c.take_front.new.reading first (g.R.Room.held c.loop-at.room) front rest c.space.result
    c.take_front.new.self.headed c.in-Ok.fed coming c.space.ensures c.in-Ok.ensures.ok in
    omega (arith, took.within, length-drop c.loop-at.at c.args.piece.now)

pub loop-at-smaller : goal.loop-at-smaller
loop-at-smaller g c =
    let first = c.requires.0 in
    let bytes = c.requires.1 in
    let coming = c.loop-at.invariant.coming first bytes c.requires.2 in
    let front = bytes ++ take c.loop-at.at c.args.piece.now in
    let piece = c.args.piece.now in
    let rest = take (length piece - c.loop-at.at) (drop c.loop-at.at piece) in
    let cut : length rest ≡ length (drop c.loop-at.at piece) = ap length (take_rest piece c.loop-at.at) in
    let headed = c.take_front.new.self.headed in
    let took =
    front_of c.loop-at.self c.loop-at.reading c.take_front.new.reading first (g.R.Room.held c.loop-at.room) front rest c.space.result headed c.in-Ok.fed coming
    c.space.ensures c.in-Ok.ensures.ok in
    let some : 0 < length rest = omega (arith, length-drop c.loop-at.at c.args.piece.now) in
    let on = moved first.space front coming.body rest c.take_front.new.reading headed c.in-Ok.fed took some c.if-fed.false in
    omega (arith, on, took.within, length-drop c.loop-at.at c.args.piece.now)

pub loop-at-preserved : goal.loop-at-preserved
loop-at-preserved g c =
    let at = c.loop-at.at in
    let piece = c.args.piece.now in
    let rest = take (length piece - at) (drop at piece) in
    let is : rest ≡ drop at piece = take_rest piece at in
    let cut : length rest ≡ length (drop at piece) = ap length is in
    let fed = c.in-Ok.fed in
    let took =
    λ (first : Held) (bytes : List ℕ) (given : IsComing c.args.self.now c.args.reading.now first (g.R.Room.held c.args.room.now) bytes).
    front_of c.loop-at.self c.loop-at.reading c.take_front.new.reading first (g.R.Room.held c.loop-at.room) (bytes ++ take at piece) rest c.space.result
    c.take_front.new.self.headed fed (c.loop-at.invariant.coming first bytes given) c.space.ensures c.in-Ok.ensures.ok in
    record {
      within = omega (arith, (took c.requires.0 c.requires.1 c.requires.2).within, length-drop at piece);
      coming = λ first bytes given.
          subst (λ (t : List ℕ). IsComing c.put.new.self c.take_front.new.reading first (g.R.Room.held c.put.new.room) t)
          (ap (λ (t : List ℕ). (bytes ++ take at piece) ++ take fed.used t) is ∙ append_assoc bytes (take at piece) (take fed.used (drop at piece)) ∙ ap
          (λ (t : List ℕ). bytes ++ t) (sym (take-add at fed.used piece)))
          (came_more c.loop-at.self c.take_front.new.self c.put.new.self c.loop-at.reading c.take_front.new.reading first (g.R.Room.held c.loop-at.room)
          (g.R.Room.held c.put.new.room) (bytes ++ take at piece) rest fed (c.loop-at.invariant.coming first bytes given) (took first bytes given)
          c.take_front.ensures.hasher c.put.ensures.headed c.in-Ok-put.ensures.hashed c.in-Ok-put.ensures.ok);
      same = same_on (g.R.Room.held c.args.room.now) (g.R.Room.held c.loop-at.room) (g.R.Room.held c.put.new.room) c.loop-at.invariant.same
          (same_put fed.body.now (g.R.Room.held c.loop-at.room) (g.R.Room.held c.put.new.room) c.in-Ok-put.ensures.ok);
      led = g.met.R.Room.led_on c.args.room.now c.loop-at.room c.put.new.room c.loop-at.invariant.led c.put.ensures.led;
      faults = c.in-Ok-put.ensures.cause.stood refl ∙ c.loop-at.invariant.faults;
      side = c.take_front.ensures.side ∙ c.loop-at.invariant.side;
    }

pub returns-in-Err-put-clause-led : goal.returns-in-Err-put-clause-led
returns-in-Err-put-clause-led g c = (
  g.met.R.Room.led_on c.args.room.now c.loop-at.room c.put.new.room c.loop-at.invariant.led c.put.ensures.led,
  same_on (g.R.Room.held c.args.room.now) (g.R.Room.held c.loop-at.room) (g.R.Room.held c.put.new.room) c.loop-at.invariant.same
      c.in-Err-put.ensures.refused.1,
)

pub returns-then-fed-clause-led : goal.returns-then-fed-clause-led
returns-then-fed-clause-led g c = (
  g.met.R.Room.led_on c.args.room.now c.loop-at.room c.put.new.room c.loop-at.invariant.led c.put.ensures.led,
  same_on (g.R.Room.held c.args.room.now) (g.R.Room.held c.loop-at.room) (g.R.Room.held c.put.new.room) c.loop-at.invariant.same
      (same_put c.in-Ok.fed.body.now (g.R.Room.held c.loop-at.room) (g.R.Room.held c.put.new.room) c.in-Ok-put.ensures.ok),
)
