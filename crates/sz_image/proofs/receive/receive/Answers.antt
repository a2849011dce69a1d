use Rattle.std.proofs.Common.{◌≡◌, ℕ, ◌<◌, Bool, true, false, List, ◌++◌, length, take, refl, sym, ◌∙◌, subst, arith}
use Rattle.std.proofs.lemmas.Grind.{common_steps}
use Rattle.std.specs.Option.{option_map}
use Rattle.sz_io.specs.Net.{after_refused_receive}
use Rattle.sz_exchange.proofs.Askings.{end_told, loses_told, may_told, more_told}
use Rattle.sz_image.specs.Coming.{Comes}
use Rattle.sz_image.specs.Reply.{IsRefused}
use Rattle.sz_image.specs.Request.{request_text}
use Rattle.sz_image.proofs.Comings.{begins_coming, blameless_net, blameless_room, blameless_stop, fails_told, no_cause, received_told, stops_told}
use Rattle.sz_image.proofs.Rooms.{same_on, same_refl}
use Rattle.sz_image.proofs.receive.receive.Goals as goal

pub pieces-init : goal.pieces-init
pieces-init g c = record {
  receiving = record {
    bytes = _;
    coming = begins_coming c.nothing-incoming.result c.args.reading.now (g.R.Room.held c.args.room.now) c.requires.began.0 c.requires.began.1
        (g.met.R.Room.sound c.args.room.now) c.nothing-incoming.ensures.hashed c.nothing-incoming.ensures.headed;
    asking = λ uri before asked. asked;
  };
  led = g.met.R.Room.led_same c.args.room.now;
  same = same_refl (g.R.Room.held c.args.room.now);
  net = refl;
  room = refl;
}

pub returns-in_default-clause-refused : goal.returns-in_default-clause-refused
returns-in_default-clause-refused g c uri hash before asked =
    let receiving = c.pieces.invariant.receiving in
    let failed : g.N.Net.traffic c.receive.new.self ≡ option_map after_refused_receive (g.N.Net.traffic c.pieces.net) = grind (arith, common_steps) in
    loses_told uri.target (request_text uri) receiving.bytes before (g.N.Net.traffic c.pieces.net) (g.N.Net.traffic c.receive.new.self)
    (receiving.asking uri before asked) failed

pub returns-in-Ok-end-clause-ok : goal.returns-in-Ok-end-clause-ok
returns-in-Ok-end-clause-ok g c uri before asked =
    let receiving = c.pieces.invariant.receiving in
    let first = g.R.Room.held c.args.room.now in
    let held = g.R.Room.held c.pieces.room in
    let same : first.space ≡ c.space.result = sym (c.space.ensures ∙ receiving.coming.holds.space) in
    let some : 0 < length c.receive.new.into = grind (arith, common_steps) in
    received_told uri c.end.new.self first held receiving.bytes c.digest.result true before (g.N.Net.traffic c.receive.new.self)
    (c.in-Ok-end.ensures.ok first held receiving.bytes same receiving.coming) c.digest.ensures
    (end_told uri.target (request_text uri) receiving.bytes c.receive.new.into c.in-Ok.count before (g.N.Net.traffic c.pieces.net)
    (g.N.Net.traffic c.receive.new.self) c.if-count-eq0.true some
    (receiving.asking uri before asked) c.in-Ok.ensures.ok)

pub returns-in-Err-clause-refused : goal.returns-in-Err-clause-refused
returns-in-Err-clause-refused g c uri hash before asked =
    let receiving = c.pieces.invariant.receiving in
    let first = g.R.Room.held c.args.room.now in
    let held = g.R.Room.held c.pieces.room in
    let same : first.space ≡ c.space.result = sym (c.space.ensures ∙ receiving.coming.holds.space) in
    let some : 0 < length c.receive.new.into = grind (arith, common_steps) in
    let is : IsRefused c.space.result hash receiving.bytes true c.in-Err.fault = c.in-Err.ensures.refused first held hash receiving.bytes same receiving.coming in
    fails_told uri hash receiving.bytes first.space true c.in-Err.fault before (g.N.Net.traffic c.receive.new.self)
    (subst (λ (s : ℕ). IsRefused s hash receiving.bytes true c.in-Err.fault) (sym same) is)
    (end_told uri.target (request_text uri) receiving.bytes c.receive.new.into c.in-Ok.count before (g.N.Net.traffic c.pieces.net)
    (g.N.Net.traffic c.receive.new.self) c.if-count-eq0.true some
    (receiving.asking uri before asked) c.in-Ok.ensures.ok)

pub returns-in-Err-clause-lost : goal.returns-in-Err-clause-lost
returns-in-Err-clause-lost g c =
    let receiving = c.pieces.invariant.receiving in
    let first = g.R.Room.held c.args.room.now in
    let held = g.R.Room.held c.pieces.room in
    let same : first.space ≡ c.space.result = sym (c.space.ensures ∙ receiving.coming.holds.space) in
    let is : IsRefused c.space.result receiving.bytes receiving.bytes true c.in-Err.fault =
    c.in-Err.ensures.refused first held receiving.bytes receiving.bytes same receiving.coming in
    no_cause (g.N.Net.faults c.args.net.now) (g.N.Net.faults c.receive.new.self) _ (c.in-Ok.ensures.cause.stood refl ∙ c.pieces.invariant.net)
    (blameless_net (List ℕ) c.space.result receiving.bytes receiving.bytes true c.in-Err.fault is)

pub returns-in-Err-clause-disk_fault : goal.returns-in-Err-clause-disk_fault
returns-in-Err-clause-disk_fault g c =
    let receiving = c.pieces.invariant.receiving in
    let first = g.R.Room.held c.args.room.now in
    let held = g.R.Room.held c.pieces.room in
    let same : first.space ≡ c.space.result = sym (c.space.ensures ∙ receiving.coming.holds.space) in
    let is : IsRefused c.space.result receiving.bytes receiving.bytes true c.in-Err.fault =
    c.in-Err.ensures.refused first held receiving.bytes receiving.bytes same receiving.coming in
    no_cause (g.R.Room.held c.args.room.now).faults (g.R.Room.held c.pieces.room).faults _ c.pieces.invariant.room
    (blameless_room (List ℕ) c.space.result receiving.bytes receiving.bytes true c.in-Err.fault is)

pub returns-in-Ok-true-clause-ok : goal.returns-in-Ok-true-clause-ok
returns-in-Ok-true-clause-ok g c uri before asked =
    let receiving = c.pieces.invariant.receiving in
    let first = g.R.Room.held c.args.room.now in
    let held = g.R.Room.held c.take.new.room in
    let piece = take c.in-Ok.count c.receive.new.into in
    let some : 0 < c.in-Ok.count = omega arith in
    let come =
    subst (λ (whole : Bool). Comes whole c.take.new.self c.take.new.reading first held (receiving.bytes ++ piece)) c.in-Ok-true.field-0-test
    (c.in-Ok-true.ensures.ok first receiving.bytes receiving.coming) in
    received_told uri c.take.new.self first held (receiving.bytes ++ piece) c.digest-in-Ok-true.result false before (g.N.Net.traffic c.receive.new.self) come
    c.digest-in-Ok-true.ensures
    (more_told uri.target (request_text uri) receiving.bytes c.receive.new.into piece c.in-Ok.count before (g.N.Net.traffic c.pieces.net)
    (g.N.Net.traffic c.receive.new.self) some refl
    (receiving.asking uri before asked) c.in-Ok.ensures.ok)

pub returns-in-Err-take-clause-refused : goal.returns-in-Err-take-clause-refused
returns-in-Err-take-clause-refused g c uri hash before asked =
    let receiving = c.pieces.invariant.receiving in
    let first = g.R.Room.held c.args.room.now in
    let piece = take c.in-Ok.count c.receive.new.into in
    let some : 0 < c.in-Ok.count = omega arith in
    stops_told uri hash (receiving.bytes ++ piece) first.space c.in-Err-take.fault before (g.N.Net.traffic c.receive.new.self)
    (c.in-Err-take.ensures.refused first hash receiving.bytes receiving.coming)
    (more_told uri.target (request_text uri) receiving.bytes c.receive.new.into piece c.in-Ok.count before (g.N.Net.traffic c.pieces.net)
    (g.N.Net.traffic c.receive.new.self) some refl
    (receiving.asking uri before asked) c.in-Ok.ensures.ok)

pub returns-in-Err-take-clause-lost : goal.returns-in-Err-take-clause-lost
returns-in-Err-take-clause-lost g c =
    let receiving = c.pieces.invariant.receiving in
    let first = g.R.Room.held c.args.room.now in
    let piece = take c.in-Ok.count c.receive.new.into in
    no_cause (g.N.Net.faults c.args.net.now) (g.N.Net.faults c.receive.new.self) _ (c.in-Ok.ensures.cause.stood refl ∙ c.pieces.invariant.net)
    (blameless_stop (List ℕ) first.space receiving.bytes (receiving.bytes ++ piece) c.in-Err-take.fault
    (c.in-Err-take.ensures.refused first receiving.bytes receiving.bytes receiving.coming))

pub pieces-preserved : goal.pieces-preserved
pieces-preserved g c =
    let receiving = c.pieces.invariant.receiving in
    let first = g.R.Room.held c.args.room.now in
    let piece = take c.in-Ok.count c.receive.new.into in
    let some : 0 < c.in-Ok.count = omega arith in
    record {
      receiving = record {
        bytes = receiving.bytes ++ piece;
        coming =
            subst (λ (whole : Bool). Comes whole c.take.new.self c.take.new.reading first (g.R.Room.held c.take.new.room) (receiving.bytes ++ piece))
            c.in-Ok-false.field-0-test (c.in-Ok-false.ensures.ok first receiving.bytes receiving.coming);
        asking = λ uri before asked.
            more_told uri.target (request_text uri) receiving.bytes c.receive.new.into piece c.in-Ok.count before (g.N.Net.traffic c.pieces.net)
            (g.N.Net.traffic c.receive.new.self) some refl
            (receiving.asking uri before asked) c.in-Ok.ensures.ok;
      };
      led = g.met.R.Room.led_on c.args.room.now c.pieces.room c.take.new.room c.pieces.invariant.led c.take.ensures.led.0;
      same = same_on (g.R.Room.held c.args.room.now) (g.R.Room.held c.pieces.room) (g.R.Room.held c.take.new.room) c.pieces.invariant.same c.take.ensures.led.1;
      net = c.in-Ok.ensures.cause.stood refl ∙ c.pieces.invariant.net;
      room = c.in-Ok-false.ensures.cause.stood refl ∙ c.pieces.invariant.room;
    }

pub returns-clause-refused : goal.returns-clause-refused
returns-clause-refused g c uri hash before asked =
    let receiving = c.pieces.invariant.receiving in
    may_told uri.target (request_text uri) receiving.bytes before (g.N.Net.traffic c.pieces.net) (receiving.asking uri before asked)
