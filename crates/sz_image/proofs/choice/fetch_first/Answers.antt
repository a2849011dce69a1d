use Rattle.std.proofs.Common.{ℕ, suc, ◌+◌, List, [], ◌∷◌, ◌++◌, take, drop, refl, sym, ◌∙◌, subst}
use Rattle.std.proofs.lemmas.List.{take_all}
use Rattle.sz_base.specs.declared.image.ImageFault.{ImageFault}
use Rattle.sz_image.specs.Downloads.{BringsFirst, BringsNone, RefusesAll}
use Rattle.sz_image.specs.Fetch.{FailsFor}
use Rattle.sz_image.proofs.Choices.{brings_first, cut_here, ends_so, goes_blameless, refuses_more, refuses_none, tried_one}
use Rattle.sz_image.proofs.Rooms.{same_on, same_refl}
use Rattle.sz_image.proofs.choice.fetch_first.Goals as goal

pub loop-uri-init : goal.loop-uri-init
loop-uri-init g c =
    let net = c.args.net.now in
    record {
      all =
          subst
          (λ (faults : List ImageFault).
          RefusesAll c.args.hash.now (g.R.Room.held c.args.room.now).space [] faults (g.N.Net.faults net) (g.N.Net.faults net) (g.N.Net.traffic net)
          (g.N.Net.traffic net))
          (sym c.create-faults.ensures) (refuses_none c.args.hash.now (g.R.Room.held c.args.room.now).space (g.N.Net.faults net) (g.N.Net.traffic net));
      led = g.met.R.Room.led_same c.args.room.now;
      same = same_refl (g.R.Room.held c.args.room.now);
      faults = refl;
      side = c.requires;
    }

pub loop-uri-preserved : goal.loop-uri-preserved
loop-uri-preserved g c =
    let items = c.as_slice-uri-items.result.now in
    let i = c.loop-uri.uri-index in
    let text = c.uri-item.result in
    let fault = c.in-Err.fault in
    let hash = c.args.hash.now in
    let first = g.R.Room.held c.args.room.now in
    let from = g.N.Net.faults c.args.net.now in
    let to = g.N.Net.faults c.loop-uri.net in
    let count = g.N.Net.faults c.fetch.new.net in
    let before = g.N.Net.traffic c.args.net.now in
    let middle = g.N.Net.traffic c.loop-uri.net in
    let now = g.N.Net.traffic c.fetch.new.net in
    let fails = subst (λ (space : ℕ). FailsFor text hash space fault middle now) c.loop-uri.invariant.same.space c.in-Err.ensures.refused in
    let goes = c.in-Ok-note.ensures.ok.0 in
    let all =
    refuses_more hash first.space (take i items) text c.loop-uri.faults fault from to count before middle now c.loop-uri.invariant.all goes fails
    c.in-Err.ensures.lost in
    record {
      all =
          subst (λ (faults : List ImageFault). RefusesAll hash first.space (take (i + 1) items) faults from count before now) (sym c.in-Ok-note.ensures.ok.1)
          (subst (λ (texts : List (List ℕ)). RefusesAll hash first.space texts (c.loop-uri.faults ++ fault ∷ []) from count before now)
          (sym (tried_one items i text c.loop-uri-test.true c.uri-item.is)) all);
      led = g.met.R.Room.led_on c.args.room.now c.loop-uri.room c.fetch.new.room c.loop-uri.invariant.led c.fetch.ensures.led.0;
      same = same_on first (g.R.Room.held c.loop-uri.room) (g.R.Room.held c.fetch.new.room) c.loop-uri.invariant.same c.fetch.ensures.led.1;
      faults = c.in-Err.ensures.disk_fault.stood (goes_blameless ℕ fault goes) ∙ c.loop-uri.invariant.faults;
      side = c.fetch.ensures.side;
    }

pub returns-in-Ok-clause-ok : goal.returns-in-Ok-clause-ok
returns-in-Ok-clause-ok g c =
    let items = c.as_slice-uri-items.result.now in
    let i = c.loop-uri.uri-index in
    let text = c.uri-item.result in
    let hash = c.args.hash.now in
    let first = g.R.Room.held c.args.room.now in
    let begun = g.R.Room.held c.loop-uri.room in
    let held = g.R.Room.held c.fetch.new.room in
    let from = g.N.Net.faults c.args.net.now in
    let to = g.N.Net.faults c.loop-uri.net in
    let count = g.N.Net.faults c.fetch.new.net in
    let before = g.N.Net.traffic c.args.net.now in
    let middle = g.N.Net.traffic c.loop-uri.net in
    let now = g.N.Net.traffic c.fetch.new.net in
    let given = c.in-Ok.ensures.ok in
    subst (λ (texts : List (List ℕ)). BringsFirst hash texts c.in-Ok.size first held from count before now)
    (sym (cut_here items i text c.loop-uri-test.true c.uri-item.is) ∙ c.as_slice-uri-items.ensures)
    (brings_first hash (take i items) (drop (suc i) items) text c.loop-uri.faults c.in-Ok.size given.0 first begun held from to count before middle now
    c.loop-uri.invariant.all c.loop-uri.invariant.same given.1 given.2 c.in-Ok.ensures.lost)

pub returns-in-Err-note-clause-refused : goal.returns-in-Err-note-clause-refused
returns-in-Err-note-clause-refused g c =
    let items = c.as_slice-uri-items.result.now in
    let i = c.loop-uri.uri-index in
    let text = c.uri-item.result in
    let fault = c.in-Err.fault in
    let why = c.in-Err-note.why in
    let hash = c.args.hash.now in
    let first = g.R.Room.held c.args.room.now in
    let from = g.N.Net.faults c.args.net.now in
    let to = g.N.Net.faults c.loop-uri.net in
    let count = g.N.Net.faults c.fetch.new.net in
    let before = g.N.Net.traffic c.args.net.now in
    let middle = g.N.Net.traffic c.loop-uri.net in
    let now = g.N.Net.traffic c.fetch.new.net in
    let fails = subst (λ (space : ℕ). FailsFor text hash space fault middle now) c.loop-uri.invariant.same.space c.in-Err.ensures.refused in
    subst (λ (texts : List (List ℕ)). BringsNone hash first.space texts from count before now why)
    (sym (cut_here items i text c.loop-uri-test.true c.uri-item.is) ∙ c.as_slice-uri-items.ensures)
    (ends_so hash first.space (take i items) (drop (suc i) items) text c.loop-uri.faults fault why from to count before middle now c.in-Err-note.ensures.ends
    c.loop-uri.invariant.all fails c.in-Err.ensures.lost)

pub returns-clause-refused : goal.returns-clause-refused
returns-clause-refused g c =
    subst
    (λ (texts : List (List ℕ)).
    RefusesAll c.args.hash.now (g.R.Room.held c.args.room.now).space texts c.loop-uri.faults (g.N.Net.faults c.args.net.now) (g.N.Net.faults c.loop-uri.net)
    (g.N.Net.traffic c.args.net.now) (g.N.Net.traffic c.loop-uri.net))
    (take_all c.loop-uri.uri-index c.as_slice-uri-items.result.now c.loop-uri-test.false ∙ c.as_slice-uri-items.ensures) c.loop-uri.invariant.all
