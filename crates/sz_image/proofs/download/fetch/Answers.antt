use Rattle.std.proofs.Common.{◌≡◌, ℕ, List, Option, Err, refl, sym, subst, arith}
use Rattle.std.proofs.lemmas.Grind.{common_steps}
use Rattle.std.proofs.lemmas.Result.{IfErr-weaker, IfOk-weaker}
use Rattle.sz_base.specs.declared.fault.BaseFault.TheVariants.{Form}
use Rattle.sz_io.specs.Net.{Traffic}
use Rattle.sz_uri.specs.Uri.{IsUri}
use Rattle.sz_image.specs.Fetch.{Brings, Fails}
use Rattle.sz_image.proofs.Choices.{adds_nothing}
use Rattle.sz_image.proofs.Comings.{fails_for}
use Rattle.sz_image.proofs.download.fetch.Goals as goal

pub returns-in-Err-Form-clause-refused : goal.returns-in-Err-Form-clause-refused
returns-in-Err-Form-clause-refused g c =
    let form : c.read.result ≡ Err Form = grind (arith, common_steps) in
    (λ uri is. c.read.ensures.refused form uri (subst (λ (text : List ℕ). IsUri text uri) (sym c.as_slice.ensures) is), refl)

pub returns-in-Err-OutOfMemory-clause-refused : goal.returns-in-Err-OutOfMemory-clause-refused
returns-in-Err-OutOfMemory-clause-refused g c = adds_nothing (g.N.Net.traffic c.args.net.now)

pub returns-in_default-clause-refused : goal.returns-in_default-clause-refused
returns-in_default-clause-refused g c = adds_nothing (g.N.Net.traffic c.args.net.now)

pub returns-in_default-vec-clause-refused : goal.returns-in_default-vec-clause-refused
returns-in_default-vec-clause-refused g c = adds_nothing (g.N.Net.traffic c.args.net.now)

pub returns-clause-ok : goal.returns-clause-ok
returns-clause-ok g c =
    let is = subst (λ (text : List ℕ). IsUri text c.in-Ok.uri) c.as_slice.ensures c.in-Ok.ensures.ok in
    IfOk-weaker c.exchange-answer.result _ _
    (λ size brings. (
      c.in-Ok.uri,
      is,
      subst
          (λ (now : Option Traffic).
          Brings c.in-Ok.uri c.args.hash.now size (g.R.Room.held c.args.room.now) (g.R.Room.held c.exchange-answer.new.room)
          (g.N.Net.traffic c.args.net.now) now) (sym c.close.ensures.closed) brings,
    ))
    c.exchange-answer.ensures.ok

pub returns-clause-refused : goal.returns-clause-refused
returns-clause-refused g c =
    let is = subst (λ (text : List ℕ). IsUri text c.in-Ok.uri) c.as_slice.ensures c.in-Ok.ensures.ok in
    IfErr-weaker c.exchange-answer.result _ _
    (λ fault fails.
    fails_for c.args.uri.now c.args.hash.now c.in-Ok.uri (g.R.Room.held c.args.room.now).space fault (g.N.Net.traffic c.args.net.now)
    (g.N.Net.traffic c.close.new.self) is
    (subst
    (λ (now : Option Traffic). Fails c.in-Ok.uri c.args.hash.now (g.R.Room.held c.args.room.now).space fault (g.N.Net.traffic c.args.net.now) now)
    (sym c.close.ensures.closed) fails))
    c.exchange-answer.ensures.refused
