use Rattle.std.proofs.Common.{ap, refl, ◌+◌, ◌∙◌}
use Rattle.std.proofs.lemmas.Result.{err_from_is_err_and}
use Rattle.sz_state.specs.Layout.{area_place}
use Rattle.sz_state.proofs.Pieces.{put-done, put-led, put-refused}
use Rattle.sz_state.proofs.room.StagingRoom.put.Goals as goal

pub returns-in_err-write_at-clause-err : goal.returns-in_err-write_at-clause-err
returns-in_err-write_at-clause-err g c =
    let staging = c.args.self.now in
    let p = err_from_is_err_and c.from_residual.result c.from_residual.ensures.1 in
    rw (p.1)
    (put-refused (g.D.Disk.seen staging.disk.now) (g.D.Disk.seen c.write_at.new.self) staging.area staging.used _ _
    c.requires (ap (λ at. at + staging.used) (c.area_place.ensures ∙ ap (λ size. area_place size staging.area) c.size.ensures))
    c.write_at.ensures.wrote)

pub returns-in_err-write_at-clause-led : goal.returns-in_err-write_at-clause-led
returns-in_err-write_at-clause-led g c =
    let staging = c.args.self.now in (
      refl,
      put-led (g.D.Disk.seen staging.disk.now) (g.D.Disk.seen c.write_at.new.self) staging.area staging.used _ _
          c.requires (ap (λ at. at + staging.used) (c.area_place.ensures ∙ ap (λ size. area_place size staging.area) c.size.ensures))
          c.write_at.ensures.wrote,
    )

pub returns-clause-ok : goal.returns-clause-ok
returns-clause-ok g c =
    let staging = c.args.self.now in
    put-done (g.D.Disk.seen staging.disk.now) (g.D.Disk.seen c.write_at.new.self) staging.area staging.used _
    c.args.bytes.now (g.met.D.Disk.lawful staging.disk.now) c.requires
    (ap (λ at. at + staging.used) (c.area_place.ensures ∙ ap (λ size. area_place size staging.area) c.size.ensures))
    c.write_at.ensures.wrote c.in_ok-write_at.ensures.written

pub returns-clause-led : goal.returns-clause-led
returns-clause-led g c =
    let staging = c.args.self.now in (
      refl,
      put-led (g.D.Disk.seen staging.disk.now) (g.D.Disk.seen c.write_at.new.self) staging.area staging.used _ _
          c.requires (ap (λ at. at + staging.used) (c.area_place.ensures ∙ ap (λ size. area_place size staging.area) c.size.ensures))
          c.write_at.ensures.wrote,
    )
