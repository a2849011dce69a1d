use Rattle.std.proofs.Common.{arith, refl, length-drop}
use Rattle.std.specs.Prelude.{slice_range}
use Rattle.std.proofs.lemmas.List.{take_all}
use Rattle.sz_dhcp.specs.Message4.{IsFault4, no_cookie, too_short}
use Rattle.sz_dhcp.specs.declared.fault.DhcpKind.TheVariants.{Cookie, Short}
use Rattle.sz_dhcp.specs.Codes4.{magic_cookie}
use Rattle.sz_dhcp.proofs.Fields.{cookie_is, cookie_is_not}
use Rattle.sz_dhcp.proofs.Told.{told}
use Rattle.sz_dhcp.proofs.message4.options_field.Goals as goal

pub returns-then-message-lt240-clause-refused : goal.returns-then-message-lt240-clause-refused
returns-then-message-lt240-clause-refused c = told (IsFault4 c.args.message.now) Short 0 (too_short c.if-message-lt240.true)

pub returns-then-ne-clause-refused : goal.returns-then-ne-clause-refused
returns-then-ne-clause-refused c =
    let differ = rw c.as_slice.ensures at c.ne.ensures in
    told (IsFault4 c.args.message.now) Cookie 236
    (no_cookie c.if-message-lt240.false
    (cookie_is_not (slice_range c.args.message.now 236 240) magic_cookie c.ne.result differ c.if-ne.true))

pub returns-clause-ok : goal.returns-clause-ok
returns-clause-ok c =
    let differ = rw c.as_slice.ensures at c.ne.ensures in (
      record {
        long = c.if-message-lt240.false;
        cookie = cookie_is (slice_range c.args.message.now 236 240) magic_cookie c.ne.result differ c.if-ne.false;
      },
      take_all _ _ (omega (arith, length-drop 240 c.args.message.now)),
      refl,
    )
