use Rattle.std.proofs.Common.{◌≡◌, Bool, true, false, List, ℕ, Option, Some, None, ap, subst, inl, ◌∙◌}
use Rattle.std.specs.Option.{is_some}
use Rattle.std.specs.Prelude.{not}
use Rattle.sz_commands.specs.Ending.{number_of}
use Rattle.sz_commands.proofs.Parts.{refused-printed}
use Rattle.sz_device.proofs.Lines.{lines-of_some}
use Rattle.sz_device.proofs.audit_command.say_audit.Goals as goal
use Rattle.sz_device.proofs.audit_command.say_audit.Goals.{else-is_none-via-else-is_none, else-is_none-via-then-is_none+else-is_none-2}
use Rattle.sz_spec.specs.Told.{Appends, AppendsFront}

-- what was tested to be there is there
never_none : {T : Type 0} (o : Option T) (b : Bool) → is_some o ≡ not b → b ≡ false → o ≡ None → ⊥
never_none (Some x) b is shut none = absurd (cc none)
never_none None true is shut none = absurd (cc shut)
never_none None false is shut none = absurd (cc is)

pub returns-in-Ok-clause-printed : goal.returns-in-Ok-clause-printed
returns-in-Ok-clause-printed g c =
    let audit = c.args.audit.now in
    let some : audit.image ≡ None → audit.configuration ≡ None → ⊥ = λ no_image no_configuration. elim c.else-is_none.branch [
      | else-is_none-via-then-is_none+else-is_none-2 w ↦
          never_none audit.configuration _ w.is_none-then-is_none.ensures w.if-is_none-2.false no_configuration
      | else-is_none-via-else-is_none w ↦ never_none audit.image _ c.is_none.ensures w.if-is_none.false no_image
    ] in
    inl (
      c.number.ensures ∙ ap number_of c.ending.ensures,
      subst (λ (text : List ℕ). Appends (g.O.Sink.written c.args.out.now) (g.O.Sink.written c.print_found.new.out) text)
          (lines-of_some audit.image audit.configuration some) c.in-Ok.ensures.written,
    )

pub returns-in-Err-clause-printed : goal.returns-in-Err-clause-printed
returns-in-Err-clause-printed g c =
    let audit = c.args.audit.now in
    let some : audit.image ≡ None → audit.configuration ≡ None → ⊥ = λ no_image no_configuration. elim c.else-is_none.branch [
      | else-is_none-via-then-is_none+else-is_none-2 w ↦
          never_none audit.configuration _ w.is_none-then-is_none.ensures w.if-is_none-2.false no_configuration
      | else-is_none-via-else-is_none w ↦ never_none audit.image _ c.is_none.ensures w.if-is_none.false no_image
    ] in
    refused-printed _ _ c.in-Err.fault _ _ _ c.refusal_status.ensures
    (subst (λ (text : List ℕ). AppendsFront (g.O.Sink.written c.args.out.now) (g.O.Sink.written c.print_found.new.out) text)
    (lines-of_some audit.image audit.configuration some) c.in-Err.ensures.written)
