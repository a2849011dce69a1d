-- Which refusals blame the disk, as they are handed on.
use Rattle.std.proofs.Common.{◌≡◌, ℕ, Bool, false, Err, refl, subst}
use Rattle.sz_spec.specs.Cause.{HasCause}
use Rattle.sz_cell.specs.Cell.{Kept}
use Rattle.sz_cell.specs.Fault.{attach_failed, format_failed}
use Rattle.sz_cell.specs.declared.fault.AttachFault.{AttachFault}
use Rattle.sz_cell.specs.declared.fault.AttachFault.TheVariants.{Failed as attach_fault, NotFormatted, Damaged as damaged_cell}
use Rattle.sz_cell.specs.declared.fault.FormatFault.{FormatFault}
use Rattle.sz_cell.specs.declared.fault.FormatFault.TheVariants.{Failed as format_fault, InUse as cell_in_use}
use Rattle.sz_state.specs.Fault.{blames_disk, of_attach, of_format}

-- a call that didn't fail, and then another one
pub cause-after : (old mid new : ℕ) (failed : Bool) → HasCause old mid false → HasCause mid new failed
    → HasCause old new failed
cause-after old mid new failed first second =
    let P : ℕ → Type 0 = λ n. HasCause n new failed in
    subst P (first.stood refl) second

pub attach-cause : (old new : ℕ) (fault : AttachFault) → HasCause old new (attach_failed {T = Kept} (Err fault))
    → HasCause old new (blames_disk (of_attach fault))
attach-cause old new attach_fault cause = cause
attach-cause old new NotFormatted cause = cause
attach-cause old new (damaged_cell slot sequence size) cause = cause

pub attach-stood : (fault : AttachFault) → blames_disk (of_attach fault) ≡ false
    → attach_failed {T = Kept} (Err fault) ≡ false
attach-stood attach_fault stood = stood
attach-stood NotFormatted stood = stood
attach-stood (damaged_cell slot sequence size) stood = stood

pub format-cause : (old new : ℕ) (fault : FormatFault) → HasCause old new (format_failed {T = Kept} (Err fault))
    → HasCause old new (blames_disk (of_format fault))
format-cause old new format_fault cause = cause
format-cause old new (cell_in_use slot) cause = cause
