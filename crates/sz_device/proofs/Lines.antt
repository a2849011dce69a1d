-- Lines that are printed or built in parts.
use Rattle.std.proofs.Common.{◌≡◌, ℕ, ◌+◌, ◌<◌, List, ◌++◌, length, map, take, get_or, Option, Some, None, Result, Ok, Err, codes, refl, ap, append_assoc}
use Rattle.std.specs.List.{concat}
use Rattle.std.specs.Result.{IsErr}
use Rattle.sz_audit.specs.declared.found.Found.{Found}
use Rattle.sz_base.specs.declared.fault.PutFault.{PutFault}
use Rattle.sz_commands.specs.Printed.{IsWritten}
use Rattle.sz_commands.proofs.Fronts.{AppendsFront-first, AppendsFront-next, Appends-next}
use Rattle.sz_commands.proofs.Parts.{front_written, part_written}
use Rattle.sz_device.specs.AuditRan.{found_line, found_lines}
use Rattle.sz_spec.specs.Told.{Appends, AppendsFront}

-- ---- texts that are written behind others

-- a text is written, and then another
pub written-behind : {T : Type 0} (first text : List ℕ) (r : Result T PutFault) (before middle now : Option (List ℕ))
    → Appends before middle first → IsWritten text r middle now → IsWritten (first ++ text) r before now
written-behind first text (Ok x) before middle now written rest = Appends-next before middle now first text written rest
written-behind first text (Err fault) before middle now written rest = AppendsFront-next before middle now first text written rest

-- a text that something was to follow was refused
pub refused-first : {T : Type 0} (first text : List ℕ) (r : Result T PutFault) (before now : Option (List ℕ)) → IsErr r
    → AppendsFront before now first → IsWritten (first ++ text) r before now
refused-first first text r before now is front =
    front_written (first ++ text) r before now is (AppendsFront-first before now first text front)

-- ---- texts in parts, as they are joined

pub four-parts : (a b c d : List ℕ) → a ++ b ++ c ++ d ≡ a ++ (b ++ (c ++ d))
four-parts a b c d = simp append_assoc

pub five-parts : (a b c d e : List ℕ) → a ++ b ++ c ++ d ++ e ≡ a ++ (b ++ (c ++ (d ++ e)))
five-parts a b c d e = simp append_assoc

pub six-parts : (a b c d e f : List ℕ) → a ++ b ++ c ++ d ++ e ++ f ≡ a ++ (b ++ (c ++ (d ++ (e ++ f))))
six-parts a b c d e f = simp append_assoc

pub seven-parts : (a b c d e f g : List ℕ) → a ++ b ++ c ++ d ++ e ++ f ++ g ≡ a ++ (b ++ (c ++ (d ++ (e ++ (f ++ g)))))
seven-parts a b c d e f g = simp append_assoc

-- one part more is put last
pub parts_appended : {A : Type 0} (f : A → List ℕ) (old so_far now : List ℕ) (xs : List A) (i : ℕ) (d : A) → i < length xs
    → so_far ≡ old ++ concat (map f (take i xs)) → now ≡ so_far ++ f (get_or xs i d) → now ≡ old ++ concat (map f (take (i + 1) xs))
parts_appended f old so_far now xs i d within is more =
    let e : Some now ≡ Some (old ++ concat (map f (take (i + 1) xs))) =
    part_written f (Some old) (Some so_far) (Some now) xs i d within (ap Some is) (ap Some more) in cc

-- what is found has its lines where something is there
pub lines-of_some : (image configuration : Option Found) → ((image ≡ None) → (configuration ≡ None) → ⊥)
    → found_line (codes "image ") image ++ found_line (codes "configuration ") configuration ≡ found_lines image configuration
lines-of_some None None some = absurd (some refl refl)
lines-of_some None (Some is) some = refl
lines-of_some (Some is) None some = refl
lines-of_some (Some is) (Some other) some = refl
