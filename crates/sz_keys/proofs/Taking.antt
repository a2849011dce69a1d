-- A check that is given a file piece by piece.
use Rattle.std.proofs.Common.{◌≡◌, ◌↔◌, ℕ, ◌+◌, ◌≤◌, List, [], ◌++◌, length, take, take_all, take-add, drop, Option, Some, None, IfSome, refl, subst, sym, ◌∙◌, arith}
use Rattle.sz_io.specs.Folder.{FileMap, readable_at}
use Rattle.sz_lms.proofs.LawHss.{hss_law}
use Rattle.sz_lms.specs.Bits.{AreBytes}
use Rattle.sz_lms.specs.Check.{Checks}
use Rattle.sz_lms.specs.Hss.{HssOk}
use Rattle.sz_lms.specs.Rules.{Rule, hss_first}
use Rattle.sz_lms.specs.declared.check.HssCheck.{HssCheck}

-- where the folder tells its files, a check that began as the first is now one of this much of the file
abbrev pub Took : Option FileMap → HssCheck → HssCheck → (FileMap → List ℕ) → Type 0
Took told begun now message =
    IfSome told (λ files. (public signature : List ℕ) → Checks begun public signature [] → Checks now public signature (message files))

whole_front : (n : ℕ) (file : List ℕ) → length file ≤ n → take n file ≡ file
whole_front n file long = take_all n file long

pub took_whole : (told : Option FileMap) (path : List ℕ) (begun now : HssCheck) (size n : ℕ) → IfSome told
    (λ files. size ≡ length (readable_at files path)) → size ≤ n
    → Took told begun now (λ files. take n (readable_at files path)) → Took told begun now (λ files. readable_at files path)
took_whole None path begun now size n size_is long took = tt
took_whole (Some files) path begun now size n size_is long took = λ public signature checks.
    subst (λ (message : List ℕ). Checks now public signature message) (whole_front n (readable_at files path) (omega arith)) (took public signature checks)

pub took_more : (told now : Option FileMap) (path piece more : List ℕ) (begun before after : HssCheck) (n count : ℕ) → now ≡ told
    → Took told begun before (λ files. take n (readable_at files path)) → IfSome now
    (λ files. more ≡ take count (drop n (readable_at files path))) → piece ≡ more
    → ((public signature message : List ℕ) → Checks before public signature message → Checks after public signature (message ++ piece))
    → Took told begun after (λ files. take (n + count) (readable_at files path))
took_more None now path piece more begun before after n count same took read piece_is step = tt
took_more (Some files) now path piece more begun before after n count same took read piece_is step = λ public signature checks.
    let here : more ≡ take count (drop n (readable_at files path)) = (rw same at read) in
    let joined : take n (readable_at files path) ++ piece ≡ take (n + count) (readable_at files path) = rw
    (take-add n count (readable_at files path), piece_is, here) refl in
    subst (λ (message : List ℕ). Checks after public signature message) joined
    (step public signature (take n (readable_at files path)) (took public signature checks))

-- the rule that is found broken is the first on the whole file
pub ruled : (told : Option FileMap) (path public signature : List ℕ) (begun now : HssCheck) (rule : Option Rule) → Checks begun public signature []
    → Took told begun now (λ files. readable_at files path)
    → ((p s m : List ℕ) → Checks now p s m → rule ≡ hss_first p m s)
    → IfSome told (λ files. rule ≡ hss_first public (readable_at files path) signature)
ruled None path public signature begun now rule checks took says = tt
ruled (Some files) path public signature begun now rule checks took says =
    says public signature (readable_at files path) (took public signature checks)

-- and none is broken exactly where it is a signature of the file
pub decided : (told : Option FileMap) (path public signature : List ℕ) (rule : Option Rule) → AreBytes signature
    → IfSome told (λ files. rule ≡ hss_first public (readable_at files path) signature)
    → IfSome told (λ files. (rule ≡ None) ↔ HssOk public (readable_at files path) signature)
decided None path public signature rule bytes is = tt
decided (Some files) path public signature rule bytes is =
    let law = hss_law public (readable_at files path) signature bytes in
    (λ none. law.0 (sym is ∙ none), λ ok. is ∙ law.1 ok)

-- a rule that no message has a part in
pub refused : (told : Option FileMap) (path public signature : List ℕ) (rule : Rule) → ((message : List ℕ) → hss_first public message signature ≡ Some rule)
    → IfSome told (λ files. Some rule ≡ hss_first public (readable_at files path) signature)
refused None path public signature rule each = tt
refused (Some files) path public signature rule each = sym (each (readable_at files path))
