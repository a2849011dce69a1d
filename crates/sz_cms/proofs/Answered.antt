-- What the reader of messages answers, by the relation.
use Rattle.std.specs.Prelude.{IfErr, IfOk, IsOkAnd, OnOk}
use Rattle.std.proofs.Common.{◌≡◌, ℕ, List, Some, None, Result, Ok, Err, sym, subst, ◌∙◌}
use Rattle.sz_der.specs.Der.{AreOctets}
use Rattle.sz_der.specs.Spots.{at}
use Rattle.sz_der.specs.declared.parts.PartFault.{PartFault}
use Rattle.sz_cms.specs.Message as message
use Rattle.sz_cms.specs.Message.{InfoOf}
use Rattle.sz_cms.specs.MessageFault.{info_fault}
use Rattle.sz_cms.specs.Places.{info_at}
use Rattle.sz_cms.specs.View.{info_of}
use Rattle.sz_cms.specs.declared.info.Info.{Info}
use Rattle.sz_cms.specs.declared.fault.InfoKind.{InfoKind}
use Rattle.sz_cms.proofs.Whole.{info_clear, InfoOf_from_none}

pub read_ok : (bytes : List ℕ) → AreOctets bytes → (answer : Result Info (PartFault InfoKind)) → OnOk answer (info_fault bytes ≡ None) →
    IfOk answer (λ info. info_of info ≡ info_at bytes) → IfOk answer (λ info. InfoOf bytes (info_of info))
read_ok bytes fits (Ok info) none is = subst (λ (x : message.Info). InfoOf bytes x) (sym is) (InfoOf_from_none bytes fits none)
read_ok bytes fits (Err fault) none is = tt

pub read_only : (bytes : List ℕ) (info : message.Info) → InfoOf bytes info → (answer : Result Info (PartFault InfoKind)) →
    IfOk answer (λ found. info_of found ≡ info_at bytes) → IfErr answer (λ fault. info_fault bytes ≡ Some (at fault)) →
    IsOkAnd answer (λ found. info_of found ≡ info)
read_only bytes info is (Ok found) here fails = here ∙ (info_clear bytes info is).value_is
read_only bytes info is (Err fault) here fails = let none = (info_clear bytes info is).no_fault in absurd (cc (sym none ∙ fails))
