-- Where a rule of the server is the first that applies.
use Rattle.std.proofs.Common.{◌≡◌, ◌↔◌, ℕ, List, Bool, false, Option, Some, IsTrue, MatchOption, refl, sym, subst, inl, inr}
use Rattle.std.proofs.lemmas.Bool.{iff_false}
use Rattle.sz_http.specs.Parts.{Parts}
use Rattle.sz_rest.specs.Asked.{HasMethod, IsAskFault, IsForOperation, IsInput, IsRefused, NamesADevice, NamesDevice}
use Rattle.sz_rest.specs.Request.{post}
use Rattle.sz_rest.specs.ReplyText.{IsRefusal}
use Rattle.sz_rest.specs.declared.fault.AskFault.{AskFault}
use Rattle.sz_rest.specs.declared.fault.AskFault.TheVariants.{Refused}

no_input : (head : Parts) (body : List ℕ) → IsForOperation head → HasMethod head post → NamesADevice head → ¬ IsInput body
    → IsRefused head body 400
no_input head body target method device input =
    inr (λ rule. rule.1 method, inr (λ rule. rule.1 device, inl ((target, input), refl)))

named_device : (head : Parts) (named : Option (List ℕ)) (serial : List ℕ) → MatchOption named (¬ NamesADevice head) (NamesDevice head)
    → named ≡ Some serial → NamesADevice head
named_device head named serial names e = (serial, subst (λ o. MatchOption o (¬ NamesADevice head) (NamesDevice head)) e names)

-- the body of a request that names its device is no input
pub body_refused : (head : Parts) (body : List ℕ) (named : Option (List ℕ)) (serial : List ℕ) (taken : Bool) (fault : AskFault)
    → IsForOperation head → HasMethod head post → MatchOption named (¬ NamesADevice head) (NamesDevice head) → named ≡ Some serial
    → (IsTrue taken ↔ IsInput body) → taken ≡ false → fault ≡ Refused 400 → IsAskFault head body fault
body_refused head body named serial taken fault target method names e input other is =
    subst (λ f. IsAskFault head body f) (sym is)
    (no_input head body target method (named_device head named serial names e) (iff_false input other))

-- a server refuses with a status that it can write
pub status_of_rule : (head : Parts) (body : List ℕ) (status : ℕ) → IsRefused head body status → IsRefusal status
status_of_rule head body status (inl rule) = rw rule.1 refl
status_of_rule head body status (inr (_, inl rule)) = rw rule.1 refl
status_of_rule head body status (inr (_, inr (_, inl rule))) = rw rule.1 refl
status_of_rule head body status (inr (_, inr (_, inr (_, inl rule)))) = rw rule.1 refl
status_of_rule head body status (inr (_, inr (_, inr (_, inr (_, inl rule))))) = rw rule.1 refl
status_of_rule head body status (inr (_, inr (_, inr (_, inr (_, inr (_, none)))))) = absurd none
