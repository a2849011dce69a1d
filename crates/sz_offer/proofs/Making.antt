-- What was tried is what the device makes of the offer, over the exchanges that were added.
use Rattle.std.specs.Prelude.{◌≡◌, ℕ, List, [], Option, Some, None}
use Rattle.std.proofs.Common.{refl, sym, subst, inl, inr}
use Rattle.sz_spec.specs.Told.{WhereTold}
use Rattle.sz_base.specs.declared.evidence.Evidence.{Evidence}
use Rattle.sz_base.specs.declared.image.ImageFault.{ImageFault}
use Rattle.sz_artifacts.specs.declared.conveyed.onboarding.Onboarding.{Onboarding}
use Rattle.sz_evidence.specs.declared.reason.Reason.{Reason}
use Rattle.sz_evidence.specs.declared.reason.Reason.TheVariants as reason
use Rattle.sz_image.specs.Downloads.{TriesOver}
use Rattle.sz_io.specs.Net.{Traffic}
use Rattle.sz_io.proofs.Exchanges.{Adds-refl}
use Rattle.sz_state.specs.Layout.{space_of}
use Rattle.sz_offer.specs.Offer.{IsReady, Looker, Makes}
use Rattle.sz_offer.specs.Trial.{DownloadCameTo, IsVerdict, MakesOver, Network, Tried}
use Rattle.sz_offer.specs.declared.trial.Trial.{Trial}
use Rattle.sz_offer.specs.declared.trial.Trial.TheVariants as trial

told_so : (P Q : Traffic → Traffic → Type 0) → ((x y : Traffic) → P x y → Q x y) → (a b : Option Traffic) → WhereTold P a b
    → WhereTold Q a b
told_so P Q so None b told = told
told_so P Q so (Some x) None told = absurd told
told_so P Q so (Some x) (Some y) told = so x y told

-- ---- without exchanges

none_over : (looker : Looker) (onboarding : Onboarding) (evidence : Evidence) (verdict : Option Reason)
    (t : Option Traffic) → Makes looker onboarding evidence [] verdict
    → WhereTold (MakesOver looker onboarding evidence verdict) t t
none_over looker onboarding evidence verdict None makes = refl
none_over looker onboarding evidence verdict (Some a) makes =
    ([], record { adds = Adds-refl a; leaves = inr refl }, makes)

still_over : (looker : Looker) (onboarding : Onboarding) (evidence : Evidence) (verdict : Option Reason)
    (before now : Network) → now ≡ before → Makes looker onboarding evidence [] verdict
    → WhereTold (MakesOver looker onboarding evidence verdict) before.traffic now.traffic
still_over looker onboarding evidence verdict before now same makes =
    subst (λ (n : Network). WhereTold (MakesOver looker onboarding evidence verdict) before.traffic n.traffic)
    (sym same) (none_over looker onboarding evidence verdict before.traffic makes)

-- ---- with the exchanges of a download

got_over : (looker : Looker) (onboarding : Onboarding) (evidence : Evidence) (ready : IsReady looker onboarding evidence)
    (faults : List ImageFault) (body : List ℕ) (before now : Option Traffic)
    → WhereTold (TriesOver ready.names.hash (space_of looker.size) ready.names.boot.uris faults (Some body)) before now
    → WhereTold (MakesOver looker onboarding evidence None) before now
got_over looker onboarding evidence ready faults body before now tries =
    told_so (TriesOver ready.names.hash (space_of looker.size) ready.names.boot.uris faults (Some body))
    (MakesOver looker onboarding evidence None)
    (λ x y over. (over.0, over.1, inr (record { ready = ready; faults = faults; body = body; downloads = over.2 })))
    before now tries

got_none_over : (looker : Looker) (onboarding : Onboarding) (evidence : Evidence)
    (ready : IsReady looker onboarding evidence) (faults : List ImageFault) (before now : Option Traffic)
    → WhereTold (TriesOver ready.names.hash (space_of looker.size) ready.names.boot.uris faults None) before now
    → WhereTold (MakesOver looker onboarding evidence (Some (reason.NoImage faults))) before now
got_none_over looker onboarding evidence ready faults before now tries =
    told_so (TriesOver ready.names.hash (space_of looker.size) ready.names.boot.uris faults None)
    (MakesOver looker onboarding evidence (Some (reason.NoImage faults)))
    (λ x y over. (over.0, over.1, record { ready = ready; downloads = over.2 })) before now tries

-- ---- the trial

abbrev Over : Looker → Onboarding → Evidence → Network → Network → Option Reason → Type 0
Over looker onboarding evidence before now verdict =
    WhereTold (MakesOver looker onboarding evidence verdict) before.traffic now.traffic

verdict_over : (looker : Looker) (onboarding : Onboarding) (evidence : Evidence) (before now : Network)
    (verdict known : Option Reason) → verdict ≡ known → Over looker onboarding evidence before now known
    → Over looker onboarding evidence before now verdict
verdict_over looker onboarding evidence before now verdict known same over =
    subst (λ (v : Option Reason). Over looker onboarding evidence before now v) (sym same) over

refused_over : (looker : Looker) (onboarding : Onboarding) (evidence : Evidence) (before now : Network) (found : Reason)
    → Tried looker onboarding evidence before now (trial.Refused found)
    → Over looker onboarding evidence before now (Some found)
refused_over looker onboarding evidence before now (reason.RecordTooLarge size) tried =
    still_over looker onboarding evidence (Some (reason.RecordTooLarge size)) before now tried.1 (tried.0, refl)
refused_over looker onboarding evidence before now reason.NoImageHash tried =
    still_over looker onboarding evidence (Some reason.NoImageHash) before now tried.1 (tried.0, refl)
refused_over looker onboarding evidence before now (reason.NoImage faults) tried =
    got_none_over looker onboarding evidence tried.ready faults before.traffic now.traffic tried.download.tries
refused_over looker onboarding evidence before now _ tried = absurd tried.download

pub tried_makes : (looker : Looker) (onboarding : Onboarding) (evidence : Evidence) (before now : Network) (tried : Trial)
    → Tried looker onboarding evidence before now tried → (verdict : Option Reason) → IsVerdict tried verdict
    → WhereTold (MakesOver looker onboarding evidence verdict) before.traffic now.traffic
tried_makes looker onboarding evidence before now trial.Satisfied is verdict same =
    verdict_over looker onboarding evidence before now verdict None same
    (still_over looker onboarding evidence None before now is.1 (inl (is.0, refl)))
tried_makes looker onboarding evidence before now (trial.Staged staged) is verdict same =
    verdict_over looker onboarding evidence before now verdict None same
    (got_over looker onboarding evidence is.ready is.download.faults is.download.body before.traffic now.traffic
    is.download.tries)
tried_makes looker onboarding evidence before now (trial.Refused found) is verdict same =
    verdict_over looker onboarding evidence before now verdict (Some found) same
    (refused_over looker onboarding evidence before now found is)
tried_makes looker onboarding evidence before now trial.DiskFault is verdict none = absurd none
tried_makes looker onboarding evidence before now trial.OutOfMemory is verdict none = absurd none

-- ---- the trial of an image that is needed

pub download_tried : (looker : Looker) (onboarding : Onboarding) (evidence : Evidence) (before now : Network)
    (tried : Trial) (ready : IsReady looker onboarding evidence)
    → DownloadCameTo ready.names.hash (space_of looker.size) ready.names.boot.uris before now tried
    → Tried looker onboarding evidence before now tried
download_tried looker onboarding evidence before now trial.Satisfied ready came = absurd came
download_tried looker onboarding evidence before now (trial.Refused (reason.RecordTooLarge size)) ready came = absurd came
download_tried looker onboarding evidence before now (trial.Refused reason.NoImageHash) ready came = absurd came
download_tried looker onboarding evidence before now _ ready came = record { ready = ready; download = came }
