-- What a device downloads over a list of URIs, of which each is tried in order until one gives the image (RFC 8572
-- sections 5.6 and 6.3).
use Rattle.std.specs.Prelude.{◌≡◌, ◌≢◌, ◌⊎◌, ℕ, ◌+◌, ◌≤◌, Bool, true, false, List, [], ◌∷◌, ◌++◌, length, count_by, Option, Some, None, Result, Err}
use Rattle.sha2.specs.Sha256.{sha256}
use Rattle.sz_spec.specs.Cause.{RoseBy}
use Rattle.sz_spec.specs.Told.{WhereTold}
use Rattle.sz_base.specs.declared.image.ImageFault.{ImageFault}
use Rattle.sz_base.specs.declared.image.ImageFault.TheVariants as image
use Rattle.sz_disk.specs.Room.{Held}
use Rattle.sz_io.specs.Added.{Adds}
use Rattle.sz_io.specs.Net.{Traffic}
use Rattle.sz_io.specs.declared.exchange.Exchange.{Exchange}
use Rattle.sz_uri.specs.Uri.{IsUri}
use Rattle.sz_uri.specs.declared.uri.Uri.{Uri}
use Rattle.sz_image.specs.Fetch.{GivesImage, GivesNoImage, HoldsBody, is_lost}
use Rattle.sz_image.specs.declared.choice.NoImage.{NoImage}
use Rattle.sz_image.specs.declared.choice.NoImage.TheVariants as no

-- ---- one fault

-- the next URI is tried after this fault
abbrev pub GoesOn : ImageFault → Type 0
GoesOn fault = (fault ≢ image.DiskFault) × (fault ≢ image.OutOfMemory)

-- ---- the exchanges

-- The downloads over these URIs made these exchanges: those of each URI in turn gave no image, for these faults,
-- until one gave the image. The later URIs aren't asked.
abbrev pub Tries : List ℕ → ℕ → List (List ℕ) → List Exchange → List ImageFault → Option (List ℕ) → Type 0
Tries hash space [] own [] None = own ≡ []
Tries hash space (text ∷ others) own [] (Some body) =
    (uri : Uri) × IsUri text uri × (exchange : Exchange) × (own ≡ exchange ∷ [])
    × GivesImage uri hash space body exchange
Tries hash space (text ∷ others) own (fault ∷ faults) image =
    (first : List Exchange) × (later : List Exchange) × (own ≡ first ++ later)
    × GivesNoImage text hash space fault first × GoesOn fault × Tries hash space others later faults image
Tries hash space _ own _ _ = ⊥

-- ---- what they add to the traffic

-- these exchanges were added, and no connection stands, or nothing was done
pub record AddsOwn (before now : Traffic) (own : List Exchange) : Type 0 where
  pub adds : Adds before now own
  pub leaves : (now.standing ≡ None) ⊎ (now ≡ before)

-- the exchanges of these downloads were added
abbrev pub TriesOver : List ℕ → ℕ → List (List ℕ) → List ImageFault → Option (List ℕ) → Traffic → Traffic → Type 0
TriesOver hash space uris faults image before now =
    (own : List Exchange) × AddsOwn before now own × Tries hash space uris own faults image

-- the exchanges behind those of the URIs that gave no image, where the downloads stopped before these others
abbrev pub IsLast : List ℕ → ℕ → NoImage → List (List ℕ) → List Exchange → Type 0
IsLast hash space no.DiskFault (text ∷ others) last = GivesNoImage text hash space image.DiskFault last
IsLast hash space no.OutOfMemory others last = length last ≤ 1
IsLast hash space _ others last = ⊥

-- the exchanges of these downloads were added, and behind them those of the download that stopped
abbrev pub StopsOver : List ℕ → ℕ → NoImage → List (List ℕ) → List (List ℕ) → List ImageFault → Traffic → Traffic
    → Type 0
StopsOver hash space why tried others faults before now =
    (own : List Exchange) × (last : List Exchange) × Adds before now (own ++ last)
    × Tries hash space tried own faults None × IsLast hash space why others last

-- ---- the fault that ends it

-- the download ends at this fault, for this: for want of memory also where there is none to note the fault
abbrev pub EndsFor : ImageFault → NoImage → Type 0
EndsFor fault why =
    ((fault ≡ image.DiskFault) × (why ≡ no.DiskFault)) ⊎ ((fault ≢ image.DiskFault) × (why ≡ no.OutOfMemory))

-- ---- the faults, also where the network tells nothing

-- a text that is no URI is that fault, and one that is has another
abbrev pub IsFaultOf : List ℕ → ImageFault → Type 0
IsFaultOf text image.Uri = (uri : Uri) → ¬ (IsUri text uri)
IsFaultOf text image.DiskFault = ⊥
IsFaultOf text image.OutOfMemory = ⊥
IsFaultOf text fault = (uri : Uri) × IsUri text uri

-- one fault for each of the texts, in order
abbrev pub AreFaultsOf : List (List ℕ) → List ImageFault → Type 0
AreFaultsOf [] faults = faults ≡ []
AreFaultsOf (text ∷ texts) [] = ⊥
AreFaultsOf (text ∷ texts) (fault ∷ faults) = IsFaultOf text fault × AreFaultsOf texts faults

-- the first of the texts have these faults, and the one behind them is a URI
abbrev pub AreFaultsBefore : List (List ℕ) → List ImageFault → Type 0
AreFaultsBefore [] faults = ⊥
AreFaultsBefore (text ∷ texts) [] = (uri : Uri) × IsUri text uri
AreFaultsBefore (text ∷ texts) (fault ∷ faults) = IsFaultOf text fault × AreFaultsBefore texts faults

-- the network's count rose for each download that was lost, and for nothing else
pub record CountsLost (faults : List ImageFault) (before now : ℕ) : Type 0 where
  pub rose : RoseBy before now (count_by is_lost faults)
  pub stood : count_by is_lost faults ≡ 0 → now ≡ before

-- ---- the whole download

-- The room holds an image of this size that has this hash. The first of the URIs that gives it gave it; those before
-- it, if any, gave these faults.
pub record BringsFirst (hash : List ℕ) (uris : List (List ℕ)) (size : ℕ) (room_before room_now : Held)
    (count_before count_now : ℕ) (before now : Option Traffic) : Type 0 where
  pub body : List ℕ
  pub size_is : size ≡ length body
  pub holds : HoldsBody body room_before room_now
  pub hash_is : sha256 body ≡ hash
  pub faults : List ImageFault
  pub each : AreFaultsBefore uris faults
  pub lost : CountsLost faults count_before count_now
  pub tries : WhereTold (TriesOver hash room_before.space uris faults (Some body)) before now

-- no URI gave the image, for these faults
pub record RefusesAll (hash : List ℕ) (space : ℕ) (uris : List (List ℕ)) (faults : List ImageFault)
    (count_before count_now : ℕ) (before now : Option Traffic) : Type 0 where
  pub each : AreFaultsOf uris faults
  pub lost : CountsLost faults count_before count_now
  pub tries : WhereTold (TriesOver hash space uris faults None) before now

-- the first of the URIs gave no image, for these faults, and then the download stopped for this
pub record Stops (hash : List ℕ) (space : ℕ) (uris : List (List ℕ)) (why : NoImage)
    (count_before count_now : ℕ) (before now : Option Traffic) : Type 0 where
  pub tried : List (List ℕ)
  pub others : List (List ℕ)
  pub uris_are : uris ≡ tried ++ others
  pub faults : List ImageFault
  pub each : AreFaultsOf tried faults
  pub lost : CountsLost faults count_before count_now
  pub tries : WhereTold (StopsOver hash space why tried others faults) before now

-- the download gave no image, for this
abbrev pub BringsNone : List ℕ → ℕ → List (List ℕ) → ℕ → ℕ → Option Traffic → Option Traffic → NoImage → Type 0
BringsNone hash space uris count_before count_now before now (no.Refused faults) =
    RefusesAll hash space uris faults count_before count_now before now
BringsNone hash space uris count_before count_now before now why =
    Stops hash space uris why count_before count_now before now

abbrev pub blames_disk : {T : Type 0} → Result T NoImage → Bool
blames_disk (Err no.DiskFault) = true
blames_disk _ = false
