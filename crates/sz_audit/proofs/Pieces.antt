-- The bytes of a disk, hashed piece by piece.
use Rattle.std.proofs.Common.{◌≡◌, ◌≢◌, ℕ, ◌+◌, ◌≤◌, List, [], ◌++◌, length, take, drop, Option, Some, None, refl, sym, ap, subst, ◌∙◌, arith}
use Rattle.std.proofs.Math.Seq.{take-add}
use Rattle.std.proofs.lemmas.List.{drop-drop}
use Rattle.sha2.specs.Hashers.{Holds256}
use Rattle.sha2.specs.Sha256.{sha256}
use Rattle.sha2.specs.declared.Sha256.{Sha256}
use Rattle.sz_disk.specs.Disk.{IsLawful, ReadsPart, Seen}
use Rattle.sz_disk.specs.Image.{part}
use Rattle.sz_disk.proofs.Moments.{length-read}
use Rattle.sz_record.specs.declared.device.Image.{Image}
use Rattle.sz_state.specs.Held.{ReadHas}
use Rattle.sz_state.specs.Laws.{area_fits}
use Rattle.sz_state.specs.Layout.{area_place, space_of}
use Rattle.sz_state.specs.Stands.{HasImage}

-- where the disk tells its bytes, the hasher holds so many of them, from this place on
abbrev pub Hashed : Option (List ℕ) → ℕ → ℕ → Sha256 → Type 0
Hashed reads at done hasher = ReadHas reads (λ bytes. Holds256 hasher (part bytes at done))

part_add : (image : List ℕ) (at n m : ℕ) → part image at (n + m) ≡ part image at n ++ part image (at + n) m
part_add image at n m =
    take-add n m (drop at image) ∙ ap (λ (l : List ℕ). take n (drop at image) ++ take m l) (drop-drop n at image)

pub hashed_none : (reads : Option (List ℕ)) (at : ℕ) (hasher : Sha256) → Holds256 hasher [] → Hashed reads at 0 hasher
hashed_none None at hasher holds = tt
hashed_none (Some bytes) at hasher holds = holds

pub hashed_more : (before now : Option (List ℕ)) (at done : ℕ) (given : List ℕ) (old new : Sha256) → now ≡ before
    → ReadsPart before (at + done) given → ((m : List ℕ) → Holds256 old m → Holds256 new (m ++ given))
    → Hashed before at done old → Hashed now at (done + length given) new
hashed_more before None at done given old new same reads takes hashed = tt
hashed_more None (Some bytes) at done given old new same reads takes hashed = absurd (cc same)
hashed_more (Some first) (Some bytes) at done given old new same reads takes hashed =
    let is : bytes ≡ first = cc in
    let more : part bytes at (done + length given) ≡ part first at done ++ given =
    ap (λ (b : List ℕ). part b at (done + length given)) is ∙ part_add first at done (length given)
    ∙ ap (λ (l : List ℕ). part first at done ++ l) (sym reads) in
    subst (λ (l : List ℕ). Holds256 new l) (sym more) (takes (part first at done) hashed)

pub hashed_whole : (reads : Option (List ℕ)) (at size : ℕ) (hasher : Sha256) (digest : List ℕ)
    → ((m : List ℕ) → Holds256 hasher m → digest ≡ sha256 m) → Hashed reads at size hasher
    → ReadHas reads (λ bytes. sha256 (part bytes at size) ≡ digest)
hashed_whole None at size hasher digest gives hashed = tt
hashed_whole (Some bytes) at size hasher digest gives hashed = sym (gives (part bytes at size) hashed)

-- an area lies on the disk
pub inside : (place size disk area : ℕ) → place ≡ area_place disk area → size ≤ space_of disk → place + size ≤ disk
inside place size disk area is within = let fits = area_fits disk area in omega (arith, is, within, fits)

-- the hash of what stands at the place of an area, whose disk has so many bytes
pub hash_placed : (disk : Seen) (place size area : ℕ) (digest : List ℕ) → IsLawful disk
    → place ≡ area_place disk.size area
    → ReadHas disk.reads (λ bytes. sha256 (part bytes place size) ≡ digest)
    → ReadHas disk.reads (λ bytes. sha256 (part bytes (area_place (length bytes) area) size) ≡ digest)
hash_placed disk place size area digest lawful is has = placed disk.reads refl has
  where
    placed : (reads : Option (List ℕ)) → disk.reads ≡ reads → ReadHas reads (λ bytes. sha256 (part bytes place size) ≡ digest)
        → ReadHas reads (λ bytes. sha256 (part bytes (area_place (length bytes) area) size) ≡ digest)
    placed None told has = tt
    placed (Some bytes) told has =
        let sized : length bytes ≡ disk.size = length-read disk lawful bytes told in
        let same : place ≡ area_place (length bytes) area = is ∙ ap (λ s. area_place s area) (sym sized) in
        subst (λ p. sha256 (part bytes p size) ≡ digest) same has

-- by that hash the bytes are an image's, or others
pub has_image : (reads : Option (List ℕ)) (image : Image) (digest : List ℕ) → digest ≡ image.hash
    → ReadHas reads (λ bytes. sha256 (part bytes (area_place (length bytes) image.area) image.size) ≡ digest)
    → ReadHas reads (λ bytes. HasImage bytes image)
has_image None image digest is has = tt
has_image (Some bytes) image digest is has = has ∙ is

pub has_other : (reads : Option (List ℕ)) (image : Image) (digest : List ℕ) → digest ≢ image.hash
    → ReadHas reads (λ bytes. sha256 (part bytes (area_place (length bytes) image.area) image.size) ≡ digest)
    → ReadHas reads (λ bytes. ¬ (HasImage bytes image))
has_other None image digest is has = tt
has_other (Some bytes) image digest is has = λ same. is (sym has ∙ same)
