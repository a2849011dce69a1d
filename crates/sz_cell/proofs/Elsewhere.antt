-- What a state of a cell says stays true while nobody writes in its region.
use Rattle.std.specs.Prelude.{◌≡◌, ℕ, ◌+◌, ◌-◌, List}
use Rattle.std.proofs.Common.{sym, ◌∙◌, ap, subst, arith, inl, inr}
use Rattle.std.proofs.lemmas.Option.{same_Some}
use Rattle.sz_disk.specs.Disk.{Seen, IsLawful, TornIn}
use Rattle.sz_disk.specs.Image.{part, ChangedIn}
use Rattle.sz_disk.proofs.Parts.{part-outside}
use Rattle.sz_cell.specs.Cell.{Kept, Pending, IsReady, IsCleared, IsFilled, IsElsewhere, spare}
use Rattle.sz_cell.specs.Slot.{Slot, IsSpelled, region_size}
use Rattle.sz_cell.proofs.Regions.{meaning-region, slot_in-region}

-- the bytes of the region, after a change elsewhere
pub region-elsewhere : (at capacity from n : ℕ) (whole image : List ℕ) → IsElsewhere at capacity from n → ChangedIn from n whole image
    → part image at (region_size capacity) ≡ part whole at (region_size capacity)
region-elsewhere at capacity from n whole image (inl below) changed =
    part-outside from n whole image at (region_size capacity) changed (inr below)
region-elsewhere at capacity from n whole image (inr above) changed =
    part-outside from n whole image at (region_size capacity) changed (inl above)

module _ (before after : Seen) (lawful : IsLawful after) (kept : Kept) (from n : ℕ)
    (elsewhere : IsElsewhere kept.at kept.capacity from n) (torn : TornIn from n before after) where
  region_same : (image : List ℕ) (left : after.leaves image)
      → part image kept.at (region_size kept.capacity) ≡ part (torn.crash image left).0 kept.at (region_size kept.capacity)
  region_same image left =
      let whole = torn.crash image left in
      region-elsewhere kept.at kept.capacity from n whole.0 image elsewhere whole.2

  spare_same : (image : List ℕ) (left : after.leaves image) → spare kept image ≡ spare kept (torn.crash image left).0
  spare_same image left =
      slot_in-region kept.at kept.capacity (1 - kept.slot) image (torn.crash image left).0 (omega arith) (region_same image left)

  pub ready-elsewhere : (payload : List ℕ) → IsReady before kept payload → IsReady after kept payload
  ready-elsewhere payload ready = record {
    same = λ image left.
        let whole = torn.crash image left in
        let old = ready.same whole.0 whole.1 in
        let read = lawful.tells_reads image left in
        let here = lawful.reads_as_left read.0 read.1 in
        let read_whole = torn.crash read.0 here in
        let read_old = ready.same read_whole.0 read_whole.1 in
        let one : old.0 ≡ read_old.0 = same_Some old.0 read_old.0 (sym old.1 ∙ read_old.1) in (
          read.0,
          read.1,
          region_same image left
              ∙ old.2
              ∙ ap (λ l. part l kept.at (region_size kept.capacity)) one
              ∙ sym read_old.2
              ∙ sym (region_same read.0 here),
        );
    means = λ image left.
        let whole = torn.crash image left in
        meaning-region kept.at kept.capacity image whole.0 (region_same image left) ∙ ready.means whole.0 whole.1;
    size = ready.size;
  }

  pub cleared-elsewhere : (payload : List ℕ) → IsCleared before kept payload → IsCleared after kept payload
  cleared-elsewhere payload cleared = record {
    ready = ready-elsewhere payload cleared.ready;
    closed = λ image left is.
        let whole = torn.crash image left in
        cleared.closed whole.0 whole.1 (ap (λ (s : Slot). s.gate) (sym (spare_same image left)) ∙ is);
  }

  pub spelled-elsewhere : (sequence : ℕ) (next : List ℕ)
      → ((image : List ℕ) → before.leaves image → IsSpelled (spare kept image) sequence next)
      → (image : List ℕ) → after.leaves image → IsSpelled (spare kept image) sequence next
  spelled-elsewhere sequence next spelled image left =
      let whole = torn.crash image left in
      subst (λ s. IsSpelled s sequence next) (sym (spare_same image left)) (spelled whole.0 whole.1)

pub filled-elsewhere : (before after : Seen) → IsLawful after → (pending : Pending) (payload next : List ℕ) (from n : ℕ)
    → IsElsewhere pending.kept.at pending.kept.capacity from n → TornIn from n before after
    → IsFilled before pending payload next → IsFilled after pending payload next
filled-elsewhere before after lawful pending payload next from n elsewhere torn filled = record {
  cleared = cleared-elsewhere before after lawful pending.kept from n elsewhere torn payload filled.cleared;
  spelled = spelled-elsewhere before after lawful pending.kept from n elsewhere torn (pending.kept.sequence + 1) next filled.spelled;
  size = filled.size;
  fits = filled.fits;
}
