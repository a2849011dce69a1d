-- A disk that is made to stand for a device as it leaves the factory.
use Rattle.std.proofs.Common.{◌≡◌, ℕ, ◌≤◌, List, length, Err, inl, inr, refl, sym, ap, subst, arith}
use Rattle.sz_base.specs.Identity.{IsWhole}
use Rattle.sz_base.specs.declared.identity.Identity.{Identity}
use Rattle.sz_disk.specs.Disk.{Seen, IsLawful, LeavesOnly}
use Rattle.sz_disk.proofs.Moments.{leaves-none}
use Rattle.sz_cell.specs.Meaning.{value}
use Rattle.sz_cell.specs.Transition.{Formatted, IsInUse, MeansAsBeforeOr}
use Rattle.sz_cell.specs.declared.fault.FormatFault.{FormatFault}
use Rattle.sz_cell.specs.declared.fault.FormatFault.TheVariants.{Failed as format_fault, InUse as cell_in_use}
use Rattle.sz_record.specs.Spelling.{new_version, record_bytes}
use Rattle.sz_record.specs.Stored.{HasWidths}
use Rattle.sz_state.specs.Fault.{of_format}
use Rattle.sz_state.specs.Layout.{HasLayout, IsLayout, capacity_of, cell_place, space_of}
use Rattle.sz_state.specs.Fitting.{Fits}
use Rattle.sz_state.specs.Ran.{AsBeforeOrStands, FitsUnlessTold, IsEarly, IsInitialised, IsNoRecord, IsTooLarge, Made}
use Rattle.sz_state.specs.Step.{factory}
use Rattle.sz_state.specs.declared.areas.Layout.{Layout}
use Rattle.sz_state.specs.declared.fault.StateFault.{StateFault}
use Rattle.sz_state.proofs.Crash.{first_stored, initial-any_moment}
use Rattle.sz_state.proofs.Finding.{factory_storable, format_refused, made}

module _ (old new : Seen) (identity : Identity) (payload : List ℕ) (layout : Layout) (lawful : IsLawful new)
    (same : new.size ≡ old.size) (has : HasLayout old.size) (is : IsLayout old.size layout) (whole : IsWhole identity)
    (widths : HasWidths (factory identity)) (first : payload ≡ record_bytes new_version (factory identity)) where
  pub made_at : Formatted layout.cell.at layout.cell.capacity old new payload → IsInitialised new identity
  made_at cell =
      let P : ℕ → Type 0 = λ at. Formatted at layout.cell.capacity old new payload in
      let Q : ℕ → Type 0 = λ capacity. Formatted cell_place capacity old new payload in
      made old new identity payload lawful same has whole widths first (subst Q is.capacity (subst P is.at cell))

  pub made-any_moment : LeavesOnly old new
      (MeansAsBeforeOr layout.cell.at layout.cell.capacity old.leaves (value 0 1 payload))
      → LeavesOnly old new (AsBeforeOrStands old (factory identity))
  made-any_moment leaves =
      let P : ℕ → Type 0 = λ at. LeavesOnly old new
      (MeansAsBeforeOr at layout.cell.capacity old.leaves (value 0 1 payload)) in
      let Q : ℕ → Type 0 = λ capacity. LeavesOnly old new
      (MeansAsBeforeOr cell_place capacity old.leaves (value 0 1 payload)) in
      let stored = first_stored (space_of old.size) identity payload first (factory_storable identity whole) widths in
      initial-any_moment old new identity payload lawful same has stored first (subst Q is.capacity (subst P is.at leaves))

pub not_made : (old new : Seen) (identity : Identity) (layout : Layout) (fault : FormatFault) → IsLayout old.size layout
    → ((slot : ℕ) → fault ≡ cell_in_use slot → IsInUse layout.cell.at layout.cell.capacity slot old new)
    → Made old new identity (Err (of_format fault))
not_made old new identity layout fault is in_use = format_refused old new identity fault (λ slot e.
    let P : ℕ → Type 0 = λ at. IsInUse at layout.cell.capacity slot old new in
    let Q : ℕ → Type 0 = λ capacity. IsInUse cell_place capacity slot old new in
    subst Q is.capacity (subst P is.at (in_use slot e)))

-- the disk was called
pub not_early : (fault : FormatFault) → IsEarly (of_format fault) → ⊥
not_early format_fault (inl is) = cc is
not_early format_fault (inr (found, is)) = cc is
not_early (cell_in_use slot) (inl is) = cc is
not_early (cell_in_use slot) (inr (found, is)) = cc is

-- the disk was not called
pub early_made : (disk : Seen) (identity : Identity) (layout : Layout) (fault : StateFault) → IsLayout disk.size layout
    → IsNoRecord layout.cell.capacity (factory identity) fault → Made disk disk identity (Err fault)
early_made disk identity layout fault is (inl memory) =
    let P : StateFault → Type 0 = λ f. Made disk disk identity (Err f) in
    subst P (sym memory) tt
early_made disk identity layout fault is (inr (found, large, over)) =
    let P : StateFault → Type 0 = λ f. Made disk disk identity (Err f) in
    let Q : ℕ → Type 0 = λ capacity. IsTooLarge capacity (factory identity) found in
    subst P (sym large) (subst Q is.capacity over)

pub early-any_moment : (disk : Seen) (identity : Identity) → IsLawful disk
    → LeavesOnly disk disk (AsBeforeOrStands disk (factory identity))
early-any_moment disk identity lawful =
    leaves-none disk (AsBeforeOrStands disk (factory identity)) lawful (λ image left. inl (image, left, refl))

-- the record fits the cell as the layout places it
pub fits_placed : (size : ℕ) (layout : Layout) (identity : Identity) (payload : List ℕ) → IsLayout size layout
    → payload ≡ record_bytes new_version (factory identity) → length payload ≤ layout.cell.capacity
    → Fits (capacity_of size) (factory identity)
fits_placed size layout identity payload is first fits =
    omega (arith, ap (λ (l : List ℕ). length l) first, fits, is.capacity)

pub fits-refused : (old : Seen) (identity : Identity) (fault : FormatFault) → Fits (capacity_of old.size) (factory identity)
    → FitsUnlessTold old identity (Err (of_format fault))
fits-refused old identity format_fault fits = fits
fits-refused old identity (cell_in_use slot) fits = fits

pub fits-early : (old : Seen) (identity : Identity) (capacity : ℕ) (fault : StateFault)
    → IsNoRecord capacity (factory identity) fault → FitsUnlessTold old identity (Err fault)
fits-early old identity capacity fault (inl memory) =
    let P : StateFault → Type 0 = λ f. FitsUnlessTold old identity (Err f) in
    subst P (sym memory) tt
fits-early old identity capacity fault (inr (found, large, over)) =
    let P : StateFault → Type 0 = λ f. FitsUnlessTold old identity (Err f) in
    subst P (sym large) tt
