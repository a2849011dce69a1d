-- How the words on what a call of a cell writes go together.
use Rattle.std.proofs.Common.{◌≡◌, ℕ, ◌+◌, ◌≤◌, List, [], ◌∷◌, ◌++◌, length, take, drop, Option, Some, None, is_some, Result, Ok, Err, IsErr, OnOk, slice_index, refl, sym, ap, subst, ◌∙◌, inl, inr, arith}
use Rattle.std.specs.Option.{option_map}
use Rattle.std.proofs.lemmas.Bool.{cases_eq}
use Rattle.std.proofs.lemmas.List.{append_assoc, drop_at, length-append, length-take-le}
use Rattle.std.proofs.lemmas.Option.{none-some, same_Some}
use Rattle.sz_disk.specs.Image.{patched, ChangedIn}
use Rattle.sz_disk.specs.Disk.{Seen, IsLawful, IsQuiet, TornIn, ReadsChangedIn}
use Rattle.sz_disk.proofs.Parts.{ChangedIn-refl, ChangedIn-wider, ChangedIn-patched, patched-patched}
use Rattle.sz_disk.proofs.Moments.{length-read, torn-wider, torn-torn}
use Rattle.sz_cell.specs.Slot.{open_gate, closed_gate, spelled}
use Rattle.sz_cell.specs.Write.{Wrote, Writes, ClosesGate}

option_map-some : (f : List ℕ → List ℕ) (o : Option (List ℕ)) (y : List ℕ) → option_map f o ≡ Some y
    → (x : List ℕ) × (o ≡ Some x) × (y ≡ f x)
option_map-some f None y is = absurd (none-some y is)
option_map-some f (Some x) y is = (x, refl, sym (same_Some (f x) y is))

-- what is left after a write that was synced
pub wrote_image : (at : ℕ) (bytes : List ℕ) (old new : Seen) → Wrote at bytes old new → (image : List ℕ) → new.leaves image
    → (whole : List ℕ) × (old.reads ≡ Some whole) × (image ≡ patched at bytes whole)
wrote_image at bytes old new wrote image left =
    option_map-some (patched at bytes) old.reads image (sym wrote.reads ∙ wrote.settled image left)

-- bytes over a range that has changed within them
patched-changed : (at : ℕ) (bytes before after : List ℕ) → ChangedIn at (length bytes) before after
    → patched at bytes after ≡ patched at bytes before
patched-changed at bytes before after changed =
    ap (λ l. l ++ bytes ++ drop (at + length bytes) after) changed.front
    ∙ ap (λ l. take at before ++ bytes ++ l) changed.back

-- one byte in front of bytes that stand behind it
patched-front : (at : ℕ) (x : ℕ) (xs image : List ℕ) → at + 1 + length xs ≤ length image
    → patched at (x ∷ []) (patched (at + 1) xs image) ≡ patched at (x ∷ xs) image
patched-front at x xs image fits =
    let behind : ChangedIn (at + 1) (length xs) image (patched (at + 1) xs image) = ChangedIn-patched (at + 1) xs image fits in
    let front : take at (patched (at + 1) xs image) ≡ take at image =
    (ChangedIn-wider (at + 1) (length xs) at (1 + length xs) image _ (omega arith) (omega arith) behind).front in
    let rest : List ℕ = drop (at + 1 + length xs) image in
    let long : length (take (at + 1) image) ≡ at + 1 = length-take-le (at + 1) image (omega arith) in
    let last : drop (at + 1) (patched (at + 1) xs image) ≡ xs ++ rest =
    ap (λ l. drop (at + 1) l) (append_assoc (take (at + 1) image) xs rest) ∙ drop_at (take (at + 1) image) (xs ++ rest) (at + 1) long in
    ap (λ l. l ++ (x ∷ []) ++ drop (at + 1) (patched (at + 1) xs image)) front
    ∙ ap (λ l. take at image ++ (x ∷ []) ++ l) last
    ∙ append_assoc (take at image) (x ∷ []) (xs ++ rest)
    ∙ sym (append_assoc (take at image) (x ∷ xs) rest)
    ∙ ap (λ k. take at image ++ (x ∷ xs) ++ drop k image) (omega arith)

front_read : (at : ℕ) (x : ℕ) (xs : List ℕ) (reads : Option (List ℕ))
    → ((bytes : List ℕ) → reads ≡ Some bytes → at + 1 + length xs ≤ length bytes)
    → option_map (patched at (x ∷ [])) (option_map (patched (at + 1) xs) reads) ≡ option_map (patched at (x ∷ xs)) reads
front_read at x xs None fits = refl
front_read at x xs (Some bytes) fits = ap Some (patched-front at x xs bytes (fits bytes refl))

-- a slot written behind its gate, and then its gate
pub wrote-gate : (at : ℕ) (x : ℕ) (xs : List ℕ) (first middle last : Seen) → IsLawful first → at + 1 + length xs ≤ first.size
    → Wrote (at + 1) xs first middle → Wrote at (x ∷ []) middle last → Wrote at (x ∷ xs) first last
wrote-gate at x xs first middle last lawful fits behind gate = record {
  reads =
      gate.reads
      ∙ ap (option_map (patched at (x ∷ []))) behind.reads
      ∙ front_read at x xs first.reads (λ bytes told. omega (arith, fits, length-read first lawful bytes told));
  settled = gate.settled;
}

-- a write after calls that wrote nothing
pub quiet-wrote : (at : ℕ) (bytes : List ℕ) (first middle last : Seen) → IsQuiet first middle → Wrote at bytes middle last
    → Wrote at bytes first last
quiet-wrote at bytes first middle last quiet wrote = record {
  reads = wrote.reads ∙ ap (option_map (patched at bytes)) quiet.reads;
  settled = wrote.settled;
}

-- a slot torn at its gate, and behind it
pub torn-gate : (at : ℕ) (x : ℕ) (xs : List ℕ) (old new : Seen) → TornIn at 1 old new → TornIn at (length (x ∷ xs)) old new
torn-gate at x xs old new = torn-wider at 1 at (length (x ∷ xs)) old new (omega arith) (omega arith)

pub torn-behind : (at : ℕ) (x : ℕ) (xs : List ℕ) (old new : Seen) → TornIn (at + 1) (length xs) old new → TornIn at (length (x ∷ xs)) old new
torn-behind at x xs old new = torn-wider (at + 1) (length xs) at (length (x ∷ xs)) old new (omega arith) (omega arith)

changed_read : (at : ℕ) (bytes : List ℕ) (before after : Option (List ℕ)) → ReadsChangedIn at (length bytes) before after
    → option_map (patched at bytes) after ≡ option_map (patched at bytes) before
changed_read at bytes None None changed = refl
changed_read at bytes None (Some after) changed = absurd changed
changed_read at bytes (Some before) None changed = absurd changed
changed_read at bytes (Some before) (Some after) changed = ap Some (patched-changed at bytes before after changed)

-- a write over all that changed before it
pub wrote-over : (at : ℕ) (bytes : List ℕ) (first middle last : Seen) → ReadsChangedIn at (length bytes) first.reads middle.reads
    → Wrote at bytes middle last → Wrote at bytes first last
wrote-over at bytes first middle last changed wrote = record {
  reads = wrote.reads ∙ changed_read at bytes first.reads middle.reads changed;
  settled = wrote.settled;
}

-- what a read gives, where a gate at the front of these bytes was closed
closed_read : (at n : ℕ) (before after : Option (List ℕ)) → is_some after ≡ is_some before
    → ((bytes : List ℕ) → before ≡ Some bytes → (now : List ℕ) × (after ≡ Some now) × ChangedIn at n bytes now)
    → ReadsChangedIn at n before after
closed_read at n None None told change = tt
closed_read at n None (Some after) told change = absurd cc
closed_read at n (Some before) None told change = absurd cc
closed_read at n (Some before) (Some after) told change =
    let changed = change before refl in
    subst (λ l. ChangedIn at n before l) (same_Some changed.0 after (sym changed.1)) changed.2

-- what a read gives has changed at a gate alone that was closed
pub closes-reads : {T E : Type 0} (at n : ℕ) (old new : Seen) (value : T) → IsLawful old → 1 ≤ n → at + 1 ≤ old.size
    → ClosesGate {T = T} {E = E} at old new (Ok value) → ReadsChangedIn at n old.reads new.reads
closes-reads at n old new value lawful around fits closes = closed_read at n old.reads new.reads closes.elsewhere.told changed
  where
    changed : (bytes : List ℕ) → old.reads ≡ Some bytes
        → (now : List ℕ) × (new.reads ≡ Some now) × ChangedIn at n bytes now
    changed bytes told = elim (cases_eq (slice_index bytes at) open_gate) [
      | inl is ↦
          let wrote = closes.where_open bytes told is in
          let inside : at + 1 ≤ length bytes = omega (arith, fits, length-read old lawful bytes told) in (
            patched at (closed_gate ∷ []) bytes,
            wrote.reads ∙ ap (option_map (patched at (closed_gate ∷ []))) told,
            ChangedIn-wider at 1 at n bytes _ (omega arith) (omega arith) (ChangedIn-patched at (closed_gate ∷ []) bytes inside),
          )
      | inr shut ↦ (bytes, (closes.where_closed bytes told shut).reads ∙ told, ChangedIn-refl at n bytes)
    ]

-- a refusal says nothing of success
pub on_ok-refused : {T E : Type 0} (result : Result T E) (P : Type 0) → IsErr result → OnOk result P
on_ok-refused (Ok value) P is = absurd cc
on_ok-refused (Err e) P is = tt

-- and of what was written only where
pub writes-refused : {T E : Type 0} (at : ℕ) (bytes : List ℕ) (old new : Seen) (result : Result T E) → IsErr result
    → TornIn at (length bytes) old new → Writes at bytes old new result
writes-refused at bytes old new result is torn =
    record { ok = on_ok-refused result (Wrote at bytes old new) is; elsewhere = torn }

-- A header and a payload right behind it are what is spelled behind a gate.
module _ (at sequence behind : ℕ) (header payload : List ℕ) (is : header ++ payload ≡ spelled sequence payload)
    (there : behind ≡ at + length header) (first middle last : Seen) where
  long : length header + length payload ≡ length (spelled sequence payload)
  long = sym (length-append header payload) ∙ ap length is

  pub torn-header : TornIn at (length header) first middle → TornIn at (length (spelled sequence payload)) first middle
  torn-header torn =
      torn-wider at (length header) at (length (spelled sequence payload)) first middle (omega arith) (omega (arith, long)) torn

  pub torn-spelled : TornIn at (length header) first middle → TornIn behind (length payload) middle last
      → TornIn at (length (spelled sequence payload)) first last
  torn-spelled a b = torn-torn at (length (spelled sequence payload)) first middle last (torn-header a)
      (torn-wider behind (length payload) at (length (spelled sequence payload)) middle last (omega arith) (omega (arith, long)) b)

  both : (reads : Option (List ℕ)) → ((bytes : List ℕ) → reads ≡ Some bytes → at ≤ length bytes)
      → option_map (patched (at + length header) payload) (option_map (patched at header) reads)
      ≡ option_map (patched at (header ++ payload)) reads
  both None inside = refl
  both (Some bytes) inside = ap Some (patched-patched bytes at header payload (inside bytes refl))

  pub wrote-spelled : IsLawful first → at ≤ first.size → middle.reads ≡ option_map (patched at header) first.reads
      → last.reads ≡ option_map (patched behind payload) middle.reads
      → last.reads ≡ option_map (patched at (spelled sequence payload)) first.reads
  wrote-spelled lawful within a b =
      b
      ∙ ap (λ k. option_map (patched k payload) middle.reads) there
      ∙ ap (option_map (patched (at + length header) payload)) a
      ∙ both first.reads (λ bytes told. omega (arith, within, length-read first lawful bytes told))
      ∙ ap (λ l. option_map (patched at l) first.reads) is
