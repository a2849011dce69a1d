-- Pieces of an image that are put into an area.
use Rattle.std.proofs.Common.{◌≡◌, ℕ, ◌+◌, ◌≤◌, List, ◌++◌, length, take, drop, Option, Some, None, refl, sym, ap, subst, ◌∙◌, inl, arith}
use Rattle.std.specs.Option.{option_map}
use Rattle.std.proofs.Math.Seq.{take-append-add}
use Rattle.std.proofs.lemmas.List.{drop-drop, length-drop, length-take-le, take-append-drop, take_all}
use Rattle.sz_disk.specs.Disk.{Seen, IsLawful, ReadsChangedIn, WroteIn}
use Rattle.sz_disk.specs.Image.{part, patched}
use Rattle.sz_disk.specs.Room.{HasPut, HoldsSame}
use Rattle.sz_disk.proofs.Moments.{length-read, torn-wider}
use Rattle.sz_disk.proofs.Parts.{ChangedIn-patched, part-outside, part-patched}
use Rattle.sz_state.specs.Laws.{area_fits}
use Rattle.sz_state.specs.Layout.{area_place, space_of}
use Rattle.sz_state.specs.Staging.{IsLed, room_of}

take_split : (u n : ℕ) (l : List ℕ) → u ≤ length l → take (u + n) l ≡ take u l ++ take n (drop u l)
take_split u n l le =
    let size : length (take u l) ≡ u = length-take-le u l le in
    ap (λ k. take (k + n) l) (sym size)
    ∙ ap (λ s. take (length (take u l) + n) s) (sym (take-append-drop u l))
    ∙ take-append-add (take u l) (drop u l) n

-- a part, and the one behind it
part_split : (image : List ℕ) (at used n : ℕ) → at + used ≤ length image
    → part image at (used + n) ≡ part image at used ++ part image (at + used) n
part_split image at used n fits =
    take_split used n (drop at image) (omega (arith, length-drop at image))
    ∙ ap (λ l. take used (drop at image) ++ take n l) (drop-drop used at image)

-- a part with a piece put behind it
part_put : (image : List ℕ) (at used : ℕ) (piece : List ℕ) → at + used + length piece ≤ length image
    → part (patched (at + used) piece image) at (used + length piece) ≡ part image at used ++ piece
part_put image at used piece fits =
    let changed = ChangedIn-patched (at + used) piece image fits in
    let now : List ℕ = patched (at + used) piece image in
    let long : length now ≡ length image = changed.size in
    let same : at + used ≡ at + used + 0 = omega arith in
    part_split now at used (length piece) (omega (arith, long))
    ∙ ap (λ l. l ++ part now (at + used) (length piece))
    (part-outside (at + used) (length piece) image now at used changed (inl (omega arith)))
    ∙ ap (λ l. part image at used ++ l)
    (ap (λ k. part now k (length piece)) same
    ∙ part-patched image (at + used) piece 0 (length piece) (omega arith) (omega arith)
    ∙ take_all (length piece) piece (omega arith))

put_reads : (at used size : ℕ) (piece : List ℕ) (before after : Option (List ℕ)) → at + used + length piece ≤ size
    → ((bytes : List ℕ) → before ≡ Some bytes → length bytes ≡ size)
    → after ≡ option_map (patched (at + used) piece) before
    → option_map (λ bytes. part bytes at (used + length piece)) after
    ≡ option_map (λ held. held ++ piece) (option_map (λ bytes. part bytes at used) before)
put_reads at used size piece None after fits sized is =
    ap (λ r. option_map (λ bytes. part bytes at (used + length piece)) r) is
put_reads at used size piece (Some bytes) after fits sized is =
    let whole : length bytes ≡ size = sized bytes refl in
    ap (λ r. option_map (λ bytes. part bytes at (used + length piece)) r) is
    ∙ ap (λ l. Some l) (part_put bytes at used piece (omega (arith, whole)))

kept_reads : (at used n : ℕ) (before after : Option (List ℕ)) → ReadsChangedIn (at + used) n before after
    → option_map (λ bytes. part bytes at used) after ≡ option_map (λ bytes. part bytes at used) before
kept_reads at used n None None changed = refl
kept_reads at used n None (Some after) changed = absurd changed
kept_reads at used n (Some before) None changed = absurd changed
kept_reads at used n (Some before) (Some after) changed =
    ap (λ l. Some l) (part-outside (at + used) n before after at used changed (inl (omega arith)))

module _ (old new : Seen) (area used from n : ℕ) (within : used + n ≤ space_of old.size)
    (place : from ≡ area_place old.size area + used) (wrote : WroteIn from n old new) where
  at : ℕ
  at = area_place old.size area

  wrote_here : WroteIn (at + used) n old new
  unfolding at
  wrote_here = subst (λ p. WroteIn p n old new) place wrote

  pub put-led : IsLed old new area area
  unfolding at
  put-led = record {
    area = refl;
    torn = torn-wider (at + used) n at (space_of old.size) old new (omega arith) (omega (arith, within)) wrote_here.torn;
  }

  pub put-refused : HoldsSame (room_of old area used) (room_of new area used)
  unfolding at
  put-refused = record {
    space = ap (λ s. space_of s) wrote.torn.size;
    used = refl;
    bytes = ap (λ s. option_map (λ bytes. part bytes (area_place s area) used) new.reads) wrote.torn.size
        ∙ kept_reads at used n old.reads new.reads wrote_here.reads;
  }

pub put-done : (old new : Seen) (area used from : ℕ) (piece : List ℕ) → IsLawful old
    → used + length piece ≤ space_of old.size → from ≡ area_place old.size area + used
    → WroteIn from (length piece) old new → new.reads ≡ option_map (patched from piece) old.reads
    → HasPut piece (room_of old area used) (room_of new area (used + length piece))
put-done old new area used from piece lawful within place wrote written =
    let at : ℕ = area_place old.size area in
    let there = subst (λ p. new.reads ≡ option_map (patched p piece) old.reads) place written in
    record {
      space = ap (λ s. space_of s) wrote.torn.size;
      used = refl;
      bytes = ap (λ s. option_map (λ bytes. part bytes (area_place s area) (used + length piece)) new.reads) wrote.torn.size
          ∙ put_reads (area_place old.size area) used old.size piece old.reads new.reads
          (omega (arith, within, area_fits old.size area)) (λ bytes told. length-read old lawful bytes told) there;
    }
