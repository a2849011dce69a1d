-- The parts of revocation lists: what has no fault is spelled as its relation says, and what is spelled so has none.
use Rattle.std.specs.Prelude.{bytes_eq, map}
use Rattle.std.proofs.Common.{◌≡◌, ℕ, inl, inr, true, false, not, List, [], ◌∷◌, ◌++◌, length, Option, Some, None, refl, sym, ap, subst, ◌∙◌, arith, ℤ}
use Rattle.std.proofs.lemmas.Bool.{cases_Bool, not-true, not_from_false, or_from, or_left, or_right}
use Rattle.sz_calendar.specs.CivilTime.{CivilTime}
use Rattle.sz_der.specs.Der.{AreOctets}
use Rattle.sz_der.specs.Time.{NamesTime}
use Rattle.sz_der.specs.Integer.{is_integer}
use Rattle.sz_der.specs.Spots.{after, after_optional, AreEach, content_at, inside, is_at_end, is_next, Spot, spots_from, whole_at}
use Rattle.sz_der.specs.Tags.{context_constructed, generalized_time_tag, integer_tag, object_identifier_tag, octet_string_tag, sequence_tag, utc_time_tag}
use Rattle.sz_der.proofs.Optional.{absent, after_next, after_other, BeginsWithout, found_next, next_stands, Optional, present, without_nothing}
use Rattle.sz_der.proofs.Joined.{alone, and_then, Der_with, last}
use Rattle.sz_der.proofs.Spots.{end_from_nothing, Found, found_part, holds_from_rule, inside-left, no_item-stands, no_part-stands, nothing_left, parts_of_none, rule_from_holds, stands, Stands}
use Rattle.sz_der.proofs.Octets.{bytes_same, same_bytes}
use Rattle.sz_x509.specs.CertFault.{flag_at, flag_spot, identifier_at, value_spot}
use Rattle.sz_x509.specs.CertPlaces.{seconds_at}
use Rattle.sz_x509.specs.CrlFault.{after_next_update, all_passed_over_fault, entry_extensions_fault, entry_fault, is_time_next, list_extensions_fault, list_version_fault, next_update_fault, passed_over_fault, revoked_fault}
use Rattle.sz_x509.specs.CrlPlaces.{BeginsEntry, entries_at, next_update_at}
use Rattle.sz_x509.specs.Extensions.{Extension}
use Rattle.sz_x509.specs.RevocationList.{AreEntries, ArePassedOver, HasEntryExtensions, HasListExtensions, IsEntry, IsListVersion, IsNextUpdate, IsPassedOver, IsRevoked}
use Rattle.sz_x509.specs.declared.fault.CertKind.TheVariants as kinds
use Rattle.sz_x509.proofs.Chains.{IsFlag_from_none}
use Rattle.sz_x509.proofs.Each.{are_each, each_clear, IsClear}
use Rattle.sz_x509.proofs.ExtensionLists.{extension_at, spelled, whole_some}
use Rattle.sz_x509.proofs.Spelled.{IsSerial_from_none, IsTime_from_none, serial_clear, time_clear}

-- ---- extensions that must not be critical

passed_over_reads : (spot : Spot) → AreOctets spot.left → passed_over_fault spot ≡ None →
    IsPassedOver (extension_at spot) (whole_at spot) × Found spot sequence_tag
unfolding passed_over_fault identifier_at flag_spot value_spot
passed_over_reads spot fits n =
    let a = parts_of_none _ _ n in
    let b = parts_of_none _ _ a.1 in
    let c = parts_of_none _ _ b.1 in
    let d = parts_of_none _ _ c.1 in
    let e = parts_of_none _ _ d.1 in
    let f = parts_of_none _ _ e.1 in
    let sequence = found_part _ _ sequence_tag spot fits a.0 in
    let identifier = found_part _ _ object_identifier_tag (inside spot) sequence.inside b.0 in
    let flag = IsFlag_from_none (flag_spot spot) identifier.after c.0 in
    let value = found_part _ _ octet_string_tag (value_spot spot) flag.after e.0 in
    let only = last (whole_at (value_spot spot)) value.joined (nothing_left _ _ (after (value_spot spot)) f.0) in
    let parts = and_then (whole_at (inside spot)) identifier.joined (and_then flag.piece flag.joined only) in (
      (
        record {
          identifier = whole_at (inside spot);
          flag = flag.piece;
          value = whole_at (value_spot spot);
          is_identifier = identifier.is_item;
          is_flag = flag.is_piece;
          is_value = value.is_item;
          is_sequence = Der_with (sym (inside-left spot) ∙ parts) sequence.is_item;
        },
        not-true (flag_at (flag_spot spot)) (holds_from_rule (not (flag_at (flag_spot spot))) kinds.Extension spot d.0),
      ),
      sequence,
    )

passed_over_clears : (spot : Spot) (extension : Extension) (whole rest : List ℕ) → IsPassedOver extension whole → spot.left ≡ whole ++ rest →
    IsClear passed_over_fault spot whole rest
unfolding passed_over_fault
passed_over_clears spot extension whole rest is joined =
    let there = spelled spot extension whole rest is.0 joined in
    let flag : flag_at (flag_spot spot) ≡ false = ap (λ (x : Extension). x.critical) there.is_extension ∙ is.1 in
    record {
      no_fault = rw (
        there.sequence,
        there.identifier,
        there.flag,
        rule_from_holds (not (flag_at (flag_spot spot))) kinds.Extension spot (not_from_false (flag_at (flag_spot spot)) flag),
        there.value,
        there.end,
      ) refl;
      after = there.after;
      more = there.some;
      some = whole_some sequence_tag _ whole is.0.is_sequence;
    }

-- a SEQUENCE of them
sequence_reads : (spot : Spot) → Found spot sequence_tag → all_passed_over_fault spot ≡ None → ArePassedOver (whole_at spot)
sequence_reads spot here e =
    let list = inside spot in
    let are = are_each IsPassedOver extension_at passed_over_fault passed_over_reads (length list.left) list (omega arith) here.inside e in
    record {
      extensions = map extension_at (spots_from list);
      content = content_at spot;
      are_extensions = subst (λ (x : List ℕ). AreEach IsPassedOver (map extension_at (spots_from list)) x) (inside-left spot) are;
      is_sequence = here.is_item;
    }

sequence_clear : (spot : Spot) (content : List ℕ) (extensions : List Extension) → AreEach IsPassedOver extensions content →
    (inside spot).left ≡ content → all_passed_over_fault spot ≡ None
sequence_clear spot content extensions are left =
    each_clear IsPassedOver passed_over_fault passed_over_clears (length (inside spot).left) (inside spot) extensions (omega arith)
    (subst (λ (x : List ℕ). AreEach IsPassedOver extensions x) (sym left) are)

-- ---- entries

entry_extensions_read : (spot : Spot) → AreOctets spot.left → entry_extensions_fault spot ≡ None → Optional spot sequence_tag HasEntryExtensions
unfolding entry_extensions_fault
entry_extensions_read spot fits n =
    elim (cases_Bool (is_next sequence_tag spot)) [
      | inl next ↦
          let a = parts_of_none _ _ (rw next at n) in
          let b = parts_of_none _ _ a.1 in
          let here = found_next _ sequence_tag spot fits next a.0 in
          present spot sequence_tag HasEntryExtensions here next (inr (sequence_reads spot here b.0))
      | inr other ↦ absent spot sequence_tag HasEntryExtensions fits other (inl refl)
    ]

entry_extensions_clear : (spot : Spot) (piece : List ℕ) → HasEntryExtensions piece → spot.left ≡ piece →
    (entry_extensions_fault spot ≡ None) × ((after_optional sequence_tag spot).left ≡ [])
unfolding entry_extensions_fault
entry_extensions_clear spot piece (inl nothing) left =
    let other = without_nothing sequence_tag spot (left ∙ nothing) in
    (rw other refl, rw (after_other sequence_tag spot other) (left ∙ nothing))
entry_extensions_clear spot piece (inr some) left =
    let here = stands spot sequence_tag some.content piece [] some.is_sequence (alone piece left) in
    let next = next_stands spot sequence_tag some.content piece [] here in
    let all = sequence_clear spot some.content some.extensions some.are_extensions here.inside_is in
    (rw (next, no_item-stands kinds.Der here, all) refl, rw (after_next sequence_tag spot next) here.after_is)

-- the serial number of the entry at a spot
abbrev pub serial_at : Spot → List ℕ
serial_at spot = content_at (inside spot)

entry_reads : (spot : Spot) → AreOctets spot.left → entry_fault spot ≡ None → IsEntry (serial_at spot) (whole_at spot) × Found spot sequence_tag
unfolding entry_fault
entry_reads spot fits n =
    let a = parts_of_none _ _ n in
    let b = parts_of_none _ _ a.1 in
    let c = parts_of_none _ _ b.1 in
    let d = parts_of_none _ _ c.1 in
    let e = parts_of_none _ _ d.1 in
    let sequence = found_part _ _ sequence_tag spot fits a.0 in
    let number = IsSerial_from_none (inside spot) sequence.inside b.0 in
    let date = IsTime_from_none (after (inside spot)) number.1.after c.0 in
    let extensions = entry_extensions_read (after (after (inside spot))) date.1.after d.0 in
    let only = last extensions.piece extensions.joined (nothing_left _ _ (after_optional sequence_tag (after (after (inside spot)))) e.0) in
    let parts = and_then (whole_at (inside spot)) number.1.joined (and_then (whole_at (after (inside spot))) date.1.joined only) in (
      record {
        number = whole_at (inside spot);
        date = whole_at (after (inside spot));
        extensions = extensions.piece;
        seconds = seconds_at (after (inside spot));
        is_number = number.0;
        is_date = date.0;
        has_extensions = extensions.is_piece;
        is_sequence = Der_with (sym (inside-left spot) ∙ parts) sequence.is_item;
      },
      sequence,
    )

-- an entry that is spelled at a spot
pub record HasEntry (spot : Spot) (serial rest : List ℕ) : Type 0 where
  pub begins : BeginsEntry spot
  pub serial_is : serial_at spot ≡ serial
  pub no_fault : entry_fault spot ≡ None
  pub after : (after spot).left ≡ rest
  pub more : is_at_end spot ≡ false

pub has_entry : (spot : Spot) (serial whole rest : List ℕ) → IsEntry serial whole → spot.left ≡ whole ++ rest → HasEntry spot serial rest
unfolding entry_fault
has_entry spot serial whole rest is joined =
    let sequence = stands spot sequence_tag (is.number ++ (is.date ++ is.extensions)) whole rest is.is_sequence joined in
    let number = serial_clear (inside spot) serial is.number (is.date ++ is.extensions) is.is_number sequence.inside_is in
    let date = time_clear (after (inside spot)) is.seconds is.date is.extensions is.is_date number.1.after_is in
    let extensions = entry_extensions_clear (after (after (inside spot))) is.extensions is.has_extensions date.2 in
    let part_is = no_part-stands kinds.Der kinds.Der spot sequence_tag (is.number ++ (is.date ++ is.extensions)) whole rest sequence in
    record {
      begins = record { sequence = part_is; number = number.0 };
      serial_is = number.1.content_is;
      no_fault = rw (
        part_is,
        number.0,
        date.0,
        extensions.0,
        end_from_nothing kinds.Der kinds.Der (after_optional sequence_tag (after (after (inside spot)))) extensions.1,
      ) refl;
      after = sequence.after_is;
      more = sequence.is_some;
    }

entry_clears : (spot : Spot) (serial whole rest : List ℕ) → IsEntry serial whole → spot.left ≡ whole ++ rest → IsClear entry_fault spot whole rest
entry_clears spot serial whole rest is joined =
    let there = has_entry spot serial whole rest is joined in
    record { no_fault = there.no_fault; after = there.after; more = there.more; some = whole_some sequence_tag _ whole is.is_sequence }

-- ---- revokedCertificates

pub entries_next : (spot : Spot) → is_next sequence_tag spot ≡ true → entries_at spot ≡ content_at spot
unfolding entries_at
entries_next spot next = rw next refl

pub entries_other : (spot : Spot) → is_next sequence_tag spot ≡ false → entries_at spot ≡ []
unfolding entries_at
entries_other spot other = rw other refl

pub revoked_reads : (spot : Spot) → AreOctets spot.left → revoked_fault spot ≡ None → Optional spot sequence_tag (IsRevoked (entries_at spot))
unfolding revoked_fault
revoked_reads spot fits n =
    elim (cases_Bool (is_next sequence_tag spot)) [
      | inl next ↦
          let a = parts_of_none _ _ (rw next at n) in
          let b = parts_of_none _ _ a.1 in
          let here = found_next _ sequence_tag spot fits next a.0 in
          let list = inside spot in
          let are = are_each IsEntry serial_at entry_fault entry_reads (length list.left) list (omega arith) here.inside b.0 in
          let entries = subst (λ (x : List ℕ). AreEntries (map serial_at (spots_from list)) x) (inside-left spot) are in
          present spot sequence_tag (IsRevoked (entries_at spot)) here next
          (inr (map serial_at (spots_from list), rw (entries_next spot next) entries, rw (entries_next spot next) here.is_item))
      | inr other ↦ absent spot sequence_tag (IsRevoked (entries_at spot)) fits other (inl (refl, entries_other spot other))
    ]

pub revoked_clear : (spot : Spot) (entries piece rest : List ℕ) → IsRevoked entries piece → BeginsWithout sequence_tag rest → spot.left ≡ piece ++ rest →
    (revoked_fault spot ≡ None) × (entries_at spot ≡ entries) × ((after_optional sequence_tag spot).left ≡ rest)
unfolding revoked_fault
revoked_clear spot entries piece rest (inl nothing) without joined =
    let left : spot.left ≡ rest = joined ∙ ap (λ (x : List ℕ). x ++ rest) nothing.0 in
    let other = without spot left in
    (rw other refl, entries_other spot other ∙ sym nothing.1, rw (after_other sequence_tag spot other) left)
revoked_clear spot entries piece rest (inr some) without joined =
    let here = stands spot sequence_tag entries piece rest some.2 joined in
    let next = next_stands spot sequence_tag entries piece rest here in
    let all = each_clear IsEntry entry_fault entry_clears (length (inside spot).left) (inside spot) some.0 (omega arith)
    (subst (λ (x : List ℕ). AreEntries some.0 x) (sym here.inside_is) some.1) in (
      rw (next, no_item-stands kinds.Der here, all) refl,
      entries_next spot next ∙ here.content_is,
      rw (after_next sequence_tag spot next) here.after_is,
    )

-- ---- version and crlExtensions

pub list_version_reads : (spot : Spot) → AreOctets spot.left → list_version_fault spot ≡ None → Optional spot integer_tag IsListVersion
unfolding list_version_fault
list_version_reads spot fits n =
    elim (cases_Bool (is_next integer_tag spot)) [
      | inl next ↦
          let a = parts_of_none _ _ (rw next at n) in
          let b = parts_of_none _ _ a.1 in
          let c = parts_of_none _ _ b.1 in
          let here = found_next _ integer_tag spot fits next a.0 in
          let is = same_bytes (content_at spot) (1 ∷ []) (holds_from_rule (bytes_eq (content_at spot) (1 ∷ [])) kinds.Version spot c.0) in
          present spot integer_tag IsListVersion here next (inr (Der_with is here.is_item))
      | inr other ↦ absent spot integer_tag IsListVersion fits other (inl refl)
    ]

pub list_version_clear : (spot : Spot) (piece rest : List ℕ) → IsListVersion piece → BeginsWithout integer_tag rest → spot.left ≡ piece ++ rest →
    (list_version_fault spot ≡ None) × ((after_optional integer_tag spot).left ≡ rest)
unfolding list_version_fault
list_version_clear spot piece rest (inl nothing) without joined =
    let left : spot.left ≡ rest = joined ∙ ap (λ (x : List ℕ). x ++ rest) nothing in
    let other = without spot left in
    (rw other refl, rw (after_other integer_tag spot other) left)
list_version_clear spot piece rest (inr item) without joined =
    let here = stands spot integer_tag (1 ∷ []) piece rest item joined in
    let next = next_stands spot integer_tag (1 ∷ []) piece rest here in
    let minimal : is_integer (content_at spot) ≡ true = rw here.content_is refl in (
      rw (
        next,
        no_item-stands kinds.Der here,
        rule_from_holds (is_integer (content_at spot)) kinds.Der spot minimal,
        rule_from_holds (bytes_eq (content_at spot) (1 ∷ [])) kinds.Version spot (bytes_same (content_at spot) (1 ∷ []) here.content_is),
      ) refl,
      rw (after_next integer_tag spot next) here.after_is,
    )

pub list_extensions_read : (spot : Spot) → AreOctets spot.left → list_extensions_fault spot ≡ None → Optional spot context_constructed HasListExtensions
unfolding list_extensions_fault
list_extensions_read spot fits n =
    elim (cases_Bool (is_next context_constructed spot)) [
      | inl next ↦
          let a = parts_of_none _ _ (rw next at n) in
          let b = parts_of_none _ _ a.1 in
          let c = parts_of_none _ _ b.1 in
          let d = parts_of_none _ _ c.1 in
          let here = found_next _ context_constructed spot fits next a.0 in
          let sequence = found_part _ _ sequence_tag (inside spot) here.inside b.0 in
          let only = last (whole_at (inside spot)) sequence.joined (nothing_left _ _ (after (inside spot)) d.0) in
          present spot context_constructed HasListExtensions here next (inr (
            whole_at (inside spot),
            sequence_reads (inside spot) sequence c.0,
            Der_with (sym (inside-left spot) ∙ only) here.is_item,
          ))
      | inr other ↦ absent spot context_constructed HasListExtensions fits other (inl refl)
    ]

pub list_extensions_clear : (spot : Spot) (piece : List ℕ) → HasListExtensions piece → spot.left ≡ piece →
    (list_extensions_fault spot ≡ None) × ((after_optional context_constructed spot).left ≡ [])
unfolding list_extensions_fault
list_extensions_clear spot piece (inl nothing) left =
    let other = without_nothing context_constructed spot (left ∙ nothing) in
    (rw other refl, rw (after_other context_constructed spot other) (left ∙ nothing))
list_extensions_clear spot piece (inr some) left =
    let here = stands spot context_constructed some.0 piece [] some.2 (alone piece left) in
    let next = next_stands spot context_constructed some.0 piece [] here in
    let sequence = stands (inside spot) sequence_tag some.1.content some.0 [] some.1.is_sequence (alone some.0 here.inside_is) in
    let all = sequence_clear (inside spot) some.1.content some.1.extensions some.1.are_extensions sequence.inside_is in (
      rw (
        next,
        no_item-stands kinds.Der here,
        no_part-stands kinds.Der kinds.Der (inside spot) sequence_tag some.1.content some.0 [] sequence,
        all,
        end_from_nothing kinds.Der kinds.Der (after (inside spot)) sequence.after_is,
      ) refl,
      rw (after_next context_constructed spot next) here.after_is,
    )

-- ---- nextUpdate

pub after_time : (spot : Spot) → is_time_next spot ≡ true → after_next_update spot ≡ after spot
unfolding after_next_update
after_time spot next = rw next refl

pub after_no_time : (spot : Spot) → is_time_next spot ≡ false → after_next_update spot ≡ spot
unfolding after_next_update
after_no_time spot other = rw other refl

pub next_time : (spot : Spot) → is_time_next spot ≡ true → next_update_at spot ≡ Some (seconds_at spot)
unfolding next_update_at
next_time spot next = rw next refl

pub no_next_time : (spot : Spot) → is_time_next spot ≡ false → next_update_at spot ≡ None
unfolding next_update_at
no_next_time spot other = rw other refl

pub record NextUpdate (spot : Spot) : Type 0 where
  pub piece : List ℕ
  pub is_piece : IsNextUpdate (next_update_at spot) piece
  pub joined : spot.left ≡ piece ++ (after_next_update spot).left
  pub after : AreOctets (after_next_update spot).left

pub next_update_reads : (spot : Spot) → AreOctets spot.left → next_update_fault spot ≡ None → NextUpdate spot
unfolding next_update_fault
next_update_reads spot fits n =
    elim (cases_Bool (is_time_next spot)) [
      | inl next ↦
          let time = IsTime_from_none spot fits (rw next at n) in
          let moves = after_time spot next in
          record { piece = whole_at spot; is_piece = rw (next_time spot next) time.0; joined = rw moves time.1.joined; after = rw moves time.1.after }
      | inr other ↦
          let stays = after_no_time spot other in
          record { piece = []; is_piece = rw (no_next_time spot other) refl; joined = rw stays refl; after = rw stays fits }
    ]

time_is_next : (spot : Spot) (tag : ℕ) (content whole rest text : List ℕ) (time : CivilTime) → Stands spot tag content whole rest → NamesTime tag text time →
    is_time_next spot ≡ true
unfolding is_time_next
time_is_next spot tag content whole rest text time here (inl utc) =
    or_left _ _ (subst (λ (t : ℕ). is_next t spot ≡ true) utc.0 (next_stands spot tag content whole rest here))
time_is_next spot tag content whole rest text time here (inr generalized) =
    or_right _ _ (subst (λ (t : ℕ). is_next t spot ≡ true) generalized.0 (next_stands spot tag content whole rest here))

no_time_is_next : (spot : Spot) → is_next utc_time_tag spot ≡ false → is_next generalized_time_tag spot ≡ false → is_time_next spot ≡ false
unfolding is_time_next
no_time_is_next spot utc generalized = or_from _ _ utc generalized

pub next_update_clear : (spot : Spot) (next_update : Option ℤ) (piece rest : List ℕ) → IsNextUpdate next_update piece → BeginsWithout utc_time_tag rest →
    BeginsWithout generalized_time_tag rest → spot.left ≡ piece ++ rest →
    (next_update_fault spot ≡ None) × (next_update_at spot ≡ next_update) × ((after_next_update spot).left ≡ rest)
unfolding next_update_fault
next_update_clear spot None piece rest nothing utc generalized joined =
    let left : spot.left ≡ rest = joined ∙ ap (λ (x : List ℕ). x ++ rest) nothing in
    let other = no_time_is_next spot (utc spot left) (generalized spot left) in
    (rw other refl, no_next_time spot other, rw (after_no_time spot other) left)
next_update_clear spot (Some seconds) piece rest is utc generalized joined =
    let here = stands spot is.tag is.text piece rest is.is_item joined in
    let next = time_is_next spot is.tag is.text piece rest is.text is.time here is.names_time in
    let time = time_clear spot seconds piece rest is joined in
    (rw (next, time.0) refl, next_time spot next ∙ ap (λ (x : ℤ). Some x) time.1, rw (after_time spot next) time.2)
