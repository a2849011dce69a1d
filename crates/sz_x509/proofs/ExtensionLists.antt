-- Extensions one after another: what has no fault is spelled as its relation says, and what is spelled so has none.
use Rattle.std.specs.Prelude.{◌+◌, bytes_eq, map, nat_lt}
use Rattle.std.specs.List.{AllByRecursion}
use Rattle.std.proofs.Common.{◌≡◌, ◌≢◌, ℕ, zero, suc, inl, inr, ◌<◌, ◌≤◌, Bool, true, false, not, ◌||◌, List, [], ◌∷◌, ◌++◌, length, None, refl, sym, ap, ◌∙◌, arith, length-append}
use Rattle.std.proofs.lemmas.Bool.{both_ways, cases_Bool, false_from_ne_true, not-true, lt-ltb, ltb-true, not_from_false, or_left, or_right, or_parts, or_from}
use Rattle.std.proofs.lemmas.List.{length-map}
use Rattle.std.proofs.lemmas.List.Folds.{list_any-append}
use Rattle.sz_der.specs.Der.{AreOctets, Der}
use Rattle.sz_der.specs.Spots.{after, content_at, inside, is_at_end, rule, Spot, spots_upto, whole_at}
use Rattle.sz_der.specs.Tags.{boolean_tag, object_identifier_tag, octet_string_tag, sequence_tag}
use Rattle.sz_der.proofs.SpotLists.{less_is_left}
use Rattle.sz_der.proofs.Spots.{end_from_nothing, Found, found_part, holds_from_rule, inside-left, nil_from_end, no_bytes, no_part-stands, nothing_left, parts_of_none, rule_from_holds, stands}
use Rattle.sz_der.proofs.Joined.{alone, and_then, Der_with, last}
use Rattle.sz_der.proofs.Optional.{BeginsWithout, without_item}
use Rattle.sz_der.proofs.Octets.{bytes_same, same_bytes}
use Rattle.sz_x509.specs.CertFault.{each_fault, end, extension_fault, flag_at, flag_fault, flag_spot, identifier_at, part, stands_among, value_fault, value_spot}
use Rattle.sz_x509.specs.Extensions.{AreDistinct, AreExtensions, Extension, is_known, IsExtension, IsUnderstood, most_extensions}
use Rattle.sz_x509.specs.declared.fault.CertKind.TheVariants as kinds
use Rattle.sz_x509.proofs.Chains.{flag_clear, IsFlag_from_none}

-- the extension at a spot
abbrev pub extension_at : Spot → Extension
extension_at spot = record {
  identifier = identifier_at spot;
  critical = flag_at (flag_spot spot);
  value = content_at (value_spot spot);
}

abbrev pub extensions_at : List Spot → List Extension
extensions_at spots = map extension_at spots

-- ---- one extension

-- what keeps the rules of its identifier, its flag and its value
pub record Keeps (spot : Spot) : Type 0 where
  pub understood : IsUnderstood (extension_at spot)
  pub value : value_fault (identifier_at spot) (inside (value_spot spot)) ≡ None
  pub octets : AreOctets (inside (value_spot spot)).left

pub record IsGood (earlier : List Spot) (spot : Spot) : Type 0 where
  pub is_extension : IsExtension (extension_at spot) (whole_at spot)
  pub found : Found spot sequence_tag
  pub new : stands_among earlier (identifier_at spot) ≡ false
  pub keeps : Keeps spot

understood_from : (critical known : Bool) → (not critical || known) ≡ true → critical ≡ true → known ≡ true
understood_from true known e is = e
understood_from false known e is = absurd cc

pub good_from_none : (earlier : List Spot) (spot : Spot) → AreOctets spot.left → extension_fault earlier spot ≡ None → IsGood earlier spot
unfolding extension_fault identifier_at flag_spot value_spot
good_from_none earlier spot fits n =
    let a = parts_of_none _ _ n in
    let b = parts_of_none _ _ a.1 in
    let c = parts_of_none _ _ b.1 in
    let d = parts_of_none _ _ c.1 in
    let e = parts_of_none _ _ d.1 in
    let f = parts_of_none _ _ e.1 in
    let g = parts_of_none _ _ f.1 in
    let h = parts_of_none _ _ g.1 in
    let i = parts_of_none _ _ h.1 in
    let sequence = found_part _ _ sequence_tag spot fits a.0 in
    let identifier = found_part _ _ object_identifier_tag (inside spot) sequence.inside c.0 in
    let flag = IsFlag_from_none (flag_spot spot) identifier.after e.0 in
    let value = found_part _ _ octet_string_tag (value_spot spot) flag.after g.0 in
    let only = last (whole_at (value_spot spot)) value.joined (nothing_left _ _ (after (value_spot spot)) h.0) in
    let parts = and_then (whole_at (inside spot)) identifier.joined (and_then flag.piece flag.joined only) in
    let new = holds_from_rule (not (stands_among earlier (identifier_at spot))) kinds.Extension spot d.0 in
    let told = holds_from_rule (not (flag_at (flag_spot spot)) || is_known (identifier_at spot)) kinds.Extension spot f.0 in
    record {
      is_extension = record {
        identifier = whole_at (inside spot);
        flag = flag.piece;
        value = whole_at (value_spot spot);
        is_identifier = identifier.is_item;
        is_flag = flag.is_piece;
        is_value = value.is_item;
        is_sequence = Der_with (sym (inside-left spot) ∙ parts) sequence.is_item;
      };
      found = sequence;
      new = not-true (stands_among earlier (identifier_at spot)) new;
      keeps = record {
        understood = understood_from (flag_at (flag_spot spot)) (is_known (identifier_at spot)) told;
        value = i.0;
        octets = value.inside;
      };
    }

-- an extension that is spelled at a spot
pub record IsSpelled (spot : Spot) (extension : Extension) (rest : List ℕ) : Type 0 where
  pub sequence : part kinds.Der sequence_tag spot ≡ None
  pub identifier : part kinds.Der object_identifier_tag (inside spot) ≡ None
  pub flag : flag_fault (flag_spot spot) ≡ None
  pub value : part kinds.Der octet_string_tag (value_spot spot) ≡ None
  pub end : end kinds.Der (after (value_spot spot)) ≡ None
  pub is_extension : extension_at spot ≡ extension
  pub after : (after spot).left ≡ rest
  pub some : is_at_end spot ≡ false

same_extension : (extension : Extension) (identifier : List ℕ) (critical : Bool) (value : List ℕ) → identifier ≡ extension.identifier →
    critical ≡ extension.critical → value ≡ extension.value →
    ◌≡◌ {A = Extension} (record { identifier = identifier; critical = critical; value = value }) extension
same_extension extension identifier critical value a b c = rw (a, b, c) refl

pub spelled : (spot : Spot) (extension : Extension) (whole rest : List ℕ) → IsExtension extension whole → spot.left ≡ whole ++ rest →
    IsSpelled spot extension rest
unfolding identifier_at flag_spot value_spot
spelled spot extension whole rest is joined =
    let sequence = stands spot sequence_tag (is.identifier ++ (is.flag ++ is.value)) whole rest is.is_sequence joined in
    let identifier = stands (inside spot) object_identifier_tag extension.identifier is.identifier (is.flag ++ is.value) is.is_identifier
    sequence.inside_is in
    let no_flag : BeginsWithout boolean_tag is.value = λ there left.
    without_item boolean_tag octet_string_tag extension.value is.value [] is.is_value (λ e. absurd (omega arith)) there (alone is.value left) in
    let flag = flag_clear (flag_spot spot) extension.critical is.flag is.value is.is_flag no_flag identifier.after_is in
    let value = stands (value_spot spot) octet_string_tag extension.value is.value [] is.is_value (alone is.value flag.2) in
    record {
      sequence = no_part-stands kinds.Der kinds.Der spot sequence_tag (is.identifier ++ (is.flag ++ is.value)) whole rest sequence;
      identifier = no_part-stands kinds.Der kinds.Der (inside spot) object_identifier_tag extension.identifier is.identifier (is.flag ++ is.value) identifier;
      flag = flag.0;
      value = no_part-stands kinds.Der kinds.Der (value_spot spot) octet_string_tag extension.value is.value [] value;
      end = end_from_nothing kinds.Der kinds.Der (after (value_spot spot)) value.after_is;
      is_extension = same_extension extension (identifier_at spot) (flag_at (flag_spot spot)) (content_at (value_spot spot)) identifier.content_is
          flag.1 value.content_is;
      after = sequence.after_is;
      some = sequence.is_some;
    }

is_understood : (extension : Extension) → IsUnderstood extension → (not extension.critical || is_known extension.identifier) ≡ true
is_understood extension understood =
    elim (cases_Bool extension.critical) [
      | inl critical ↦ or_right _ _ (understood critical)
      | inr not_critical ↦ or_left _ _ (not_from_false extension.critical not_critical)
    ]

pub clear_where_spelled : (earlier : List Spot) (spot : Spot) (extension : Extension) (rest : List ℕ) → IsSpelled spot extension rest →
    length earlier < most_extensions → stands_among earlier extension.identifier ≡ false → IsUnderstood extension →
    value_fault extension.identifier (inside (value_spot spot)) ≡ None → extension_fault earlier spot ≡ None
unfolding extension_fault
clear_where_spelled earlier spot extension rest is room new understood value =
    let same : identifier_at spot ≡ extension.identifier = ap (λ (x : Extension). x.identifier) is.is_extension in
    let critical : flag_at (flag_spot spot) ≡ extension.critical = ap (λ (x : Extension). x.critical) is.is_extension in
    rw (
      is.sequence,
      rule_from_holds (nat_lt (length earlier) most_extensions) kinds.Extension spot (lt-ltb (length earlier) most_extensions room),
      is.identifier,
      rule_from_holds (not (stands_among earlier (identifier_at spot))) kinds.Extension spot
          (not_from_false (stands_among earlier (identifier_at spot)) (rw same new)),
      is.flag,
      rule_from_holds (not (flag_at (flag_spot spot)) || is_known (identifier_at spot)) kinds.Extension spot
          (rw (critical, same) (is_understood extension understood)),
      is.value,
      is.end,
      same,
      value,
    ) refl

-- ---- all of them

pub whole_some : (tag : ℕ) (content whole : List ℕ) → Der tag content whole → 0 < length whole
whole_some tag content whole item = rw item.spelled (omega arith)

pub are_extensions : (n : ℕ) (earlier : List Spot) (spot : Spot) → length spot.left ≤ n → AreOctets spot.left →
    each_fault earlier (spots_upto n spot) ≡ None →
    AreExtensions (extensions_at (spots_upto n spot)) spot.left × AllByRecursion Keeps (spots_upto n spot)
unfolding spots_upto each_fault
are_extensions zero earlier spot few fits e = (no_bytes spot.left few, tt)
are_extensions (suc n) earlier spot few fits e =
    elim (cases_Bool (is_at_end spot)) [
      | inl at_end ↦ rw at_end (nil_from_end spot true at_end refl, tt)
      | inr more ↦
          let parts = parts_of_none _ _ (rw more at e) in
          let others = parts_of_none _ _ parts.1 in
          let good = good_from_none earlier spot fits parts.0 in
          let fewer : length (after spot).left ≤ n = omega (arith, less_is_left spot more) in
          let rest = are_extensions n (earlier ++ spot ∷ []) (after spot) fewer good.found.after others.0 in
          rw more ((whole_at spot, (after spot).left, good.is_extension, good.found.joined, rest.0), (good.keeps, rest.1))
    ]

-- ---- they are few

room_of : (earlier : List Spot) (spot : Spot) → extension_fault earlier spot ≡ None → length earlier < most_extensions
unfolding extension_fault
room_of earlier spot n =
    let a = parts_of_none _ _ n in
    let b = parts_of_none _ _ a.1 in
    ltb-true (length earlier) most_extensions (holds_from_rule (nat_lt (length earlier) most_extensions) kinds.Extension spot b.0)

few_spots : (earlier later : List Spot) → length earlier ≤ most_extensions → each_fault earlier later ≡ None →
    length earlier + length later ≤ most_extensions
unfolding each_fault
few_spots earlier [] few e = omega (arith, few)
few_spots earlier (spot ∷ later) few e =
    let parts = parts_of_none _ _ e in
    let others = parts_of_none _ _ parts.1 in
    let longer = length-append earlier (spot ∷ []) in
    let room = room_of earlier spot parts.0 in
    let rest = few_spots (earlier ++ spot ∷ []) later (omega (arith, room, longer)) others.0 in
    omega (arith, rest, longer)

pub are_few : (spots : List Spot) → each_fault [] spots ≡ None → length (extensions_at spots) ≤ most_extensions
are_few spots e = omega (arith, few_spots [] spots (omega arith) e, length-map spots extension_at)

-- ---- no identifier stands twice

-- what is not among the earlier ones is not this one
abbrev Covers : List Spot → List ℕ → Type 0
Covers earlier identifier = (other : List ℕ) → stands_among earlier other ≡ false → other ≡ identifier → ⊥

covers_last : (earlier : List Spot) (spot : Spot) → Covers (earlier ++ spot ∷ []) (identifier_at spot)
unfolding stands_among
covers_last earlier spot other none same =
    let apart = list_any-append (λ there. bytes_eq (identifier_at there) other) earlier (spot ∷ []) in
    let a = or_parts _ _ (sym apart ∙ none) in
    let b = or_parts _ _ a.1 in
    both_ways _ b.0 (bytes_same (identifier_at spot) other (sym same))

covers_more : (earlier : List Spot) (spot : Spot) (identifier : List ℕ) → Covers earlier identifier → Covers (earlier ++ spot ∷ []) identifier
unfolding stands_among
covers_more earlier spot identifier covers other none same =
    let apart = list_any-append (λ there. bytes_eq (identifier_at there) other) earlier (spot ∷ []) in
    covers other (or_parts _ _ (sym apart ∙ none)).0 same

pub new_of : (earlier : List Spot) (spot : Spot) → extension_fault earlier spot ≡ None → stands_among earlier (identifier_at spot) ≡ false
unfolding extension_fault
new_of earlier spot n =
    let a = parts_of_none (part kinds.Der sequence_tag spot) _ n in
    let b = parts_of_none (rule (nat_lt (length earlier) most_extensions) kinds.Extension spot) _ a.1 in
    let c = parts_of_none (part kinds.Der object_identifier_tag (inside spot)) _ b.1 in
    let d = parts_of_none (rule (not (stands_among earlier (identifier_at spot))) kinds.Extension spot) _ c.1 in
    not-true (stands_among earlier (identifier_at spot))
    (holds_from_rule (not (stands_among earlier (identifier_at spot))) kinds.Extension spot d.0)

all_others : (earlier later : List Spot) (identifier : List ℕ) → each_fault earlier later ≡ None → Covers earlier identifier →
    AllByRecursion (λ other. other.identifier ≢ identifier) (extensions_at later)
unfolding each_fault
all_others earlier [] identifier e covers = tt
all_others earlier (spot ∷ later) identifier e covers =
    let parts = parts_of_none _ _ e in
    let others = parts_of_none _ _ parts.1 in (
      covers (identifier_at spot) (new_of earlier spot parts.0),
      all_others (earlier ++ spot ∷ []) later identifier others.0 (covers_more earlier spot identifier covers),
    )

pub are_distinct : (earlier later : List Spot) → each_fault earlier later ≡ None → AreDistinct (extensions_at later)
unfolding each_fault
are_distinct earlier [] e = tt
are_distinct earlier (spot ∷ later) e =
    let parts = parts_of_none _ _ e in
    let others = parts_of_none _ _ parts.1 in (
      all_others (earlier ++ spot ∷ []) later (identifier_at spot) others.0 (covers_last earlier spot),
      are_distinct (earlier ++ spot ∷ []) later others.0,
    )

pub are_understood : (spots : List Spot) → AllByRecursion Keeps spots → AllByRecursion IsUnderstood (extensions_at spots)
are_understood [] keep = tt
are_understood (spot ∷ spots) keep = (keep.0.understood, are_understood spots keep.1)

-- ---- back: spelled extensions have no fault

-- the rule of the value of an extension, wherever that stands
abbrev pub ValueIsClear : Extension → Type 0
ValueIsClear extension = (spot : Spot) → spot.left ≡ extension.value → value_fault extension.identifier spot ≡ None

-- none of these is among the earlier ones
abbrev pub AreNew : List Spot → List Extension → Type 0
AreNew earlier extensions = AllByRecursion (λ extension. stands_among earlier extension.identifier ≡ false) extensions

still_new : (earlier : List Spot) (spot : Spot) (identifier : List ℕ) (extensions : List Extension) → identifier_at spot ≡ identifier →
    AreNew earlier extensions → AllByRecursion (λ other. other.identifier ≢ identifier) extensions → AreNew (earlier ++ spot ∷ []) extensions
unfolding stands_among
still_new earlier spot identifier [] same new others = tt
still_new earlier spot identifier (extension ∷ extensions) same new others =
    let differs = false_from_ne_true (bytes_eq (identifier_at spot) extension.identifier)
    (λ e. others.0 (sym (same_bytes (identifier_at spot) extension.identifier e) ∙ same)) in
    let apart = list_any-append (λ there. bytes_eq (identifier_at there) extension.identifier) earlier (spot ∷ []) in
    (apart ∙ or_from _ _ new.0 (or_from _ _ differs refl), still_new earlier spot identifier extensions same new.1 others.1)

pub clear_each : (n : ℕ) (earlier : List Spot) (spot : Spot) (extensions : List Extension) → length spot.left ≤ n →
    AreExtensions extensions spot.left → length earlier + length extensions ≤ most_extensions → AreNew earlier extensions → AreDistinct extensions → AllByRecursion IsUnderstood extensions →
    AllByRecursion ValueIsClear extensions →
    (each_fault earlier (spots_upto n spot) ≡ None) × (extensions_at (spots_upto n spot) ≡ extensions)
unfolding spots_upto each_fault is_at_end
clear_each zero earlier spot [] few are room new distinct understood clear = (refl, refl)
clear_each zero earlier spot (extension ∷ extensions) few are room new distinct understood clear =
    absurd (omega (arith, few, ap length are.3, length-append are.0 are.1, whole_some sequence_tag _ are.0 are.2.is_sequence))
clear_each (suc n) earlier spot [] few are room new distinct understood clear = rw are (refl, refl)
clear_each (suc n) earlier spot (extension ∷ extensions) few are room new distinct understood clear =
    let is = spelled spot extension are.0 are.1 are.2 are.3 in
    let value : value_fault extension.identifier (inside (value_spot spot)) ≡ None =
    clear.0 (inside (value_spot spot)) (inside-left (value_spot spot) ∙ ap (λ (x : Extension). x.value) is.is_extension) in
    let here = clear_where_spelled earlier spot extension are.1 is (omega (arith, room)) new.0 understood.0 value in
    let same : identifier_at spot ≡ extension.identifier = ap (λ (x : Extension). x.identifier) is.is_extension in
    let whole = whole_some sequence_tag _ are.0 are.2.is_sequence in
    let fewer : length (after spot).left ≤ n = omega (arith, ap length are.3, length-append are.0 are.1, ap length is.after) in
    let rest = clear_each n (earlier ++ spot ∷ []) (after spot) extensions fewer (rw is.after are.4)
    (omega (arith, room, length-append earlier (spot ∷ [])))
    (still_new earlier spot extension.identifier extensions same new.1 distinct.0) distinct.1 understood.1 clear.1 in (
      rw (is.some, here, rest.0) refl,
      rw is.some (ap (λ (x : Extension). x ∷ extensions_at (spots_upto n (after spot))) is.is_extension ∙ ap (λ (xs : List Extension). extension ∷ xs) rest.1),
    )
