-- Steps of the readers, by the spots before and after them.
use Rattle.std.specs.Prelude.{◌==◌, bytes_eq, filter, IfErr, is_some, IsErrAnd, map, nat_lt, OnOk, slice_index}
use Rattle.std.specs.Option.{option_copied}
use Rattle.std.specs.List.{find, list_any}
use Rattle.std.proofs.Common.{◌≡◌, ℕ, suc, inl, inr, ◌⊎◌, ◌<◌, ◌≤◌, ◌&&◌, ◌||◌, not, cond, Bool, true, false, Bor, List, [], ◌∷◌, ◌++◌, length, get_or, Option, Some, None, Result, Ok, Err, refl, sym, ap, ◌∙◌, arith, length-drop, get_or-take}
use Rattle.std.proofs.lemmas.Bool.{and_right, both_ways, cases_Bool, eqb-false, eqb-true, eq-eqb, ne_eqb, lt-ltb, le-ltb, or_left, or_right}
use Rattle.std.proofs.lemmas.List.{append-nil}
use Rattle.arrayvec.specs.ArrayVec.{ArrayVec}
use Rattle.sz_der.specs.Reader.{place_of}
use Rattle.sz_der.specs.Spots.{after, at, front, inside, is_at_end, place_at, size_at, Spot, spot_of, tag_at, whole_at}
use Rattle.sz_der.specs.declared.reader.DerReader.{DerReader}
use Rattle.sz_der.specs.Tags.{sequence_tag}
use Rattle.sz_der.specs.declared.parts.PartFault.{PartFault}
use Rattle.sz_der.proofs.Octets.{same_bytes}
use Rattle.sz_der.proofs.Spots.{rule_from_holds}
use Rattle.sz_der.proofs.SpotLists.{some_left}
use Rattle.sz_cms.specs.Kind.{identifier_of, IsKindOf}
use Rattle.sz_cms.specs.Known.{AreKnown, IsWith, value_with}
use Rattle.sz_cms.specs.MessageFault.{choice_fault, Fault, has_both, is_known, is_sequence, sequences_at, some_item, stands_among, type_at, values_spot}
use Rattle.sz_cms.specs.Places.{signer_at, value_among, value_at}
use Rattle.sz_cms.specs.View.{IsNamed, signer_of}
use Rattle.sz_cms.specs.Message as message
use Rattle.sz_cms.specs.Message.{is_hss_lms, is_sha256, sequences_of}
use Rattle.sz_cms.specs.declared.kind.Kind.{Kind}
use Rattle.sz_cms.specs.declared.kind.Kind.TheVariants as kind
use Rattle.sz_cms.specs.declared.attributes.KnownValues.{KnownValues}
use Rattle.sz_cms.specs.declared.fault.InfoKind.{InfoKind}
use Rattle.sz_cms.specs.declared.fault.InfoKind.TheVariants as kinds
use Rattle.sz_cms.specs.Identifiers.{content_type_oid, message_digest_oid}
use Rattle.sz_cms.specs.Limits.{most_signers}
use Rattle.sz_cms.specs.declared.signer.Signer.{Signer}

-- what holds holds where the answer is Ok
pub on_ok : {T E P : Type 0} (result : Result T E) → P → OnOk result P
on_ok (Ok value) p = p
on_ok (Err e) p = tt

-- a step that hands a fault on, which holds after whatever was before
pub exit_all : {T A : Type 0} {Q : A → Type 0} (result : Result T (PartFault InfoKind)) (found : A → Option Fault) (fault : PartFault InfoKind) →
    IsErrAnd result (λ e. e ≡ fault) → ((a : A) → Q a → found a ≡ Some (at fault)) → IfErr result (λ e. (a : A) → Q a → found a ≡ Some (at e))
exit_all (Ok value) found fault is h = absurd is
exit_all (Err e) found fault is h = rw is h

-- a fault at the place of a reader
pub place_is : (reader : DerReader) →
    ◌≡◌ {A = Option Fault} (Some (kinds.Attribute, place_at (spot_of reader))) (Some (kinds.Attribute, place_of reader.end reader.left.now))
unfolding spot_of place_at
place_is reader = refl

-- less is left behind an item
pub shorter : (old new : DerReader) → is_at_end (spot_of old) ≡ false → spot_of new ≡ after (spot_of old) → length new.left.now < length old.left.now
unfolding spot_of after
shorter old new more next =
    let some : length old.left.now ≡ 0 → ⊥ = some_left (spot_of old) more in
    omega (arith, length-drop (size_at (spot_of old)) old.left.now, ap (λ (s : Spot). length s.left) next)

-- ---- known attributes

-- whether a value was read is whether the type stands among the attributes
some_stands : (spots : List Spot) (type : List ℕ) → is_some (value_among spots type) ≡ stands_among spots type
unfolding value_among stands_among
some_stands [] type = refl
some_stands (spot ∷ spots) type =
    elim (cases_Bool (bytes_eq (type_at spot) type)) [
      | inl is ↦ rw is refl
      | inr other ↦ rw other (some_stands spots type)
    ]

known_type : (known type : List ℕ) → is_known known ≡ true → bytes_eq type known ≡ true → is_known type ≡ true
known_type known type e is = rw (same_bytes type known is) e

pub has_known : (known : List ℕ) (earlier : List Spot) (type : List ℕ) → is_known known ≡ true → bytes_eq type known ≡ true →
    is_some (value_among earlier known) ≡ (is_known type && stands_among earlier type)
has_known known earlier type e is = some_stands earlier known ∙ rw (same_bytes type known is, e) refl

pub has_other : (earlier : List Spot) (type : List ℕ) → bytes_eq type content_type_oid ≡ false → bytes_eq type message_digest_oid ≡ false →
    false ≡ (is_known type && stands_among earlier type)
has_other earlier type a b = rw (a, b) refl

-- a type is not both
pub not_digest : (type : List ℕ) → bytes_eq type content_type_oid ≡ true → bytes_eq type message_digest_oid ≡ false
not_digest type is = rw (same_bytes type content_type_oid is) refl

find_last : (p : Spot → Bool) (spots : List Spot) (spot : Spot) →
    find p (spots ++ spot ∷ []) ≡ cond (list_any p spots) (find p spots) (cond (p spot) (Some spot) None)
find_last p [] spot = refl
find_last p (first ∷ spots) spot =
    elim (cases_Bool (p first)) [
      | inl is ↦ rw is refl
      | inr other ↦ rw other (find_last p spots spot)
    ]

find_none : (p : Spot → Bool) (spots : List Spot) → list_any p spots ≡ false → find p spots ≡ None
find_none p [] e = refl
find_none p (first ∷ spots) e =
    elim (cases_Bool (p first)) [
      | inl is ↦ absurd (both_ways _ e (or_left _ _ is))
      | inr other ↦ rw other (find_none p spots (rw other at e))
    ]

-- the value of a type, after one attribute more
value_more : (known : List ℕ) (earlier : List Spot) (spot : Spot) → is_known known ≡ true →
    (is_known (type_at spot) && stands_among earlier (type_at spot)) ≡ false →
    value_with known (type_at spot) (inside (values_spot spot)) (value_among earlier known) ≡ value_among (earlier ++ spot ∷ []) known
unfolding value_among stands_among value_at
value_more known earlier spot e fresh =
    elim (cases_Bool (bytes_eq (type_at spot) known)) [
      | inl is ↦
          let none : stands_among earlier known ≡ false = rw (same_bytes (type_at spot) known is, e) at fresh in
          rw (is, find_last (λ there. bytes_eq (type_at there) known) earlier spot, none, is) refl
      | inr other ↦
          elim (cases_Bool (stands_among earlier known)) [
            | inl stands ↦ rw (other, find_last (λ there. bytes_eq (type_at there) known) earlier spot, stands) refl
            | inr none ↦
                rw (
                  other,
                  find_last (λ there. bytes_eq (type_at there) known) earlier spot,
                  none,
                  other,
                  find_none (λ there. bytes_eq (type_at there) known) earlier none,
                ) refl
          ]
    ]

pub known_more : (earlier : List Spot) (spot : Spot) (old new : KnownValues) → AreKnown earlier old →
    IsWith (type_at spot) (inside (values_spot spot)) old new →
    (is_known (type_at spot) && stands_among earlier (type_at spot)) ≡ false → AreKnown (earlier ++ spot ∷ []) new
known_more earlier spot old new known is fresh = record {
  content_type = is.content_type
      ∙ ap (value_with content_type_oid (type_at spot) (inside (values_spot spot))) known.content_type ∙ value_more content_type_oid earlier spot refl fresh;
  digest = is.digest
      ∙ ap (value_with message_digest_oid (type_at spot) (inside (values_spot spot))) known.digest ∙ value_more message_digest_oid earlier spot refl fresh;
}

-- an option of a borrowed text has a value where its copy has
pub some_copied : (value : Option (Bor (List ℕ))) → is_some value ≡ is_some (option_copied value)
some_copied None = refl
some_copied (Some text) = refl

type_stands : (spots : List Spot) (type : List ℕ) (found : Option (List ℕ)) → found ≡ value_among spots type → stands_among spots type ≡ is_some found
type_stands spots type found is = sym (some_stands spots type) ∙ ap is_some (sym is)

pub both_stand : (spots : List Spot) (known : KnownValues) (content_type digest : List ℕ) → AreKnown spots known →
    option_copied known.content_type ≡ Some content_type → option_copied known.digest ≡ Some digest → has_both spots ≡ true
unfolding has_both
both_stand spots known content_type digest are a b =
    rw (
      type_stands spots content_type_oid (option_copied known.content_type) are.content_type,
      a,
      type_stands spots message_digest_oid (option_copied known.digest) are.digest,
      b,
    ) refl

pub one_missing : (spots : List Spot) (known : KnownValues) → AreKnown spots known →
    (option_copied known.content_type ≡ None) ⊎ (option_copied known.digest ≡ None) → has_both spots ≡ false
unfolding has_both
one_missing spots known are (inl a) = rw (type_stands spots content_type_oid (option_copied known.content_type) are.content_type, a) refl
one_missing spots known are (inr b) =
    and_right (stands_among spots content_type_oid) (stands_among spots message_digest_oid)
    (rw (type_stands spots message_digest_oid (option_copied known.digest) are.digest, b) refl)

-- ---- where a message begins

pub front_is : (bytes : List ℕ) (reader : DerReader) → reader.left.now ≡ bytes → reader.end ≡ length bytes → spot_of reader ≡ front bytes
unfolding spot_of front
front_is bytes reader left end = rw (left, end) refl

-- ---- signers

pub map-append : {A B : Type 0} (f : A → B) (xs ys : List A) → map f (xs ++ ys) ≡ map f xs ++ map f ys
map-append f [] ys = refl
map-append {B = B} f (x ∷ xs) ys = ap (λ (zs : List B). f x ∷ zs) (map-append f xs ys)

length-map : {A B : Type 0} (f : A → B) (xs : List A) → length (map f xs) ≡ length xs
length-map f [] = refl
length-map f (x ∷ xs) = ap suc (length-map f xs)

same_length : {A B C : Type 0} (f : A → C) (g : B → C) (xs : List A) (ys : List B) → map f xs ≡ map g ys → length xs ≡ length ys
same_length f g xs ys same = sym (length-map f xs) ∙ ap length same ∙ length-map g ys

-- a list with one value more
pub pushed : {A B C : Type 0} (f : A → C) (g : B → C) (new xs : List A) (x : A) (ys : List B) (y : B) → new ≡ xs ++ x ∷ [] → map f xs ≡ map g ys →
    f x ≡ g y → map f new ≡ map g (ys ++ y ∷ [])
pushed {C = C} f g new xs x ys y is same last =
    ap (map f) is ∙ map-append f xs (x ∷ []) ∙ ap (λ (zs : List C). zs ++ f x ∷ []) same ∙ ap (λ (z : C). map g ys ++ z ∷ []) last
    ∙ sym (map-append g ys (y ∷ []))

pub same_signer : (a b : message.Identifier) (x y : Bool) (m n : Option message.SignedAttributes) (s t : List ℕ) → a ≡ b → x ≡ y → m ≡ n → s ≡ t →
    ◌≡◌ {A = message.Signer} (record { identifier = a; by_hss = x; attributes = m; signature = s })
    (record { identifier = b; by_hss = y; attributes = n; signature = t })
same_signer a b x y m n s t e f g h = rw (e, f, g, h) refl

pub by_hss_is : (d e s t : message.Algorithm) → d ≡ e → s ≡ t → (is_sha256 d && is_hss_lms s) ≡ (is_sha256 e && is_hss_lms t)
by_hss_is d e s t a b = rw (a, b) refl

pub same_signed : (k l : List ℕ) (c d : Option (List ℕ)) (xs ys us vs : List (List ℕ)) (ss ts : List message.Signer) → k ≡ l → c ≡ d → xs ≡ ys → us ≡ vs →
    ss ≡ ts →
    ◌≡◌ {A = message.Signed} (record { kind = k; content = c; certs = xs; crls = us; signers = ss })
    (record { kind = l; content = d; certs = ys; crls = vs; signers = ts })
same_signed k l c d xs ys us vs ss ts e f g h i = rw (e, f, g, h, i) refl

pub few_signers : (signers : ArrayVec Signer) (earlier : List Spot) → map signer_of signers.items ≡ map signer_at earlier → (full : Bool) →
    full ≡ (length signers.items == most_signers) → full ≡ false → length signers.items ≤ most_signers → nat_lt (length earlier) most_signers ≡ true
few_signers signers earlier same full is not_full within =
    let differ : length signers.items ≡ most_signers → ⊥ = eqb-false (length signers.items) most_signers (sym is ∙ not_full) in
    lt-ltb (length earlier) most_signers (omega (arith, same_length signer_of signer_at signers.items earlier same))

pub many_signers : (signers : ArrayVec Signer) (earlier : List Spot) → map signer_of signers.items ≡ map signer_at earlier → (full : Bool) →
    full ≡ (length signers.items == most_signers) → full ≡ true → nat_lt (length earlier) most_signers ≡ false
many_signers signers earlier same full is all_full =
    let all : length signers.items ≡ most_signers = eqb-true (length signers.items) most_signers (sym is ∙ all_full) in
    le-ltb (length earlier) most_signers (omega (arith, same_length signer_of signer_at signers.items earlier same))

-- ---- certificates and revocation lists

-- the first byte of an item is its tag
pub begins : (spot : Spot) → get_or (whole_at spot) 0 0 ≡ tag_at spot
unfolding whole_at tag_at
begins spot = get_or-take (size_at spot) spot.left 0 0 (omega arith)

filter-append : {A : Type 0} (p : A → Bool) (xs ys : List A) → filter p (xs ++ ys) ≡ filter p xs ++ filter p ys
filter-append p [] ys = refl
filter-append {A = A} p (x ∷ xs) ys =
    elim (cases_Bool (p x)) [
      | inl is ↦ rw is (ap (λ (zs : List A). x ∷ zs) (filter-append p xs ys))
      | inr other ↦ rw other (filter-append p xs ys)
    ]

kept-append : (earlier : List Spot) (spot : Spot) → sequences_at (earlier ++ spot ∷ []) ≡ sequences_at earlier ++ sequences_at (spot ∷ [])
kept-append earlier spot =
    ap sequences_of (map-append whole_at earlier (spot ∷ []))
    ∙ filter-append (λ item. slice_index item 0 == sequence_tag) (map whole_at earlier) (whole_at spot ∷ [])

pub kept_more : (earlier : List Spot) (spot : Spot) → tag_at spot ≡ sequence_tag → sequences_at earlier ++ whole_at spot ∷ [] ≡ sequences_at
    (earlier ++ spot ∷ [])
kept_more earlier spot is =
    let test : (get_or (whole_at spot) 0 0 == sequence_tag) ≡ true = eq-eqb (get_or (whole_at spot) 0 0) sequence_tag (begins spot ∙ is) in
    let one : sequences_at (spot ∷ []) ≡ whole_at spot ∷ [] = rw test refl in
    sym (kept-append earlier spot ∙ ap (λ (xs : List (List ℕ)). sequences_at earlier ++ xs) one)

pub pushed_kept : (new kept : List (Bor (List ℕ))) (whole : Bor (List ℕ)) (earlier : List Spot) (spot : Spot) → new ≡ kept ++ whole ∷ [] →
    map (λ item. item.now) kept ≡ sequences_at earlier → whole.now ≡ whole_at spot → tag_at spot ≡ sequence_tag →
    map (λ item. item.now) new ≡ sequences_at (earlier ++ spot ∷ [])
pushed_kept new kept whole earlier spot is same last sequence =
    ap (map (λ item. item.now)) is ∙ map-append (λ item. item.now) kept (whole ∷ []) ∙ ap (λ (zs : List (List ℕ)). zs ++ whole.now ∷ []) same
    ∙ ap (λ (z : List ℕ). sequences_at earlier ++ z ∷ []) last ∙ kept_more earlier spot sequence

pub kept_other : (earlier : List Spot) (spot : Spot) → (tag_at spot ≡ sequence_tag → ⊥) → sequences_at earlier ≡ sequences_at (earlier ++ spot ∷ [])
kept_other earlier spot other =
    let test : (get_or (whole_at spot) 0 0 == sequence_tag) ≡ false =
    ne_eqb (get_or (whole_at spot) 0 0) sequence_tag (λ e. other (sym (begins spot) ∙ e)) in
    let none : sequences_at (spot ∷ []) ≡ [] = rw test refl in
    sym (kept-append earlier spot ∙ ap (λ (xs : List (List ℕ)). sequences_at earlier ++ xs) none ∙ append-nil (sequences_at earlier))

kept_count : (kept : ArrayVec (Bor (List ℕ))) (earlier : List Spot) → map (λ item. item.now) kept.items ≡ sequences_at earlier →
    length kept.items ≡ length (sequences_at earlier)
kept_count kept earlier same = sym (length-map (λ item. item.now) kept.items) ∙ ap length same

pub room_left : (most : ℕ) (kept : ArrayVec (Bor (List ℕ))) (earlier : List Spot) → map (λ item. item.now) kept.items ≡ sequences_at earlier → (full : Bool) →
    full ≡ (length kept.items == most) → full ≡ false → length kept.items ≤ most → nat_lt (length (sequences_at earlier)) most ≡ true
room_left most kept earlier same full is not_full within =
    let differ : length kept.items ≡ most → ⊥ = eqb-false (length kept.items) most (sym is ∙ not_full) in
    lt-ltb (length (sequences_at earlier)) most (omega (arith, kept_count kept earlier same))

pub no_room : (most : ℕ) (kept : ArrayVec (Bor (List ℕ))) (earlier : List Spot) → map (λ item. item.now) kept.items ≡ sequences_at earlier → (full : Bool) →
    full ≡ (length kept.items == most) → full ≡ true → nat_lt (length (sequences_at earlier)) most ≡ false
no_room most kept earlier same full is all_full =
    let all : length kept.items ≡ most = eqb-true (length kept.items) most (sym is ∙ all_full) in
    le-ltb (length (sequences_at earlier)) most (omega (arith, kept_count kept earlier same))

pub choice_fits : (most : ℕ) (earlier : List Spot) (spot : Spot) → some_item spot ≡ None → nat_lt (length (sequences_at earlier)) most ≡ true →
    choice_fault most earlier spot ≡ None
unfolding choice_fault
choice_fits most earlier spot item room =
    rw (
      item,
      rule_from_holds (not (is_sequence spot) || nat_lt (length (sequences_at earlier)) most) (kinds.TooMany most) spot
          (or_right (not (is_sequence spot)) _ room),
    ) refl

pub choice_other : (most : ℕ) (earlier : List Spot) (spot : Spot) → some_item spot ≡ None →
    (tag_at spot ≡ sequence_tag → ⊥) → choice_fault most earlier spot ≡ None
unfolding choice_fault is_sequence
choice_other most earlier spot item other = rw (item, ne_eqb (tag_at spot) sequence_tag other) refl

pub sequence_is : (spot : Spot) → tag_at spot ≡ sequence_tag → is_sequence spot ≡ true
unfolding is_sequence
sequence_is spot is = eq-eqb (tag_at spot) sequence_tag is

pub choice_over : (most : ℕ) (earlier : List Spot) (spot : Spot) → some_item spot ≡ None → tag_at spot ≡ sequence_tag →
    nat_lt (length (sequences_at earlier)) most ≡ false → choice_fault most earlier spot ≡ Some (kinds.TooMany most, place_at spot)
unfolding choice_fault
choice_over most earlier spot item is full = rw (item, sequence_is spot is, full) refl

-- ---- types of content

pub kind_identifier : (type : Kind) (identifier : List ℕ) → IsKindOf type identifier → identifier_of type ≡ identifier
kind_identifier kind.Data identifier is = is
kind_identifier kind.Voucher identifier is = is
kind_identifier kind.ConveyedJson identifier is = is
kind_identifier kind.ConveyedXml identifier is = is
kind_identifier kind.Enveloped identifier is = is
kind_identifier (kind.Other other) identifier is = is.0

pub kind_named : (type : Kind) (identifier : List ℕ) → IsKindOf type identifier → IsNamed type
kind_named type identifier is = rw (kind_identifier type identifier is) is
