-- A walk over extensions: the spots from the first one up to here, and those that are left.
use Rattle.std.specs.Prelude.{bytes_eq, nat_lt}
use Rattle.std.specs.List.{AllByRecursion}
use Rattle.std.proofs.Common.{◌≡◌, ℕ, ◌<◌, ◌≤◌, true, false, List, [], ◌∷◌, ◌++◌, length, Option, Some, None, refl, sym, ap, subst, arith}
use Rattle.std.proofs.lemmas.Bool.{le-ltb, lt-ltb, ne_eqb, or_left}
use Rattle.sz_der.specs.Spots.{after, is_at_end, or_later, Spot, spot_of, spots_from}
use Rattle.sz_der.specs.declared.reader.DerReader.{DerReader}
use Rattle.sz_der.proofs.Front.{Clear_from_none}
use Rattle.sz_der.proofs.SpotLists.{less_is_left, spots_end}
use Rattle.sz_der.proofs.Steps.{at_end_is}
use Rattle.sz_der.proofs.Spots.{item_of_part, no_fault_there, parts_of_none}
use Rattle.sz_x509.specs.CertFault.{each_fault, extension_fault, Fault, identifier_at, part, stands_among}
use Rattle.sz_x509.specs.CertPlaces.{AreBetween, BeginsExtension, LeadHere}
use Rattle.sz_x509.specs.Extensions.{most_extensions}
use Rattle.sz_x509.specs.declared.fault.CertKind.{CertKind}
use Rattle.sz_x509.specs.declared.fault.CertKind.TheVariants as kinds

-- ---- less is left after an item

pub more_at_part : (other : CertKind) (tag : ℕ) (spot : Spot) → part other tag spot ≡ None → is_at_end spot ≡ false
unfolding is_at_end
more_at_part other tag spot e =
    let clear = Clear_from_none spot.left (no_fault_there kinds.Der spot (item_of_part kinds.Der other tag spot e).0) in
    let some : length spot.left ≡ 0 → ⊥ = λ none. omega (arith, clear.two) in
    ne_eqb (length spot.left) 0 some

pub shorter_after : (other : CertKind) (tag : ℕ) (old new : DerReader) → part other tag (spot_of old) ≡ None → spot_of new ≡ after (spot_of old) →
    length new.left.now < length old.left.now
unfolding spot_of
shorter_after other tag old new e next =
    omega (arith, less_is_left (spot_of old) (more_at_part other tag (spot_of old) e), ap (λ (s : Spot). length s.left) next)

-- ---- faults one after another

pub each_step : (earlier later : List Spot) (spot : Spot) → extension_fault earlier spot ≡ None →
    each_fault earlier (spot ∷ later) ≡ or_later (each_fault (earlier ++ spot ∷ []) later) None
unfolding each_fault
each_step earlier later spot e = rw e refl

pub each_fails : (earlier later : List Spot) (spot : Spot) (fault : Fault) → extension_fault earlier spot ≡ Some fault →
    each_fault earlier (spot ∷ later) ≡ Some fault
unfolding each_fault
each_fails earlier later spot fault e = rw e refl

pub or_none : {A : Type 0} (one : Option A) → or_later one None ≡ one
or_none None = refl
or_none (Some fault) = refl

pub no_more : (earlier : List Spot) → each_fault earlier [] ≡ None
unfolding each_fault
no_more earlier = refl

pub begins_from_none : (earlier : List Spot) (spot : Spot) → extension_fault earlier spot ≡ None → BeginsExtension spot
unfolding extension_fault
begins_from_none earlier spot e =
    let a = parts_of_none _ _ e in
    let b = parts_of_none _ _ a.1 in
    let c = parts_of_none _ _ b.1 in
    record { sequence = a.0; identifier = c.0 }

-- whether one more extension may stand after so many
pub has_room : (earlier : List Spot) (before : ℕ) → length earlier ≡ before → before < most_extensions → nat_lt (length earlier) most_extensions ≡ true
has_room earlier before count few = rw count (lt-ltb before most_extensions few)

pub has_no_room : (earlier : List Spot) (before : ℕ) → length earlier ≡ before → most_extensions ≤ before →
    nat_lt (length earlier) most_extensions ≡ false
has_no_room earlier before count many = rw count (le-ltb before most_extensions many)

-- ---- the way up to here

between_more : (first : Spot) (earlier : List Spot) (here : Spot) → AreBetween first earlier here → is_at_end here ≡ false →
    AreBetween first (earlier ++ here ∷ []) (after here)
between_more first [] here between more = (sym between, rw between more, ap after between)
between_more first (spot ∷ earlier) here between more = (between.0, between.1, between_more (after first) earlier here between.2 more)

all_more : (earlier : List Spot) (here : Spot) → AllByRecursion BeginsExtension earlier → BeginsExtension here →
    AllByRecursion BeginsExtension (earlier ++ here ∷ [])
all_more [] here all begins = (begins, tt)
all_more (spot ∷ earlier) here all begins = (all.0, all_more earlier here all.1 begins)

pub lead_more : (first : Spot) (earlier : List Spot) (here : Spot) → LeadHere first earlier here → is_at_end here ≡ false → BeginsExtension here →
    LeadHere first (earlier ++ here ∷ []) (after here)
lead_more first earlier here lead more begins =
    record { between = between_more first earlier here lead.between more; begin = all_more earlier here lead.begin begins }

pub lead_nowhere : (first : Spot) → LeadHere first [] first
lead_nowhere first = record { between = refl; begin = tt }

no_longer : (first : Spot) (earlier : List Spot) (here : Spot) → AreBetween first earlier here → length here.left ≤ length first.left
no_longer first [] here between = omega (arith, ap (λ (s : Spot). length s.left) between)
no_longer first (spot ∷ earlier) here between =
    omega (arith, less_is_left first between.1, no_longer (after first) earlier here between.2)

-- ---- a walk from the first one up to here

-- the spot that is next, and those behind it
pub record GoesOn (next : Spot) (todo : List Spot) (here : Spot) : Type 0 where
  pub rest : List Spot
  pub todo_is : todo ≡ next ∷ rest
  pub begins : BeginsExtension next
  pub lead : LeadHere (after next) rest here

pub goes_on : (next : Spot) (todo : List Spot) (here : Spot) → LeadHere next todo here → length here.left < length next.left → GoesOn next todo here
goes_on next [] here lead longer = absurd (omega (arith, ap (λ (s : Spot). length s.left) lead.between))
goes_on next (spot ∷ rest) here lead longer =
    let same = lead.between.0 in
    record {
      rest = rest;
      todo_is = ap (λ (s : Spot). s ∷ rest) same;
      begins = subst BeginsExtension same lead.begin.0;
      lead = record { between = lead.between.2; begin = lead.begin.1 };
    }

pub arrived : (next : Spot) (todo : List Spot) (here : Spot) (identifier : List ℕ) → LeadHere next todo here → length next.left ≤ length here.left →
    stands_among todo identifier ≡ false
unfolding stands_among
arrived next [] here identifier lead short = refl
arrived next (spot ∷ rest) here identifier lead short =
    absurd (omega (arith, less_is_left next lead.between.1, no_longer (after next) rest here lead.between.2))

pub stands_next : (next : Spot) (rest : List Spot) (identifier : List ℕ) → bytes_eq (identifier_at next) identifier ≡ true →
    stands_among (next ∷ rest) identifier ≡ true
unfolding stands_among
stands_next next rest identifier is = or_left _ _ is

pub passed_over : (next : Spot) (rest : List Spot) (identifier : List ℕ) → bytes_eq (identifier_at next) identifier ≡ false →
    stands_among (next ∷ rest) identifier ≡ stands_among rest identifier
unfolding stands_among
passed_over next rest identifier other = rw other refl

-- ---- readers

pub longer : (a b : DerReader) → length a.left.now < length b.left.now → length (spot_of a).left < length (spot_of b).left
unfolding spot_of
longer a b h = h

pub not_longer : (a b : DerReader) → length a.left.now ≤ length b.left.now → length (spot_of a).left ≤ length (spot_of b).left
unfolding spot_of
not_longer a b h = h

pub none_left : (reader : DerReader) → reader.left.now ≡ [] → spots_from (spot_of reader) ≡ []
none_left reader nothing = spots_end (spot_of reader) (at_end_is reader nothing)
