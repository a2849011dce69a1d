-- Faults of items, and items one after another.
use Rattle.std.proofs.Common.{◌≡◌, ℕ, zero, suc, ◌+◌, ◌-◌, ◌<◌, List, [], ◌∷◌, ◌++◌, length, ◌≤◌, take, drop, None, refl, sym, ap, subst, ◌∙◌, append_assoc, arith, length-append, length-drop}
use Rattle.std.proofs.Math.Seq.{take-add}
use Rattle.std.proofs.lemmas.List.{append-nil, take_at, drop_at, take_all, drop_all, drop-drop}
use Rattle.sz_der.specs.Der.{Der, StandsAt, AreOctets}
use Rattle.sz_der.specs.Fault.{fault_at, fault_of, header_size, content_size}
use Rattle.sz_der.specs.Items.{AppendsItems, AreItems, BeginsWith, ReadAs}
use Rattle.sz_der.proofs.Octets.{IsBytes}
use Rattle.sz_der.proofs.Front.{Clear_from_none, none_from_Clear}
use Rattle.sz_der.proofs.Apart.{same_front, one_string}
use Rattle.sz_der.proofs.Places.{found, Front_from_StandsAt, begins, BeginsWith_from_StandsAt, StandsAt_from_BeginsWith}

-- ---- faults

octets_at : (octets : List ℕ) → AreOctets octets → IsBytes octets
octets_at [] fits i = omega arith
octets_at (octet ∷ octets) fits zero = fits.0
octets_at (octet ∷ octets) fits (suc i) = octets_at octets fits.1 i

pub item_from_none : (bytes : List ℕ) (place : ℕ) → AreOctets bytes → fault_at bytes place ≡ None →
    (tag : ℕ) × (content : List ℕ) × (whole : List ℕ) × StandsAt bytes place tag content whole
item_from_none bytes place fits none =
    let rest = drop place bytes in (
      _,
      _,
      _,
      found bytes place (drop place bytes) (header_size (drop place bytes)) (content_size (drop place bytes)) (octets_at bytes fits) refl refl
          refl (Clear_from_none (drop place bytes) none).whole none,
    )

pub none_from_item : (bytes : List ℕ) (place tag : ℕ) (content whole : List ℕ) → StandsAt bytes place tag content whole → fault_at bytes place ≡ None
none_from_item bytes place tag content whole stands =
    none_from_Clear (drop place bytes) (Front_from_StandsAt bytes place tag content whole stands).clear

-- ---- lists of items

-- what was there stays in front
grows : (old new : List ℕ) (items : List (ℕ × List ℕ)) → AppendsItems old new items → (more : List ℕ) × (new ≡ old ++ more)
grows old new [] same = ([], same ∙ sym (append-nil old))
grows old new (item ∷ items) step =
    let later = grows step.0 new items step.2 in
    (step.1.whole ++ later.0, later.1 ∙ ap (λ (x : List ℕ). x ++ later.0) step.1.appended ∙ append_assoc old step.1.whole later.0)

-- an item written at the end of some bytes stands there
stands_after : (old whole more : List ℕ) (tag : ℕ) (content : List ℕ) → Der tag content whole → StandsAt (old ++ (whole ++ more)) (length old) tag content whole
stands_after old whole more tag content item =
    let long : length old + length whole - length old ≡ length whole = omega arith in
    record {
      is_item = item;
      there = rw (long, drop_at old (whole ++ more) (length old) refl, take_at whole more (length whole) refl) refl;
    }

pub read_from_written : (old new : List ℕ) (items : List (ℕ × List ℕ)) → AppendsItems old new items → ReadAs new (length old) items
read_from_written old new [] same = ap length (sym same)
read_from_written old new (item ∷ items) step =
    let whole = step.1.whole in
    let later = grows step.0 new items step.2 in
    let parts : new ≡ old ++ (step.1.whole ++ later.0) = later.1 ∙ ap (λ (x : List ℕ). x ++ later.0) step.1.appended ∙ append_assoc old step.1.whole later.0 in
    let place : length step.0 ≡ length old + length step.1.whole = ap length step.1.appended ∙ length-append old step.1.whole in
    let stands : List ℕ → Type 0 = λ bytes. StandsAt bytes (length old) item.0 item.1 step.1.whole in (
      step.1.whole,
      subst stands (sym parts) (stands_after old step.1.whole later.0 item.0 item.1 step.1.is_item),
      rw place at (read_from_written step.0 new items step.2),
    )

-- an item is not empty
nonempty : (tag : ℕ) (content whole : List ℕ) → Der tag content whole → 0 < length whole
nonempty tag content whole item = omega (arith, ap length item.spelled)

-- nothing stands at the end
none_at_end : (bytes : List ℕ) (place tag : ℕ) (content whole : List ℕ) → StandsAt bytes place tag content whole → place < length bytes
none_at_end bytes place tag content whole stands =
    let some = nonempty tag content whole stands.is_item in
    let parts = begins bytes place whole stands.there in
    omega (arith, ap length parts, length-append whole (drop (length whole) (drop place bytes)), length-drop place bytes)

pub no_others : (bytes : List ℕ) (place : ℕ) (items others : List (ℕ × List ℕ)) → ReadAs bytes place items → ReadAs bytes place others → items ≡ others
no_others bytes place [] [] a b = refl
no_others bytes place [] (other ∷ others) a b = absurd (omega (arith, a, none_at_end bytes place other.0 other.1 b.0 b.1))
no_others bytes place (item ∷ items) [] a b = absurd (omega (arith, b, none_at_end bytes place item.0 item.1 a.0 a.1))
no_others bytes place (item ∷ items) (other ∷ others) a b =
    let same = same_front (drop place bytes) item.0 other.0 item.1 other.1 a.0 b.0 (Front_from_StandsAt bytes place item.0 item.1 a.0 a.1)
    (Front_from_StandsAt bytes place other.0 other.1 b.0 b.1) in
    let reads : List ℕ → Type 0 = λ whole. ReadAs bytes (place + length whole) items in
    let rest : items ≡ others = no_others bytes (place + length b.0) items others (subst reads same.2 a.2) b.2 in
    let tags : ℕ → ℕ × List ℕ = λ tag. (tag, item.1) in
    let contents : List ℕ → ℕ × List ℕ = λ content. (other.0, content) in
    let first : item ≡ other = ap tags same.0 ∙ ap contents same.1 in
    ap (λ (x : ℕ × List ℕ). x ∷ items) first ∙ ap (λ (xs : List (ℕ × List ℕ)). other ∷ xs) rest

pub written_from_read : (bytes : List ℕ) (place : ℕ) (items : List (ℕ × List ℕ)) → ReadAs bytes place items → AppendsItems (take place bytes) bytes items
written_from_read bytes place [] here = sym (take_all place bytes (omega arith))
written_from_read bytes place (item ∷ items) read =
    let long : place + length read.0 - place ≡ length read.0 = omega arith in
    let front : take (length read.0) (drop place bytes) ≡ read.0 = rw long at read.1.there in
    let next : take (place + length read.0) bytes ≡ take place bytes ++ read.0 = take-add place (length read.0) bytes
    ∙ ap (λ (x : List ℕ). take place bytes ++ x) front in (
      take (place + length read.0) bytes,
      record { whole = read.0; is_item = read.1.is_item; appended = next },
      written_from_read bytes (place + length read.0) items read.2,
    )

-- ---- the strings of items, joined

pub front_from_none : (bytes : List ℕ) → AreOctets bytes → fault_of bytes ≡ None →
    (tag : ℕ) × (content : List ℕ) × (whole : List ℕ) × (rest : List ℕ) × BeginsWith bytes tag content whole rest
front_from_none bytes fits none =
    let item = item_from_none bytes 0 fits none in
    (item.0, item.1, item.2, drop (length item.2) bytes, BeginsWith_from_StandsAt bytes 0 item.0 item.1 item.2 item.3)

pub AreItems_from_ReadAs : (bytes : List ℕ) (place : ℕ) (items : List (ℕ × List ℕ)) → ReadAs bytes place items → AreItems (drop place bytes) items
AreItems_from_ReadAs bytes place [] here = drop_all place bytes (omega arith)
AreItems_from_ReadAs bytes place (item ∷ items) read =
    let front = BeginsWith_from_StandsAt bytes place item.0 item.1 read.0 read.1 in
    let later : AreItems (drop (place + length read.0) bytes) items = AreItems_from_ReadAs bytes (place + length read.0) items read.2 in
    let lists : List ℕ → Type 0 = λ (rest : List ℕ). AreItems rest items in
    (read.0, drop (length read.0) (drop place bytes), front, subst lists (sym (drop-drop (length read.0) place bytes)) later)

pub ReadAs_from_AreItems : (bytes : List ℕ) (place : ℕ) (items : List (ℕ × List ℕ)) → place ≤ length bytes → AreItems (drop place bytes) items →
    ReadAs bytes place items
ReadAs_from_AreItems bytes place [] within none = omega (arith, ap length none, length-drop place bytes)
ReadAs_from_AreItems bytes place (item ∷ items) within are =
    let whole = are.0 in
    let rest = are.1 in
    let next : drop (length are.0) (drop place bytes) ≡ are.1 = rw are.2.joined (drop_at are.0 are.1 (length are.0) refl) in
    let here : drop (place + length are.0) bytes ≡ are.1 = sym (drop-drop (length are.0) place bytes) ∙ next in
    let lists : List ℕ → Type 0 = λ (left : List ℕ). AreItems left items in
    let long : place + length are.0 ≤ length bytes = omega (arith, ap length are.2.joined, length-append are.0 are.1, length-drop place bytes) in (
      are.0,
      StandsAt_from_BeginsWith bytes place item.0 item.1 are.0 are.1 are.2,
      ReadAs_from_AreItems bytes (place + length are.0) items long (subst lists (sym here) are.3),
    )

pub one_string_of_items : (bytes others : List ℕ) (items : List (ℕ × List ℕ)) → AreItems bytes items → AreItems others items → bytes ≡ others
one_string_of_items bytes others [] a b = a ∙ sym b
one_string_of_items bytes others (item ∷ items) a b =
    let whole : a.0 ≡ b.0 = one_string item.0 item.1 a.0 b.0 a.2.is_item b.2.is_item in
    let rest : a.1 ≡ b.1 = one_string_of_items a.1 b.1 items a.3 b.3 in
    a.2.joined ∙ ap (λ (x : List ℕ). x ++ a.1) whole ∙ ap (λ (x : List ℕ). b.0 ++ x) rest ∙ sym b.2.joined
