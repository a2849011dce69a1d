-- No fault applies exactly where an item stands at the front of the bytes.
use Rattle.std.proofs.Common.{◌≡◌, ◌≢◌, ℕ, suc, ◌+◌, ◌-◌, ◌%◌, ◌^◌, ◌<◌, ◌≤◌, inl, inr, Bool, true, false, ◌||◌, ◌&&◌, cond, leb, ltb, List, [], ◌∷◌, ◌++◌, length, get_or, take, drop, Option, Some, None, refl, sym, ap, subst, ◌∙◌, append_assoc, arith, length-take, length-drop, length-append}
use Rattle.std.proofs.Math.Seq.{take-add}
use Rattle.std.proofs.lemmas.Bool.{le-ltb, lt-ltb, le-leb, lt-leb, ne_eqb, ltb-false, eqb-false, cases_lt}
use Rattle.std.proofs.lemmas.List.{take_at, drop_at}
use Rattle.sz_der.specs.Der.{Der, IsLongForm, IsLength, number_of, AreOctets}
use Rattle.sz_der.specs.declared.fault.DerKind.{DerKind}
use Rattle.sz_der.specs.Fault.{fault_of, counted, size_octets, header_size, content_size, is_padded}
use Rattle.sz_der.proofs.Octets.{IsBytes, AreOctets_from_places, AreOctets-take}

-- what stands at the front of bytes where no fault applies
pub record Clear (bytes : List ℕ) : Type 0 where
  pub two : 2 ≤ length bytes
  pub tag : get_or bytes 0 0 % 32 ≢ 31
  pub definite : get_or bytes 1 0 ≢ 128
  pub not_reserved : get_or bytes 1 0 ≢ 255
  pub header : header_size bytes ≤ length bytes
  pub minimal : (leb 128 (get_or bytes 1 0) && is_padded (size_octets bytes)) ≡ false
  pub few : counted bytes ≤ 4
  pub whole : header_size bytes + content_size bytes ≤ length bytes

-- a rule that does not apply
passes : (b : Bool) (kind : DerKind) (rest : Option DerKind) → cond b (Some kind) rest ≡ None → (b ≡ false) × (rest ≡ None)
passes true kind rest e = absurd cc
passes false kind rest e = (refl, e)

pub Clear_from_none : (bytes : List ℕ) → fault_of bytes ≡ None → Clear bytes
unfolding fault_of
Clear_from_none bytes e =
    let a = passes _ _ _ e in
    let b = passes _ _ _ a.1 in
    let c = passes _ _ _ b.1 in
    let d = passes _ _ _ c.1 in
    let f = passes _ _ _ d.1 in
    let g = passes _ _ _ f.1 in
    let h = passes _ _ _ g.1 in
    let i = passes _ _ _ h.1 in
    let j = passes _ _ _ i.1 in
    let none : length bytes ≢ 0 = eqb-false _ _ a.0 in
    let one : length bytes ≢ 1 = eqb-false _ _ c.0 in
    record {
      two = omega arith;
      tag = eqb-false _ _ b.0;
      definite = eqb-false _ _ d.0;
      not_reserved = eqb-false _ _ f.0;
      header = ltb-false _ _ g.0;
      minimal = h.0;
      few = ltb-false _ _ i.0;
      whole = ltb-false _ _ j.0;
    }

pub none_from_Clear : (bytes : List ℕ) → Clear bytes → fault_of bytes ≡ None
unfolding fault_of
none_from_Clear bytes clear =
    rw (
      ne_eqb (length bytes) 0 (omega arith),
      ne_eqb (get_or bytes 0 0 % 32) 31 clear.tag,
      ne_eqb (length bytes) 1 (omega arith),
      ne_eqb (get_or bytes 1 0) 128 clear.definite,
      ne_eqb (get_or bytes 1 0) 255 clear.not_reserved,
      le-ltb (length bytes) (header_size bytes) clear.header,
      clear.minimal,
      le-ltb 4 (counted bytes) clear.few,
      le-ltb (length bytes) (header_size bytes + content_size bytes) clear.whole,
    ) refl

-- ---- what stands there is an item

take-header : (tag first : ℕ) (more : List ℕ) (n size : ℕ) → take (2 + n + size) (tag ∷ first ∷ more) ≡ tag ∷ ((first ∷ take n more) ++ take size (drop n more))
take-header tag first more n size =
    let places : 2 + n + size ≡ suc (suc (n + size)) = omega arith in
    rw places (ap (λ (rest : List ℕ). tag ∷ first ∷ rest) (take-add n size more))

drop-header : (tag first : ℕ) (more : List ℕ) (n : ℕ) → drop (2 + n) (tag ∷ first ∷ more) ≡ drop n more
drop-header tag first more n =
    let places : 2 + n ≡ suc (suc n) = omega arith in
    rw places refl

-- the two halves of a test
or_parts : (a b : Bool) → (a || b) ≡ false → (a ≡ false) × (b ≡ false)
or_parts true b e = absurd cc
or_parts false b e = (refl, e)

and_right : (a b : Bool) → (a && b) ≡ false → a ≡ true → b ≡ false
and_right true b e is = e
and_right false b e is = absurd cc

IsLength_from_Clear : (tag first : ℕ) (more : List ℕ) (n size : ℕ) → AreOctets more → Clear (tag ∷ first ∷ more) → n ≡ counted (tag ∷ first ∷ more) →
    size ≡ content_size (tag ∷ first ∷ more) → IsLength (first ∷ take n more) size
IsLength_from_Clear tag first more n size fits clear n-is size-is =
    elim (cases_lt first 128) [
      | inl short ↦
          let none : n ≡ 0 = omega arith in
          let is : size ≡ first = size-is ∙ rw (lt-ltb first 128 short) refl in
          inl (rw none refl, sym is, omega arith)
      | inr long ↦
          let is : size ≡ number_of (take n more) = size-is ∙ rw (le-ltb first 128 long, ← n-is) refl in
          let exact : is_padded (take n more) ≡ false =
          rw n-is (and_right (leb 128 first) (is_padded (size_octets (tag ∷ first ∷ more))) clear.minimal (le-leb 128 first long)) in
          let parts = or_parts (ltb (number_of (take n more)) 128) (ltb (number_of (take n more)) (256 ^ (length (take n more) - 1))) exact in
          let within : n ≤ length more = omega (arith, clear.header) in
          let long_enough : length (take n more) ≡ n = omega (arith, length-take n more) in
          inr (record {
            counts = omega arith;
            at_most_four = omega (arith, clear.few);
            are_octets = AreOctets-take n more fits;
            writes = sym is;
            no_fewer_do = rw is (ltb-false _ _ parts.1);
            not_short = rw is (ltb-false _ _ parts.0);
          })
    ]

pub Der_from_Clear : (bytes : List ℕ) → IsBytes bytes → Clear bytes →
    Der (get_or bytes 0 0) (take (content_size bytes) (drop (header_size bytes) bytes)) (take (header_size bytes + content_size bytes) bytes)
Der_from_Clear [] fits clear = absurd (omega (arith, clear.two))
Der_from_Clear (tag ∷ []) fits clear = absurd (omega (arith, clear.two))
Der_from_Clear (tag ∷ first ∷ more) fits clear =
    let bytes = tag ∷ first ∷ more in
    let n = counted (tag ∷ first ∷ more) in
    let size = content_size (tag ∷ first ∷ more) in
    let octets : AreOctets more = AreOctets_from_places more (λ i. fits (suc (suc i))) in
    let long : length (take size (drop (2 + n) (tag ∷ first ∷ more))) ≡ size =
    omega (arith, length-take size (drop (2 + n) (tag ∷ first ∷ more)), length-drop (2 + n) (tag ∷ first ∷ more), clear.whole) in
    let is_size : ℕ → Type 0 = λ k. IsLength (first ∷ take n more) k in
    let rest : List ℕ → List ℕ = λ after. tag ∷ ((first ∷ take n more) ++ take size after) in
    record {
      is_tag = (fits 0, clear.tag);
      size = first ∷ take n more;
      is_size = subst is_size (sym long) (IsLength_from_Clear tag first more n size octets clear refl refl);
      spelled = take-header tag first more n size ∙ ap rest (sym (drop-header tag first more n));
    }

-- ---- and where an item stands, no fault applies

-- the parts of the bytes that begin with an item
pub record Front (bytes : List ℕ) (tag : ℕ) (content whole : List ℕ) : Type 0 where
  pub clear : Clear bytes
  pub tag_is : get_or bytes 0 0 ≡ tag
  pub content_is : take (content_size bytes) (drop (header_size bytes) bytes) ≡ content
  pub whole_is : take (header_size bytes + content_size bytes) bytes ≡ whole

take-content : (tag first : ℕ) (octets content after : List ℕ) (n size : ℕ) → n ≡ length octets → size ≡ length content →
    take size (drop (2 + n) (tag ∷ first ∷ (octets ++ (content ++ after)))) ≡ content
take-content tag first octets content after n size n-is size-is =
    rw (drop-header tag first (octets ++ (content ++ after)) n, drop_at octets (content ++ after) n (sym n-is), take_at content after size (sym size-is)) refl

take-whole : (tag first : ℕ) (octets content after : List ℕ) (n size : ℕ) → n ≡ length octets → size ≡ length content →
    take (2 + n + size) (tag ∷ first ∷ (octets ++ (content ++ after))) ≡ tag ∷ ((first ∷ octets) ++ content)
take-whole tag first octets content after n size n-is size-is =
    rw (
      take-header tag first (octets ++ (content ++ after)) n size,
      take_at octets (content ++ after) n (sym n-is),
      drop_at octets (content ++ after) n (sym n-is),
      take_at content after size (sym size-is),
    ) refl

-- what is not padded
is_padded-exact : (octets : List ℕ) (size : ℕ) → number_of octets ≡ size → 256 ^ (length octets - 1) ≤ size → 128 ≤ size → is_padded octets ≡ false
is_padded-exact octets size writes fewer long =
    rw (le-ltb (number_of octets) 128 (omega arith), le-ltb (number_of octets) (256 ^ (length octets - 1)) (omega arith)) refl

Front-short : (tag first : ℕ) (content after : List ℕ) → tag % 32 ≢ 31 → first ≡ length content → length content < 128 →
    Front (tag ∷ first ∷ (content ++ after)) tag content (tag ∷ first ∷ content)
Front-short tag first content after high size-is short =
    let bytes : List ℕ = tag ∷ first ∷ (content ++ after) in
    let n-is : counted bytes ≡ 0 = omega arith in
    let content_size-is : content_size bytes ≡ length content = rw (lt-ltb first 128 (omega arith)) size-is in
    let all = length-append content after in
    record {
      clear = record {
        two = omega arith;
        tag = high;
        definite = λ e. omega arith;
        not_reserved = λ e. omega arith;
        header = omega arith;
        minimal = rw (lt-leb 128 first (omega arith)) refl;
        few = omega arith;
        whole = omega arith;
      };
      tag_is = refl;
      content_is = take-content tag first [] content after (counted bytes) (content_size bytes) n-is content_size-is;
      whole_is = take-whole tag first [] content after (counted bytes) (content_size bytes) n-is content_size-is;
    }

-- the long form has octets after the first
long_some : (first size : ℕ) (octets : List ℕ) → IsLongForm first octets size → 1 ≤ length octets
long_some first size [] long = absurd (omega (arith, long.writes, long.not_short))
long_some first size (octet ∷ octets) long = omega arith

Front-long : (tag first : ℕ) (octets content after : List ℕ) → tag % 32 ≢ 31 → IsLongForm first octets (length content) →
    Front (tag ∷ first ∷ (octets ++ (content ++ after))) tag content (tag ∷ ((first ∷ octets) ++ content))
Front-long tag first octets content after high long =
    let bytes : List ℕ = tag ∷ first ∷ (octets ++ (content ++ after)) in
    let n-is : counted bytes ≡ length octets = omega (arith, long.counts) in
    let octets-are : size_octets bytes ≡ octets = take_at octets (content ++ after) (counted bytes) (sym n-is) in
    let some = long_some first (length content) octets long in
    let content_size-is : content_size bytes ≡ length content = rw (le-ltb first 128 (omega (arith, long.counts)), octets-are) long.writes in
    let all = length-append octets (content ++ after) in
    let rest = length-append content after in
    record {
      clear = record {
        two = omega arith;
        tag = high;
        definite = λ e. omega (arith, long.counts);
        not_reserved = λ e. omega (arith, long.counts, long.at_most_four);
        header = omega arith;
        minimal = rw (
          octets-are,
          is_padded-exact octets (length content) long.writes long.no_fewer_do long.not_short,
          le-leb 128 first (omega (arith, long.counts)),
        ) refl;
        few = omega (arith, long.at_most_four);
        whole = omega arith;
      };
      tag_is = refl;
      content_is = take-content tag first octets content after (counted bytes) (content_size bytes) n-is content_size-is;
      whole_is = take-whole tag first octets content after (counted bytes) (content_size bytes) n-is content_size-is;
    }

Front_from_parts : (tag : ℕ) (size content after : List ℕ) → tag % 32 ≢ 31 → IsLength size (length content) →
    Front ((tag ∷ (size ++ content)) ++ after) tag content (tag ∷ (size ++ content))
Front_from_parts tag [] content after high is_size = absurd is_size
Front_from_parts tag (first ∷ octets) content after high (inl short) =
    let fronts : List ℕ → Type 0 = λ more. Front (tag ∷ first ∷ ((more ++ content) ++ after)) tag content (tag ∷ ((first ∷ more) ++ content)) in
    subst fronts (sym short.0) (Front-short tag first content after high short.1 short.2)
Front_from_parts tag (first ∷ octets) content after high (inr long) =
    let fronts : List ℕ → Type 0 = λ more. Front (tag ∷ first ∷ more) tag content (tag ∷ ((first ∷ octets) ++ content)) in
    subst fronts (sym (append_assoc octets content after)) (Front-long tag first octets content after high long)

pub Front_from_Der : (tag : ℕ) (content whole after : List ℕ) → Der tag content whole → Front (whole ++ after) tag content whole
Front_from_Der tag content whole after item =
    let fronts : List ℕ → Type 0 = λ (bytes : List ℕ). Front (bytes ++ after) tag content bytes in
    subst fronts (sym item.spelled) (Front_from_parts tag item.size content after item.is_tag.1 item.is_size)
