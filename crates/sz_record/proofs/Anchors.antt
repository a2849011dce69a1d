-- Certificates that are taken one after another.
use Rattle.std.proofs.Common.{◌≡◌, ℕ, zero, suc, ◌+◌, ◌-◌, ◌<◌, ◌≤◌, List, [], ◌∷◌, ◌++◌, length, drop, replicate, Result, Ok, Err, refl, sym, ap, subst, ◌∙◌, arith, append_assoc, length-append}
use Rattle.std.proofs.Math.Seq.{drop-append_seam}
use Rattle.std.proofs.lemmas.Grind.{flat_map-append}
use Rattle.std.proofs.lemmas.List.{append-nil}
use Rattle.std.proofs.lemmas.List.Elements.{All-nil, All-push}
use Rattle.std.specs.Int.{w8}
use Rattle.std.specs.List.{All, flat_map}
use Rattle.sz_base.specs.Identity.{most_anchor_bytes, most_anchors}
use Rattle.sz_record.specs.Field.{Field, and_then, behind, counted, followed, in_order, long, number}
use Rattle.sz_record.specs.Reading.{IsWrong, TakesField, TakesNumber}
use Rattle.sz_record.specs.Spelling.{anchors_bytes, long_bytes}
use Rattle.sz_record.specs.Stored.{anchors_field}
use Rattle.sz_record.specs.declared.unread.Wrong.{Wrong}
use Rattle.sz_record.proofs.Fields.{takes_number, wrong_after_number, wrong_number}

abbrev pub anchor : Field
anchor = long most_anchor_bytes

abbrev pub anchors_of : ℕ → Field
anchors_of count = in_order (replicate count anchor)

-- of so many certificates that were to be taken, these were, and so many are left
pub record Going (count : ℕ) (start : List ℕ) (anchors : List (List ℕ)) (left : ℕ) (now : List ℕ) : Type 0 where
  pub joined : start ≡ flat_map long_bytes anchors ++ now
  pub told : anchors_of count start ≡ behind (length (flat_map long_bytes anchors)) (anchors_of left now)
  pub counted : length anchors + left ≡ count
  pub short : All (λ item. length item ≤ most_anchor_bytes) anchors

behind_none : (told : Result ℕ ℕ) → told ≡ behind 0 told
behind_none (Ok n) = ap (λ k. let r : Result ℕ ℕ = Ok k in r) (omega arith)
behind_none (Err n) = ap (λ k. let r : Result ℕ ℕ = Err k in r) (omega arith)

behind_both : (m n : ℕ) (told : Result ℕ ℕ) → behind m (behind n told) ≡ behind (m + n) told
behind_both m n (Ok k) = ap (λ k. let r : Result ℕ ℕ = Ok k in r) (omega arith)
behind_both m n (Err k) = ap (λ k. let r : Result ℕ ℕ = Err k in r) (omega arith)

pub going_begun : (count : ℕ) (start : List ℕ) → Going count start [] count start
going_begun count start = record {
  joined = refl;
  told = behind_none (anchors_of count start);
  counted = omega arith;
  short = All-nil (λ item. length item ≤ most_anchor_bytes);
}

-- one more
next_told : (k : ℕ) (now own next : List ℕ) → TakesField anchor own now next
    → anchors_of (suc k) now ≡ behind (length own) (anchors_of k next)
unfolding followed
next_told k now own next took =
    let rest : drop (length own) now ≡ next =
    ap (λ s. drop (length own) s) took.joined ∙ drop-append_seam own next in
    ap (λ r. and_then r (anchors_of k) now) took.told ∙ ap (λ s. behind (length own) (anchors_of k s)) rest

going_suc : (count : ℕ) (start : List ℕ) (anchors : List (List ℕ)) (k : ℕ) (now next item : List ℕ)
    → Going count start anchors (suc k) now → TakesField anchor (long_bytes item) now next → length item ≤ most_anchor_bytes
    → Going count start (anchors ++ item ∷ []) k next
going_suc count start anchors k now next item going took short =
    let done = flat_map long_bytes anchors in
    let own = long_bytes item in
    let more : flat_map long_bytes (anchors ++ item ∷ []) ≡ done ++ own =
    flat_map-append long_bytes anchors (item ∷ []) ∙ ap (λ s. done ++ s) (append-nil own) in
    let size : length (flat_map long_bytes (anchors ++ item ∷ [])) ≡ length done + length own =
    ap (λ (s : List ℕ). length s) more ∙ length-append done own in
    record {
      joined =
          going.joined
          ∙ ap (λ s. done ++ s) took.joined
          ∙ sym (append_assoc done own next)
          ∙ ap (λ s. s ++ next) (sym more);
      told =
          going.told
          ∙ ap (λ r. behind (length done) r) (next_told k now own next took)
          ∙ behind_both (length done) (length own) (anchors_of k next)
          ∙ ap (λ n. behind n (anchors_of k next)) (sym size);
      counted = omega (arith, going.counted, length-append anchors (item ∷ []));
      short = All-push (λ i. length i ≤ most_anchor_bytes) anchors item going.short short;
    }

pub going_on : (count : ℕ) (start : List ℕ) (anchors : List (List ℕ)) (left : ℕ) (now next item : List ℕ)
    → Going count start anchors left now → 0 < left → TakesField anchor (long_bytes item) now next
    → length item ≤ most_anchor_bytes → Going count start (anchors ++ item ∷ []) (left - 1) next
going_on count start anchors zero now next item going some took short = absurd (omega arith)
going_on count start anchors (suc k) now next item going some took short =
    let e : suc k - 1 ≡ k = omega arith in
    subst (λ n. Going count start (anchors ++ item ∷ []) n next) (sym e)
    (going_suc count start anchors k now next item going took short)

pub going_done : (count : ℕ) (start : List ℕ) (anchors : List (List ℕ)) (left : ℕ) (now : List ℕ)
    → Going count start anchors left now → left ≡ 0 → TakesField (anchors_of count) (flat_map long_bytes anchors) start now
going_done count start anchors left now going none = record {
  joined = going.joined;
  told =
      going.told
      ∙ ap (λ n. behind (length (flat_map long_bytes anchors)) (anchors_of n now)) none
      ∙ ap (λ k. let r : Result ℕ ℕ = Ok k in r) (omega arith);
}

next_wrong : (k : ℕ) (now : List ℕ) (place : ℕ) → anchor now ≡ Err place → anchors_of (suc k) now ≡ Err place
unfolding followed
next_wrong k now place is = ap (λ r. and_then r (anchors_of k) now) is

pub going_wrong : (count : ℕ) (start : List ℕ) (anchors : List (List ℕ)) (left : ℕ) (now : List ℕ) (wrong : Wrong)
    → Going count start anchors left now → 0 < left → IsWrong anchor now wrong → IsWrong (anchors_of count) start wrong
going_wrong count start anchors zero now wrong going some h = absurd (omega arith)
going_wrong count start anchors (suc k) now wrong going some h = record {
  at = λ n is.
      let w = h.at n is in
      let done = flat_map long_bytes anchors in
      record {
        place = length done + w.place;
        told =
            going.told
            ∙ ap (λ r. behind (length done) r) (next_wrong k now w.place w.told);
        counted =
            omega (arith, ap (λ (s : List ℕ). length s) going.joined, length-append done now, w.counted);
      };
}

pub anchors_taken : (count left : ℕ) (old start now : List ℕ) (anchors : List (List ℕ))
    → TakesNumber w8 1 8 (count ∷ []) count old start → Going count start anchors left now → left ≡ 0
    → TakesField anchors_field (anchors_bytes anchors) old now
unfolding anchors_field anchors_bytes
anchors_taken count left old start now anchors one going none =
    let done = going_done count start anchors left now going none in
    let all : count ≡ length anchors = omega (arith, going.counted, none) in
    subst (λ n. TakesField (counted 1 most_anchors anchor) (n ∷ flat_map long_bytes anchors) old now) all
    (takes_number anchors_of one done)

pub anchors_wrong : (count left : ℕ) (old start now : List ℕ) (anchors : List (List ℕ)) (wrong : Wrong)
    → TakesNumber w8 1 8 (count ∷ []) count old start → Going count start anchors left now → 0 < left
    → IsWrong anchor now wrong → IsWrong anchors_field old wrong
unfolding anchors_field
anchors_wrong count left old start now anchors wrong one going some h =
    wrong_after_number anchors_of one (going_wrong count start anchors left now wrong going some h)

pub count_wrong : (old : List ℕ) (wrong : Wrong) → IsWrong (number w8 1 8) old wrong → IsWrong anchors_field old wrong
unfolding anchors_field
count_wrong old wrong h = wrong_number w8 1 8 anchors_of h

pub counted_some : (count left : ℕ) (old start now : List ℕ) (anchors : List (List ℕ))
    → TakesNumber w8 1 8 (count ∷ []) count old start → Going count start anchors left now → left ≡ 0
    → (1 ≤ length anchors) × (length anchors ≤ 8)
counted_some count left old start now anchors one going none =
    (omega (arith, going.counted, one.above), omega (arith, going.counted, one.below))
