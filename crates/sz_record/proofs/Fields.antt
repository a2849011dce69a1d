-- Fields that are taken one after another, and where they are wrong.
use Rattle.std.proofs.Common.{◌≡◌, ◌≢◌, ℕ, ◌+◌, ◌-◌, ◌≤◌, Bool, true, false, ◌&&◌, if◌then◌else◌, List, [], ◌∷◌, ◌++◌, length, drop, Result, Ok, Err, Some, None, nat_le, refl, sym, ap, subst, ◌∙◌, arith, append_assoc, length-append}
use Rattle.std.proofs.Math.Seq.{drop-append_seam}
use Rattle.std.proofs.lemmas.Bool.{le-leb}
use Rattle.std.specs.Int.{Width, w8, byte_len, from_be_bytes, is_in_range}
use Rattle.sz_record.specs.Field.{Field, behind, nothing, and_then, followed, number, number_then, tested, passing, optional, where_there}
use Rattle.sz_record.specs.Reading.{TakesField, TakesNumber, IsWrong}
use Rattle.sz_record.specs.Spelling.{optional_bytes}
use Rattle.sz_record.specs.declared.unread.Wrong.{Wrong}
use Rattle.sz_record.specs.declared.unread.Wrong.TheVariants.{At, OutOfMemory}

dropped : (own old new : List ℕ) → old ≡ own ++ new → drop (length own) old ≡ new
dropped own old new joined = ap (λ s. drop (length own) s) joined ∙ drop-append_seam own new

counted_on : (own old new : List ℕ) → old ≡ own ++ new → length old ≡ length own + length new
counted_on own old new joined = ap (λ (s : List ℕ). length s) joined ∙ length-append own new

-- ---- fields in order

pub takes_none : (left : List ℕ) → TakesField nothing [] left left
takes_none left = record { joined = refl; told = refl }

pub takes_next : {first next : Field} {own others old mid new : List ℕ} → TakesField first own old mid
    → TakesField next others mid new → TakesField (followed first next) (own ++ others) old new
unfolding followed
takes_next {first} {next} {own} {others} {old} {mid} {new} one rest = record {
  joined = one.joined ∙ ap (λ s. own ++ s) rest.joined ∙ sym (append_assoc own others new);
  told =
      ap (λ r. and_then r next old) one.told
      ∙ ap (λ s. behind (length own) (next s)) (dropped own old mid one.joined)
      ∙ ap (λ r. behind (length own) r) rest.told
      ∙ ap (λ n. let r : Result ℕ ℕ = Ok n in r) (sym (length-append own others));
}

pub wrong_first : {first : Field} {left : List ℕ} {wrong : Wrong} (next : Field) → IsWrong first left wrong
    → IsWrong (followed first next) left wrong
unfolding followed
wrong_first {first} {left} next h = record {
  at = λ count is. let w = h.at count is in record {
    place = w.place;
    told = ap (λ r. and_then r next left) w.told;
    counted = w.counted;
  };
}

pub wrong_next : {first next : Field} {own old mid : List ℕ} {wrong : Wrong} → TakesField first own old mid
    → IsWrong next mid wrong → IsWrong (followed first next) old wrong
unfolding followed
wrong_next {first} {next} {own} {old} {mid} one h = record {
  at = λ count is. let w = h.at count is in record {
    place = length own + w.place;
    told =
        ap (λ r. and_then r next old) one.told
        ∙ ap (λ s. behind (length own) (next s)) (dropped own old mid one.joined)
        ∙ ap (λ r. behind (length own) r) w.told;
    counted = omega (arith, counted_on own old mid one.joined, w.counted);
  };
}

-- ---- a number, and what follows it

in_range : (low most n : ℕ) → low ≤ n → n ≤ most → is_in_range low most n ≡ true
in_range low most n above below =
    ap (λ b. b && nat_le n most) (le-leb low n above) ∙ le-leb n most below

-- what is told of a number, by whether it is there and in its bounds
abbrev by_tests : Bool → Bool → Result ℕ ℕ → ℕ → Result ℕ ℕ
by_tests there within told end = if there then (if within then told else Err 0) else Err end

both_pass : (there within : Bool) (told : Result ℕ ℕ) (end : ℕ) → there ≡ true → within ≡ true
    → by_tests there within told end ≡ told
both_pass there within told end a b =
    ap (λ x. by_tests x within told end) a ∙ ap (λ y. by_tests true y told end) b

pub number_told : {width : Width} {low most n : ℕ} {own old mid : List ℕ} (next : ℕ → Field)
    → TakesNumber width low most own n old mid
    → number_then width low most next old ≡ behind (length own) (next n mid)
unfolding number_then
number_told {width} {low} {most} {n} {own} {old} {mid} next h =
    let there : byte_len width ≤ length old = omega (arith, counted_on own old mid h.joined, h.size) in
    let rest : drop (byte_len width) old ≡ mid =
    ap (λ k. drop k old) (sym h.size) ∙ dropped own old mid h.joined in
    let told = λ (k : ℕ) (s : List ℕ). behind (byte_len width) (next k s) in
    both_pass (nat_le (byte_len width) (length old)) (is_in_range low most (from_be_bytes width old))
    (told (from_be_bytes width old) (drop (byte_len width) old)) (length old)
    (le-leb (byte_len width) (length old) there)
    (ap (λ k. is_in_range low most k) h.value ∙ in_range low most n h.above h.below)
    ∙ ap (λ k. told k (drop (byte_len width) old)) h.value
    ∙ ap (λ s. told n s) rest
    ∙ ap (λ k. behind k (next n mid)) (sym h.size)

pub takes_number : {width : Width} {low most n : ℕ} {own old mid others new : List ℕ} (next : ℕ → Field)
    → TakesNumber width low most own n old mid → TakesField (next n) others mid new
    → TakesField (number_then width low most next) (own ++ others) old new
takes_number {width} {low} {most} {n} {own} {old} {mid} {others} {new} next one rest = record {
  joined = one.joined ∙ ap (λ s. own ++ s) rest.joined ∙ sym (append_assoc own others new);
  told =
      number_told next one
      ∙ ap (λ r. behind (length own) r) rest.told
      ∙ ap (λ k. let r : Result ℕ ℕ = Ok k in r) (sym (length-append own others));
}

number_alone : (there within : Bool) (n end place : ℕ) (told : Result ℕ ℕ)
    → by_tests there within (behind n (Ok 0)) end ≡ Err place → by_tests there within told end ≡ Err place
number_alone true true n end place told is = absurd (cc is)
number_alone true false n end place told is = is
number_alone false within n end place told is = is

pub wrong_number : (width : Width) (low most : ℕ) {left : List ℕ} {wrong : Wrong} (next : ℕ → Field)
    → IsWrong (number width low most) left wrong → IsWrong (number_then width low most next) left wrong
unfolding number_then
wrong_number width low most {left} next h = record {
  at = λ count is. let w = h.at count is in record {
    place = w.place;
    told = number_alone (nat_le (byte_len width) (length left)) (is_in_range low most (from_be_bytes width left))
        (byte_len width) (length left) w.place
        (behind (byte_len width) (next (from_be_bytes width left) (drop (byte_len width) left))) w.told;
    counted = w.counted;
  };
}

pub wrong_after_number : {width : Width} {low most n : ℕ} {own old mid : List ℕ} {wrong : Wrong} (next : ℕ → Field)
    → TakesNumber width low most own n old mid → IsWrong (next n) mid wrong
    → IsWrong (number_then width low most next) old wrong
wrong_after_number {width} {low} {most} {n} {own} {old} {mid} next one h = record {
  at = λ count is. let w = h.at count is in record {
    place = length own + w.place;
    told = number_told next one ∙ ap (λ r. behind (length own) r) w.told;
    counted = omega (arith, counted_on own old mid one.joined, w.counted);
  };
}

-- a number by itself
pub takes_alone : {width : Width} {low most n : ℕ} {own old mid : List ℕ} → TakesNumber width low most own n old mid
    → TakesField (number width low most) own old mid
takes_alone {own = own} {old = old} {mid = mid} one = record {
  joined = one.joined;
  told = number_told (λ _. nothing) one ∙ ap (λ k. let r : Result ℕ ℕ = Ok k in r) (omega arith);
}

-- a number of one byte, by itself
pub takes_as : {n : ℕ} {old new : List ℕ} (k : ℕ) → TakesNumber w8 0 1 (n ∷ []) n old new → n ≡ k
    → TakesField (number w8 0 1) (k ∷ []) old new
takes_as {n} {old} {new} k one is = subst (λ m. TakesField (number w8 0 1) (m ∷ []) old new) is (takes_alone one)

-- ---- what may be there

pub takes_absent : {T : Type 0} {n : ℕ} {old new : List ℕ} (field : Field) (spelled : T → List ℕ)
    → TakesNumber w8 0 1 (n ∷ []) n old new → n ≡ 0 → TakesField (optional field) (optional_bytes spelled None) old new
unfolding optional_bytes
takes_absent {T} {n} {old} {new} field spelled one is =
    let zero : TakesNumber w8 0 1 (0 ∷ []) 0 old new = subst (λ k. TakesNumber w8 0 1 (k ∷ []) k old new) is one in
    takes_number (where_there field) zero (takes_none new)

pub takes_present : {T : Type 0} {field : Field} {n : ℕ} {old mid new : List ℕ} (spelled : T → List ℕ) (value : T)
    → TakesNumber w8 0 1 (n ∷ []) n old mid → n ≢ 0 → TakesField field (spelled value) mid new
    → TakesField (optional field) (optional_bytes spelled (Some value)) old new
unfolding optional_bytes
takes_present {T} {field} {n} {old} {mid} {new} spelled value one not_zero rest =
    let is : n ≡ 1 = omega (arith, one.below) in
    let first : TakesNumber w8 0 1 (1 ∷ []) 1 old mid = subst (λ k. TakesNumber w8 0 1 (k ∷ []) k old mid) is one in
    takes_number (where_there field) first rest

pub wrong_present : {field : Field} {n : ℕ} {old mid : List ℕ} {wrong : Wrong}
    → TakesNumber w8 0 1 (n ∷ []) n old mid → n ≢ 0 → IsWrong field mid wrong → IsWrong (optional field) old wrong
wrong_present {field} {n} {old} {mid} {wrong} one not_zero h =
    let is : n ≡ 1 = omega (arith, one.below) in
    let first : TakesNumber w8 0 1 (1 ∷ []) 1 old mid = subst (λ k. TakesNumber w8 0 1 (k ∷ []) k old mid) is one in
    wrong_after_number (where_there field) first h

pub wrong_optional : (field : Field) {left : List ℕ} {wrong : Wrong} → IsWrong (number w8 0 1) left wrong
    → IsWrong (optional field) left wrong
wrong_optional field h = wrong_number w8 0 1 (where_there field) h

-- ---- other answers

-- memory ran out
pub wrong_memory : (field : Field) (left : List ℕ) (wrong : Wrong) → wrong ≡ OutOfMemory → IsWrong field left wrong
wrong_memory field left wrong is = record { at = λ count at. absurd (cc (is, at)) }

pub wrong_at : (field : Field) (left : List ℕ) (wrong : Wrong) (place count : ℕ) → wrong ≡ At count
    → field left ≡ Err place → place + count ≡ length left → IsWrong field left wrong
wrong_at field left wrong place count is told counted = record {
  at = λ n at.
      let e : count ≡ n = cc (is, at) in
      record { place = place; told = told; counted = subst (λ k. place + k ≡ length left) e counted };
}

pub wrong_passing : {field : Field} {left : List ℕ} {wrong : Wrong} (test : List ℕ → Bool) → IsWrong field left wrong
    → IsWrong (passing test field) left wrong
unfolding passing
wrong_passing {field} {left} test h = record {
  at = λ count is. let w = h.at count is in record {
    place = w.place;
    told = ap (λ r. tested test r left) w.told;
    counted = w.counted;
  };
}
