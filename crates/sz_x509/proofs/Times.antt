-- The test of times says what the texts of the two types name.
use Rattle.std.specs.Prelude.{◌==◌, nat_lt, nat_le, bytes_eq, unsigned_abs}
use Rattle.std.proofs.Common.{◌≡◌, ℕ, inl, inr, ◌+◌, ◌-◌, ◌*◌, ◌/◌, ◌%◌, ◌<◌, ◌≤◌, true, ◌&&◌, List, ◌++◌, get_or, refl, sym, ap, subst, ◌∙◌, arith, ℤ, pos, negsuc, ◌≤ℤ◌}
use Rattle.std.proofs.lemmas.Bool.{eqb-true, eq-eqb, ltb-true, lt-ltb, le-ltb, leb-true, le-leb, cases_lt, or_cases, or_left, or_right, and_parts, and_from}
use Rattle.std.proofs.lemmas.Int.{ints}
use Rattle.sz_calendar.specs.CivilTime.{CivilTime, IsReal}
use Rattle.sz_calendar.specs.Gregorian.{IsDate, month_lengths}
use Rattle.sz_calendar.proofs.Seconds.{same_parts}
use Rattle.sz_der.specs.Time.{century, generalized_text, in_year, IsGeneralizedTime, IsUtcTime, NamesTime, two_digits, utc_text, year_in_century}
use Rattle.sz_der.specs.Tags.{generalized_time_tag, utc_time_tag}
use Rattle.sz_der.proofs.Octets.{bytes_same, same_bytes}
use Rattle.sz_x509.specs.Contents.{digits_at, generalized_time_in, is_date, is_generalized_time, is_real, is_time, is_utc_time, time_in, utc_time_in, year_of_two}

-- ---- real times

date_from_test : (n month day : ℕ) → is_date (pos n) month day ≡ true → IsDate (pos n) month day
date_from_test n month day e =
    let a = and_parts _ _ e in
    let b = and_parts _ _ a.1 in
    let c = and_parts _ _ b.1 in
    let d = and_parts _ _ c.1 in
    let bound : n ≤ 9999 = leb-true n 9999 a.0 in
    record {
      from_first_year = omega (arith, ints);
      to_last_year = omega (arith, ints);
      from_january = leb-true 1 month b.0;
      to_december = leb-true month 12 c.0;
      from_first_day = leb-true 1 day d.0;
      to_last_day = leb-true day (get_or (month_lengths (pos n)) (month - 1) 0) d.1;
    }

real_from_test : (n month day hour minute second : ℕ) →
    is_real (record { year = pos n; month = month; day = day; hour = hour; minute = minute; second = second }) ≡ true →
    IsReal (record { year = pos n; month = month; day = day; hour = hour; minute = minute; second = second })
unfolding is_real
real_from_test n month day hour minute second e =
    let a = and_parts _ _ e in
    let b = and_parts _ _ a.1 in
    let c = and_parts _ _ b.1 in
    record {
      date = date_from_test n month day a.0;
      hour = ltb-true hour 24 b.0;
      minute = ltb-true minute 60 c.0;
      second = ltb-true second 60 c.1;
    }

date_test : (year : ℤ) (month day : ℕ) (n : ℕ) → year ≡ pos n → IsDate year month day → is_date year month day ≡ true
date_test year month day n years is =
    let within : pos n ≤ℤ pos 9999 = rw years at is.to_last_year in
    let bound : n ≤ 9999 = omega (arith, ints) in
    let first : nat_le (unsigned_abs year) 9999 ≡ true = rw years (le-leb n 9999 bound) in
    and_from _ _ first (and_from _ _ (le-leb 1 month is.from_january) (and_from _ _ (le-leb month 12 is.to_december)
    (and_from _ _ (le-leb 1 day is.from_first_day) (le-leb day (get_or (month_lengths year) (month - 1) 0) is.to_last_day))))

real_test : (time : CivilTime) (n : ℕ) → time.year ≡ pos n → IsReal time → is_real time ≡ true
unfolding is_real
real_test time n year is =
    and_from _ _ (date_test time.year time.month time.day n year is.date) (and_from _ _ (lt-ltb time.hour 24 is.hour)
    (and_from _ _ (lt-ltb time.minute 60 is.minute) (lt-ltb time.second 60 is.second)))

-- a year from 0 on is a number
year_number : (year : ℤ) → pos 0 ≤ℤ year → (n : ℕ) × (year ≡ pos n)
year_number (pos n) from = (n, refl)
year_number (negsuc n) from = absurd (omega (arith, ints))

-- ---- texts

-- two digits are read as they are written
digits : (n : ℕ) → (48 + n / 10 - 48) * 10 + (48 + n % 10 - 48) ≡ n
digits n = omega arith

utc_parts : (y month day hour minute second : ℕ) (text : List ℕ) → text ≡ two_digits y ++ in_year month day hour minute second →
    (digits_at text 0 ≡ y) × (digits_at text 2 ≡ month) × (digits_at text 4 ≡ day) × (digits_at text 6 ≡ hour) × (digits_at text 8 ≡ minute)
    × (digits_at text 10 ≡ second)
unfolding two_digits
utc_parts y month day hour minute second text is =
    (rw is (digits y), rw is (digits month), rw is (digits day), rw is (digits hour), rw is (digits minute), rw is (digits second))

generalized_parts : (c y month day hour minute second : ℕ) (text : List ℕ) →
    text ≡ two_digits c ++ (two_digits y ++ in_year month day hour minute second) →
    (digits_at text 0 ≡ c) × (digits_at text 2 ≡ y) × (digits_at text 4 ≡ month) × (digits_at text 6 ≡ day) × (digits_at text 8 ≡ hour)
    × (digits_at text 10 ≡ minute) × (digits_at text 12 ≡ second)
unfolding two_digits
generalized_parts c y month day hour minute second text is = (
  rw is (digits c),
  rw is (digits y),
  rw is (digits month),
  rw is (digits day),
  rw is (digits hour),
  rw is (digits minute),
  rw is (digits second),
)

-- ---- UTCTime

two_of_year : (n : ℕ) → 1950 ≤ n → n ≤ 2049 → year_of_two (n % 100) ≡ n
two_of_year n from to =
    elim (cases_lt (n % 100) 50) [
      | inl low ↦ rw (lt-ltb (n % 100) 50 low) (omega arith)
      | inr high ↦ rw (le-ltb (n % 100) 50 high) (omega arith)
    ]

year_of_two-bounds : (y : ℕ) → y < 100 → (1950 ≤ year_of_two y) × (year_of_two y ≤ 2049)
year_of_two-bounds y below =
    elim (cases_lt y 50) [
      | inl low ↦ rw (lt-ltb y 50 low) (omega arith, omega arith)
      | inr high ↦ rw (le-ltb y 50 high) (omega arith, omega arith)
    ]

-- the text of a time is read as the time
utc_time_is : (time : CivilTime) (text : List ℕ) → IsUtcTime time text → utc_time_in text ≡ time
utc_time_is time text is =
    let year = year_number time.year (omega (arith, ints, is.from_1950)) in
    let from : 1950 ≤ year.0 = omega (arith, ints, is.from_1950, year.1) in
    let to : year.0 ≤ 2049 = omega (arith, ints, is.to_2049, year.1) in
    let y : year_in_century time ≡ year.0 % 100 = ap (λ (z : ℤ). unsigned_abs z % 100) year.1 in
    let parts = utc_parts (year_in_century time) time.month time.day time.hour time.minute time.second text is.text in
    let years : pos (year_of_two (digits_at text 0)) ≡ time.year =
    ap (λ (n : ℕ). pos (year_of_two n)) (parts.0 ∙ y) ∙ ap (λ (n : ℕ). pos n) (two_of_year year.0 from to) ∙ sym year.1 in
    sym (same_parts time (pos (year_of_two (digits_at text 0))) (digits_at text 2) (digits_at text 4) (digits_at text 6) (digits_at text 8)
    (digits_at text 10) (sym years) (sym parts.1) (sym parts.2) (sym parts.3) (sym parts.4) (sym parts.5))

utc_test : (time : CivilTime) (text : List ℕ) → IsUtcTime time text → is_utc_time text ≡ true
unfolding is_utc_time
utc_test time text is =
    let same = utc_time_is time text is in
    let year = year_number time.year (omega (arith, ints, is.from_1950)) in
    let parts = utc_parts (year_in_century time) time.month time.day time.hour time.minute time.second text is.text in
    let written : bytes_eq text (utc_text (utc_time_in text)) ≡ true =
    subst (λ (x : CivilTime). bytes_eq text (utc_text x) ≡ true) (sym same) (bytes_same text (utc_text time) is.text) in
    let below : nat_lt (digits_at text 0) 100 ≡ true = rw parts.0 (lt-ltb (year_in_century time) 100 (omega arith)) in
    let real : is_real (utc_time_in text) ≡ true =
    subst (λ (x : CivilTime). is_real x ≡ true) (sym same) (real_test time year.0 year.1 is.real) in
    and_from _ _ written (and_from _ _ below real)

utc_from_test : (text : List ℕ) → is_utc_time text ≡ true → IsUtcTime (utc_time_in text) text
unfolding is_utc_time
utc_from_test text e =
    let a = and_parts _ _ e in
    let b = and_parts _ _ a.1 in
    let bounds = year_of_two-bounds (digits_at text 0) (ltb-true (digits_at text 0) 100 b.0) in
    let year = year_of_two (digits_at text 0) in
    record {
      real = real_from_test year (digits_at text 2) (digits_at text 4) (digits_at text 6) (digits_at text 8) (digits_at text 10) b.1;
      from_1950 = omega (arith, ints, bounds.0);
      to_2049 = omega (arith, ints, bounds.1);
      text = same_bytes text (utc_text (utc_time_in text)) a.0;
    }

-- ---- GeneralizedTime

generalized_time_is : (time : CivilTime) (text : List ℕ) → IsGeneralizedTime time text → generalized_time_in text ≡ time
generalized_time_is time text is =
    let year = year_number time.year is.from_0 in
    let c : century time ≡ year.0 / 100 = ap (λ (z : ℤ). unsigned_abs z / 100) year.1 in
    let y : year_in_century time ≡ year.0 % 100 = ap (λ (z : ℤ). unsigned_abs z % 100) year.1 in
    let parts = generalized_parts (century time) (year_in_century time) time.month time.day time.hour time.minute time.second text is.text in
    let number : digits_at text 0 * 100 + digits_at text 2 ≡ year.0 = omega (arith, parts.0 ∙ c, parts.1 ∙ y) in
    let years : pos (digits_at text 0 * 100 + digits_at text 2) ≡ time.year = ap (λ (n : ℕ). pos n) number ∙ sym year.1 in
    sym (same_parts time (pos (digits_at text 0 * 100 + digits_at text 2)) (digits_at text 4) (digits_at text 6) (digits_at text 8)
    (digits_at text 10) (digits_at text 12) (sym years) (sym parts.2) (sym parts.3) (sym parts.4) (sym parts.5) (sym parts.6))

generalized_test : (time : CivilTime) (text : List ℕ) → IsGeneralizedTime time text → is_generalized_time text ≡ true
unfolding is_generalized_time
generalized_test time text is =
    let same = generalized_time_is time text is in
    let year = year_number time.year is.from_0 in
    let written : bytes_eq text (generalized_text (generalized_time_in text)) ≡ true =
    subst (λ (x : CivilTime). bytes_eq text (generalized_text x) ≡ true) (sym same) (bytes_same text (generalized_text time) is.text) in
    let real : is_real (generalized_time_in text) ≡ true =
    subst (λ (x : CivilTime). is_real x ≡ true) (sym same) (real_test time year.0 year.1 is.real) in
    and_from _ _ written real

generalized_from_test : (text : List ℕ) → is_generalized_time text ≡ true → IsGeneralizedTime (generalized_time_in text) text
unfolding is_generalized_time
generalized_from_test text e =
    let a = and_parts _ _ e in
    record {
      real = real_from_test (digits_at text 0 * 100 + digits_at text 2) (digits_at text 4) (digits_at text 6) (digits_at text 8) (digits_at text 10)
          (digits_at text 12) a.1;
      from_0 = omega (arith, ints);
      text = same_bytes text (generalized_text (generalized_time_in text)) a.0;
    }

-- ---- both

pub NamesTime_from_test : (tag : ℕ) (text : List ℕ) → is_time tag text ≡ true → NamesTime tag text (time_in tag text)
NamesTime_from_test tag text e =
    elim (or_cases (tag == utc_time_tag && is_utc_time text) (tag == generalized_time_tag && is_generalized_time text) e) [
      | inl utc ↦
          let tests = and_parts (tag == utc_time_tag) (is_utc_time text) utc in
          rw tests.0 (inl (eqb-true tag utc_time_tag tests.0, utc_from_test text tests.1))
      | inr generalized ↦
          let tests = and_parts (tag == generalized_time_tag) (is_generalized_time text) generalized in
          let is = eqb-true tag generalized_time_tag tests.0 in
          rw is (inr (refl, generalized_from_test text tests.1))
    ]

pub time_test : (tag : ℕ) (text : List ℕ) (time : CivilTime) → NamesTime tag text time → is_time tag text ≡ true
time_test tag text time (inl utc) = or_left _ _ (and_from _ _ (eq-eqb tag utc_time_tag utc.0) (utc_test time text utc.1))
time_test tag text time (inr generalized) =
    or_right _ _ (and_from _ _ (eq-eqb tag generalized_time_tag generalized.0) (generalized_test time text generalized.1))

pub time_value : (tag : ℕ) (text : List ℕ) (time : CivilTime) → NamesTime tag text time → time_in tag text ≡ time
time_value tag text time (inl utc) = rw utc.0 (utc_time_is time text utc.1)
time_value tag text time (inr generalized) = rw generalized.0 (generalized_time_is time text generalized.1)
