-- Bytes after their length in two bytes.
use Rattle.std.proofs.Common.{◌≡◌, ℕ, ◌+◌, ◌-◌, ◌*◌, ◌/◌, ◌%◌, ◌<◌, ◌≤◌, List, [], ◌∷◌, ◌++◌, length, replicate, refl, sym, ap, ◌∙◌, append_assoc, arith, length-append}
use Rattle.std.proofs.lemmas.List.{length-replicate, nil_from_length}
use Rattle.sz_dhcp.specs.Spelled.{IsUnfinished, two_bytes}
use Rattle.sz_dhcp.specs.UriList.{IsEntry}
use Rattle.sz_dhcp.proofs.Joined.{AreApart, Stops}

-- the two bytes of a number that they write
pub two_bytes-of : (high low : ℕ) → low < 256 → two_bytes (high * 256 + low) ≡ high ∷ low ∷ []
two_bytes-of high low small =
    let quotient : (high * 256 + low) / 256 ≡ high = omega arith in
    let remainder : (high * 256 + low) % 256 ≡ low = omega arith in
    rw (quotient, remainder) refl

-- a number is told by its two bytes
pub two_bytes_apart : (n m : ℕ) (rest more : List ℕ) → two_bytes n ++ rest ≡ two_bytes m ++ more → (n ≡ m) × (rest ≡ more)
two_bytes_apart n m rest more e =
    let highs : n / 256 ≡ m / 256 = cc e in
    let lows : n % 256 ≡ m % 256 = cc e in
    let rests : rest ≡ more = cc e in
    (omega arith, rests)

-- bytes of one length, of lists that begin with them
pub same_fronts : (xs ys rest more : List ℕ) → length xs ≡ length ys → xs ++ rest ≡ ys ++ more → (xs ≡ ys) × (rest ≡ more)
same_fronts [] [] rest more size e = (refl, e)
same_fronts [] (y ∷ ys) rest more size e = cc size
same_fronts (x ∷ xs) [] rest more size e = cc size
same_fronts (x ∷ xs) (y ∷ ys) rest more size e =
    let heads : x ≡ y = cc e in
    let tails : xs ++ rest ≡ ys ++ more = cc e in
    let others = same_fronts xs ys rest more (omega (arith, size)) tails in
    (ap (λ (z : ℕ). z ∷ xs) heads ∙ ap (λ (zs : List ℕ). y ∷ zs) others.0, others.1)

pub entries_apart : AreApart IsEntry
entries_apart item other own others rest more spelled second e =
    let whole : two_bytes (length item) ++ (item ++ rest) ≡ two_bytes (length other) ++ (other ++ more) =
    sym (append_assoc (two_bytes (length item)) item rest) ∙ ap (λ (xs : List ℕ). xs ++ rest) (sym spelled) ∙ e
    ∙ ap (λ (xs : List ℕ). xs ++ more) second ∙ append_assoc (two_bytes (length other)) other more in
    let first = two_bytes_apart (length item) (length other) (item ++ rest) (other ++ more) whole in
    let same = same_fronts item other rest more first.0 first.1 in
    (same.0, spelled ∙ ap (λ (xs : List ℕ). two_bytes (length xs) ++ xs) same.0 ∙ sym second)

-- no entry begins where nothing is left
pub entries_stop : Stops IsEntry []
entries_stop item own after spelled e =
    let whole = rw spelled at e in
    cc whole

-- ---- entries that end too early

pub unfinished_at_none : (bytes : List ℕ) → length bytes ≡ 0 → IsUnfinished IsEntry bytes
unfinished_at_none bytes none =
    let empty = nil_from_length bytes none in
    record {
      item = [];
      missing = 0 ∷ 0 ∷ [];
      whole = ap (λ (xs : List ℕ). xs ++ (0 ∷ 0 ∷ [])) empty;
      not_all = λ e. cc e;
    }

-- as many zeros as are missing
filled : (high low : ℕ) (after : List ℕ) → low < 256 → length after ≤ high * 256 + low
    → high ∷ low ∷ after ++ replicate (high * 256 + low - length after) 0
    ≡ two_bytes (length (after ++ replicate (high * 256 + low - length after) 0)) ++ (after ++ replicate (high * 256 + low - length after) 0)
filled high low after small short =
    let size : length (after ++ replicate (high * 256 + low - length after) 0) ≡ high * 256 + low =
    omega (arith, length-append after (replicate (high * 256 + low - length after) 0), length-replicate {A = ℕ} (high * 256 + low - length after) 0) in
    ap (λ (xs : List ℕ). xs ++ (after ++ replicate (high * 256 + low - length after) 0)) (sym (two_bytes-of high low small))
    ∙ ap (λ (n : ℕ). two_bytes n ++ (after ++ replicate (high * 256 + low - length after) 0)) (sym size)

pub unfinished_at_one : (bytes after : List ℕ) (high : ℕ) → bytes ≡ high ∷ after → length after ≡ 0 → IsUnfinished IsEntry bytes
unfinished_at_one bytes after high front none =
    let empty = nil_from_length after none in
    record {
      item = replicate (high * 256 + 0 - 0) 0;
      missing = 0 ∷ replicate (high * 256 + 0 - 0) 0;
      whole = ap (λ (xs : List ℕ). xs ++ 0 ∷ replicate (high * 256 + 0 - 0) 0) front
          ∙ ap (λ (xs : List ℕ). high ∷ (xs ++ 0 ∷ replicate (high * 256 + 0 - 0) 0)) empty ∙ filled high 0 [] (omega arith) (omega arith);
      not_all = λ e. cc e;
    }

pub unfinished_at_more : (bytes after more : List ℕ) (high low : ℕ) → bytes ≡ high ∷ after → after ≡ low ∷ more → low < 256
    → length more < high * 256 + low → IsUnfinished IsEntry bytes
unfinished_at_more bytes after more high low front second small short = record {
  item = more ++ replicate (high * 256 + low - length more) 0;
  missing = replicate (high * 256 + low - length more) 0;
  whole = ap (λ (xs : List ℕ). xs ++ replicate (high * 256 + low - length more) 0) front
      ∙ ap (λ (xs : List ℕ). high ∷ (xs ++ replicate (high * 256 + low - length more) 0)) second
      ∙ filled high low more small (omega arith);
  not_all = λ e. absurd (omega (arith, ap length e, length-replicate {A = ℕ} (high * 256 + low - length more) 0));
}
