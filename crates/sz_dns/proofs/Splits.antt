-- Numbers in two bytes, and bytes that are split.
use Rattle.std.proofs.Common.{◌≡◌, ℕ, ◌+◌, ◌*◌, ◌/◌, ◌%◌, ◌<◌, ◌≤◌, List, [], ◌∷◌, ◌++◌, length, get_or, take, drop, refl, sym, ap, ◌∙◌, arith}
use Rattle.std.proofs.lemmas.List.{drop-drop, drop_more, get_or-take, take-append-drop}
use Rattle.sz_dns.specs.Name.{IsName}
use Rattle.sz_dns.specs.Record.{number_at, two_bytes}
use Rattle.sz_dns.specs.Service.{IsService}
use Rattle.sz_dns.specs.declared.service.Service.{Service}

-- the two bytes of a number that they write
pub two_bytes-of : (high low : ℕ) → low < 256 → two_bytes (high * 256 + low) ≡ high ∷ low ∷ []
two_bytes-of high low small =
    let quotient : (high * 256 + low) / 256 ≡ high = omega arith in
    let remainder : (high * 256 + low) % 256 ≡ low = omega arith in
    rw (quotient, remainder) refl

-- a number is told by its two bytes
pub two_bytes_apart : (n m : ℕ) (rest more : List ℕ) → two_bytes n ++ rest ≡ two_bytes m ++ more → (n ≡ m) × (rest ≡ more)
two_bytes_apart n m rest more e =
    let highs : n / 256 ≡ m / 256 = cc e in
    let lows : n % 256 ≡ m % 256 = cc e in
    let rests : rest ≡ more = cc e in
    (omega arith, rests)

-- bytes of one length, of lists that begin with them
pub same_fronts : (xs ys rest more : List ℕ) → length xs ≡ length ys → xs ++ rest ≡ ys ++ more → (xs ≡ ys) × (rest ≡ more)
same_fronts [] [] rest more size e = (refl, e)
same_fronts [] (y ∷ ys) rest more size e = cc size
same_fronts (x ∷ xs) [] rest more size e = cc size
same_fronts (x ∷ xs) (y ∷ ys) rest more size e =
    let heads : x ≡ y = cc e in
    let tails : xs ++ rest ≡ ys ++ more = cc e in
    let others = same_fronts xs ys rest more (omega (arith, size)) tails in
    (ap (λ (z : ℕ). z ∷ xs) heads ∙ ap (λ (zs : List ℕ). y ∷ zs) others.0, others.1)

-- each is a byte
abbrev pub AreOctets : List ℕ → Type 0
AreOctets bytes = (k : ℕ) → get_or bytes k 0 < 256

-- the six bytes before a service's name
pub service_at : (message contents fixed name rest : List ℕ) (service : Service) → AreOctets contents → contents ≡ fixed ++ name
    → length fixed ≡ 6 → service.priority ≡ number_at fixed 0 → service.port ≡ number_at fixed 4
    → IsName message name service.target rest → IsService message contents service
service_at message contents (a ∷ b ∷ c ∷ d ∷ e ∷ f ∷ []) name rest service octets split size priority port target =
    let one : b < 256 = let at = octets 1 in rw split at at in
    let two : d < 256 = let at = octets 3 in rw split at at in
    let three : f < 256 = let at = octets 5 in rw split at at in
    record {
      weight = c * 256 + d;
      name = name;
      rest = rest;
      spelled = rw (priority, port)
          (split ∙ ap (λ (xs : List ℕ). xs ++ (c ∷ d ∷ e ∷ f ∷ name)) (sym (two_bytes-of a b one))
          ∙ ap (λ (xs : List ℕ). two_bytes (a * 256 + b) ++ (xs ++ (e ∷ f ∷ name))) (sym (two_bytes-of c d two))
          ∙ ap (λ (xs : List ℕ). two_bytes (a * 256 + b) ++ (two_bytes (c * 256 + d) ++ (xs ++ name))) (sym (two_bytes-of e f three)));
      target = target;
    }
service_at message contents [] name rest service octets split size priority port target = cc size
service_at message contents (a ∷ []) name rest service octets split size priority port target = cc size
service_at message contents (a ∷ b ∷ []) name rest service octets split size priority port target = cc size
service_at message contents (a ∷ b ∷ c ∷ []) name rest service octets split size priority port target = cc size
service_at message contents (a ∷ b ∷ c ∷ d ∷ []) name rest service octets split size priority port target = cc size
service_at message contents (a ∷ b ∷ c ∷ d ∷ e ∷ []) name rest service octets split size priority port target = cc size
service_at message contents (a ∷ b ∷ c ∷ d ∷ e ∷ f ∷ g ∷ fixed) name rest service octets split size priority port target =
    absurd (omega (arith, size))

-- the number in two bytes at a place, and what comes after it
pub pair_at : (bytes : List ℕ) (n : ℕ) → n + 2 ≤ length bytes → AreOctets bytes
    → drop n bytes ≡ two_bytes (number_at bytes n) ++ drop (n + 2) bytes
pair_at bytes n inside octets =
    let one = drop_more bytes n 0 (omega arith) in
    let two = drop_more bytes (n + 1) 0 (omega arith) in
    let place : n + 1 + 1 ≡ n + 2 = omega arith in
    one ∙ ap (λ (xs : List ℕ). get_or bytes n 0 ∷ xs) two
    ∙ ap (λ (k : ℕ). get_or bytes n 0 ∷ get_or bytes (n + 1) 0 ∷ drop k bytes) place
    ∙ ap (λ (xs : List ℕ). xs ++ drop (n + 2) bytes) (sym (two_bytes-of (get_or bytes n 0) (get_or bytes (n + 1) 0) (octets (n + 1))))

-- the bytes at a place, and what comes after them
pub four_at : (bytes : List ℕ) (n m : ℕ) → n + 4 ≡ m → drop n bytes ≡ take 4 (drop n bytes) ++ drop m bytes
four_at bytes n m place =
    sym (take-append-drop 4 (drop n bytes)) ∙ ap (λ (xs : List ℕ). take 4 (drop n bytes) ++ xs) (drop-drop 4 n bytes ∙ ap (λ (k : ℕ). drop k bytes) place)

-- a number at a place of the front of bytes
pub number_in : (bytes front : List ℕ) (n k : ℕ) → front ≡ take n bytes → k + 1 < n → number_at front k ≡ number_at bytes k
number_in bytes front n k is inside =
    let below : k < n = omega arith in
    ap (λ (xs : List ℕ). number_at xs k) is ∙ rw (get_or-take n bytes k 0 below, get_or-take n bytes (k + 1) 0 inside) refl

-- bytes that were split
pub rejoined : (bytes front back : List ℕ) (n : ℕ) → front ≡ take n bytes → back ≡ drop n bytes → bytes ≡ front ++ back
rejoined bytes front back n first second = sym (take-append-drop n bytes) ∙ rw (first, second) refl
