-- Octets by place and by recursion, and the test that two strings are alike.
use Rattle.std.specs.Prelude.{bytes_eq}
use Rattle.std.proofs.Common.{◌≡◌, ℕ, zero, suc, ◌+◌, ◌<◌, true, List, [], ◌∷◌, get_or, take, drop, get_or-drop}
use Rattle.std.proofs.lemmas.Slice.Eq.{bytes_eq-Decides}
use Rattle.sz_der.specs.Der.{AreOctets}

abbrev pub IsBytes : List ℕ → Type 0
IsBytes bytes = (i : ℕ) → get_or bytes i 0 < 256

pub AreOctets_from_places : (octets : List ℕ) → IsBytes octets → AreOctets octets
AreOctets_from_places [] fits = tt
AreOctets_from_places (octet ∷ octets) fits = (fits 0, AreOctets_from_places octets (λ i. fits (suc i)))

pub IsBytes-drop : (n : ℕ) (bytes : List ℕ) → IsBytes bytes → IsBytes (drop n bytes)
IsBytes-drop n bytes fits i = rw get_or-drop (fits (n + i))

pub AreOctets-take : (n : ℕ) (octets : List ℕ) → AreOctets octets → AreOctets (take n octets)
AreOctets-take zero octets fits = tt
AreOctets-take (suc n) [] fits = tt
AreOctets-take (suc n) (octet ∷ octets) fits = (fits.0, AreOctets-take n octets fits.1)

pub same_bytes : (bytes other : List ℕ) → bytes_eq bytes other ≡ true → bytes ≡ other
same_bytes bytes other = (bytes_eq-Decides bytes other).0

pub bytes_same : (bytes other : List ℕ) → bytes ≡ other → bytes_eq bytes other ≡ true
bytes_same bytes other = (bytes_eq-Decides bytes other).1
