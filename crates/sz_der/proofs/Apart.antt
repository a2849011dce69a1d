-- Items told apart: one string, one tag, one content.
use Rattle.std.proofs.Common.{◌≡◌, ℕ, ◌-◌, ◌^◌, ◌<◌, ◌≤◌, inl, inr, List, [], ◌∷◌, ◌++◌, length, sym, ap, ◌∙◌, arith}
use Rattle.std.proofs.Math.Nat.{pow-le-pow_right}
use Rattle.std.proofs.lemmas.Bool.{cases_order}
use Rattle.std.proofs.lemmas.List.{append-nil, append_cancel_left}
use Rattle.sz_der.specs.Der.{Der, IsLength, AreOctets, number_of}
use Rattle.sz_der.proofs.Front.{Front, Front_from_Der}
use Rattle.sz_der.proofs.Numbers.{number_of-bound, number_of-injective}

-- two items at the front of the same bytes
pub same_front : (bytes : List ℕ) (tag other_tag : ℕ) (content other_content whole other : List ℕ) → Front bytes tag content whole →
    Front bytes other_tag other_content other → (tag ≡ other_tag) × (content ≡ other_content) × (whole ≡ other)
same_front bytes tag other_tag content other_content whole other a b =
    (sym a.tag_is ∙ b.tag_is, sym a.content_is ∙ b.content_is, sym a.whole_is ∙ b.whole_is)

pub one_reading : (tag other_tag : ℕ) (content other_content whole : List ℕ) → Der tag content whole → Der other_tag other_content whole →
    (tag ≡ other_tag) × (content ≡ other_content)
one_reading tag other_tag content other_content whole a b =
    let same = same_front (whole ++ []) tag other_tag content other_content whole whole (Front_from_Der tag content whole [] a)
    (Front_from_Der other_tag other_content whole [] b) in
    (same.0, same.1)

pub no_beginning : (tag other_tag : ℕ) (content other_content whole more : List ℕ) → Der tag content whole →
    Der other_tag other_content (whole ++ more) → more ≡ []
no_beginning tag other_tag content other_content whole more a b =
    let longer : Front (whole ++ more) other_tag other_content (whole ++ more) =
    rw append-nil at (Front_from_Der other_tag other_content (whole ++ more) [] b) in
    let same = same_front (whole ++ more) tag other_tag content other_content whole (whole ++ more) (Front_from_Der tag content whole more a) longer in
    append_cancel_left whole more [] (sym same.2 ∙ sym (append-nil whole))

-- ---- one tag and content have one string

-- octets that write one number, as few as will do, are as many
no_longer : (octets other : List ℕ) (size : ℕ) → AreOctets octets → number_of octets ≡ size → 256 ^ (length other - 1) ≤ size → length octets < length other → ⊥
no_longer octets other size fits writes fewer longer =
    let grows : 256 ^ length octets ≤ 256 ^ (length other - 1) =
    pow-le-pow_right {n = 256} (omega arith) {i = length octets} {j = length other - 1} (omega arith) in
    omega (arith, number_of-bound octets fits)

pub one_long_form : (octets other : List ℕ) (size : ℕ) → AreOctets octets → AreOctets other → number_of octets ≡ size → number_of other ≡ size →
    256 ^ (length octets - 1) ≤ size → 256 ^ (length other - 1) ≤ size → octets ≡ other
one_long_form octets other size fits other_fits writes other_writes fewer other_fewer =
    elim (cases_order (length octets) (length other)) [
      | inl same ↦ number_of-injective octets other fits other_fits same (writes ∙ sym other_writes)
      | inr (inl shorter) ↦ absurd (no_longer octets other size fits writes other_fewer shorter)
      | inr (inr longer) ↦ absurd (no_longer other octets size other_fits other_writes fewer longer)
    ]

one_length : (octets other : List ℕ) (size : ℕ) → IsLength octets size → IsLength other size → octets ≡ other
one_length [] other size a b = absurd a
one_length (first ∷ octets) [] size a b = absurd b
one_length (first ∷ octets) (second ∷ other) size (inl a) (inl b) =
    ap (λ (x : List ℕ). first ∷ x) (a.0 ∙ sym b.0) ∙ ap (λ (x : ℕ). x ∷ other) (a.1 ∙ sym b.1)
one_length (first ∷ octets) (second ∷ other) size (inl a) (inr b) = absurd (omega (arith, a.2, b.not_short))
one_length (first ∷ octets) (second ∷ other) size (inr a) (inl b) = absurd (omega (arith, b.2, a.not_short))
one_length (first ∷ octets) (second ∷ other) size (inr a) (inr b) =
    let same = one_long_form octets other size a.are_octets b.are_octets a.writes b.writes a.no_fewer_do b.no_fewer_do in
    let counts : first ≡ second = omega (arith, a.counts, b.counts, ap length same) in
    ap (λ (x : List ℕ). first ∷ x) same ∙ ap (λ (x : ℕ). x ∷ other) counts

pub one_string : (tag : ℕ) (content whole other : List ℕ) → Der tag content whole → Der tag content other → whole ≡ other
one_string tag content whole other a b =
    let size = one_length a.size b.size (length content) a.is_size b.is_size in
    a.spelled ∙ ap (λ (x : List ℕ). tag ∷ (x ++ content)) size ∙ sym b.spelled
