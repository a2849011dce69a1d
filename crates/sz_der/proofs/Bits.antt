-- Bits of octets, from the front and from the back.
use Rattle.std.proofs.Common.{◌≡◌, ℕ, zero, suc, ◌+◌, ◌-◌, ◌*◌, ◌/◌, ◌%◌, ◌<◌, List, get_or, refl, sym, ap, ◌∙◌, arith}
use Rattle.std.specs.Int.{bit_at, reverse_bits_onto}
use Rattle.std.proofs.lemmas.Nat.Bits.{bit_at-suc, bit_at_lowest}
use Rattle.sz_der.specs.Content.{bit_of}

-- what was pushed below
pushed : (n bit i : ℕ) → bit < 2 → bit_at (n * 2 + bit) (suc i) ≡ bit_at n i
pushed n bit i small =
    let half : (n * 2 + bit) / 2 ≡ n = omega arith in
    bit_at-suc (n * 2 + bit) i ∙ ap (λ m. bit_at m i) half

pushed_bit : (n bit : ℕ) → bit < 2 → bit_at (n * 2 + bit) 0 ≡ bit
pushed_bit n bit small = bit_at_lowest (n * 2 + bit) ∙ omega arith

-- bits that are reversed onto others: those others move up
above : (count n onto i : ℕ) → bit_at (reverse_bits_onto count n onto) (count + i) ≡ bit_at onto i
unfolding reverse_bits_onto
above zero n onto i = let place : 0 + i ≡ i = omega arith in rw place refl
above (suc count) n onto i =
    let place : suc count + i ≡ count + suc i = omega arith in
    rw place (above count (n / 2) (onto * 2 + n % 2) (suc i) ∙ pushed onto (n % 2) i (omega arith))

-- and the reversed ones stand below, last first
pub bit_at-reversed : (count n onto k i : ℕ) → k + i + 1 ≡ count → bit_at (reverse_bits_onto count n onto) k ≡ bit_at n i
unfolding reverse_bits_onto
bit_at-reversed zero n onto k i sum = absurd (omega arith)
bit_at-reversed (suc count) n onto k zero sum =
    let place : k ≡ count + 0 = omega arith in
    rw place (above count (n / 2) (onto * 2 + n % 2) 0 ∙ pushed_bit onto (n % 2) (omega arith) ∙ sym (bit_at_lowest n))
bit_at-reversed (suc count) n onto k (suc i) sum =
    bit_at-reversed count (n / 2) (onto * 2 + n % 2) k i (omega arith) ∙ sym (bit_at-suc n i)

-- the bits of two octets, the first bit the most significant
pub bits_of_two : (octets : List ℕ) (k : ℕ) → get_or octets 0 0 < 256 → get_or octets 1 0 < 256 → k < 16 →
    bit_at (get_or octets 0 0 * 256 + get_or octets 1 0) (15 - k) ≡ bit_of octets k
bits_of_two octets zero first second below = omega arith
bits_of_two octets (suc zero) first second below = omega arith
bits_of_two octets (suc (suc zero)) first second below = omega arith
bits_of_two octets (suc (suc (suc zero))) first second below = omega arith
bits_of_two octets (suc (suc (suc (suc zero)))) first second below = omega arith
bits_of_two octets (suc (suc (suc (suc (suc zero))))) first second below = omega arith
bits_of_two octets (suc (suc (suc (suc (suc (suc zero)))))) first second below = omega arith
bits_of_two octets (suc (suc (suc (suc (suc (suc (suc zero))))))) first second below = omega arith
bits_of_two octets (suc (suc (suc (suc (suc (suc (suc (suc zero)))))))) first second below = omega arith
bits_of_two octets (suc (suc (suc (suc (suc (suc (suc (suc (suc zero))))))))) first second below = omega arith
bits_of_two octets (suc (suc (suc (suc (suc (suc (suc (suc (suc (suc zero)))))))))) first second below = omega arith
bits_of_two octets (suc (suc (suc (suc (suc (suc (suc (suc (suc (suc (suc zero))))))))))) first second below = omega arith
bits_of_two octets (suc (suc (suc (suc (suc (suc (suc (suc (suc (suc (suc (suc zero)))))))))))) first second below = omega arith
bits_of_two octets (suc (suc (suc (suc (suc (suc (suc (suc (suc (suc (suc (suc (suc zero))))))))))))) first second below = omega arith
bits_of_two octets (suc (suc (suc (suc (suc (suc (suc (suc (suc (suc (suc (suc (suc (suc zero)))))))))))))) first second below = omega arith
bits_of_two octets (suc (suc (suc (suc (suc (suc (suc (suc (suc (suc (suc (suc (suc (suc (suc zero))))))))))))))) first second below = omega arith
bits_of_two octets (suc (suc (suc (suc (suc (suc (suc (suc (suc (suc (suc (suc (suc (suc (suc (suc k)))))))))))))))) first second below = absurd (omega arith)
