use Rattle.std.proofs.Common.{◌≡◌, ℕ, ◌+◌, ◌-◌, ◌*◌, ap, ◌∙◌, arith, get_or}
use Rattle.std.specs.Int.{bit_at}
use Rattle.sz_der.proofs.Bits.{bit_at-reversed, bits_of_two}
use Rattle.sz_der.proofs.typed.first_bits.Goals as goal

pub returns : goal.returns
returns c = λ k below.
    let octets = c.args.octets.now in
    let number : c.from_be_bytes.result ≡ get_or c.args.octets.now 0 0 * 256 + get_or c.args.octets.now 1 0 =
    omega (arith, c.from_be_bytes.ensures, c.octet_at.ensures, c.octet_at-2.ensures) in
    let bits : ℕ → ℕ → ℕ = λ n i. bit_at n i in
    ap (λ n. bits n k) c.reverse_bits.ensures ∙ bit_at-reversed 16 c.from_be_bytes.result 0 k (15 - k) (omega arith) ∙ ap (λ n. bits n (15 - k)) number
    ∙ bits_of_two c.args.octets.now k (omega (arith, c.type_inv.octets 0)) (omega (arith, c.type_inv.octets 1)) below
