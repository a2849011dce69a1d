-- SEQUENCEs spelled by hand, for tests.
use Rattle.std.proofs.Common.{ℕ, inl, ◌≤◌, [], ◌∷◌, refl, arith}
use Rattle.sz_der.specs.Der.{Der}
use Rattle.sz_der.specs.Tags.{sequence_tag}
use Rattle.sz_cms.specs.Written.{AreSequences}

pub empty_sequence : Der sequence_tag [] (48 ∷ 0 ∷ [])
empty_sequence = record {
  is_tag = (omega arith, λ e. absurd (omega arith));
  size = 0 ∷ [];
  is_size = inl (refl, refl, omega arith);
  spelled = refl;
}

null_in_sequence : Der sequence_tag (5 ∷ 0 ∷ []) (48 ∷ 2 ∷ 5 ∷ 0 ∷ [])
null_in_sequence = record {
  is_tag = (omega arith, λ e. absurd (omega arith));
  size = 2 ∷ [];
  is_size = inl (refl, refl, omega arith);
  spelled = refl;
}

pub one_sequence : (most : ℕ) → 1 ≤ most → AreSequences most ((48 ∷ 0 ∷ []) ∷ [])
one_sequence most room = record { few = omega arith; each = (([], empty_sequence), tt) }

pub two_sequences : (most : ℕ) → 2 ≤ most → AreSequences most ((48 ∷ 0 ∷ []) ∷ (48 ∷ 2 ∷ 5 ∷ 0 ∷ []) ∷ [])
two_sequences most room = record { few = omega arith; each = (([], empty_sequence), ((5 ∷ 0 ∷ [], null_in_sequence), tt)) }
