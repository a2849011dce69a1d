use Rattle.std.proofs.Common.{[], ◌∷◌, refl, arith}
use Rattle.sz_der.proofs.IntegerTest.{IsInteger_from_test}
use Rattle.sz_cms.proofs.SpelledSequences.{empty_sequence, one_sequence}
use Rattle.test_der.proofs.cms.written.Goals as goal

pub write_signed-requires-clause-certs : goal.write_signed-requires-clause-certs
write_signed-requires-clause-certs c = rw c.in_ok-certs.ensures (one_sequence 16 (omega arith))

pub write_signed-requires-clause-signer : goal.write_signed-requires-clause-signer
write_signed-requires-clause-signer c = record { is_issuer = ([], empty_sequence); is_serial = IsInteger_from_test (5 ∷ []) refl }
