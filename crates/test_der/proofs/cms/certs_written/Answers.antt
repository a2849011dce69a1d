use Rattle.std.proofs.Common.{arith}
use Rattle.sz_cms.proofs.SpelledSequences.{one_sequence, two_sequences}
use Rattle.test_der.proofs.cms.certs_written.Goals as goal

pub write_certs-requires-clause-certs : goal.write_certs-requires-clause-certs
write_certs-requires-clause-certs c = rw c.in_ok-certs.ensures (two_sequences 16 (omega arith))

pub write_certs-requires-clause-crls : goal.write_certs-requires-clause-crls
write_certs-requires-clause-crls c = rw c.in_ok-lists.ensures (one_sequence 8 (omega arith))
