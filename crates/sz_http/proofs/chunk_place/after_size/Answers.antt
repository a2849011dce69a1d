use Rattle.sz_http.proofs.ChunkSteps.{no_digit_at, other_at, semicolon_at, line_end_at}
use Rattle.sz_http.proofs.chunk_place.after_size.Goals as goal

pub returns-then-size-eq0-clause-refuses : goal.returns-then-size-eq0-clause-refuses
returns-then-size-eq0-clause-refuses c = λ fails tail part. no_digit_at c.args.size c.args.byte tail part fails c.if-size-eq0.true

pub returns-then-byte-eq59-clause-leads : goal.returns-then-byte-eq59-clause-leads
returns-then-byte-eq59-clause-leads c = λ fails tail part. semicolon_at c.args.size c.args.byte tail part c.if-size-eq0.false c.if-byte-eq59.true

pub returns-then-byte-eq13-clause-leads : goal.returns-then-byte-eq13-clause-leads
returns-then-byte-eq13-clause-leads c = λ fails tail part. line_end_at c.args.size c.args.byte tail part c.if-size-eq0.false c.if-byte-eq13.true

pub returns-clause-refuses : goal.returns-clause-refuses
returns-clause-refuses c = λ fails tail part. other_at c.args.size c.args.byte tail part fails c.if-byte-eq59.false c.if-byte-eq13.false
