use Rattle.std.proofs.Common.{◌≡◌, ℕ, ◌+◌, [], ◌∷◌, ◌++◌, length, ap, subst, arith}
use Rattle.sz_http.specs.declared.chunk_place.Place.TheVariants.{InExtension}
use Rattle.sz_http.specs.ChunkPlace.{At}
use Rattle.sz_http.proofs.ChunkSteps.{extension_end_at, extension_bad_at, extension_at}
use Rattle.sz_http.proofs.chunk_place.in_extension.Goals as goal

pub returns-then-byte-eq13-clause-leads : goal.returns-then-byte-eq13-clause-leads
returns-then-byte-eq13-clause-leads c = λ tail part. extension_end_at c.args.size c.args.length c.args.byte tail part c.if-byte-eq13.true

pub returns-then-byte-eq10-clause-refuses : goal.returns-then-byte-eq10-clause-refuses
returns-then-byte-eq10-clause-refuses c = λ tail part. extension_bad_at c.args.size c.args.length c.args.byte tail part c.if-byte-eq10.true

pub returns-clause-leads : goal.returns-clause-leads
returns-clause-leads c = λ tail part here.
    let next : c.args.length + 1 ≡ c.saturating_add.result =
    omega (arith, ap length here.3, here.2.short.few, here.4, c.saturating_add.ensures) in
    subst (λ (n : ℕ). At (InExtension c.args.size n) (tail ++ c.args.byte ∷ []) part) next
    (extension_at c.args.size c.args.length c.args.byte tail part c.if-byte-eq13.false c.if-byte-eq10.false c.if-length-eq-MOST_LINE_BYTES.false here)
