use Rattle.std.proofs.Common.{refl}
use Rattle.sz_base.proofs.encodings.base64_bytes.Goals as goal

pub returns-in-Ok : goal.returns-in-Ok
returns-in-Ok c =
    let text = c.is_base64.ensures.0 c.if-not-is_base64.false in
    record {
      reads = record {
        ok = rw c.from_vec.ensures (record { bytes_fit = c.in-Ok.ensures.bytes; spelled = c.in-Ok.ensures.exact (refl, refl) });
        refused = (λ e. cc e, λ none. absurd (none text.0 text.1));
      };
    }
