use Rattle.std.proofs.Common.{List, ℕ, length, refl, sym, ap, ◌∙◌, subst, arith}
use Rattle.serde_json.specs.View.{view}
use Rattle.sz_base.specs.Encoding.{IsBase64}
use Rattle.sz_x509.specs.Certificate.{CertOf}
use Rattle.sz_evidence.proofs.Members.{anchor_is}
use Rattle.sz_evidence.proofs.identity.certificate.Goals as goal

pub returns-then-len-gt-MOST_ANCHOR_BYTES-clause-refused : goal.returns-then-len-gt-MOST_ANCHOR_BYTES-clause-refused
returns-then-len-gt-MOST_ANCHOR_BYTES-clause-refused c = (
  λ (anchor, is).
      let spelled = subst (λ (text : List ℕ). IsBase64 text c.in-Ok.bytes) c.as_bytes.ensures.value c.in-Ok.ensures.reads.ok in
      let e = anchor_is (view c.args.entry.now) c.in-Some.text.now c.in-Ok.bytes anchor (sym c.in-Some.ensures) spelled is in
      absurd (omega (arith, ap length e, is.few)),
  refl,
)

pub returns-in-Err-clause-refused : goal.returns-in-Err-clause-refused
returns-in-Err-clause-refused c = (
  λ (anchor, is).
      let spelled = subst (λ (text : List ℕ). IsBase64 text c.in-Ok.bytes) c.as_bytes.ensures.value c.in-Ok.ensures.reads.ok in
      let e = anchor_is (view c.args.entry.now) c.in-Some.text.now c.in-Ok.bytes anchor (sym c.in-Some.ensures) spelled is in
      c.in-Err.ensures.only is.cert (subst (λ (bytes : List ℕ). CertOf bytes is.cert) (e ∙ sym c.as_slice.ensures) is.is_cert),
  refl,
)
