use Rattle.std.proofs.Common.{ℕ, refl, ap, ◌∙◌, subst}
use Rattle.sz_http.specs.declared.fault.HttpFault.{HttpFault}
use Rattle.sz_http.specs.declared.fault.HttpFault.TheVariants.{TooLarge}
use Rattle.sz_http.specs.declared.side.Side.TheVariants.{Reply}
use Rattle.sz_http.specs.Verdict.{Verdict, refused}
use Rattle.sz_image.proofs.head.behind_head.Goals as goal

pub returns-then-limit-space : goal.returns-then-limit-space
returns-then-limit-space c hash bytes closed headed verdict = (
  subst (λ (f : HttpFault). Verdict Reply c.args.space bytes closed (refused f))
      (c.in-TooLarge.is ∙ ap (λ (most : ℕ). TooLarge most) c.if-limit-space.true) verdict,
  refl,
  (c.args.framing, headed, c.told_size.ensures),
)
