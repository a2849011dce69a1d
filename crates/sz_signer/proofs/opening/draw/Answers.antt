use Rattle.std.proofs.Common.{◌≡◌, ◌++◌, ◌≤◌, List, ℕ, length, take, drop, sym, ap₂, ◌∙◌, subst, take-append-drop, length-drop, arith}
use Rattle.std.proofs.lemmas.List.{take_all}
use Rattle.sz_spec.specs.Told.{TakesFront}
use Rattle.sz_signer.proofs.opening.draw.Goals as goal

-- the first 32 bytes and the 16 behind them are all
both : (seed id drawn : List ℕ) → length drawn ≡ 48 → seed ≡ take 32 drawn → id ≡ take 16 (drop 32 drawn) → seed ++ id ≡ drawn
both seed id drawn long seed_is id_is =
    let rest : length (drop 32 drawn) ≤ 16 = omega (arith, length-drop 32 drawn) in
    ap₂ (λ (xs ys : List ℕ). xs ++ ys) seed_is (id_is ∙ take_all 16 (drop 32 drawn) rest) ∙ take-append-drop 32 drawn

pub returns-clause-drawn : goal.returns-clause-drawn
returns-clause-drawn g c =
    subst (λ (bytes : List ℕ). TakesFront (g.E.Entropy.bytes c.args.entropy.now) (g.E.Entropy.bytes c.fill.new.self) bytes)
    (sym (both c.array_at.result c.array_at-2.result c.fill.new.into (omega arith) c.array_at.ensures c.array_at-2.ensures))
    c.in-Ok.ensures.ok
