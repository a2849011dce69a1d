-- The record fits the bytes, also after one write more.
use Rattle.std.proofs.Common.{◌≡◌, ℕ, ◌≤◌, List, [], ◌∷◌, ◌++◌, length, take, drop, sym, subst, arith}
use Rattle.std.proofs.lemmas.List.{length-append, length-take-le}
use Rattle.std.proofs.lemmas.List.Elements.{All-push}
use Rattle.sz_disk.specs.Medium.{end_of, EachFits}
use Rattle.sz_disk.specs.declared.event.Event.{Event}

pub fits-push : (n m : ℕ) (events more : List Event) (event : Event) → more ≡ events ++ event ∷ [] → m ≡ n → end_of event ≤ n → EachFits n events
    → EachFits m more
fits-push n m events more event e same within fits =
    let P : ℕ → Type 0 = λ k. EachFits k more in
    let Q : List Event → Type 0 = λ s. EachFits n s in
    subst P (sym same) (subst Q (sym e) (All-push (λ x. end_of x ≤ n) events event fits within))

-- what a vector holds once a slice of all its elements was written
pub length-written : (len : ℕ) (old new : List ℕ) → length old ≡ len → length new ≡ length old → length (take len (new ++ drop (length new) old)) ≡ length old
length-written len old new a b =
    let long : len ≤ length (new ++ drop (length new) old) = omega (arith, length-append new (drop (length new) old)) in
    omega (arith, length-take-le len (new ++ drop (length new) old) long)
