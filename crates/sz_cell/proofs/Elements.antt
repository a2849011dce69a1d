-- A part of a list, element by element.
use Rattle.std.proofs.Common.{◌≡◌, ℕ, zero, suc, ◌+◌, ◌≤◌, List, [], ◌∷◌, length, get_or, take, refl, ap, ◌∙◌, arith}
use Rattle.std.proofs.lemmas.List.{drop_more}
use Rattle.sz_disk.specs.Image.{part}

-- m elements, from a place on
abbrev pub elements : List ℕ → ℕ → ℕ → List ℕ
elements bytes n zero = []
elements bytes n (suc m) = get_or bytes n 0 ∷ elements bytes (n + 1) m

pub part-elements : (bytes : List ℕ) (n m : ℕ) → n + m ≤ length bytes → part bytes n m ≡ elements bytes n m
part-elements bytes n zero fits = refl
part-elements bytes n (suc m) fits =
    ap (λ l. take (suc m) l) (drop_more bytes n 0 (omega arith)) ∙ ap (λ l. get_or bytes n 0 ∷ l) (part-elements bytes (n + 1) m (omega arith))
