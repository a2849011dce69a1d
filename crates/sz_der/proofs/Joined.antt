-- Joined strings, part by part.
use Rattle.std.proofs.Common.{◌≡◌, ℕ, List, [], ◌++◌, sym, ap, subst, ◌∙◌}
use Rattle.std.proofs.lemmas.List.{append-nil}
use Rattle.sz_der.specs.Der.{Der}

-- a part, and what is said of the rest
pub and_then : (whole : List ℕ) {left rest other : List ℕ} → left ≡ whole ++ rest → rest ≡ other → left ≡ whole ++ other
and_then whole joined same = joined ∙ ap (λ (x : List ℕ). whole ++ x) same

-- nothing before the rest
pub after_nothing : (bytes : List ℕ) {left rest : List ℕ} → left ≡ bytes ++ rest → bytes ≡ [] → left ≡ rest
after_nothing bytes {left} {rest} joined nothing = joined ∙ ap (λ (x : List ℕ). x ++ rest) nothing

-- one part alone
pub alone : (whole : List ℕ) {left : List ℕ} → left ≡ whole → left ≡ whole ++ []
alone whole same = same ∙ sym (append-nil whole)

pub last : (whole : List ℕ) {left rest : List ℕ} → left ≡ whole ++ rest → rest ≡ [] → left ≡ whole
last whole joined nothing = joined ∙ ap (λ (x : List ℕ). whole ++ x) nothing ∙ append-nil whole

pub Der_with : {tag : ℕ} {content other whole : List ℕ} → content ≡ other → Der tag content whole → Der tag other whole
Der_with {tag} {content} {other} {whole} same item = subst (λ (x : List ℕ). Der tag x whole) same item
