-- Signatures of a batch, one run after another.
use Rattle.std.proofs.Common.{◌≡◌, ℕ, ◌+◌, ◌-◌, ◌%◌, ◌^◌, ◌<◌, ◌≤◌, List, ◌++◌, length, get_or, map, take, drop, Result, Ok, IfOk, sym, ap, ap₂, ◌∙◌, subst, inl, inr, arith, length-take-le, length-append, length-drop, pow_pos}
use Rattle.std.proofs.lemmas.Bool.{cases_lt}
use Rattle.std.proofs.lemmas.List.{get_or-map, get_or-append_right, get_or_append_left, get_or-drop, get_or-take, length-map}
use Rattle.sz_lms_tree.specs.Tree.{TreeSecret}
use Rattle.sz_hss.specs.Key.{HssKey}
use Rattle.sz_hss.specs.Leaf.{lowest_at}
use Rattle.sz_hss.specs.Signature.{AreSignatures, front_of, hss_signature_of, last_of}
use Rattle.sz_hss.proofs.Path.{same-block, signature-same_tree}

pub AreSignatures-more : (key : HssKey) (first done run : ℕ) (messages signatures added : List (List ℕ)) → done + run ≤ length messages
    → AreSignatures key first (take done messages) signatures → length added ≡ run
    → ((i : ℕ) (d e : List ℕ) → i < run → get_or added i d ≡ hss_signature_of key (first + done + i) (get_or messages (done + i) e))
    → AreSignatures key first (take (done + run) messages) (signatures ++ added)
AreSignatures-more key first done run messages signatures added within before long each =
    let before_long : length (take done messages) ≡ done = length-take-le done messages (omega arith) in
    let after_long : length (take (done + run) messages) ≡ done + run = length-take-le (done + run) messages within in
    let signed : length signatures ≡ done = before.count ∙ before_long in
    record {
      count = omega (arith, length-append signatures added, signed, long, after_long);
      each = λ i d e lt. elim (cases_lt i done) [
        | inl early ↦
            let inside : i < length signatures = omega (arith, signed) in
            let place : i < length (take done messages) = omega (arith, before_long) in
            get_or_append_left signatures added d i inside
            ∙ before.each i d e place
            ∙ ap (hss_signature_of key (first + i)) (get_or-take done messages i e early ∙ sym (get_or-take (done + run) messages i e (omega arith)))
        | inr late ↦
            let j = i - done in
            let number : first + done + j ≡ first + i = omega arith in
            let place : done + j ≡ i = omega arith in
            let inside : i < done + run = omega (arith, after_long, lt) in
            get_or-append_right signatures added done i d signed late
            ∙ each j d e (omega arith)
            ∙ ap (λ (n : ℕ). hss_signature_of key n (get_or messages (done + j) e)) number
            ∙ ap (λ (m : ℕ). hss_signature_of key (first + i) (get_or messages m e)) place
            ∙ ap (hss_signature_of key (first + i)) (sym (get_or-take (done + run) messages i e inside))
      ];
    }

-- what holds of a result that is there holds of what was kept of it
pub kept-at : {E : Type 0} (added : List (List ℕ)) (all : List (Result (List ℕ) E)) (i : ℕ) (d : List ℕ) (P : List ℕ → Type 0)
    → map (λ signature. Ok signature) added ≡ all → i < length added → IfOk (get_or all i (Ok d)) P → P (get_or added i d)
kept-at {E} added all i d P same lt holds =
    let at : get_or all i (Ok d) ≡ Ok (get_or added i d) =
    sym (ap (λ (xs : List (Result (List ℕ) E)). get_or xs i (Ok d)) same) ∙ get_or-map (λ signature. Ok signature) added i d (Ok d) lt in
    subst (λ (r : Result (List ℕ) E). IfOk r P) at holds

-- one more run, signed below one lowest tree
pub AreSignatures-run : {E : Type 0} (key : HssKey) (first done run : ℕ) (messages now old new added : List (List ℕ))
    (all : List (Result (List ℕ) E)) (front : List ℕ) (lowest : TreeSecret) → done + run ≤ length messages
    → now ≡ take run (drop done messages) → front ≡ front_of key (first + done)
    → lowest ≡ lowest_at key.top key.below (first + done)
    → (first + done) % 2 ^ lowest.height + run ≤ 2 ^ lowest.height
    → ((i : ℕ) (d : Result (List ℕ) E) (e : List ℕ) → i < length now
    → IfOk (get_or all i d) (λ signature. signature ≡ front ++ last_of lowest (first + done + i) (get_or now i e)))
    → length all ≡ length now → new ≡ old ++ added → map (λ signature. Ok signature) added ≡ all
    → AreSignatures key first (take done messages) old → AreSignatures key first (take (done + run) messages) new
AreSignatures-run key first done run messages now old new added all front lowest fits now_is front_is lowest_is within results count new_is kept before =
    let n = first + done in
    let tree = lowest_at key.top key.below n in
    let behind_done : run ≤ length (drop done messages) = omega (arith, length-drop done messages) in
    let now_long : length now ≡ run = ap length now_is ∙ length-take-le run (drop done messages) behind_done in
    let added_long : length added ≡ run = sym (length-map added (λ signature. Ok signature)) ∙ ap length kept ∙ count ∙ now_long in
    let inside : n % 2 ^ tree.height + run ≤ 2 ^ tree.height = subst (λ (t : TreeSecret). n % 2 ^ t.height + run ≤ 2 ^ t.height) lowest_is within in
    rw new_is (AreSignatures-more key first done run messages old added fits before added_long
    (λ i d e lt.
    let message : get_or now i e ≡ get_or messages (done + i) e =
    ap (λ (xs : List (List ℕ)). get_or xs i e) now_is ∙ get_or-take run (drop done messages) i e lt ∙ get_or-drop done messages i e in
    let given = kept-at added all i d (λ signature. signature ≡ front ++ last_of lowest (n + i) (get_or now i e)) kept
    (omega (arith, added_long)) (results i (Ok d) e (omega (arith, now_long))) in
    let same = same-block (2 ^ tree.height) n i (pow_pos tree.height) (omega (arith, inside)) in
    given ∙ ap₂ (λ (f : List ℕ) (t : TreeSecret). f ++ last_of t (n + i) (get_or now i e)) front_is lowest_is
    ∙ ap (λ (m : List ℕ). front_of key n ++ last_of tree (n + i) m) message
    ∙ signature-same_tree key n (n + i) (get_or messages (done + i) e) same))
