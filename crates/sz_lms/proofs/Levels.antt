-- The rules of several levels, one level at a time.
use Rattle.std.proofs.Common.{◌≡◌, ℕ, zero, suc, ◌+◌, ◌-◌, ◌==◌, Bool, true, false, List, [], ◌∷◌, ◌++◌, length, drop, nat_le, Option, Some, None, refl, sym, ◌∙◌, ap, append_assoc, arith}
use Rattle.sz_lms.specs.Parts.{front_rules, next_rules, upper_climb_rules, rules_before_message}
use Rattle.sz_lms.specs.Rules.{Rule, Length, TreeType, first_failing, where_known, tree_type, lms_length, signature_rules, next_key, next_bytes, level_rules, root_rules, climb_rules, head_rules, hss_rules, hss_first, lms_rules, lms_first}
use Rattle.sz_lms.specs.Bits.{u32_at}
use Rattle.sz_lms.proofs.RuleLists.{front-fails, front-passes, known, test-fails, test-passes}

-- ---- a level's own rules

where-fails : (types : Option TreeType) (front rest : TreeType → List (Bool × Rule)) (rule : Rule) →
    first_failing (where_known types front) ≡ Some rule → first_failing (where_known types (λ type. front type ++ rest type)) ≡ Some rule
where-fails None front rest rule e = e
where-fails (Some type) front rest rule e = front-fails (front type) (rest type) rule e

front-none : (front rest : List (Bool × Rule)) → first_failing (front ++ rest) ≡ None → first_failing front ≡ None
unfolding first_failing
front-none [] rest e = refl
front-none ((true, r) ∷ front) rest e = front-none front rest e
front-none ((false, r) ∷ front) rest e = cc

where-none : (types : Option TreeType) (front rest : TreeType → List (Bool × Rule)) →
    first_failing (where_known types (λ type. front type ++ rest type)) ≡ None → first_failing (where_known types front) ≡ None
where-none None front rest e = e
where-none (Some type) front rest e = front-none (front type) (rest type) e

-- the rules of all levels from this one on begin with those at its front
level-fails : (n : ℕ) (key bytes : List ℕ) (rule : Rule) →
    first_failing (front_rules key bytes) ≡ Some rule → first_failing (level_rules n key bytes) ≡ Some rule
unfolding level_rules
level-fails zero key bytes rule e = where-fails (tree_type key) (λ type. signature_rules key type bytes) _ rule e
level-fails (suc n) key bytes rule e = where-fails (tree_type key) (λ type. signature_rules key type bytes) _ rule e

level-none : (n : ℕ) (key bytes : List ℕ) →
    first_failing (level_rules n key bytes) ≡ None → first_failing (front_rules key bytes) ≡ None
unfolding level_rules
level-none zero key bytes e = where-none (tree_type key) (λ type. signature_rules key type bytes) _ e
level-none (suc n) key bytes e = where-none (tree_type key) (λ type. signature_rules key type bytes) _ e

own-none : (key : List ℕ) (type : TreeType) (bytes : List ℕ) → tree_type key ≡ Some type →
    first_failing (front_rules key bytes) ≡ None → first_failing (signature_rules key type bytes) ≡ None
own-none key type bytes e h = ap first_failing (sym (known (tree_type key) type (λ type. signature_rules key type bytes) e)) ∙ h

-- the last level: nothing may be left over
pub level-last : (n : ℕ) (key : List ℕ) (type : TreeType) (bytes : List ℕ) → n ≡ 0 → tree_type key ≡ Some type →
    first_failing (front_rules key bytes) ≡ None →
    first_failing (level_rules n key bytes) ≡ first_failing ((length bytes == lms_length type, Length) ∷ [])
unfolding level_rules
level-last zero key type bytes z e h =
    ap first_failing (known (tree_type key) type _ e)
    ∙ front-passes (signature_rules key type bytes) _ (own-none key type bytes e h)
level-last (suc n) key type bytes z e h = cc

-- the rules from the next level on
abbrev below_rules : ℕ → TreeType → List ℕ → List (Bool × Rule)
below_rules n type bytes =
    (nat_le (lms_length type + 56) (length bytes), Length) ∷ level_rules n (next_key type bytes) (next_bytes type bytes)

level-below : (n m : ℕ) (key : List ℕ) (type : TreeType) (bytes : List ℕ) → n ≡ suc m → tree_type key ≡ Some type →
    first_failing (front_rules key bytes) ≡ None →
    first_failing (level_rules n key bytes) ≡ first_failing (below_rules m type bytes)
unfolding level_rules
level-below zero m key type bytes z e h = cc
level-below (suc n) m key type bytes z e h =
    let same : n ≡ m = omega arith in
    rw (← same)
    (ap first_failing (known (tree_type key) type _ e)
    ∙ front-passes (signature_rules key type bytes) _ (own-none key type bytes e h))

same-fault : (test : Bool) (rule first : Rule) (front all : List (Bool × Rule)) →
    (first_failing front ≡ Some first → first_failing all ≡ Some first) →
    first_failing ((test, rule) ∷ front) ≡ Some first → first_failing ((test, rule) ∷ all) ≡ Some first
unfolding first_failing
same-fault true rule first front all h e = h e
same-fault false rule first front all h e = e

same-none : (test : Bool) (rule : Rule) (front all : List (Bool × Rule)) →
    (first_failing all ≡ None → first_failing front ≡ None) →
    first_failing ((test, rule) ∷ all) ≡ None → first_failing ((test, rule) ∷ front) ≡ None
unfolding first_failing
same-none true rule front all h e = h e
same-none false rule front all h e = e

rest-none : (test : Bool) (rule : Rule) (front all : List (Bool × Rule)) →
    first_failing ((test, rule) ∷ front) ≡ None → first_failing ((test, rule) ∷ all) ≡ first_failing all
unfolding first_failing
rest-none true rule front all e = refl
rest-none false rule front all e = cc

-- where the next level breaks a rule, that is the first
pub next-fails : (n m : ℕ) (key : List ℕ) (type : TreeType) (bytes : List ℕ) (rule : Rule) → n ≡ suc m → tree_type key ≡ Some type →
    first_failing (front_rules key bytes) ≡ None →
    first_failing (next_rules type bytes) ≡ Some rule → first_failing (level_rules n key bytes) ≡ Some rule
next-fails n m key type bytes rule z e h f =
    level-below n m key type bytes z e h
    ∙ same-fault _ Length rule _ _ (level-fails m (next_key type bytes) (next_bytes type bytes) rule) f

-- where it breaks none, the rules go on from there
pub next-passes : (n m : ℕ) (key : List ℕ) (type : TreeType) (bytes : List ℕ) → n ≡ suc m → tree_type key ≡ Some type →
    first_failing (front_rules key bytes) ≡ None → first_failing (next_rules type bytes) ≡ None →
    first_failing (level_rules n key bytes) ≡ first_failing (level_rules m (next_key type bytes) (next_bytes type bytes))
next-passes n m key type bytes z e h f =
    level-below n m key type bytes z e h ∙ rest-none _ Length (front_rules (next_key type bytes) (next_bytes type bytes)) _ f

-- where no level breaks a rule, the next doesn't
pub next-none : (n m : ℕ) (key : List ℕ) (type : TreeType) (bytes : List ℕ) → n ≡ suc m → tree_type key ≡ Some type →
    first_failing (front_rules key bytes) ≡ None →
    first_failing (level_rules n key bytes) ≡ None → first_failing (next_rules type bytes) ≡ None
next-none n m key type bytes z e h f =
    same-none _ Length _ _ (level-none m (next_key type bytes) (next_bytes type bytes)) (sym (level-below n m key type bytes z e h) ∙ f)

-- ---- the ways up

-- This level's key and bytes are the last of n more: what the rules say of the message is on its root.
abbrev pub IsLast : ℕ → List ℕ → List ℕ → List ℕ → List ℕ → Type 0
IsLast n key bytes last rest =
    (message : List ℕ) → climb_rules n key message bytes ≡ upper_climb_rules n key bytes ++ root_rules last message rest

pub last-itself : (n : ℕ) (key bytes : List ℕ) → n ≡ 0 → IsLast n key bytes key bytes
unfolding climb_rules upper_climb_rules
last-itself zero key bytes z message = refl
last-itself (suc n) key bytes z message = cc

upper-next : (n m : ℕ) (key : List ℕ) (type : TreeType) (bytes : List ℕ) → n ≡ suc m → tree_type key ≡ Some type →
    upper_climb_rules n key bytes
    ≡ root_rules key (next_key type bytes) bytes ++ upper_climb_rules m (next_key type bytes) (next_bytes type bytes)
unfolding upper_climb_rules
upper-next zero m key type bytes z e = cc
upper-next (suc n) m key type bytes z e = let same : n ≡ m = omega arith in rw (← same) (known (tree_type key) type _ e)

climb-next : (n m : ℕ) (key : List ℕ) (type : TreeType) (message bytes : List ℕ) → n ≡ suc m → tree_type key ≡ Some type →
    climb_rules n key message bytes
    ≡ root_rules key (next_key type bytes) bytes ++ climb_rules m (next_key type bytes) message (next_bytes type bytes)
unfolding climb_rules
climb-next zero m key type message bytes z e = cc
climb-next (suc n) m key type message bytes z e = let same : n ≡ m = omega arith in rw (← same) (known (tree_type key) type _ e)

pub last-below : (n m : ℕ) (key : List ℕ) (type : TreeType) (bytes last rest : List ℕ) → n ≡ suc m → tree_type key ≡ Some type →
    IsLast m (next_key type bytes) (next_bytes type bytes) last rest → IsLast n key bytes last rest
last-below n m key type bytes last rest z e h message =
    climb-next n m key type message bytes z e
    ∙ ap (λ rules. root_rules key (next_key type bytes) bytes ++ rules) (h message)
    ∙ sym
    (append_assoc (root_rules key (next_key type bytes) bytes)
    (upper_climb_rules m (next_key type bytes) (next_bytes type bytes)) (root_rules last message rest))
    ∙ ap (λ rules. rules ++ root_rules last message rest) (sym (upper-next n m key type bytes z e))

pub upper-none : (n : ℕ) (key bytes : List ℕ) → n ≡ 0 → None ≡ first_failing (upper_climb_rules n key bytes)
unfolding upper_climb_rules first_failing
upper-none zero key bytes z = refl
upper-none (suc n) key bytes z = cc

pub upper-fails : (n m : ℕ) (key : List ℕ) (type : TreeType) (bytes : List ℕ) (rule : Rule) → n ≡ suc m → tree_type key ≡ Some type →
    first_failing (root_rules key (next_key type bytes) bytes) ≡ Some rule →
    first_failing (upper_climb_rules n key bytes) ≡ Some rule
upper-fails n m key type bytes rule z e h =
    ap first_failing (upper-next n m key type bytes z e) ∙ front-fails (root_rules key (next_key type bytes) bytes) _ rule h

pub upper-passes : (n m : ℕ) (key : List ℕ) (type : TreeType) (bytes : List ℕ) → n ≡ suc m → tree_type key ≡ Some type →
    first_failing (root_rules key (next_key type bytes) bytes) ≡ None →
    first_failing (upper_climb_rules n key bytes) ≡ first_failing (upper_climb_rules m (next_key type bytes) (next_bytes type bytes))
upper-passes n m key type bytes z e h =
    ap first_failing (upper-next n m key type bytes z e) ∙ front-passes (root_rules key (next_key type bytes) bytes) _ h

-- ---- all rules

where-split : (types : Option TreeType) (front all part : TreeType → List (Bool × Rule)) →
    ((type : TreeType) → (rest : List (Bool × Rule)) × (all type ≡ part type ++ rest)) →
    (rest : List (Bool × Rule))
    × (where_known types (λ type. front type ++ all type) ≡ where_known types (λ type. front type ++ part type) ++ rest)
where-split None front all part h = ([], refl)
where-split (Some type) front all part h =
    ((h type).0, ap (λ rules. front type ++ rules) (h type).1 ∙ sym (append_assoc (front type) (part type) (h type).0))

-- the rules on the ways up are those that the message has no part in, and others behind them
climbs-split : (n : ℕ) (key message bytes : List ℕ) →
    (rest : List (Bool × Rule)) × (climb_rules n key message bytes ≡ upper_climb_rules n key bytes ++ rest)
unfolding climb_rules upper_climb_rules
climbs-split zero key message bytes = (root_rules key message bytes, refl)
climbs-split (suc n) key message bytes =
    where-split (tree_type key) (λ type. root_rules key (next_key type bytes) bytes)
    (λ type. climb_rules n (next_key type bytes) message (next_bytes type bytes))
    (λ type. upper_climb_rules n (next_key type bytes) (next_bytes type bytes))
    (λ type. climbs-split n (next_key type bytes) message (next_bytes type bytes))

-- a rule that is broken before the message counts is the first, whatever the message is
pub before-fails : (public message signature : List ℕ) (rule : Rule) →
    first_failing (rules_before_message public signature) ≡ Some rule → hss_first public message signature ≡ Some rule
unfolding hss_rules rules_before_message
before-fails public message signature rule e =
    let below = u32_at public 0 - 1 in
    let split = climbs-split below (drop 4 public) message (drop 4 signature) in
    let head = head_rules public signature ++ level_rules below (drop 4 public) (drop 4 signature) in
    ap (λ rules. first_failing (head ++ rules)) split.1
    ∙ ap first_failing (sym (append_assoc head (upper_climb_rules below (drop 4 public) (drop 4 signature)) split.0))
    ∙ front-fails (head ++ upper_climb_rules below (drop 4 public) (drop 4 signature)) split.0 rule e

-- all rules are those before the message, and that on the last level's root
pub before-and-root : (public message signature last rest : List ℕ) →
    IsLast (u32_at public 0 - 1) (drop 4 public) (drop 4 signature) last rest →
    hss_rules public message signature ≡ rules_before_message public signature ++ root_rules last message rest
unfolding hss_rules rules_before_message
before-and-root public message signature last rest h =
    let below = u32_at public 0 - 1 in
    let head = head_rules public signature ++ level_rules below (drop 4 public) (drop 4 signature) in
    ap (λ rules. head ++ rules) (h message)
    ∙ sym (append_assoc head (upper_climb_rules below (drop 4 public) (drop 4 signature)) (root_rules last message rest))

pub before-head : (public signature : List ℕ) (rule : Rule) →
    first_failing (head_rules public signature) ≡ Some rule → first_failing (rules_before_message public signature) ≡ Some rule
unfolding rules_before_message
before-head public signature rule e =
    let below = u32_at public 0 - 1 in
    front-fails (head_rules public signature ++ level_rules below (drop 4 public) (drop 4 signature)) _ rule
    (front-fails (head_rules public signature) (level_rules below (drop 4 public) (drop 4 signature)) rule e)

pub before-level : (public signature : List ℕ) (rule : Rule) → first_failing (head_rules public signature) ≡ None →
    first_failing (level_rules (u32_at public 0 - 1) (drop 4 public) (drop 4 signature)) ≡ Some rule →
    first_failing (rules_before_message public signature) ≡ Some rule
unfolding rules_before_message
before-level public signature rule h e =
    let below = u32_at public 0 - 1 in
    front-fails (head_rules public signature ++ level_rules below (drop 4 public) (drop 4 signature)) _ rule
    (front-passes (head_rules public signature) (level_rules below (drop 4 public) (drop 4 signature)) h ∙ e)

pub before-top : (public signature : List ℕ) (rule : Rule) → first_failing (head_rules public signature) ≡ None →
    first_failing (front_rules (drop 4 public) (drop 4 signature)) ≡ Some rule →
    first_failing (rules_before_message public signature) ≡ Some rule
before-top public signature rule h e =
    before-level public signature rule h (level-fails (u32_at public 0 - 1) (drop 4 public) (drop 4 signature) rule e)

pub before-upper : (public signature : List ℕ) → first_failing (head_rules public signature) ≡ None →
    first_failing (level_rules (u32_at public 0 - 1) (drop 4 public) (drop 4 signature)) ≡ None →
    first_failing (rules_before_message public signature)
    ≡ first_failing (upper_climb_rules (u32_at public 0 - 1) (drop 4 public) (drop 4 signature))
unfolding rules_before_message
before-upper public signature h e =
    let below = u32_at public 0 - 1 in
    front-passes (head_rules public signature ++ level_rules below (drop 4 public) (drop 4 signature)) _
    (front-passes (head_rules public signature) (level_rules below (drop 4 public) (drop 4 signature)) h ∙ e)

-- ---- one level alone

pub lms-length : (public message signature : List ℕ) → (length public == 56) ≡ false → Some Length ≡ lms_first public message signature
unfolding lms_rules
lms-length public message signature e = test-fails (length public == 56) Length _ e

lms-front : (public message signature : List ℕ) → (length public == 56) ≡ true →
    lms_first public message signature
    ≡ first_failing (where_known (tree_type public) (λ type.
    signature_rules public type signature ++ (length signature == lms_length type, Length) ∷ root_rules public message signature))
unfolding lms_rules
lms-front public message signature e = test-passes (length public == 56) Length _ e

pub lms-fails : (public message signature : List ℕ) (rule : Rule) → (length public == 56) ≡ true →
    first_failing (front_rules public signature) ≡ Some rule → lms_first public message signature ≡ Some rule
lms-fails public message signature rule e h =
    lms-front public message signature e ∙ where-fails (tree_type public) (λ type. signature_rules public type signature) _ rule h

-- once the front is in order, the end and the root are left
lms-passes : (public : List ℕ) (type : TreeType) (message signature : List ℕ) → (length public == 56) ≡ true →
    tree_type public ≡ Some type → first_failing (front_rules public signature) ≡ None →
    lms_first public message signature
    ≡ first_failing (((length signature == lms_length type, Length) ∷ []) ++ root_rules public message signature)
lms-passes public type message signature e k h =
    lms-front public message signature e
    ∙ ap first_failing (known (tree_type public) type _ k)
    ∙ front-passes (signature_rules public type signature) _ (own-none public type signature k h)

pub lms-ends : (public : List ℕ) (type : TreeType) (message signature : List ℕ) (rule : Rule) → (length public == 56) ≡ true →
    tree_type public ≡ Some type → first_failing (front_rules public signature) ≡ None →
    first_failing ((length signature == lms_length type, Length) ∷ []) ≡ Some rule →
    lms_first public message signature ≡ Some rule
lms-ends public type message signature rule e k h f =
    lms-passes public type message signature e k h
    ∙ front-fails ((length signature == lms_length type, Length) ∷ []) (root_rules public message signature) rule f

pub lms-rooted : (public : List ℕ) (type : TreeType) (message signature : List ℕ) → (length public == 56) ≡ true →
    tree_type public ≡ Some type → first_failing (front_rules public signature) ≡ None →
    first_failing ((length signature == lms_length type, Length) ∷ []) ≡ None →
    lms_first public message signature ≡ first_failing (root_rules public message signature)
lms-rooted public type message signature e k h f =
    lms-passes public type message signature e k h
    ∙ front-passes ((length signature == lms_length type, Length) ∷ []) (root_rules public message signature) f
