-- No leaf number signs twice over the life of a disk, and all are of one key.
use Rattle.std.proofs.Common.{◌≡◌, ℕ, zero, suc, ◌+◌, ◌<◌, ◌≤◌, List, [], ◌∷◌, ◌++◌, length, map, Option, Ok, Err, refl, sym, ap, ◌∙◌, subst, ⊎_elim, arith, length-append}
use Rattle.std.specs.List.{range_with_len}
use Rattle.std.proofs.lemmas.Bool.{cases_lt}
use Rattle.std.proofs.lemmas.List.{append-nil}
use Rattle.std.proofs.lemmas.List.Elements.{All-cons, All-nil}
use Rattle.sz_cell.specs.Cell.{NoneOpen}
use Rattle.sz_disk.specs.Disk.{Seen, IsLawful, IsStill, LeavesOnly}
use Rattle.sz_disk.proofs.Between.{goes_on-only}
use Rattle.sz_disk.proofs.Moments.{leaves-now, leaves-weaker, still-leaves}
use Rattle.sz_hss.specs.Key.{HssKey}
use Rattle.sz_hss.specs.Leaf.{leaf_count}
use Rattle.sz_hss.specs.Stored.{StoredKey}
use Rattle.sz_hss.specs.Used.{AreWithin, Release}
use Rattle.sz_hss.proofs.Once.{signed-once, tree-within}
use Rattle.sz_signer.specs.Answer.{MeansOldOrAdvanced}
use Rattle.sz_signer.specs.KeyDisk.{MeansKey, HoldsKey, advanced, key_capacity, key_place}
use Rattle.sz_signer.specs.Leaves.{Reserved}
use Rattle.sz_signer.specs.Life.{AreBy, AreOnce, Begins, Call, Does, Life, Lives, Number, SparesKeys, Step, Tells, attaches, creates, creating, ends, looking, number_of, numbers_of, releases_of, reserves, reserving, signs}
use Rattle.sz_signer.proofs.Counts.{count, count-append, count-range-after, count-range-before, count-range-most, count-without, leaves, sound-counts}
use Rattle.sz_signer.proofs.Keys.{key-once, next-once, no-key}

-- ---- what the images mean

-- the image means this key, with no next leaf number below this one
abbrev Keeps : HssKey → ℕ → List ℕ → Type 0
Keeps key low image = (stored : StoredKey) × MeansKey stored image × (stored.key ≡ key) × (low ≤ stored.next)

-- every image that a crash now may leave does
abbrev AreKept : HssKey → ℕ → Seen → Type 0
AreKept key low disk = (image : List ℕ) → disk.leaves image → Keeps key low image

AreKept-holds : (disk : Seen) (stored : StoredKey) → HoldsKey disk stored → AreKept stored.key stored.next disk
AreKept-holds disk stored holds image left = (stored, holds image left, refl, omega arith)

Keeps-either : (key : HssKey) (low n : ℕ) (stored : StoredKey) (image : List ℕ) → stored.key ≡ key → low ≤ stored.next
    → MeansOldOrAdvanced n stored image → Keeps key low image
Keeps-either key low n stored image is least either =
    ⊎_elim (λ old. (stored, old, is, least)) (λ new. (advanced n stored, new, is, omega arith)) either

-- a key for which the disk stands is the one that it keeps
is-kept : (key : HssKey) (low : ℕ) (disk : Seen) (stored : StoredKey) → Tells disk → AreKept key low disk → HoldsKey disk stored
    → (stored.key ≡ key) × (low ≤ stored.next)
is-kept key low disk stored told kept holds =
    let (other, means, is, least) = kept told.0 told.1 in
    let means_stored = holds told.0 told.1 in
    let next = next-once stored other told.0 means_stored means in
    (key-once stored other told.0 means_stored means ∙ is, omega (arith, next, least))

-- where a disk keeps a key nothing is written over it
is-spared : (key : HssKey) (low : ℕ) (old new : Seen) → IsLawful old → Tells old → AreKept key low old → SparesKeys old new → IsStill old new
is-spared key low old new lawful told kept spares =
    ⊎_elim
    (λ still. still)
    (λ free.
    let (bytes, reads) = lawful.tells_reads told.0 told.1 in
    let (stored, means, is, least) = kept bytes (lawful.reads_as_left bytes reads) in
    absurd (no-key stored bytes (subst (λ (r : Option (List ℕ)). NoneOpen key_place key_capacity r) reads free) means))
    spares

-- ---- numbers of a key

abbrev leaves_in : List Number → List ℕ
leaves_in [] = []
leaves_in (number ∷ numbers) = number.leaf ∷ leaves_in numbers

leaves_in-append : (xs ys : List Number) → leaves_in (xs ++ ys) ≡ leaves_in xs ++ leaves_in ys
leaves_in-append [] ys = refl
leaves_in-append (x ∷ xs) ys = ap (λ (ns : List ℕ). x.leaf ∷ ns) (leaves_in-append xs ys)

-- all are this key's, which has them
abbrev AreOf : HssKey → List Number → Type 0
AreOf key [] = Unit {0}
AreOf key (number ∷ numbers) = (number.key ≡ key) × (number.leaf < leaf_count key) × AreOf key numbers

AreOf-append : (key : HssKey) (xs ys : List Number) → AreOf key xs → AreOf key ys → AreOf key (xs ++ ys)
AreOf-append key [] ys of_xs of_ys = of_ys
AreOf-append key (x ∷ xs) ys (is, lt, rest) of_ys = (is, lt, AreOf-append key xs ys rest of_ys)

-- one of them, and the others
AreOf-split : (key : HssKey) (front back : List Number) (number : Number) → AreOf key (front ++ number ∷ back)
    → (number.key ≡ key) × (number.leaf < leaf_count key) × AreOf key (front ++ back)
AreOf-split key [] back number of_all = of_all
AreOf-split key (x ∷ front) back number (is, lt, rest) =
    let (own, fits, others) = AreOf-split key front back number rest in (own, fits, (is, lt, others))

abbrev in-a-row : HssKey → ℕ → ℕ → List Number
in-a-row key first left = map (number_of key) (range_with_len first left)

leaves_in-row : (key : HssKey) (first left : ℕ) → leaves_in (in-a-row key first left) ≡ range_with_len first left
leaves_in-row key first zero = refl
leaves_in-row key first (suc left) = ap (λ (ns : List ℕ). first ∷ ns) (leaves_in-row key (first + 1) left)

AreOf-row : (key own : HssKey) (first left : ℕ) → own ≡ key → first + left ≤ leaf_count key → AreOf key (in-a-row own first left)
AreOf-row key own first zero is fits = tt
AreOf-row key own first (suc left) is fits = (is, omega arith, AreOf-row key own (first + 1) left is (omega arith))

-- ---- what a life keeps

-- a leaf number is held at most once, and is one that was handed out
record IsFine (low : ℕ) (held : List ℕ) : Type 0 where
  once : (n : ℕ) → count n held ≤ 1
  handed_out : (n : ℕ) → low ≤ n → count n held ≡ 0

-- how often a leaf number still signs: no more often than it is held, or once where it was not handed out yet
record IsBounded (low : ℕ) (held releases : List ℕ) : Type 0 where
  held_only : (n : ℕ) → n < low → count n releases ≤ count n held
  later : (n : ℕ) → count n releases ≤ 1

-- more numbers handed out
IsFine-more : (low next k : ℕ) (held : List ℕ) → low ≤ next → IsFine low held
    → IsFine (next + k) (held ++ range_with_len next k)
IsFine-more low next k held least fine = record {
  once = λ n. let both = count-append n held (range_with_len next k) in ⊎_elim
      (λ early. let none = count-range-before n next k early in let once = fine.once n in omega arith)
      (λ late. let none = fine.handed_out n (omega arith) in let most = count-range-most n next k in omega arith)
      (cases_lt n next);
  handed_out = λ n after. let both = count-append n held (range_with_len next k) in
      let none = fine.handed_out n (omega arith) in let end = count-range-after n next k after in omega arith;
}

-- what is bounded after more numbers were handed out was bounded before
IsBounded-more : (low next k : ℕ) (held releases : List ℕ) → low ≤ next
    → IsBounded (next + k) (held ++ range_with_len next k) releases → IsBounded low held releases
IsBounded-more low next k held releases least after = record {
  held_only = λ n early. let both = count-append n held (range_with_len next k) in
      let none = count-range-before n next k (omega arith) in let is = after.held_only n (omega arith) in omega arith;
  later = after.later;
}

-- a number spent
IsFine-without : (low leaf : ℕ) (held front back : List ℕ) → held ≡ front ++ leaf ∷ back → IsFine low held
    → IsFine low (front ++ back)
IsFine-without low leaf held front back is fine =
    let counts = λ (n : ℕ). ap (count n) is ∙ count-without n leaf front back in
    record {
      once = λ n. let c = counts n in let o = fine.once n in omega arith;
      handed_out = λ n after. let c = counts n in let o = fine.handed_out n after in omega arith;
    }

IsBounded-without : (low leaf : ℕ) (held front back releases : List ℕ) → held ≡ front ++ leaf ∷ back → IsFine low held
    → IsBounded low (front ++ back) releases → IsBounded low held (leaf ∷ releases)
IsBounded-without low leaf held front back releases is fine after =
    let counts = λ (n : ℕ). ap (count n) is ∙ count-without n leaf front back in
    record {
      held_only = λ n early. let c = counts n in let a = after.held_only n early in omega arith;
      later = λ n. let c = counts n in let a = after.later n in ⊎_elim
          (λ early. let b = after.held_only n early in let o = fine.once n in omega arith)
          (λ late. let o = fine.handed_out n late in omega arith)
          (cases_lt n low);
    }

-- ---- over all steps

module _ {D : Type 0} (seen : D → Seen) (lawful : (disk : D) → IsLawful (seen disk)) where
  -- what a call that is broken off leaves of a disk that keeps a key
  kept-still : (key : HssKey) (low : ℕ) (old last : D) → AreKept key low (seen old) → IsStill (seen old) (seen last)
      → LeavesOnly (seen old) (seen last) (Keeps key low)
  kept-still key low old last kept still =
      leaves-weaker (seen old) (seen last) (seen old).leaves (Keeps key low) kept (still-leaves (seen old) (seen last) (lawful old) still)

  kept-does : (key : HssKey) (low : ℕ) (life : Life D) (call : Call) (last : D) → AreKept key low (seen life.disk) → Tells (seen life.disk)
      → Does seen life call last → LeavesOnly (seen life.disk) (seen last) (Keeps key low)
  kept-does key low life (creating drawn) last kept told (leaves, spares) =
      kept-still key low life.disk last kept (is-spared key low (seen life.disk) (seen last) (lawful life.disk) told kept spares)
  kept-does key low life (reserving n) last kept told (before, has, stands, only) =
      let same = is-kept key low (seen life.disk) before.stored told kept stands.means in
      leaves-weaker (seen life.disk) (seen last) (MeansOldOrAdvanced n before.stored) (Keeps key low)
      (λ image either. Keeps-either key low n before.stored image same.0 same.1 either) only
  kept-does key low life looking last kept told still = kept-still key low life.disk last kept still

  -- how the leaf numbers of a key sign, where the disk keeps it and these are held
  abbrev IsGood : HssKey → ℕ → List Number → List Step → Type 0
  IsGood key low held steps = IsBounded low (leaves_in held) (leaves (releases_of steps)) × AreBy key steps

  bounded : (key : HssKey) (low : ℕ) (life : Life D) (steps : List Step) → AreKept key low (seen life.disk) → Tells (seen life.disk)
      → IsFine low (leaves_in life.held) → AreOf key life.held → Lives seen life steps → IsGood key low life.held steps
  bounded key low life [] kept tells fine own lives = (record { held_only = λ n lt. omega arith; later = λ n. omega arith }, tt)
  bounded key low life (creates drawn result ∷ steps) kept tells fine own (new, told, (created, spares, signers_is, held_is), rest) =
      let still = is-spared key low (seen life.disk) (seen new.disk) (lawful life.disk) tells kept spares in
      subst (λ (held : List Number). IsGood key low held steps) held_is
      (bounded key low new steps (λ image left. kept image (still.crash image left)) told
      (subst (λ (held : List Number). IsFine low (leaves_in held)) (sym held_is) fine) (subst (AreOf key) (sym held_is) own) rest)
  bounded key low life (attaches result ∷ steps) kept tells fine own (new, told, (answer, still, signers_is, held_is), rest) =
      subst (λ (held : List Number). IsGood key low held steps) held_is
      (bounded key low new steps (λ image left. kept image (still.crash image left)) told
      (subst (λ (held : List Number). IsFine low (leaves_in held)) (sym held_is) fine) (subst (AreOf key) (sym held_is) own) rest)
  bounded key low life (reserves n (Ok handed) ∷ steps) kept tells fine own
      (new, told, (front, back, before, signer, was, is, stands, (leaves_are, stored_is, stands_new), only, held_is), rest) =
      let (own_key, least) = is-kept key low (seen life.disk) before.stored tells kept stands.means in
      let next = before.stored.next in
      let key_new : signer.stored.key ≡ key = ap (λ (s : StoredKey). s.key) stored_is ∙ own_key in
      let next_new : signer.stored.next ≡ next + n = ap (λ (s : StoredKey). s.next) stored_is in
      let storable = (stands_new.means told.0 told.1).stored_is.storable in
      let most : leaf_count signer.stored.key ≡ leaf_count key = ap leaf_count key_new in
      let fits : next + n ≤ leaf_count key = omega (arith, storable.begun, storable.within, most, next_new) in
      let row : numbers_of (Ok handed) ≡ in-a-row before.stored.key next n =
      ap (λ (l : Reserved). in-a-row l.key l.first l.left) leaves_are in
      let held_new : new.held ≡ life.held ++ in-a-row before.stored.key next n = held_is ∙ ap (λ (ns : List Number). life.held ++ ns) row in
      let leaves_new : leaves_in new.held ≡ leaves_in life.held ++ range_with_len next n =
      ap leaves_in held_new ∙ leaves_in-append life.held (in-a-row before.stored.key next n)
      ∙ ap (λ (ns : List ℕ). leaves_in life.held ++ ns) (leaves_in-row before.stored.key next n) in
      let own_new = subst (AreOf key) (sym held_new)
      (AreOf-append key life.held (in-a-row before.stored.key next n) own (AreOf-row key before.stored.key next n own_key fits)) in
      let (after, by_key) = bounded key (next + n) new steps
      (λ image left. (signer.stored, stands_new.means image left, key_new, omega (arith, next_new))) told
      (subst (IsFine (next + n)) (sym leaves_new) (IsFine-more low next n (leaves_in life.held) least fine)) own_new rest in (
        IsBounded-more low next n (leaves_in life.held) (leaves (releases_of steps)) least
            (subst (λ (held : List ℕ). IsBounded (next + n) held (leaves (releases_of steps))) leaves_new after),
        by_key,
      )
  bounded key low life (reserves n (Err refusal) ∷ steps) kept tells fine own
      (new, told, (front, back, before, signer, was, is, stands, answer, only, held_is), rest) =
      let same = is-kept key low (seen life.disk) before.stored tells kept stands.means in
      let held_same : new.held ≡ life.held = held_is ∙ append-nil life.held in
      subst (λ (held : List Number). IsGood key low held steps) held_same
      (bounded key low new steps
      (λ image left. Keeps-either key low n before.stored image same.0 same.1
      (leaves-now (seen life.disk) (seen new.disk) (MeansOldOrAdvanced n before.stored) (lawful new.disk) only image left)) told
      (subst (λ (held : List Number). IsFine low (leaves_in held)) (sym held_same) fine) (subst (AreOf key) (sym held_same) own) rest)
  bounded key low life (ends call ∷ steps) kept tells fine own (new, told, (last, does, goes, signers_is, held_is), rest) =
      let only = kept-does key low life call last kept tells does in
      subst (λ (held : List Number). IsGood key low held steps) held_is
      (bounded key low new steps (goes_on-only (seen life.disk) (seen last) (seen new.disk) (Keeps key low) (lawful last) only goes) told
      (subst (λ (held : List Number). IsFine low (leaves_in held)) (sym held_is) fine) (subst (AreOf key) (sym held_is) own) rest)
  bounded key low life (signs number message ∷ steps) kept tells fine own
      (new, told, (front, back, signer, held, held_is, has, signs_own, disk_is, signers_is), rest) =
      let (is, lt, others) = AreOf-split key front back number (subst (AreOf key) held own) in
      let split : leaves_in life.held ≡ leaves_in front ++ number.leaf ∷ leaves_in back =
      ap leaves_in held ∙ leaves_in-append front (number ∷ back) in
      let without : leaves_in new.held ≡ leaves_in front ++ leaves_in back = ap leaves_in held_is ∙ leaves_in-append front back in
      let (after, by_key) = bounded key low new steps (subst (λ (d : D). AreKept key low (seen d)) (sym disk_is) kept) told
      (subst (IsFine low) (sym without) (IsFine-without low number.leaf (leaves_in life.held) (leaves_in front) (leaves_in back) split fine))
      (subst (AreOf key) (sym held_is) others) rest in (
        IsBounded-without low number.leaf (leaves_in life.held) (leaves_in front) (leaves_in back) (leaves (releases_of steps)) split fine
            (subst (λ (held : List ℕ). IsBounded low held (leaves (releases_of steps))) without after),
        (is, lt, by_key),
      )

  -- from a disk of which no leaf number is handed out
  abbrev HasOne : List Step → Type 0
  HasOne steps = (key : HssKey) × ((n : ℕ) → count n (leaves (releases_of steps)) ≤ 1) × AreBy key steps

  -- on a disk that holds a key
  from-key : (stored : StoredKey) (life : Life D) (steps : List Step) → HoldsKey (seen life.disk) stored → Tells (seen life.disk)
      → life.held ≡ [] → Lives seen life steps → HasOne steps
  from-key stored life steps holds told none lives =
      let fine : IsFine stored.next [] = record { once = λ n. omega arith; handed_out = λ n after. refl } in
      let (good, by_key) = bounded stored.key stored.next life steps (AreKept-holds (seen life.disk) stored holds) told
      (subst (λ (held : List Number). IsFine stored.next (leaves_in held)) (sym none) fine) (subst (AreOf stored.key) (sym none) tt) lives in
      (stored.key, good.later, by_key)

  from-any : (life : Life D) (steps : List Step) → Tells (seen life.disk) → life.held ≡ [] → Lives seen life steps → HasOne steps
  from-any life [] told none lives =
      (record { top = record { seed = []; id = []; height = 0; width = 0 }; below = [] }, λ n. omega arith, tt)
  from-any life (creates drawn (Ok signer) ∷ steps) tells none (new, told, (created, spares, signers_is, held_is), rest) =
      from-key signer.stored new steps created.answer.stands.means told (held_is ∙ none) rest
  from-any life (creates drawn (Err refusal) ∷ steps) tells none (new, told, (created, spares, signers_is, held_is), rest) =
      from-any new steps told (held_is ∙ none) rest
  from-any life (attaches (Ok signer) ∷ steps) tells none (new, told, (stands, still, signers_is, held_is), rest) =
      from-key signer.stored new steps stands.means told (held_is ∙ none) rest
  from-any life (attaches (Err refusal) ∷ steps) tells none (new, told, (answer, still, signers_is, held_is), rest) =
      from-any new steps told (held_is ∙ none) rest
  from-any life (reserves n result ∷ steps) tells none
      (new, told, (front, back, before, signer, was, is, stands, answer, only, held_is), rest) =
      from-key before.stored life (reserves n result ∷ steps) stands.means tells none
      (new, told, (front, back, before, signer, was, is, stands, answer, only, held_is), rest)
  from-any life (ends call ∷ steps) tells none (new, told, (last, does, goes, signers_is, held_is), rest) =
      from-any new steps told (held_is ∙ none) rest
  from-any life (signs number message ∷ steps) tells none
      (new, told, (front, back, signer, held, held_is, has, signs_own, disk_is, signers_is), rest) =
      let empty : front ++ number ∷ back ≡ [] = sym held ∙ none in
      let long = ap length empty in
      absurd (omega (arith, long, length-append front (number ∷ back)))

  -- a key has the leaf numbers that its signatures are by
  AreWithin-by : (key : HssKey) (steps : List Step) → AreBy key steps → AreWithin key (releases_of steps)
  AreWithin-by key [] by_key = All-nil (λ (release : Release). release.leaf < leaf_count key)
  AreWithin-by key (creates drawn result ∷ steps) by_key = AreWithin-by key steps by_key
  AreWithin-by key (attaches result ∷ steps) by_key = AreWithin-by key steps by_key
  AreWithin-by key (reserves n result ∷ steps) by_key = AreWithin-by key steps by_key
  AreWithin-by key (ends call ∷ steps) by_key = AreWithin-by key steps by_key
  AreWithin-by key (signs number message ∷ steps) (is, lt, rest) =
      All-cons (λ (release : Release). release.leaf < leaf_count key) (record { leaf = number.leaf; message = message }) (releases_of steps)
      lt (AreWithin-by key steps rest)

  pub sound-life : (life : Life D) (steps : List Step) → Begins seen life → Lives seen life steps → (key : HssKey) × AreOnce key steps
  sound-life life steps begins lives =
      let (key, once, by_key) = from-any life steps begins.tells begins.held lives in
      let sound = sound-counts (releases_of steps) once in (
        key,
        record {
          by_key = by_key;
          numbers = sound;
          leaves = λ u other. signed-once key (releases_of steps) u other sound;
          trees = λ u. tree-within key (releases_of steps) u (AreWithin-by key steps by_key);
        },
      )
