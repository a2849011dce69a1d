-- The life of a disk that holds a key: what every signer on it, session, refusal and power cut makes of it, as the
-- calls' contracts tell.
use Rattle.std.specs.Prelude.{◌≡◌, ◌⊎◌, ◌<◌, ℕ, List, [], ◌∷◌, ◌++◌, Contains, Result, Ok, Err, map}
use Rattle.std.specs.List.{range_with_len}
use Rattle.sz_cell.specs.Cell.{NoneOpen}
use Rattle.sz_disk.specs.Between.{GoesOn}
use Rattle.sz_disk.specs.Disk.{Seen, IsStill, LeavesOnly}
use Rattle.sz_hss.specs.Key.{HssKey}
use Rattle.sz_hss.specs.Leaf.{leaf_count}
use Rattle.sz_hss.specs.Used.{AreSound, IsSameLeaf, Release, Use, tree_count, used}
use Rattle.sz_signer.specs.Answer.{AttachAnswers, Created, LeavesOldOrNew, MeansOldOrAdvanced, ReserveAnswers, StandsForKey}
use Rattle.sz_signer.specs.KeyDisk.{key_capacity, key_place}
use Rattle.sz_signer.specs.Leaves.{Reserved}
use Rattle.sz_signer.specs.State.{SignerState}
use Rattle.sz_signer.specs.declared.fault.SignFault.{SignFault}

-- a leaf number of a key
pub record Number : Type 0 where
  pub key : HssKey
  pub leaf : ℕ

abbrev pub number_of : HssKey → ℕ → Number
number_of key leaf = record { key = key; leaf = leaf }

-- What there is of a disk: the signers that were made or found on it, one after another, and the leaf numbers that were
-- handed out and are not spent. Those stay when their signer goes.
pub record Life (D : Type 0) : Type 0 where
  pub disk : D
  pub signers : List SignerState
  pub held : List Number

-- A call that may be broken off: `create` of this key, which was drawn; `reserve` of n leaf numbers; one that writes
-- nothing, as `attach`, or none at all.
pub data Call : Type 0 where
  creating : (key : HssKey) → Call
  reserving : (n : ℕ) → Call
  looking : Call

-- One thing that happens on a disk: `create` of this key gives this answer; `attach` gives this answer; `reserve` of n
-- leaf numbers gives this answer; a call is broken off, or the signers go, and what goes on finds the disk; a leaf
-- number that was handed out signs this message and is spent.
pub data Step : Type 0 where
  creates : (key : HssKey) (result : Result SignerState SignFault) → Step
  attaches : (result : Result SignerState SignFault) → Step
  reserves : (n : ℕ) (result : Result Reserved SignFault) → Step
  ends : (call : Call) → Step
  signs : (number : Number) (message : List ℕ) → Step

-- the disk tells what a crash may leave
abbrev pub Tells : Seen → Type 0
Tells disk = (image : List ℕ) × disk.leaves image

-- nothing was written, but where no gate of the cell read open
abbrev pub SparesKeys : Seen → Seen → Type 0
SparesKeys old new = IsStill old new ⊎ NoneOpen key_place key_capacity old.reads

-- the signer that stands after `create` or `attach`
abbrev pub stood : Result SignerState SignFault → List SignerState
stood (Ok signer) = signer ∷ []
stood (Err fault) = []

-- the leaf numbers that were handed out
abbrev pub numbers_of : Result Reserved SignFault → List Number
numbers_of (Ok leaves) = map (number_of leaves.key) (range_with_len leaves.first leaves.left)
numbers_of (Err fault) = []

-- What a call does to the disk, wherever it would have come to.
abbrev pub Does : {D : Type 0} → (D → Seen) → Life D → Call → D → Type 0
Does seen old (creating key) last =
    LeavesOldOrNew key (seen old.disk) (seen last) × SparesKeys (seen old.disk) (seen last)
Does seen old (reserving n) last =
    (before : SignerState) × Contains old.signers before × StandsForKey (seen old.disk) before
    × LeavesOnly (seen old.disk) (seen last) (MeansOldOrAdvanced n before.stored)
Does seen old looking last = IsStill (seen old.disk) (seen last)

-- What one step makes of the old state. What the calls do to the disk is what their contracts say of it. A `create`
-- whose source of random bytes fails leaves all as it was, and is no step.
abbrev pub Goes : {D : Type 0} → (D → Seen) → Life D → Step → Life D → Type 0
Goes seen old (creates key result) new =
    Created key (seen old.disk) (seen new.disk) result × SparesKeys (seen old.disk) (seen new.disk)
    × (new.signers ≡ old.signers ++ stood result) × (new.held ≡ old.held)
Goes seen old (attaches result) new =
    AttachAnswers (seen old.disk) (seen new.disk) result × IsStill (seen old.disk) (seen new.disk)
    × (new.signers ≡ old.signers ++ stood result) × (new.held ≡ old.held)
Goes seen old (reserves n result) new =
    (front back : List SignerState) × (before after : SignerState) × (old.signers ≡ front ++ before ∷ back)
    × (new.signers ≡ front ++ after ∷ back) × StandsForKey (seen old.disk) before
    × ReserveAnswers n (seen new.disk) before after result
    × LeavesOnly (seen old.disk) (seen new.disk) (MeansOldOrAdvanced n before.stored)
    × (new.held ≡ old.held ++ numbers_of result)
Goes {D} seen old (ends call) new =
    (last : D) × Does seen old call last × GoesOn (seen old.disk) (seen last) (seen new.disk)
    × (new.signers ≡ []) × (new.held ≡ old.held)
Goes seen old (signs number message) new =
    (front back : List Number) × (signer : SignerState) × (old.held ≡ front ++ number ∷ back)
    × (new.held ≡ front ++ back) × Contains old.signers signer × (signer.stored.key ≡ number.key)
    × (new.disk ≡ old.disk) × (new.signers ≡ old.signers)

-- steps, one after another, on disks that tell
abbrev pub Lives : {D : Type 0} → (D → Seen) → Life D → List Step → Type 0
Lives seen life [] = Unit {0}
Lives {D} seen life (step ∷ steps) =
    (next : Life D) × Tells (seen next.disk) × Goes seen life step next × Lives seen next steps

-- the life begins: the disk tells, whatever it holds, and no leaf number is handed out
pub record Begins {D : Type 0} (seen : D → Seen) (life : Life D) : Type 0 where
  pub tells : Tells (seen life.disk)
  pub held : life.held ≡ []

-- the signatures that they handed out
abbrev pub releases_of : List Step → List Release
releases_of [] = []
releases_of (signs number message ∷ steps) = record { leaf = number.leaf; message = message } ∷ releases_of steps
releases_of (step ∷ steps) = releases_of steps

-- all of them are by this key, each with a leaf number that it has
abbrev pub AreBy : HssKey → List Step → Type 0
AreBy key [] = Unit {0}
AreBy key (signs number message ∷ steps) = (number.key ≡ key) × (number.leaf < leaf_count key) × AreBy key steps
AreBy key (step ∷ steps) = AreBy key steps

-- They are by one key, with leaf numbers that it has, none of which signs twice: so each leaf of each tree of each
-- level signs one byte string, and each tree is one of those that the key has on its level.
pub record AreOnce (key : HssKey) (steps : List Step) : Type 0 where
  pub by_key : AreBy key steps
  pub numbers : AreSound (releases_of steps)
  pub leaves : (u other : Use) → Contains (used key (releases_of steps)) u
      → Contains (used key (releases_of steps)) other → IsSameLeaf u other → u.signed ≡ other.signed
  pub trees : (u : Use) → Contains (used key (releases_of steps)) u → u.tree < tree_count key u.level
