-- What `keygen LEVELS PUBLIC @KEY` comes to, over the disks, the folder and the random bytes before and after.
use Rattle.std.specs.Prelude.{◌≡◌, ◌⊎◌, ℕ, List, Some, None, Err}
use Rattle.sz_commands.specs.Disks.{disk_under}
use Rattle.sz_commands.specs.Failure.{LevelsRefused, NoFile}
use Rattle.sz_disk.specs.Disk.{Seen}
use Rattle.sz_disk.specs.Disks.{with_disk}
use Rattle.sz_hss.specs.Key.{Shape}
use Rattle.sz_hss.specs.LevelsText.{IsLevelsText}
use Rattle.sz_keys.specs.KeyMade.{Answer, Beside, KeyMade}

-- the words of a keygen
pub record Words : Type 0 where
  pub levels : List ℕ
  pub public : List ℕ
  pub key : List ℕ

-- what a keygen uses of the outside
pub record KeygenSeen (D : Type 0) : Type 0 where
  pub disks : List (List ℕ × D)
  pub beside : Beside

module _ {D : Type 0} (seen : D → Seen) (words : Words) (before after : KeygenSeen D) where
  -- LEVELS isn't the text of levels that a key may have, and nothing was done
  pub record IsNoLevels (answer : Answer) : Type 0 where
    pub none : (shapes : List Shape) → ¬ (IsLevelsText words.levels shapes)
    pub answer_is : answer ≡ Err (LevelsRefused words.levels)
    pub nothing : after ≡ before

  -- LEVELS is, but there is no disk under the word, and nothing was done
  pub record IsNoDisk (answer : Answer) : Type 0 where
    pub shapes : List Shape
    pub levels : IsLevelsText words.levels shapes
    pub none : disk_under before.disks words.key ≡ None
    pub answer_is : answer ≡ Err (NoFile words.key)
    pub nothing : after ≡ before

  -- there is one, and on it a key of these levels was made, or not; the others stay
  pub record IsRunOn (answer : Answer) : Type 0 where
    pub shapes : List Shape
    pub levels : IsLevelsText words.levels shapes
    pub old : D
    pub new : D
    pub held : disk_under before.disks words.key ≡ Some old
    pub others : after.disks ≡ with_disk words.key before.disks new
    pub made : KeyMade seen shapes words.public old new before.beside after.beside answer

  -- A keygen answered so: for LEVELS first, then for the disk's word, then by what was made.
  abbrev pub KeygenRan : Answer → Type 0
  KeygenRan answer = IsNoLevels answer ⊎ (IsNoDisk answer ⊎ IsRunOn answer)
