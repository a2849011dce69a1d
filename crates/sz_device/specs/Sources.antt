-- The sources that the words of a command name.
use Rattle.std.specs.Prelude.{◌≡◌, ◌≤◌, ℕ, List, [], ◌∷◌, length}
use Rattle.sz_base.specs.declared.fault.BaseFault.{BaseFault}
use Rattle.sz_base.specs.declared.fault.BaseFault.TheVariants.{Form, OutOfMemory}
use Rattle.sz_source.specs.Source.{IsSource, most_sources}
use Rattle.sz_source.specs.declared.source.Source.{Source}
use Rattle.sz_source.specs.declared.source.Source.TheVariants.{Dhcp4, Dhcp6, Dns}

-- the message of the source stands in the file of the disk that this word names, which is `@` and the file's path
abbrev pub IsInFileOf : List ℕ → Source → Type 0
IsInFileOf disk (Dhcp4 path) = disk ≡ 64 ∷ path
IsInFileOf disk (Dhcp6 path) = disk ≡ 64 ∷ path
IsInFileOf disk (Dns path domain) = disk ≡ 64 ∷ path
IsInFileOf disk _ = ⊥

-- the word is the text of this source, whose message does not stand in the disk's file
pub record IsSourceBeside (disk : List ℕ) (source : Source) (word : List ℕ) : Type 0 where
  pub is : IsSource source word
  pub apart : ¬ (IsInFileOf disk source)

-- each word is the text of its source, in their order
abbrev pub AreTextsOf : List ℕ → List Source → List (List ℕ) → Type 0
AreTextsOf disk [] [] = Unit {0}
AreTextsOf disk [] (word ∷ words) = ⊥
AreTextsOf disk (source ∷ sources) [] = ⊥
AreTextsOf disk (source ∷ sources) (word ∷ words) = IsSourceBeside disk source word × AreTextsOf disk sources words

-- beside the word of a disk the words name these sources, and not too many
pub record NamesSources (disk : List ℕ) (words : List (List ℕ)) (sources : List Source) : Type 0 where
  pub few : length words ≤ most_sources
  pub texts : AreTextsOf disk sources words

-- some word is no source, or one that reads the disk's file, or there are too many
abbrev pub NamesNone : List ℕ → List (List ℕ) → Type 0
NamesNone disk words = (sources : List Source) → ¬ (NamesSources disk words sources)

-- why the words gave no sources; where memory ran out, nothing is said
abbrev pub IsWhyUnread : List ℕ → List (List ℕ) → BaseFault → Type 0
IsWhyUnread disk words Form = NamesNone disk words
IsWhyUnread disk words OutOfMemory = Unit {0}
