-- The words of sources, one after another, and the file of an identity.
use Rattle.std.proofs.Common.{◌≡◌, ℕ, zero, suc, ◌+◌, ◌<◌, ◌≤◌, List, [], ◌∷◌, ◌++◌, length, take, get_or, Option, Some, None, IfSome, Result, Err, refl, sym, ap, subst, arith}
use Rattle.std.proofs.lemmas.List.{take_more}
use Rattle.sz_base.specs.declared.fault.BaseFault.{BaseFault}
use Rattle.sz_base.specs.declared.fault.BaseFault.TheVariants.{Form, OutOfMemory}
use Rattle.sz_base.specs.declared.identity.Identity.{Identity}
use Rattle.sz_evidence.specs.IdentityFile.{IdentityOf, IsBadIdentity}
use Rattle.sz_io.specs.Folder.{FileMap}
use Rattle.sz_json.specs.Name.{name_text}
use Rattle.sz_json.specs.declared.name.Name.{Name}
use Rattle.sz_source.specs.Source.{IsSource}
use Rattle.sz_source.specs.declared.source.Source.{Source}
use Rattle.sz_device.specs.IdentityFile.{HasFile, IsIdentityAt, NamesMember}
use Rattle.sz_device.specs.Sources.{AreTextsOf, IsInFileOf, IsSourceBeside, IsWhyUnread, NamesNone, NamesSources}

-- ---- sources

-- a word whose one source reads the disk's file has no source beside it
pub none_beside : (disk word : List ℕ) (source : Source)
    → ((text : List ℕ) (a b : Source) → IsSource a text → IsSource b text → a ≡ b)
    → IsSource source word → IsInFileOf disk source → (other : Source) → ¬ (IsSourceBeside disk other word)
none_beside disk word source one_reading is inside other beside =
    beside.apart (subst (IsInFileOf disk) (one_reading word source other is beside.is) inside)

-- nor has a word that is no source
pub nothing_beside : (disk word : List ℕ) → ((source : Source) → ¬ (IsSource source word))
    → (other : Source) → ¬ (IsSourceBeside disk other word)
nothing_beside disk word none other beside = none other beside.is

push : (disk : List ℕ) (sources : List Source) (words : List (List ℕ)) (source : Source) (word : List ℕ)
    → AreTextsOf disk sources words → IsSourceBeside disk source word
    → AreTextsOf disk (sources ++ source ∷ []) (words ++ word ∷ [])
push disk [] [] source word are is = (is, tt)
push disk [] (w ∷ words) source word are is = absurd are
push disk (s ∷ sources) [] source word are is = absurd are
push disk (s ∷ sources) (w ∷ words) source word are is = (are.0, push disk sources words source word are.1 is)

-- one word more
pub texts_more : (disk : List ℕ) (sources : List Source) (words : List (List ℕ)) (i : ℕ) (source : Source) (word : List ℕ)
    → i < length words → word ≡ get_or words i word → AreTextsOf disk sources (take i words) → IsSourceBeside disk source word
    → AreTextsOf disk (sources ++ source ∷ []) (take (i + 1) words)
texts_more disk sources words i source word within is so_far next =
    let named = subst (λ (w : List ℕ). IsSourceBeside disk source w) is next in
    subst (λ (ws : List (List ℕ)). AreTextsOf disk (sources ++ source ∷ []) ws) (sym (take_more words i word within))
    (push disk sources (take i words) source (get_or words i word) so_far named)

-- a word that is no source
no_texts : (disk : List ℕ) (words : List (List ℕ)) (i : ℕ) (word : List ℕ) (sources : List Source) → i < length words
    → ((source : Source) → ¬ (IsSourceBeside disk source (get_or words i word))) → ¬ (AreTextsOf disk sources words)
no_texts disk [] i word sources within none are = omega arith
no_texts disk (w ∷ words) i word [] within none are = are
no_texts disk (w ∷ words) zero word (s ∷ sources) within none are = none s are.0
no_texts disk (w ∷ words) (suc i) word (s ∷ sources) within none are = no_texts disk words i word sources (omega arith) none are.1

pub names_none : (disk : List ℕ) (words : List (List ℕ)) (i : ℕ) (word : List ℕ) → i < length words → word ≡ get_or words i word
    → ((source : Source) → ¬ (IsSourceBeside disk source word)) → NamesNone disk words
names_none disk words i word within is none sources named =
    no_texts disk words i word sources within
    (subst (λ (w : List ℕ). (source : Source) → ¬ (IsSourceBeside disk source w)) is none) named.texts

-- a word that wasn't read, for this
abbrev unread : BaseFault → Result Source BaseFault
unread fault = Err fault

pub why_unread : (disk : List ℕ) (words : List (List ℕ)) (i : ℕ) (word : List ℕ) (fault : BaseFault) → i < length words
    → word ≡ get_or words i word → (unread fault ≡ unread Form → (source : Source) → ¬ (IsSourceBeside disk source word))
    → IsWhyUnread disk words fault
why_unread disk words i word Form within is none = names_none disk words i word within is (none refl)
why_unread disk words i word OutOfMemory within is none = tt

pub too_many : (disk : List ℕ) (words : List (List ℕ)) → (length words ≤ 16 → ⊥) → NamesNone disk words
too_many disk words many sources named = many named.few

same_length : (disk : List ℕ) (sources : List Source) (words : List (List ℕ)) → AreTextsOf disk sources words
    → length sources ≡ length words
same_length disk [] [] are = refl
same_length disk [] (w ∷ words) are = absurd are
same_length disk (s ∷ sources) [] are = absurd are
same_length disk (s ∷ sources) (w ∷ words) are = ap suc (same_length disk sources words are.1)

-- so many sources a walk may have
pub few_sources : (disk : List ℕ) (words : List (List ℕ)) (sources : List Source) → NamesSources disk words sources
    → length sources ≤ 16
few_sources disk words sources named = subst (λ (n : ℕ). n ≤ 16) (sym (same_length disk sources words named.texts)) named.few

-- ---- the file of an identity

pub identity_is : (told : Option FileMap) (path bytes : List ℕ) (identity : Identity) → IfSome told (λ files. HasFile files path bytes)
    → IdentityOf bytes identity → IsIdentityAt told path identity
identity_is None path bytes identity file is = tt
identity_is (Some files) path bytes identity file is = (bytes, file, is)

pub member_is : (told : Option FileMap) (path bytes member : List ℕ) (name : Name) → IfSome told (λ files. HasFile files path bytes)
    → IsBadIdentity bytes name → member ≡ name_text name
    → IfSome told (λ files. (b : List ℕ) × HasFile files path b × NamesMember b member)
member_is None path bytes member name file bad is = tt
member_is (Some files) path bytes member name file bad is = (bytes, file, (name, bad, is))
