-- Parts that are appended one after another.
use Rattle.std.proofs.Common.{◌≡◌, List, [], ◌∷◌, ◌++◌, ℕ, ◌≤◌, length, take, Result, OnOk, sym, ap, ◌∙◌, append_assoc}
use Rattle.std.proofs.lemmas.List.{append-nil, take_all}
use Rattle.std.proofs.lemmas.Result.{on_ok_weaker}
use Rattle.std.specs.List.{flat_map}
use Rattle.sz_record.specs.Appended.{Appends}
use Rattle.sz_record.specs.Spelling.{anchors_bytes, long_bytes}

pub appended : {part others old mid new : List ℕ} → Appends part old mid → Appends others mid new
    → Appends (part ++ others) old new
appended {part} {others} {old} {mid} {new} one rest = record {
  is = rest.is ∙ ap (λ s. s ++ others) one.is ∙ append_assoc old part others;
}

pub then_appended : {T E : Type 0} {part old mid : List ℕ} (result : Result T E) (others new : List ℕ)
    → Appends part old mid
    → OnOk result (Appends others mid new) → OnOk result (Appends (part ++ others) old new)
then_appended result others new one rest = on_ok_weaker result (λ h. appended one h) rest

-- what a list's own calls say
pub adds : (old part new : List ℕ) → new ≡ old ++ part → Appends part old new
adds old part new is = record { is = is }

pub then_adds : {T E : Type 0} (result : Result T E) (old part new : List ℕ) → OnOk result (new ≡ old ++ part)
    → OnOk result (Appends part old new)
then_adds result old part new one = on_ok_weaker result (λ is. adds old part new is) one

-- the last part
pub last_appended : {part old new : List ℕ} → Appends part old new → Appends (part ++ []) old new
last_appended {part} {old} {new} one = record { is = one.is ∙ ap (λ s. old ++ s) (sym (append-nil part)) }

pub then_last : {T E : Type 0} (result : Result T E) (part old new : List ℕ) → OnOk result (Appends part old new)
    → OnOk result (Appends (part ++ []) old new)
then_last result part old new one = on_ok_weaker result (λ h. last_appended h) one

-- a part of something equal
pub part_of : {given wanted old new : List ℕ} (spelled : List ℕ → List ℕ) → given ≡ wanted
    → Appends (spelled given) old new → Appends (spelled wanted) old new
part_of {given} {wanted} {old} {new} spelled same one = record { is = one.is ∙ ap (λ s. old ++ spelled s) same }

pub then_part_of : {T E : Type 0} {given wanted : List ℕ} (result : Result T E) (spelled : List ℕ → List ℕ)
    (old new : List ℕ)
    → given ≡ wanted → OnOk result (Appends (spelled given) old new) → OnOk result (Appends (spelled wanted) old new)
then_part_of result spelled old new same one = on_ok_weaker result (λ h. part_of spelled same h) one

pub anchors_appended : (old mid new : List ℕ) (anchors : List (List ℕ)) (i : ℕ) → mid ≡ old ++ length anchors ∷ []
    → new ≡ mid ++ flat_map long_bytes (take i anchors) → length anchors ≤ i → Appends (anchors_bytes anchors) old new
unfolding anchors_bytes
anchors_appended old mid new anchors i one rest all =
    appended (adds old (length anchors ∷ []) mid one)
    (adds mid (flat_map long_bytes anchors) new
    (rest ∙ ap (λ s. mid ++ flat_map long_bytes s) (take_all i anchors all)))

-- parts that were appended to nothing
pub whole : (start part new : List ℕ) → start ≡ [] → Appends part start new → new ≡ part
whole start part new none one = one.is ∙ ap (λ s. s ++ part) none
