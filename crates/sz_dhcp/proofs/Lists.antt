-- A list of bootstrap servers has one reading.
use Rattle.std.proofs.Common.{◌≡◌, ℕ, inl, inr, List, [], ◌∷◌, sym, ap, ◌∙◌}
use Rattle.sz_base.specs.declared.target.Target.{Target}
use Rattle.sz_uri.specs.declared.uri.Uri.{Uri}
use Rattle.sz_uri.proofs.OneReading.{one_uri}
use Rattle.sz_dhcp.specs.UriList.{GivesTarget, IsEntry, ListBreaksAt, ListsTargets}
use Rattle.sz_dhcp.proofs.Entries.{entries_apart, entries_stop}
use Rattle.sz_dhcp.proofs.Joined.{joined_once, one_break, one_whole, whole_or_break}

-- a text gives one list of targets
one_target : (text : List ℕ) (own others : List Target) → GivesTarget text own → GivesTarget text others → own ≡ others
one_target text own others (inl a) (inl b) =
    let same = one_uri text a.0 b.0 a.1 b.1 in
    a.2 ∙ ap (λ (uri : Uri). uri.target ∷ []) same ∙ sym b.2
one_target text own others (inl a) (inr b) = absurd (b.0 a.0 a.1)
one_target text own others (inr a) (inl b) = absurd (a.0 b.0 b.1)
one_target text own others (inr a) (inr b) = a.1 ∙ sym b.1

pub one_list : (bytes : List ℕ) (targets others : List Target) → ListsTargets bytes targets → ListsTargets bytes others
    → targets ≡ others
one_list bytes targets others a b =
    let uris = one_whole IsEntry entries_apart entries_stop bytes a.uris b.uris a.are b.are in
    let give = rw uris at a.give in
    joined_once GivesTarget one_target b.uris targets others give b.give

pub one_list_break : (bytes : List ℕ) (place other : ℕ) → ListBreaksAt bytes place → ListBreaksAt bytes other → place ≡ other
one_list_break = one_break IsEntry entries_apart

pub list_or_break : (bytes : List ℕ) (targets : List Target) (place : ℕ) → ListsTargets bytes targets → ListBreaksAt bytes place → ⊥
list_or_break bytes targets place a b = whole_or_break IsEntry entries_apart entries_stop bytes a.uris place a.are b
