-- The list of bootstrap servers in an option (RFC 8572 section 8.3).
use Rattle.std.specs.Prelude.{◌≡◌, ◌⊎◌, ℕ, List, [], ◌∷◌, ◌++◌, length}
use Rattle.sz_base.specs.declared.target.Target.{Target}
use Rattle.sz_uri.specs.Uri.{IsUri}
use Rattle.sz_uri.specs.declared.uri.Uri.{Uri}
use Rattle.sz_dhcp.specs.Spelled.{BreaksAt, Joined, two_bytes}

-- an entry of the list: the URI's length in two bytes, and the URI
abbrev pub IsEntry : List ℕ → List ℕ → Type 0
IsEntry uri bytes = bytes ≡ two_bytes (length uri) ++ uri

-- the bytes are the entries of these URIs
abbrev pub IsUriList : List ℕ → List (List ℕ) → Type 0
IsUriList bytes uris = Joined IsEntry uris bytes

-- the list ends inside an entry, whose length stands at this place
abbrev pub ListBreaksAt : List ℕ → ℕ → Type 0
ListBreaksAt bytes place = BreaksAt IsEntry bytes place

-- the target of a text that is a URI of HTTP, and nothing for any other
abbrev pub GivesTarget : List ℕ → List Target → Type 0
GivesTarget text targets =
    ((uri : Uri) × IsUri text uri × (targets ≡ uri.target ∷ []))
    ⊎ (((uri : Uri) → ¬ (IsUri text uri)) × (targets ≡ []))

-- the bytes are a list of URIs, which give these targets in order
pub record ListsTargets (bytes : List ℕ) (targets : List Target) : Type 0 where
  pub uris : List (List ℕ)
  pub are : IsUriList bytes uris
  pub give : Joined GivesTarget uris targets
