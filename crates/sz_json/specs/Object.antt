-- Objects that are written: each member once, in the byte order of the names.
use Rattle.std.specs.Prelude.{ℕ, List, [], ◌∷◌, Option, Some, None}
use Rattle.serde_json.specs.Data.{Data, Members, no_members, put, string}
use Rattle.serde_json.specs.View.{members_view}
use Rattle.sz_base.specs.Encoding.{base64_text}
use Rattle.sz_json.specs.Name.{name_text}
use Rattle.sz_json.specs.declared.name.Name.{Name}
use Rattle.sz_json.specs.declared.writing.Object.{Object}

-- the members of an object that is written
abbrev pub members_in : Object → Members
members_in object = members_view object.members.entries

-- bytes, as their text in base64 (RFC 7951 section 6.6)
abbrev pub binary_value : List ℕ → Data
binary_value bytes = string (base64_text bytes)

-- those before, with this member where it is there
abbrev pub with_member : Name → Option Data → Members → Members
with_member name None before = before
with_member name (Some value) before = put (name_text name) value before

-- those before, with the members of the list that are there
abbrev pub with_members : List (Name × Option Data) → Members → Members
with_members [] before = before
with_members (one ∷ more) before = with_members more (with_member one.0 one.1 before)

-- the members of the list that are there, each name once, in the byte order of the names
abbrev pub members_of : List (Name × Option Data) → Members
members_of list = with_members list no_members
