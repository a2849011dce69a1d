-- What the crate's own types stand for in the definitions.
use Rattle.std.specs.Prelude.{ℕ, Option, Some, None, Result, Ok, Err}
use Rattle.sz_lms.specs.Ots as spec
use Rattle.sz_lms.specs.Rules as rules
use Rattle.sz_lms.specs.declared.fault.HssFault.{HssFault}
use Rattle.sz_lms.specs.declared.fault.HssFault.TheVariants.{Length, Levels, Scheme, LeafNumber, Root}
use Rattle.sz_lms.specs.declared.types.KeyTypes.{KeyTypes}
use Rattle.sz_lms.specs.declared.types.OtsType.{OtsType}
use Rattle.sz_lms.specs.declared.types.OtsType.TheVariants.{W1, W2, W4, W8}
use Rattle.sz_lms.specs.declared.types.LmsType.{LmsType}
use Rattle.sz_lms.specs.declared.types.LmsType.TheVariants.{H5, H10, H15, H20, H25}

-- what a one-time type fixes
abbrev pub facts_of : OtsType → spec.OtsType
facts_of W1 = spec.LMOTS_SHA256_N32_W1
facts_of W2 = spec.LMOTS_SHA256_N32_W2
facts_of W4 = spec.LMOTS_SHA256_N32_W4
facts_of W8 = spec.LMOTS_SHA256_N32_W8

-- the height of a tree of a type
abbrev pub tree_height : LmsType → ℕ
tree_height H5 = 5
tree_height H10 = 10
tree_height H15 = 15
tree_height H20 = 20
tree_height H25 = 25

-- what an LMS public key's two types fix
abbrev pub types_of : KeyTypes → rules.TreeType
types_of types = record { height = tree_height types.tree; ots = facts_of types.one_time }

-- the rule that a fault names
abbrev pub rule_of : HssFault → rules.Rule
rule_of Length = rules.Length
rule_of Levels = rules.Levels
rule_of Scheme = rules.Scheme
rule_of LeafNumber = rules.LeafNumber
rule_of Root = rules.Root

-- the rule that an answer names, or none
abbrev pub broken_rule : {T : Type 0} → Result T HssFault → Option rules.Rule
broken_rule (Ok _) = None
broken_rule (Err fault) = Some (rule_of fault)
