use Rattle.std.proofs.Common.{◌+◌, ◌*◌, ◌∙◌, drop, length, length-take, length-drop, ap, refl, arith}
use Rattle.sz_lms.specs.Rules.{ots_length}
use Rattle.sz_lms.specs.View.{types_of}
use Rattle.sz_lms.proofs.Roots.{values-own}
use Rattle.sz_lms.proofs.level.Level.root.Goals as goal

pub key_of_digest-key-requires : goal.key_of_digest-key-requires
key_of_digest-key-requires c =
    let level = c.args.self.now in
    let bytes = level.bytes.now in
    let size = length-take (32 * (types_of level.types).ots.chains) (drop 36 (drop 4 bytes)) in
    omega (arith, level.in_order.whole, ap length c.values.ensures, size, length-drop 36 (drop 4 bytes), length-drop 4 bytes)

pub returns : goal.returns
returns c =
    let level = c.args.self.now in
    let type = types_of level.types in
    let bytes = level.bytes.now in
    c.climb.ensures
    ∙ rw (
      c.path.ensures,
      c.height.ensures,
      values-own type.height (drop (8 + ots_length type.ots) bytes),
      c.leaf_node-leaf.ensures,
      c.key_of_digest-key.ensures,
      c.values.ensures,
      values-own type.ots.chains (drop 36 (drop 4 bytes)),
      c.leaf_number-q.ensures.value,
      c.id-id.ensures,
      c.leaves.ensures,
    ) refl
