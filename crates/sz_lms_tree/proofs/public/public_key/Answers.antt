use Rattle.std.proofs.Common.{◌≡◌, ◌++◌, ◌∙◌, replicate, refl, rules}
use Rattle.std.specs.Int.{w32, to_be_bytes}
use Rattle.sz_lms_tree.specs.Tree.{ots_code, tree_code}
use Rattle.sz_lms_tree.proofs.Lists.{four_parts}
use Rattle.sz_lms_tree.proofs.public.public_key.Goals as goal

pub returns : goal.returns
returns c =
    let secret = c.args.secret.now in
    let tree = c.copy_from_slice.new.self in
    let one_time = c.copy_from_slice-2.new.self in
    let id = c.copy_from_slice-3.new.self in
    let root = c.copy_from_slice-4.new.self in
    let made =
    four_parts tree one_time id root (replicate 52 0) (search rules) (search rules) (search rules) (search rules) refl in
    let tree_is : tree ≡ to_be_bytes w32 (tree_code secret.height) = search rules in
    let one_time_is : one_time ≡ to_be_bytes w32 (ots_code secret.width) = search rules in
    let id_is : id ≡ secret.id = search rules in
    let root_is : root ≡ c.args.root.now = search rules in
    let parts : tree ++ one_time ++ id ++ root
    ≡ to_be_bytes w32 (tree_code secret.height) ++ to_be_bytes w32 (ots_code secret.width) ++ secret.id ++ c.args.root.now = (cc) in
    made ∙ parts
