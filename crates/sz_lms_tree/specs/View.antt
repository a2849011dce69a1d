-- What the crate's own types stand for in the definitions.
use Rattle.sz_lms_tree.specs.declared.secrets.Secret.{Secret}
use Rattle.sz_lms_tree.specs.Tree.{TreeSecret}

abbrev pub tree_secret : Secret → TreeSecret
tree_secret secret = record { seed = secret.seed; id = secret.id; height = secret.height; width = secret.width }
