-- What the crate's own types stand for in the definitions.
use Rattle.std.specs.Prelude.{List, map}
use Rattle.sz_hss.specs.Key.{Shape}
use Rattle.sz_hss.specs.Stored.{StoredKey as Record}
use Rattle.sz_hss.specs.declared.level.Level.{Level}
use Rattle.sz_hss.specs.declared.stored.StoredKey.{StoredKey}

abbrev pub shape_of : Level → Shape
shape_of level = record { height = level.height; width = level.width }

abbrev pub shapes_of : List Level → List Shape
shapes_of levels = map shape_of levels

abbrev pub record_of : StoredKey → Record
record_of stored = record { key = stored.key; next = stored.next; end = stored.end }
