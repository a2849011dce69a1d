-- Whether the fields of a head ask to close the connection (RFC 9112 section 9.6).
use Rattle.std.specs.Prelude.{ℕ, List, codes}
use Rattle.sz_http.specs.Framing.{FieldList, AnyIs}

abbrev pub connection : List ℕ
connection = codes "Connection"

-- the whole value of a field `Connection` is `close`, in either case
abbrev pub AsksToClose : FieldList → Type 0
AsksToClose fields = AnyIs connection (codes "close") fields
