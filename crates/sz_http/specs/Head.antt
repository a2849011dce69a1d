-- Heads in the words of httparse (RFC 9112 sections 2 to 5), within two limits.
use Rattle.std.specs.Prelude.{ℕ, ◌+◌, ◌≤◌, ◌⊎◌, List, [], ◌++◌, length}
use Rattle.httparse.specs.Grammar.{LineEnd, Field, ReadsSection, RequestHead, ReadsRequest, ResponseHead, ReadsResponse, EndsInTarget}
use Rattle.sz_http.specs.declared.kind.Kind.{Kind}
use Rattle.sz_http.specs.declared.kind.Kind.TheVariants.{Request, Reply, Trailer}

abbrev pub most_fields : ℕ
most_fields = 64

abbrev pub most_bytes : ℕ
most_bytes = 65536

-- the text is a head of this kind, of at most 64 fields, and then rest
abbrev pub Reads : Kind → List ℕ → List ℕ → Type 0
Reads Request text rest = (head : RequestHead) × ReadsRequest text head rest × (length head.fields ≤ most_fields)
Reads Reply text rest = (head : ResponseHead) × ReadsResponse text head rest × (length head.fields ≤ most_fields)
Reads Trailer text rest =
    (fields : List Field) × (last : LineEnd) × ReadsSection text fields last rest × (length fields ≤ most_fields)

-- the text is a head of this kind, of at most 64 fields and 65,536 bytes, and then rest
pub record BeginsWithHead (kind : Kind) (text rest : List ℕ) : Type 0 where
  pub reads : Reads kind text rest
  pub fits : length text ≤ most_bytes + length rest

-- the text is a head, with nothing after it
abbrev pub IsHead : Kind → List ℕ → Type 0
IsHead kind text = BeginsWithHead kind text []

-- no front of the text is a head
abbrev pub HasNoHead : Kind → List ℕ → Type 0
HasNoHead kind text = (rest : List ℕ) → ¬ (BeginsWithHead kind text rest)

-- no front of the text is a head, and no bytes can follow that make one
abbrev pub NeverHasHead : Kind → List ℕ → Type 0
NeverHasHead kind text = (more : List ℕ) → HasNoHead kind (text ++ more)

-- some bytes can follow that make the text a head
abbrev pub MayBecomeHead : Kind → List ℕ → Type 0
MayBecomeHead kind text = (more : List ℕ) × IsHead kind (text ++ more)

-- the text ends inside the target of a request, which is judged as UTF-8 only at its end
abbrev pub EndsInsideTarget : Kind → List ℕ → Type 0
EndsInsideTarget Request text = EndsInTarget text
EndsInsideTarget Reply text = ⊥
EndsInsideTarget Trailer text = ⊥

-- no front of the text is a head yet, and within 65,536 bytes one can come of it as far as it can be judged
pub record IsUnfinished (kind : Kind) (text : List ℕ) : Type 0 where
  pub none : HasNoHead kind text
  pub some : MayBecomeHead kind text ⊎ EndsInsideTarget kind text
  pub few : length text ≤ most_bytes
