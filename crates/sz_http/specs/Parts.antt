-- The parts of a whole head.
use Rattle.std.specs.Prelude.{◌≡◌, ℕ, List, [], map, take}
use Rattle.httparse.specs.Grammar.{LineEnd, Field, ReadsSection, RequestHead, ReadsRequest, ResponseHead, ReadsResponse, status_code}
use Rattle.httparse.specs.Spans.{name_and_value, header_bytes}
use Rattle.sz_http.specs.declared.kind.Kind.{Kind}
use Rattle.sz_http.specs.declared.kind.Kind.TheVariants.{Request, Reply, Trailer}
use Rattle.sz_http.specs.declared.head.Fields.{Fields}
use Rattle.sz_http.specs.declared.head.Head.{Head}

-- a head by its parts: a reply has no method and no target, a request has status 0, a trailer has fields alone
pub record Parts : Type 0 where
  pub method : List ℕ
  pub target : List ℕ
  pub status : ℕ
  pub minor : ℕ
  pub fields : List (List ℕ × List ℕ)

abbrev pub request_parts : RequestHead → Parts
request_parts head = record {
  method = head.method;
  target = head.target;
  status = 0;
  minor = head.minor;
  fields = map name_and_value head.fields;
}

abbrev pub reply_parts : ResponseHead → Parts
reply_parts head = record {
  method = [];
  target = [];
  status = status_code head;
  minor = head.minor;
  fields = map name_and_value head.fields;
}

abbrev pub trailer_parts : List Field → Parts
trailer_parts fields = record {
  method = [];
  target = [];
  status = 0;
  minor = 0;
  fields = map name_and_value fields;
}

-- the text is a head of this kind that has these parts: a value is without the white space around it
abbrev pub HasParts : Kind → List ℕ → Parts → Type 0
HasParts Request text parts = (head : RequestHead) × ReadsRequest text head [] × (parts ≡ request_parts head)
HasParts Reply text parts = (head : ResponseHead) × ReadsResponse text head [] × (parts ≡ reply_parts head)
HasParts Trailer text parts =
    (fields : List Field) × (last : LineEnd) × ReadsSection text fields last [] × (parts ≡ trailer_parts fields)

-- the names and the values of the fields, which the first count spans cover
abbrev pub fields_of : Fields → List (List ℕ × List ℕ)
fields_of fields = map (header_bytes fields.bytes.now) (take fields.count fields.spans)

-- what a head stands for
abbrev pub parts_of : Head → Parts
parts_of head = record {
  method = head.method.now;
  target = head.target.now;
  status = head.status;
  minor = head.minor;
  fields = fields_of head.fields;
}
