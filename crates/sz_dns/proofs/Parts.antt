-- What stands at the front of bytes is one question, one record and one service, or has one fault.
use Rattle.std.proofs.Common.{◌≡◌, ℕ, ◌+◌, Bool, true, false, inl, inr, List, [], ◌∷◌, ◌++◌, length, refl, sym, ap, ◌∙◌, append_assoc, arith, length-append}
use Rattle.std.specs.Bool.{MatchBool}
use Rattle.sz_dns.specs.Part.{place_of_kind}
use Rattle.sz_dns.specs.Record.{after_owner, AreFields, EndsInsideFields, number_at, in_fields, in_name, in_owner, IsQuestion, IsQuestionFault, IsRecord, IsRecordFault, Record, two_bytes}
use Rattle.sz_dns.specs.Service.{candidates_of, counts, GivesCandidates, GivesService, in_target, IsService, IsServiceFault, too_short}
use Rattle.sz_dns.specs.declared.fault.DnsKind.{DnsKind}
use Rattle.sz_dns.specs.declared.service.Candidate.{Candidate}
use Rattle.sz_dns.specs.declared.service.Service.{Service}
use Rattle.sz_dns.proofs.Names.{name_or_fault, one_name, one_name_fault}
use Rattle.sz_dns.proofs.Splits.{same_fronts, two_bytes_apart}

-- ---- questions

pub one_question : (message bytes rest more : List ℕ) → IsQuestion message bytes rest → IsQuestion message bytes more → rest ≡ more
one_question message bytes rest more a b =
    let same = one_name message bytes (a.fields ++ rest) (b.fields ++ more) a.labels b.labels a.name b.name in
    (same_fronts a.fields b.fields rest more (a.size ∙ sym b.size) same.1).1

pub question_or_fault : (message bytes rest : List ℕ) (kind : DnsKind) → IsQuestion message bytes rest
    → IsQuestionFault message bytes kind → ⊥
question_or_fault message bytes rest kind a (in_name b) = name_or_fault message bytes (a.fields ++ rest) a.labels kind a.name b
question_or_fault message bytes rest kind a (in_fields {labels = labels} {after = after} b short) =
    let same = one_name message bytes (a.fields ++ rest) after a.labels labels a.name b in
    let size = a.size in
    omega (arith, ap length same.1, length-append a.fields rest)

pub one_question_fault : (message bytes : List ℕ) (kind other : DnsKind) → IsQuestionFault message bytes kind
    → IsQuestionFault message bytes other → kind ≡ other
one_question_fault message bytes kind other (in_name a) (in_name b) = one_name_fault message bytes kind other a b
one_question_fault message bytes kind other (in_name a) (in_fields {labels = labels} {after = after} b short) =
    absurd (name_or_fault message bytes after labels kind b a)
one_question_fault message bytes kind other (in_fields {labels = labels} {after = after} a short) (in_name b) =
    absurd (name_or_fault message bytes after labels other a b)
one_question_fault message bytes kind other (in_fields a short) (in_fields b second) = refl

-- ---- records

-- the fields of a record and what follows them, one after another
pub in_order : (kind class : ℕ) (contents own rest : List ℕ) (are : AreFields kind class contents own)
    → own ++ rest ≡ two_bytes kind ++ (two_bytes class ++ (are.time_to_live ++ (two_bytes (length contents) ++ (contents ++ rest))))
in_order kind class contents own rest are = rw are.spelled (simp append_assoc)

pub record SameFields (kind other class second : ℕ) (contents others rest more : List ℕ) : Type 0 where
  pub kinds : kind ≡ other
  pub classes : class ≡ second
  pub contents_are : contents ≡ others
  pub rests : rest ≡ more

pub same_fields : (kind other class second : ℕ) (contents others own front rest more : List ℕ) → AreFields kind class contents own
    → AreFields other second others front → own ++ rest ≡ front ++ more
    → SameFields kind other class second contents others rest more
same_fields kind other class second contents others own front rest more a b e =
    let whole = sym (in_order kind class contents own rest a) ∙ e ∙ in_order other second others front more b in
    let kinds = two_bytes_apart kind other _ _ whole in
    let classes = two_bytes_apart class second _ _ kinds.1 in
    let times = same_fronts a.time_to_live b.time_to_live _ _ (a.size ∙ sym b.size) classes.1 in
    let sizes = two_bytes_apart (length contents) (length others) _ _ times.1 in
    let contents_are = same_fronts contents others rest more sizes.0 sizes.1 in
    record { kinds = kinds.0; classes = classes.0; contents_are = contents_are.0; rests = contents_are.1 }

-- the length of the data stands behind four fields
size_at : (kind class size : ℕ) (time tail : List ℕ) → length time ≡ 4
    → number_at (two_bytes kind ++ (two_bytes class ++ (time ++ (two_bytes size ++ tail)))) 8 ≡ size
size_at kind class size [] tail e = cc e
size_at kind class size (a ∷ []) tail e = cc e
size_at kind class size (a ∷ b ∷ []) tail e = cc e
size_at kind class size (a ∷ b ∷ d ∷ []) tail e = cc e
size_at kind class size (a ∷ b ∷ d ∷ f ∷ []) tail e = omega arith
size_at kind class size (a ∷ b ∷ d ∷ f ∷ g ∷ time) tail e = absurd (omega (arith, e))

fields_or_end : (kind class : ℕ) (contents own rest after : List ℕ) → AreFields kind class contents own → own ++ rest ≡ after
    → EndsInsideFields after → ⊥
fields_or_end kind class contents own rest after a e ends =
    let whole = sym e ∙ in_order kind class contents own rest a in
    let size : number_at after 8 ≡ length contents =
    ap (λ (xs : List ℕ). number_at xs 8) whole ∙ size_at kind class (length contents) a.time_to_live (contents ++ rest) a.size in
    let time = a.size in
    let long : length after ≡ 10 + length contents + length rest =
    ap length whole
    ∙ omega (arith, length-append a.time_to_live (two_bytes (length contents) ++ (contents ++ rest)), length-append contents rest) in
    elim ends [
      | inl short ↦ omega arith
      | inr short ↦ let below = short.1 in omega arith
    ]

same_record : (a b : Record) → a.owner ≡ b.owner → a.kind ≡ b.kind → a.class ≡ b.class → a.contents ≡ b.contents → a ≡ b
same_record a b owners kinds classes contents =
    let with_owner : List (List ℕ) → Record = λ x. record { owner = x; kind = a.kind; class = a.class; contents = a.contents } in
    let with_kind : ℕ → Record = λ x. record { owner = b.owner; kind = x; class = a.class; contents = a.contents } in
    let with_class : ℕ → Record = λ x. record { owner = b.owner; kind = b.kind; class = x; contents = a.contents } in
    let with_contents : List ℕ → Record = λ x. record { owner = b.owner; kind = b.kind; class = b.class; contents = x } in
    ap with_owner owners ∙ ap with_kind kinds ∙ ap with_class classes ∙ ap with_contents contents

pub one_record : (message bytes rest more : List ℕ) (item other : Record) → IsRecord message bytes item rest
    → IsRecord message bytes other more → (item ≡ other) × (rest ≡ more)
one_record message bytes rest more item other a b =
    let names = one_name message bytes (a.fields ++ rest) (b.fields ++ more) item.owner other.owner a.owner b.owner in
    let same = same_fields item.kind other.kind item.class other.class item.contents other.contents a.fields b.fields rest more a.are b.are names.1 in
    (same_record item other names.0 same.kinds same.classes same.contents_are, same.rests)

pub record_or_fault : (message bytes rest : List ℕ) (item : Record) (kind : DnsKind) → IsRecord message bytes item rest
    → IsRecordFault message bytes kind → ⊥
record_or_fault message bytes rest item kind a (in_owner b) =
    name_or_fault message bytes (a.fields ++ rest) item.owner kind a.owner b
record_or_fault message bytes rest item kind a (after_owner {labels = labels} {after = after} b ends) =
    let names = one_name message bytes (a.fields ++ rest) after item.owner labels a.owner b in
    fields_or_end item.kind item.class item.contents a.fields rest after a.are names.1 ends

pub one_record_fault : (message bytes : List ℕ) (kind other : DnsKind) → IsRecordFault message bytes kind
    → IsRecordFault message bytes other → kind ≡ other
one_record_fault message bytes kind other (in_owner a) (in_owner b) = one_name_fault message bytes kind other a b
one_record_fault message bytes kind other (in_owner a) (after_owner {labels = labels} {after = after} b ends) =
    absurd (name_or_fault message bytes after labels kind b a)
one_record_fault message bytes kind other (after_owner {labels = labels} {after = after} a ends) (in_owner b) =
    absurd (name_or_fault message bytes after labels other a b)
one_record_fault message bytes kind other (after_owner a ends) (after_owner b second) = refl

-- ---- services

service_in_order : (message contents : List ℕ) (service : Service) (is : IsService message contents service)
    → contents ≡ two_bytes service.priority ++ (two_bytes is.weight ++ (two_bytes service.port ++ is.name))
service_in_order message contents service is = is.spelled ∙ simp append_assoc

same_service : (a b : Service) → a.priority ≡ b.priority → a.port ≡ b.port → a.target ≡ b.target → a ≡ b
same_service a b priorities ports targets =
    let with_priority : ℕ → Service = λ x. record { priority = x; port = a.port; target = a.target } in
    let with_port : ℕ → Service = λ x. record { priority = b.priority; port = x; target = a.target } in
    let with_target : List (List ℕ) → Service = λ x. record { priority = b.priority; port = b.port; target = x } in
    ap with_priority priorities ∙ ap with_port ports ∙ ap with_target targets

pub one_service : (message contents : List ℕ) (a b : Service) → IsService message contents a → IsService message contents b → a ≡ b
one_service message contents a b ha hb =
    let whole = sym (service_in_order message contents a ha) ∙ service_in_order message contents b hb in
    let priorities = two_bytes_apart a.priority b.priority _ _ whole in
    let weights = two_bytes_apart ha.weight hb.weight _ _ priorities.1 in
    let ports = two_bytes_apart a.port b.port _ _ weights.1 in
    let name = rw ports.1 at ha.target in
    let targets = one_name message hb.name ha.rest hb.rest a.target b.target name hb.target in
    same_service a b priorities.0 ports.0 targets.0

-- the six bytes before the name
name_behind : (message contents fields name : List ℕ) (service : Service) (is : IsService message contents service)
    → contents ≡ fields ++ name → length fields ≡ 6 → is.name ≡ name
name_behind message contents fields name service is e size =
    let whole : (two_bytes service.priority ++ two_bytes is.weight ++ two_bytes service.port) ++ is.name ≡ fields ++ name = sym is.spelled ∙ e in
    (same_fronts (two_bytes service.priority ++ two_bytes is.weight ++ two_bytes service.port) fields is.name name (sym size) whole).1

pub service_or_fault : (message contents : List ℕ) (service : Service) (start inside : ℕ) (kind : DnsKind) (place : ℕ)
    → IsService message contents service → IsServiceFault message contents start inside kind place → ⊥
service_or_fault message contents service start inside kind place a (too_short short) =
    omega (arith, ap length (service_in_order message contents service a))
service_or_fault message contents service start inside kind place a (in_target fields name e size wrong) =
    let same = name_behind message contents fields name service a e size in
    let target = rw same at a.target in
    name_or_fault message name a.rest service.target kind target wrong

pub one_service_fault : (message contents : List ℕ) (start inside : ℕ) (kind other : DnsKind) (place at : ℕ)
    → IsServiceFault message contents start inside kind place → IsServiceFault message contents start inside other at
    → (kind ≡ other) × (place ≡ at)
one_service_fault message contents start inside kind other place at (too_short a) (too_short b) = (refl, refl)
one_service_fault message contents start inside kind other place at (too_short a) (in_target fields name e size b) =
    absurd (omega (arith, ap length e, length-append fields name))
one_service_fault message contents start inside kind other place at (in_target fields name e size a) (too_short b) =
    absurd (omega (arith, ap length e, length-append fields name))
one_service_fault message contents start inside kind other place at (in_target fields name e size a)
    (in_target second behind f long b) =
    let names = same_fronts fields second name behind (size ∙ sym long) (sym e ∙ f) in
    let wrong = rw names.1 at a in
    let kinds = one_name_fault message behind kind other wrong b in
    (kinds, ap (λ (k : DnsKind). place_of_kind k start (inside + 6)) kinds)

-- a record gives one list of candidates
one_where : (counted : Bool) (message : List ℕ) (item : Record) (own others : List Candidate)
    → MatchBool counted (GivesService message item own) (own ≡ []) → MatchBool counted (GivesService message item others) (others ≡ [])
    → own ≡ others
one_where true message item own others a b =
    let same = one_service message item.contents a.service b.service a.is b.is in
    a.gives ∙ ap candidates_of same ∙ sym b.gives
one_where false message item own others a b = a ∙ sym b

pub one_of_record : (message name : List ℕ) (item : Record) (own others : List Candidate) → GivesCandidates message name item own
    → GivesCandidates message name item others → own ≡ others
one_of_record message name item own others a b = one_where (counts name item) message item own others a b

-- and a record that gives some is no service at fault
pub given_or_fault : (message name : List ℕ) (item : Record) (own : List Candidate) (start inside : ℕ) (kind : DnsKind) (place : ℕ)
    → GivesCandidates message name item own → counts name item ≡ true
    → IsServiceFault message item.contents start inside kind place → ⊥
given_or_fault message name item own start inside kind place gives counted fault =
    let there = rw counted at gives in
    service_or_fault message item.contents there.service start inside kind place there.is fault
