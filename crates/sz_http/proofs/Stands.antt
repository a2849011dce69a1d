-- A place after one more byte, and what the bytes are at a place.
use Rattle.std.proofs.Common.{◌≡◌, ◌≢◌, ◌↔◌, ℕ, ◌+◌, ◌<◌, ◌≤◌, ◌⊎◌, true, false, List, [], ◌∷◌, ◌++◌, length, refl, sym, ap, subst, arith, append_assoc, append-nil, length-append, inl, inr}
use Rattle.std.proofs.lemmas.Bool.{cases_Bool}
use Rattle.sz_http.specs.declared.kind.Kind.{Kind}
use Rattle.sz_http.specs.declared.kind.Kind.TheVariants.{Request, Reply, Trailer}
use Rattle.sz_http.specs.declared.head_place.Place.{Place}
use Rattle.sz_http.specs.declared.head_place.Place.TheVariants.{EmptyLines, EmptyLineEnd, Method, Target, Version, RequestLineEnd, StatusSpace, Code, Value, LineFeed, Line, Name, LastLineFeed, Whole, Nowhere}
use Rattle.sz_http.specs.Head.{Reads, BeginsWithHead, IsHead, HasNoHead, NeverHasHead, MayBecomeHead, EndsInsideTarget, IsUnfinished, most_bytes, most_fields}
use Rattle.sz_http.specs.HeadPlace.{Left, Leads, Came, Stands, least_left, is_open}
use Rattle.sz_http.proofs.Starts.{request_starts, reply_starts, trailer_starts}
use Rattle.sz_http.proofs.Shortest.{needs_left, has_left, is_in_target, least_open}

-- ---- the first place

starts_with : (kind : Kind) (place : Place)
    → ((text rest : List ℕ) → Reads kind text rest ↔ Left kind [] place text rest)
    → least_left kind place ≤ most_bytes → Came kind [] place → Stands kind [] place
starts_with kind place starts few came = record {
  left = λ more rest. (
    λ x. ((starts more rest).0 x.reads, x.fits),
    λ y. record { reads = (starts more rest).1 y.0; fits = y.1 },
  );
  fits = λ live. omega arith;
  came = came;
}

pub request_stands : Stands Request [] EmptyLines
request_stands = starts_with Request EmptyLines request_starts (omega arith) (λ e. cc, ([], refl))

pub reply_stands : Stands Reply [] EmptyLines
reply_stands = starts_with Reply EmptyLines reply_starts (omega arith) (λ e. cc, ([], refl))

pub trailer_stands : Stands Trailer [] (Line most_fields)
trailer_stands = starts_with Trailer (Line most_fields) trailer_starts (omega arith) tt

-- ---- one more byte

-- what is left after one more byte
left_after : (kind : Kind) (bytes : List ℕ) (place next : Place) (byte : ℕ) → Stands kind bytes place
    → Leads kind (bytes ++ byte ∷ []) (Left kind bytes place) byte next → (more rest : List ℕ)
    → BeginsWithHead kind ((bytes ++ byte ∷ []) ++ more) rest
    ↔ (Left kind (bytes ++ byte ∷ []) next more rest × (length ((bytes ++ byte ∷ []) ++ more) ≤ most_bytes + length rest))
left_after kind bytes place next byte stands leads more rest =
    let e = append_assoc bytes (byte ∷ []) more in
    let a = stands.left (byte ∷ more) rest in
    let b = leads.same more rest in (
      λ x. let l = a.0 (subst (λ (t : List ℕ). BeginsWithHead kind t rest) e x) in (
        b.0 l.0,
        subst (λ (t : List ℕ). length t ≤ most_bytes + length rest) (sym e) l.1,
      ),
      λ y. subst (λ (t : List ℕ). BeginsWithHead kind t rest) (sym e)
          (a.1 (b.1 y.0, subst (λ (t : List ℕ). length t ≤ most_bytes + length rest) e y.1)),
    )

pub stands_after : (kind : Kind) (bytes : List ℕ) (place next : Place) (byte : ℕ) → Stands kind bytes place
    → Leads kind (bytes ++ byte ∷ []) (Left kind bytes place) byte next → Came kind (bytes ++ byte ∷ []) next
    → length bytes + 1 + least_left kind next ≤ most_bytes → Stands kind (bytes ++ byte ∷ []) next
stands_after kind bytes place next byte stands leads came few = record {
  left = left_after kind bytes place next byte stands leads;
  fits = λ live. omega (arith, length-append bytes (byte ∷ []));
  came = came;
}

-- where the head could not end soon enough, none can come
pub too_long : (kind : Kind) (bytes : List ℕ) (place next : Place) (byte : ℕ) → Stands kind bytes place
    → Leads kind (bytes ++ byte ∷ []) (Left kind bytes place) byte next
    → most_bytes < length bytes + 1 + least_left kind next → Stands kind (bytes ++ byte ∷ []) Nowhere
too_long kind bytes place next byte stands leads many = record {
  left = λ more rest. (
    λ x. let l = (left_after kind bytes place next byte stands leads more rest).0 x in
        absurd (omega (
          arith,
          l.1,
          needs_left kind (bytes ++ byte ∷ []) next more rest l.0,
          length-append (bytes ++ byte ∷ []) more,
          length-append bytes (byte ∷ []),
        )),
    λ y. absurd y.0,
  );
  fits = λ live. absurd (live refl);
  came = tt;
}

-- where none can come, none can come of more bytes
pub nowhere_more : (kind : Kind) (bytes more : List ℕ) → Stands kind bytes Nowhere → Stands kind (bytes ++ more) Nowhere
nowhere_more kind bytes more stands = record {
  left = λ further rest. (
    λ x. absurd ((stands.left (more ++ further) rest).0
        (subst (λ (t : List ℕ). BeginsWithHead kind t rest) (append_assoc bytes more further) x)).0,
    λ y. absurd y.0,
  );
  fits = λ live. absurd (live refl);
  came = tt;
}

-- ---- what the bytes are

pub never_nowhere : (kind : Kind) (bytes : List ℕ) → Stands kind bytes Nowhere → NeverHasHead kind bytes
never_nowhere kind bytes stands = λ more rest x. ((stands.left more rest).0 x).0

pub live_whole : (place : Place) → place ≡ Whole → place ≢ Nowhere
live_whole place e n = cc

pub head_whole : (kind : Kind) (bytes : List ℕ) → Stands kind bytes Whole → IsHead kind bytes
head_whole kind bytes stands =
    let few : length bytes + 0 ≤ most_bytes = stands.fits (live_whole Whole refl) in
    subst (λ (t : List ℕ). IsHead kind t) (append-nil bytes)
    ((stands.left [] []).1 (refl, omega (arith, ap length (append-nil bytes))))

-- a text that is its own rest has nothing left in front of it
pub none_open : (kind : Kind) (bytes : List ℕ) (place : Place) → Stands kind bytes place → is_open place ≡ true → HasNoHead kind bytes
none_open kind bytes place stands opened = λ rest x.
    let l = (stands.left [] rest).0 (subst (λ (t : List ℕ). BeginsWithHead kind t rest) (sym (append-nil bytes)) x) in
    omega (arith, needs_left kind bytes place [] rest l.0, least_open kind place opened)

pub live_open : (place : Place) → is_open place ≡ true → place ≢ Nowhere
live_open place opened n = let shut : is_open Nowhere ≡ false = refl in cc

may_become : (kind : Kind) (bytes : List ℕ) (place : Place) → Stands kind bytes place → is_open place ≡ true
    → is_in_target place ≡ false → MayBecomeHead kind bytes
may_become kind bytes place stands opened outside =
    let x = has_left kind bytes place opened outside in
    let few = stands.fits (live_open place opened) in
    (x.0, (stands.left x.0 []).1 (x.2, omega (arith, x.1, length-append bytes x.0)))

in_target : (kind : Kind) (bytes : List ℕ) (place : Place) → Came kind bytes place → is_in_target place ≡ true
    → EndsInsideTarget kind bytes
in_target kind bytes (Target start) came inside = subst (λ (k : Kind). EndsInsideTarget k bytes) (sym came.0) came.1
in_target kind bytes EmptyLines came inside = absurd (cc)
in_target kind bytes EmptyLineEnd came inside = absurd (cc)
in_target kind bytes Method came inside = absurd (cc)
in_target kind bytes (Version count) came inside = absurd (cc)
in_target kind bytes RequestLineEnd came inside = absurd (cc)
in_target kind bytes StatusSpace came inside = absurd (cc)
in_target kind bytes (Code count) came inside = absurd (cc)
in_target kind bytes (Value room) came inside = absurd (cc)
in_target kind bytes (LineFeed room) came inside = absurd (cc)
in_target kind bytes (Line room) came inside = absurd (cc)
in_target kind bytes (Name room) came inside = absurd (cc)
in_target kind bytes LastLineFeed came inside = absurd (cc)
in_target kind bytes Whole came inside = absurd (cc)
in_target kind bytes Nowhere came inside = absurd (cc)

pub unfinished_open : (kind : Kind) (bytes : List ℕ) (place : Place) → Stands kind bytes place → is_open place ≡ true
    → IsUnfinished kind bytes
unfinished_open kind bytes place stands opened = record {
  none = none_open kind bytes place stands opened;
  some = judged (cases_Bool (is_in_target place));
  few = omega (arith, stands.fits (live_open place opened));
}
  where
    judged : (is_in_target place ≡ true) ⊎ (is_in_target place ≡ false) → MayBecomeHead kind bytes ⊎ EndsInsideTarget kind bytes
    judged (inl inside) = inr (in_target kind bytes place stands.came inside)
    judged (inr outside) = inl (may_become kind bytes place stands opened outside)

pub first_stands : (kind : Kind) → (kind ≡ Request) ⊎ (kind ≡ Reply) → Stands kind [] EmptyLines
first_stands kind (inl is) = subst (λ (k : Kind). Stands k [] EmptyLines) (sym is) request_stands
first_stands kind (inr is) = subst (λ (k : Kind). Stands k [] EmptyLines) (sym is) reply_stands

-- ---- places at which no byte can follow

pub closed : (place : Place) → is_open place ≡ false → (place ≡ Whole) ⊎ (place ≡ Nowhere)
closed EmptyLines shut = absurd (cc)
closed EmptyLineEnd shut = absurd (cc)
closed Method shut = absurd (cc)
closed (Target start) shut = absurd (cc)
closed (Version count) shut = absurd (cc)
closed RequestLineEnd shut = absurd (cc)
closed StatusSpace shut = absurd (cc)
closed (Code count) shut = absurd (cc)
closed (Value room) shut = absurd (cc)
closed (LineFeed room) shut = absurd (cc)
closed (Line room) shut = absurd (cc)
closed (Name room) shut = absurd (cc)
closed LastLineFeed shut = absurd (cc)
closed Whole shut = inl refl
closed Nowhere shut = inr refl

pub opened_otherwise : (place : Place) → place ≢ Whole → place ≢ Nowhere → is_open place ≡ true
opened_otherwise place not_whole live = judged (cases_Bool (is_open place))
  where
    either : (place ≡ Whole) ⊎ (place ≡ Nowhere) → ⊥
    either (inl e) = not_whole e
    either (inr e) = live e

    judged : (is_open place ≡ true) ⊎ (is_open place ≡ false) → is_open place ≡ true
    judged (inl e) = e
    judged (inr e) = absurd (either (closed place e))

pub no_head_yet : (kind : Kind) (bytes : List ℕ) (place : Place) → Stands kind bytes place → place ≢ Whole → IsHead kind bytes → ⊥
no_head_yet kind bytes place stands not_whole head = judged (cases_Bool (is_open place))
  where
    either : (place ≡ Whole) ⊎ (place ≡ Nowhere) → ⊥
    either (inl e) = not_whole e
    either (inr e) = never_nowhere kind bytes (subst (λ (p : Place). Stands kind bytes p) e stands) [] []
        (subst (λ (t : List ℕ). BeginsWithHead kind t []) (sym (append-nil bytes)) head)

    judged : (is_open place ≡ true) ⊎ (is_open place ≡ false) → ⊥
    judged (inl e) = none_open kind bytes place stands e [] head
    judged (inr e) = either (closed place e)
