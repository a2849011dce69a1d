-- What has come before the end of a target, after one more byte.
use Rattle.std.proofs.Common.{◌≡◌, ◌≢◌, ℕ, true, List, [], ◌∷◌, ◌++◌, refl, sym, ap, ◌∙◌, subst, arith, append_assoc, inl, inr}
use Rattle.std.proofs.lemmas.List.{flat_map_more, length_push}
use Rattle.std.proofs.lemmas.List.Elements.{All-nil, All-cons, All-push}
use Rattle.httparse.specs.Grammar.{crlf, lf, print_end, print_blank, is_token_byte, is_uri_byte}
use Rattle.sz_http.specs.declared.kind.Kind.{Kind}
use Rattle.sz_http.specs.declared.kind.Kind.TheVariants.{Request, Reply, Trailer}
use Rattle.sz_http.specs.declared.head_place.Place.{Place}
use Rattle.sz_http.specs.declared.head_place.Place.TheVariants.{EmptyLines, EmptyLineEnd, Method, Target}
use Rattle.sz_http.specs.HeadPlace.{Came, IsDueOr}

pub came_due : (kind : Kind) (bytes : List ℕ) (byte due : ℕ) (next place : Place) → IsDueOr byte due next place
    → (byte ≡ due → Came kind bytes next) → Came kind bytes place
came_due kind bytes byte due next place (inl x) came = subst (λ (p : Place). Came kind bytes p) (sym x.1) (came x.0)
came_due kind bytes byte due next place (inr e) came = subst (λ (p : Place). Came kind bytes p) (sym e) tt

-- one byte more behind bytes that are known
more_known : {bytes known : List ℕ} {byte last : ℕ} → bytes ≡ known → byte ≡ last → bytes ++ byte ∷ [] ≡ known ++ last ∷ []
more_known {known} {byte} e same = ap (λ (t : List ℕ). t ++ byte ∷ []) e ∙ ap (λ (v : ℕ). known ++ v ∷ []) same

pub came_cr : (kind : Kind) (bytes : List ℕ) (byte : ℕ) → byte ≡ 13 → Came kind bytes EmptyLines
    → Came kind (bytes ++ byte ∷ []) EmptyLineEnd
came_cr kind bytes byte is x = (x.0, (x.1.0, more_known x.1.1 is))

pub came_lf : (kind : Kind) (bytes : List ℕ) (byte : ℕ) → byte ≡ 10 → Came kind bytes EmptyLines
    → Came kind (bytes ++ byte ∷ []) EmptyLines
came_lf kind bytes byte is x = (x.0, (x.1.0 ++ lf ∷ [], more_known x.1.1 is ∙ flat_map_more print_end [] x.1.0 lf))

pub came_crlf : (kind : Kind) (bytes : List ℕ) (byte : ℕ) → Came kind bytes EmptyLineEnd → byte ≡ 10
    → Came kind (bytes ++ byte ∷ []) EmptyLines
came_crlf kind bytes byte x is = (
  x.0,
  (
    x.1.0 ++ crlf ∷ [],
    more_known x.1.1 is ∙ append_assoc (print_blank x.1.0) (13 ∷ []) (10 ∷ []) ∙ flat_map_more print_end [] x.1.0 crlf,
  ),
)

is_request : (kind : Kind) → kind ≢ Trailer → kind ≢ Reply → kind ≡ Request
is_request Request a b = refl
is_request Reply a b = absurd (b refl)
is_request Trailer a b = absurd (a refl)

pub came_method : (kind : Kind) (bytes : List ℕ) (byte : ℕ) → kind ≢ Reply → is_token_byte byte ≡ true
    → Came kind bytes EmptyLines → Came kind (bytes ++ byte ∷ []) Method
came_method kind bytes byte other passes x = (
  is_request kind x.0 other,
  (
    x.1.0,
    byte ∷ [],
    (omega arith, All-cons (λ v. is_token_byte v ≡ true) byte [] passes (All-nil (λ v. is_token_byte v ≡ true))),
    ap (λ (t : List ℕ). t ++ byte ∷ []) x.1.1,
  ),
)

pub came_more_method : (kind : Kind) (bytes : List ℕ) (byte : ℕ) → is_token_byte byte ≡ true → Came kind bytes Method
    → Came kind (bytes ++ byte ∷ []) Method
came_more_method kind bytes byte passes x =
    let ends = x.1.0 in
    let method = x.1.1 in
    let token = x.1.2 in (
      x.0,
      (
        ends,
        method ++ byte ∷ [],
        (omega (arith, length_push method byte), All-push (λ v. is_token_byte v ≡ true) method byte token.1 passes),
        ap (λ (t : List ℕ). t ++ byte ∷ []) x.1.3 ∙ append_assoc (print_blank ends) method (byte ∷ []),
      ),
    )

pub came_target : (kind : Kind) (bytes : List ℕ) (byte start : ℕ) → byte ≡ 32 → Came kind bytes Method
    → Came kind (bytes ++ byte ∷ []) (Target start)
came_target kind bytes byte start is x = (
  x.0,
  (
    x.1.0,
    x.1.1,
    [],
    x.1.2,
    All-nil (λ v. is_uri_byte v ≡ true),
    more_known x.1.3 is,
  ),
)

pub came_more_target : (kind : Kind) (bytes : List ℕ) (byte start : ℕ) → is_uri_byte byte ≡ true → Came kind bytes (Target start)
    → Came kind (bytes ++ byte ∷ []) (Target start)
came_more_target kind bytes byte start passes x =
    let blank = x.1.0 in
    let method = x.1.1 in
    let target = x.1.2 in (
      x.0,
      (
        blank,
        method,
        target ++ byte ∷ [],
        x.1.3,
        All-push (λ v. is_uri_byte v ≡ true) target byte x.1.4 passes,
        ap (λ (t : List ℕ). t ++ byte ∷ []) x.1.5
            ∙ append_assoc (print_blank blank ++ method) (32 ∷ target) (byte ∷ []),
      ),
    )
