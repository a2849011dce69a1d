-- Options of DHCPv4 told apart, and those that end too early.
use Rattle.std.proofs.Common.{◌≡◌, ◌≢◌, ℕ, ◌-◌, ◌<◌, inl, inr, List, [], ◌∷◌, ◌++◌, length, replicate, refl, sym, ap, ◌∙◌, arith, length-append}
use Rattle.std.proofs.lemmas.List.{length-replicate, nil_from_length}
use Rattle.sz_dhcp.specs.DhcpOption.{DhcpOption}
use Rattle.sz_dhcp.specs.Message4.{FieldBreaksAt, IsEnd, IsField, IsOption, IsSized, IsUnfinishedValue}
use Rattle.sz_dhcp.specs.Spelled.{BeginsWith, EndsInside}
use Rattle.sz_dhcp.specs.Codes4.{end_code, pad_code}
use Rattle.sz_dhcp.proofs.Entries.{same_fronts}
use Rattle.sz_dhcp.proofs.Joined.{AreApart, one_break, same_reading, Stops, Stops-inside}

same_option : (a b : DhcpOption) → a.code ≡ b.code → a.value ≡ b.value → a ≡ b
same_option a b codes values =
    let with_code : ℕ → DhcpOption = λ code. record { code = code; value = a.value } in
    let with_value : List ℕ → DhcpOption = λ value. record { code = b.code; value = value } in
    ap with_code codes ∙ ap with_value values

-- the first byte of an option is its code
first_byte : (option : DhcpOption) (own : List ℕ) → IsOption option own → (tail : List ℕ) × (own ≡ option.code ∷ tail)
first_byte option own (inl pad) = ([], rw pad.code pad.spelled)
first_byte option own (inr sized) = (length option.value ∷ option.value, sized.spelled)

-- no option begins like the end
no_end : (option : DhcpOption) (own : List ℕ) → IsOption option own → option.code ≢ end_code
no_end option own (inl pad) e = let zero = sym pad.code ∙ e in cc zero
no_end option own (inr sized) e = sized.no_end e

same_code : (item other : DhcpOption) (own others rest more : List ℕ) → IsOption item own → IsOption other others
    → own ++ rest ≡ others ++ more → item.code ≡ other.code
same_code item other own others rest more spelled second e =
    let a = first_byte item own spelled in
    let b = first_byte other others second in
    let whole = rw (a.1, b.1) at e in
    cc whole

both_sized : (item other : DhcpOption) (own others rest more : List ℕ) → IsSized item own → IsSized other others
    → own ++ rest ≡ others ++ more → (item ≡ other) × (own ≡ others)
both_sized item other own others rest more a b e =
    let whole = rw (a.spelled, b.spelled) at e in
    let codes : item.code ≡ other.code = cc whole in
    let sizes : length item.value ≡ length other.value = cc whole in
    let tails : item.value ++ rest ≡ other.value ++ more = cc whole in
    let values = same_fronts item.value other.value rest more sizes tails in
    let same = same_option item other codes values.0 in
    (same, a.spelled ∙ ap (λ (o : DhcpOption). o.code ∷ length o.value ∷ o.value) same ∙ sym b.spelled)

pub options_apart : AreApart IsOption
options_apart item other own others rest more (inl a) (inl b) e =
    (same_option item other (a.code ∙ sym b.code) (a.empty ∙ sym b.empty), a.spelled ∙ sym b.spelled)
options_apart item other own others rest more (inl a) (inr b) e =
    absurd (b.no_pad (sym (same_code item other own others rest more (inl a) (inr b) e) ∙ a.code))
options_apart item other own others rest more (inr a) (inl b) e =
    absurd (a.no_pad (same_code item other own others rest more (inr a) (inl b) e ∙ b.code))
options_apart item other own others rest more (inr a) (inr b) e = both_sized item other own others rest more a b e

-- no option begins at the end of a field
pub options_stop : (bytes : List ℕ) → IsEnd bytes → Stops IsOption bytes
options_stop bytes (inl none) item own after spelled e =
    let first = first_byte item own spelled in
    let whole = rw (none, first.1) at e in
    cc whole
options_stop bytes (inr ends) item own after spelled e =
    let first = first_byte item own spelled in
    let whole = rw (ends.1, first.1) at e in
    let code : item.code ≡ end_code = cc whole in
    no_end item own spelled code

-- a field has one list of options
pub one_field : (bytes : List ℕ) (options others : List DhcpOption) → IsField bytes options → IsField bytes others → options ≡ others
one_field bytes options others a b =
    (same_reading IsOption options_apart options others a.front b.front a.rest b.rest a.spelled b.spelled
    (options_stop a.rest a.ends) (options_stop b.rest b.ends) (sym a.joined ∙ b.joined)).0

-- and one place where it breaks
pub one_field_break : (bytes : List ℕ) (place other : ℕ) → FieldBreaksAt bytes place → FieldBreaksAt bytes other → place ≡ other
one_field_break = one_break IsOption options_apart

no_end_inside : (rest : List ℕ) → IsEnd rest → EndsInside IsOption rest → ⊥
no_end_inside rest (inl none) inside = inside.begun none
no_end_inside rest (inr ends) inside =
    let cut = inside.unfinished in
    let first = first_byte cut.item (rest ++ cut.missing) cut.whole in
    let whole : end_code ∷ (ends.0 ++ cut.missing) ≡ cut.item.code ∷ first.0 =
    ap (λ (xs : List ℕ). xs ++ cut.missing) (sym ends.1) ∙ first.1 in
    let code : cut.item.code ≡ end_code = cc whole in
    no_end cut.item (rest ++ cut.missing) cut.whole code

-- and never both
pub field_or_break : (bytes : List ℕ) (options : List DhcpOption) (place : ℕ) → IsField bytes options → FieldBreaksAt bytes place → ⊥
field_or_break bytes options place a b =
    let same = same_reading IsOption options_apart options b.items a.front b.front a.rest b.rest a.spelled b.spelled
    (options_stop a.rest a.ends) (Stops-inside IsOption options_apart b.rest b.inside) (sym a.joined ∙ b.joined) in
    let ends = rw same.2 at a.ends in
    no_end_inside b.rest ends b.inside

-- ---- what stands at the front

pub begins_pad : (bytes rest : List ℕ) → bytes ≡ pad_code ∷ rest → BeginsWith IsOption bytes (record { code = pad_code; value = [] }) rest
begins_pad bytes rest front = record {
  own = pad_code ∷ [];
  spelled = inl (record { code = refl; empty = refl; spelled = refl });
  joined = front;
}

pub begins_sized : (bytes value rest : List ℕ) (code : ℕ) → code ≢ pad_code → code ≢ end_code
    → bytes ≡ code ∷ length value ∷ value ++ rest → BeginsWith IsOption bytes (record { code = code; value = value }) rest
begins_sized bytes value rest code no_pad no_end front = record {
  own = code ∷ length value ∷ value;
  spelled = inr (record { no_pad = no_pad; no_end = no_end; spelled = refl });
  joined = front;
}

-- an option ends too early where its value does
pub inside_of : (bytes after : List ℕ) (code : ℕ) → code ≢ pad_code → code ≢ end_code → bytes ≡ code ∷ after → IsUnfinishedValue after
    → EndsInside IsOption bytes
inside_of bytes after code no_pad no_end front cut = record {
  begun = λ none. let e = sym none ∙ front in cc e;
  unfinished = record {
    item = record { code = code; value = cut.value };
    missing = cut.missing;
    whole = inr (record {
      no_pad = no_pad;
      no_end = no_end;
      spelled = ap (λ (xs : List ℕ). xs ++ cut.missing) front ∙ ap (λ (xs : List ℕ). code ∷ xs) cut.whole;
    });
    not_all = cut.not_all;
  };
}

pub unfinished_at_none : (bytes : List ℕ) → length bytes ≡ 0 → IsUnfinishedValue bytes
unfinished_at_none bytes none =
    let empty = nil_from_length bytes none in
    record { value = []; missing = 0 ∷ []; whole = ap (λ (xs : List ℕ). xs ++ (0 ∷ [])) empty; not_all = λ e. cc e }

pub unfinished_at_more : (bytes after : List ℕ) (size : ℕ) → bytes ≡ size ∷ after → length after < size → IsUnfinishedValue bytes
unfinished_at_more bytes after size front short =
    let filled : length (after ++ replicate (size - length after) 0) ≡ size =
    omega (arith, length-append after (replicate (size - length after) 0), length-replicate {A = ℕ} (size - length after) 0) in
    record {
      value = after ++ replicate (size - length after) 0;
      missing = replicate (size - length after) 0;
      whole = ap (λ (xs : List ℕ). xs ++ replicate (size - length after) 0) front
          ∙ ap (λ (n : ℕ). n ∷ (after ++ replicate (size - length after) 0)) (sym filled);
      not_all = λ e. absurd (omega (arith, ap length e, length-replicate {A = ℕ} (size - length after) 0));
    }
