-- Options of DHCPv6 told apart, and those that end too early.
use Rattle.std.proofs.Common.{◌≡◌, ℕ, ◌+◌, ◌*◌, ◌<◌, List, [], ◌∷◌, ◌++◌, length, refl, sym, ap, ◌∙◌, arith}
use Rattle.std.proofs.lemmas.List.{nil_from_length}
use Rattle.sz_dhcp.specs.DhcpOption.{DhcpOption}
use Rattle.sz_dhcp.specs.Message6.{IsOption}
use Rattle.sz_dhcp.specs.Spelled.{BeginsWith, EndsInside, IsUnfinished, two_bytes}
use Rattle.sz_dhcp.specs.UriList.{IsEntry}
use Rattle.sz_dhcp.proofs.Entries.{entries_apart, two_bytes-of, two_bytes_apart}
use Rattle.sz_dhcp.proofs.Joined.{AreApart, Stops}

-- an option with its code apart
in_parts : (option : DhcpOption) (own rest : List ℕ) → IsOption option own
    → own ++ rest ≡ two_bytes option.code ++ ((two_bytes (length option.value) ++ option.value) ++ rest)
in_parts option own rest spelled = ap (λ (xs : List ℕ). xs ++ rest) spelled

same_option : (a b : DhcpOption) → a.code ≡ b.code → a.value ≡ b.value → a ≡ b
same_option a b codes values =
    let with_code : ℕ → DhcpOption = λ code. record { code = code; value = a.value } in
    let with_value : List ℕ → DhcpOption = λ value. record { code = b.code; value = value } in
    ap with_code codes ∙ ap with_value values

pub options_apart : AreApart IsOption
options_apart item other own others rest more spelled second e =
    let whole = sym (in_parts item own rest spelled) ∙ e ∙ in_parts other others more second in
    let first = two_bytes_apart item.code other.code _ _ whole in
    let values = entries_apart item.value other.value _ _ rest more refl refl first.1 in
    let same = same_option item other first.0 values.0 in
    (same, spelled ∙ ap (λ (o : DhcpOption). two_bytes o.code ++ two_bytes (length o.value) ++ o.value) same ∙ sym second)

-- no option begins where nothing is left
pub options_stop : Stops IsOption []
options_stop item own after spelled e =
    let whole = rw spelled at e in
    cc whole

-- an option at the front, from its code and the entry behind that
pub begins_of : (bytes value rest after : List ℕ) (high low : ℕ) → low < 256 → bytes ≡ high ∷ low ∷ after
    → after ≡ (two_bytes (length value) ++ value) ++ rest
    → BeginsWith IsOption bytes (record { code = high * 256 + low; value = value }) rest
begins_of bytes value rest after high low small front behind = record {
  own = two_bytes (high * 256 + low) ++ two_bytes (length value) ++ value;
  spelled = refl;
  joined = front ∙ ap (λ (xs : List ℕ). high ∷ low ∷ xs) behind
      ∙ ap (λ (xs : List ℕ). xs ++ ((two_bytes (length value) ++ value) ++ rest)) (sym (two_bytes-of high low small));
}

-- an option ends too early where its entry does
pub inside_of : (bytes after more : List ℕ) (high low : ℕ) → low < 256 → bytes ≡ high ∷ after → after ≡ low ∷ more
    → IsUnfinished IsEntry more → EndsInside IsOption bytes
inside_of bytes after more high low small first second cut =
    let front : bytes ≡ high ∷ low ∷ more = first ∙ ap (λ (xs : List ℕ). high ∷ xs) second in
    record {
      begun = λ none. let e = sym none ∙ front in cc e;
      unfinished = record {
        item = record { code = high * 256 + low; value = cut.item };
        missing = cut.missing;
        whole = ap (λ (xs : List ℕ). xs ++ cut.missing) front ∙ ap (λ (xs : List ℕ). high ∷ low ∷ xs) cut.whole
            ∙ ap (λ (xs : List ℕ). xs ++ (two_bytes (length cut.item) ++ cut.item)) (sym (two_bytes-of high low small));
        not_all = cut.not_all;
      };
    }

-- or where half its code is there
pub inside_of_one : (bytes after : List ℕ) (high : ℕ) → bytes ≡ high ∷ after → length after ≡ 0 → EndsInside IsOption bytes
inside_of_one bytes after high first none =
    let front : bytes ≡ high ∷ [] = first ∙ ap (λ (xs : List ℕ). high ∷ xs) (nil_from_length after none) in
    record {
      begun = λ none. let e = sym none ∙ front in cc e;
      unfinished = record {
        item = record { code = high * 256 + 0; value = [] };
        missing = 0 ∷ 0 ∷ 0 ∷ [];
        whole = ap (λ (xs : List ℕ). xs ++ (0 ∷ 0 ∷ 0 ∷ [])) front
            ∙ ap (λ (xs : List ℕ). xs ++ (0 ∷ 0 ∷ [])) (sym (two_bytes-of high 0 (omega arith)));
        not_all = λ e. cc e;
      };
    }
