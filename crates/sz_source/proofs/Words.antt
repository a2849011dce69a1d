-- The words of sources tell them apart, and a text of a source is one source.
use Rattle.std.proofs.Common.{◌≡◌, ◌≢◌, ℕ, ◌≤◌, false, List, ◌∷◌, ◌++◌, get_or, drop, Result, Ok, Err, refl, sym, ap, ◌∙◌, inl, inr, arith}
use Rattle.std.proofs.Math.Dec.{eqb}
use Rattle.std.proofs.lemmas.Bool.{eq-eqb, false≢true}
use Rattle.std.specs.Prelude.{codes}
use Rattle.sz_base.specs.Reading.{GivesUnlessMemory, ReadsValue}
use Rattle.sz_base.specs.Target.{IsTarget, target_text}
use Rattle.sz_base.specs.declared.fault.BaseFault.{BaseFault}
use Rattle.sz_base.specs.declared.fault.BaseFault.TheVariants.{Form, OutOfMemory}
use Rattle.sz_base.specs.declared.target.Target.{Target}
use Rattle.sz_base.proofs.Numerals.{IsDecimal-decimal}
use Rattle.sz_base.proofs.Splits.{one_target, one_target_text}
use Rattle.sz_source.specs.Source.{HasText, IsAnswerFor, IsDomain, IsPath, IsPathOf, IsSource, IsSplit, source_text}
use Rattle.sz_source.specs.declared.source.Source.{Source}
use Rattle.sz_source.specs.declared.source.Source.TheVariants.{Usb, Dhcp4, Dhcp6, Dns, Server}
use Rattle.sz_source.proofs.Colons.{one_split}

abbrev refusal : (T : Type 0) → BaseFault → Result T BaseFault
refusal T fault = Err fault

-- what a reader of the rest of a word answers, as an answer of sources
abbrev answer_as : {T : Type 0} → (T → Source) → Result T BaseFault → Result Source BaseFault
answer_as make (Ok value) = Ok (make value)
answer_as make (Err fault) = Err fault

-- The rest of a word is read, and the word has no other sources than the rest gives.
pub named : {T : Type 0} → (make : T → Source) (Stands : T → Type 0) (word : List ℕ) (answer : Result T BaseFault)
    → ((source : Source) → IsSource source word → (value : T) × (source ≡ make value) × Stands value)
    → ((value : T) → Stands value → IsSource (make value) word)
    → ReadsValue Stands answer → ReadsValue (λ source. IsSource source word) (answer_as make answer)
named {T} make Stands word (Ok value) only gives reads = record {
  ok = gives value reads.ok;
  refused = (λ e. cc e, λ none. absurd (none (make value) (gives value reads.ok)));
}
named {T} make Stands word (Err fault) only gives reads = record {
  ok = tt;
  refused = (
    λ e source h.
        let same : fault ≡ Form = cc e in
        let value = only source h in
        reads.refused.0 (ap (refusal T) same) value.0 value.2,
    λ none.
        let e : refusal T fault ≡ refusal T Form = reads.refused.1 (λ value h. none (make value) (gives value h)) in
        let same : fault ≡ Form = cc e in
        ap (refusal Source) same,
  );
}

-- ---- what each word leaves

-- a text is not two texts that differ at a place
apart : (place : ℕ) (text a b : List ℕ) → text ≡ a → text ≡ b → eqb (get_or a place 0) (get_or b place 0) ≡ false → ⊥
apart place text a b first second differ =
    let same : get_or a place 0 ≡ get_or b place 0 = ap (λ (xs : List ℕ). get_or xs place 0) (sym first ∙ second) in
    false≢true (sym differ ∙ eq-eqb (get_or a place 0) (get_or b place 0) same)

-- what stands behind a word of so many bytes
behind : (size : ℕ) (text a b : List ℕ) → text ≡ a → text ≡ b → drop size a ≡ drop size b
behind size text a b first second = ap (λ (xs : List ℕ). drop size xs) (sym first ∙ second)

pub only_usb : (word path : List ℕ) → word ≡ codes "usb:" ++ path
    → (source : Source) → IsSource source word → (found : List ℕ) × (source ≡ Usb found) × IsPathOf path found
only_usb word path e (Usb found) h = (found, refl, record { same = behind 4 word _ _ h.0 e; some = h.1 })
only_usb word path e (Dhcp4 found) h = absurd (apart 0 word _ _ e h.0 refl)
only_usb word path e (Dhcp6 found) h = absurd (apart 0 word _ _ e h.0 refl)
only_usb word path e (Dns found domain) h = absurd (apart 0 word _ _ e h.1 refl)
only_usb word path e (Server target) h = absurd (apart 0 word _ _ e h.1 refl)

pub only_dhcp4 : (word path : List ℕ) → word ≡ codes "dhcp4:" ++ path
    → (source : Source) → IsSource source word → (found : List ℕ) × (source ≡ Dhcp4 found) × IsPathOf path found
only_dhcp4 word path e (Usb found) h = absurd (apart 0 word _ _ e h.0 refl)
only_dhcp4 word path e (Dhcp4 found) h = (found, refl, record { same = behind 6 word _ _ h.0 e; some = h.1 })
only_dhcp4 word path e (Dhcp6 found) h = absurd (apart 4 word _ _ e h.0 refl)
only_dhcp4 word path e (Dns found domain) h = absurd (apart 1 word _ _ e h.1 refl)
only_dhcp4 word path e (Server target) h = absurd (apart 0 word _ _ e h.1 refl)

pub only_dhcp6 : (word path : List ℕ) → word ≡ codes "dhcp6:" ++ path
    → (source : Source) → IsSource source word → (found : List ℕ) × (source ≡ Dhcp6 found) × IsPathOf path found
only_dhcp6 word path e (Usb found) h = absurd (apart 0 word _ _ e h.0 refl)
only_dhcp6 word path e (Dhcp4 found) h = absurd (apart 4 word _ _ e h.0 refl)
only_dhcp6 word path e (Dhcp6 found) h = (found, refl, record { same = behind 6 word _ _ h.0 e; some = h.1 })
only_dhcp6 word path e (Dns found domain) h = absurd (apart 1 word _ _ e h.1 refl)
only_dhcp6 word path e (Server target) h = absurd (apart 0 word _ _ e h.1 refl)

-- a path and a domain as a source
abbrev pub dns_of : List ℕ × List ℕ → Source
dns_of parts = Dns parts.0 parts.1

pub only_dns : (word answer : List ℕ) → word ≡ codes "dns:" ++ answer
    → (source : Source) → IsSource source word
    → (parts : List ℕ × List ℕ) × (source ≡ dns_of parts) × IsAnswerFor answer parts.0 parts.1
only_dns word answer e (Usb found) h = absurd (apart 0 word _ _ e h.0 refl)
only_dns word answer e (Dhcp4 found) h = absurd (apart 1 word _ _ e h.0 refl)
only_dns word answer e (Dhcp6 found) h = absurd (apart 1 word _ _ e h.0 refl)
only_dns word answer e (Dns path domain) h =
    let same : h.0 ≡ answer = behind 4 word _ _ h.1 e in
    ((path, domain), refl, rw same at h.2)
only_dns word answer e (Server target) h = absurd (apart 0 word _ _ e h.1 refl)

pub only_server : (word server : List ℕ) → word ≡ codes "server:" ++ server
    → (source : Source) → IsSource source word → (target : Target) × (source ≡ Server target) × IsTarget target server
only_server word server e (Usb found) h = absurd (apart 0 word _ _ e h.0 refl)
only_server word server e (Dhcp4 found) h = absurd (apart 0 word _ _ e h.0 refl)
only_server word server e (Dhcp6 found) h = absurd (apart 0 word _ _ e h.0 refl)
only_server word server e (Dns path domain) h = absurd (apart 0 word _ _ e h.1 refl)
only_server word server e (Server target) h =
    let same : h.0 ≡ server = behind 7 word _ _ h.1 e in
    (target, refl, rw same at h.2)

-- ---- what is read behind each word

abbrev usb_of : List ℕ → Source
usb_of path = Usb path

abbrev dhcp4_of : List ℕ → Source
dhcp4_of path = Dhcp4 path

abbrev dhcp6_of : List ℕ → Source
dhcp6_of path = Dhcp6 path

abbrev server_of : Target → Source
server_of target = Server target

pub reads_usb : (word path : List ℕ) (answer : Result (List ℕ) BaseFault) → word ≡ codes "usb:" ++ path
    → ReadsValue (IsPathOf path) answer → ReadsValue (λ source. IsSource source word) (answer_as usb_of answer)
reads_usb word path answer e reads =
    named usb_of (IsPathOf path) word answer (only_usb word path e)
    (λ found h. (e ∙ ap (λ (xs : List ℕ). codes "usb:" ++ xs) (sym h.same), h.some)) reads

pub reads_dhcp4 : (word path : List ℕ) (answer : Result (List ℕ) BaseFault) → word ≡ codes "dhcp4:" ++ path
    → ReadsValue (IsPathOf path) answer → ReadsValue (λ source. IsSource source word) (answer_as dhcp4_of answer)
reads_dhcp4 word path answer e reads =
    named dhcp4_of (IsPathOf path) word answer (only_dhcp4 word path e)
    (λ found h. (e ∙ ap (λ (xs : List ℕ). codes "dhcp4:" ++ xs) (sym h.same), h.some)) reads

pub reads_dhcp6 : (word path : List ℕ) (answer : Result (List ℕ) BaseFault) → word ≡ codes "dhcp6:" ++ path
    → ReadsValue (IsPathOf path) answer → ReadsValue (λ source. IsSource source word) (answer_as dhcp6_of answer)
reads_dhcp6 word path answer e reads =
    named dhcp6_of (IsPathOf path) word answer (only_dhcp6 word path e)
    (λ found h. (e ∙ ap (λ (xs : List ℕ). codes "dhcp6:" ++ xs) (sym h.same), h.some)) reads

pub reads_dns : (word text : List ℕ) (answer : Result (List ℕ × List ℕ) BaseFault) → word ≡ codes "dns:" ++ text
    → ReadsValue (λ parts. IsAnswerFor text parts.0 parts.1) answer
    → ReadsValue (λ source. IsSource source word) (answer_as dns_of answer)
reads_dns word text answer e reads =
    named dns_of (λ parts. IsAnswerFor text parts.0 parts.1) word answer (only_dns word text e)
    (λ parts h. (text, e, h)) reads

pub reads_server : (word server : List ℕ) (answer : Result Target BaseFault) → word ≡ codes "server:" ++ server
    → ReadsValue (λ target. IsTarget target server) answer
    → ReadsValue (λ source. IsSource source word) (answer_as server_of answer)
reads_server word server answer e reads =
    named server_of (λ target. IsTarget target server) word answer (only_server word server e)
    (λ target h. (server, e, h)) reads

-- ---- a text of a source is one source, and a source has one text

-- two splits of an answer at its last colon are one
one_answer : (text : List ℕ) (a b : List ℕ × List ℕ) → IsAnswerFor text a.0 a.1 → IsAnswerFor text b.0 b.1
    → dns_of a ≡ dns_of b
one_answer text (path, domain) (other, given) ha hb =
    let splits : path ++ 58 ∷ domain ≡ other ++ 58 ∷ given = sym ha.split.split ∙ hb.split.split in
    let parts = one_split path domain other given ha.split.last hb.split.last splits in
    ap (λ (xs : List ℕ). dns_of (xs, domain)) parts.0 ∙ ap (λ (xs : List ℕ). dns_of (other, xs)) parts.1

pub one_source : (text : List ℕ) (a b : Source) → IsSource a text → IsSource b text → a ≡ b
one_source text (Usb path) b ha hb =
    let only = only_usb text path ha.0 b hb in
    ap usb_of (sym only.2.same) ∙ sym only.1
one_source text (Dhcp4 path) b ha hb =
    let only = only_dhcp4 text path ha.0 b hb in
    ap dhcp4_of (sym only.2.same) ∙ sym only.1
one_source text (Dhcp6 path) b ha hb =
    let only = only_dhcp6 text path ha.0 b hb in
    ap dhcp6_of (sym only.2.same) ∙ sym only.1
one_source text (Dns path domain) b ha hb =
    let only = only_dns text ha.0 ha.1 b hb in
    one_answer ha.0 (path, domain) only.0 ha.2 only.2 ∙ sym only.1
one_source text (Server target) b ha hb =
    let only = only_server text ha.0 ha.1 b hb in
    ap server_of (one_target ha.0 target only.0 ha.2 only.2) ∙ sym only.1

pub one_text : (source : Source) (text : List ℕ) → IsSource source text → text ≡ source_text source
one_text (Usb path) text h = h.0
one_text (Dhcp4 path) text h = h.0
one_text (Dhcp6 path) text h = h.0
one_text (Dns path domain) text h = h.1 ∙ ap (λ (xs : List ℕ). codes "dns:" ++ xs) h.2.split.split
one_text (Server target) text h =
    h.1 ∙ ap (λ (xs : List ℕ). codes "server:" ++ xs) (one_target_text target h.0 h.2)

pub spelled : (source : Source) → HasText source → IsSource source (source_text source)
spelled (Usb path) h = (refl, h)
spelled (Dhcp4 path) h = (refl, h)
spelled (Dhcp6 path) h = (refl, h)
spelled (Dns path domain) h = (
  path ++ 58 ∷ domain,
  refl,
  record { split = record { split = refl; last = h.2 }; some_path = h.0; under = h.1 },
)
spelled (Server target) h = (
  target_text target,
  refl,
  record {
    digits = _;
    split = refl;
    host = h.0;
    port = record {
      decimal = IsDecimal-decimal target.port (let high : target.port ≤ 65535 = h.2 in omega arith);
      low = h.1;
      high = h.2;
    };
  },
)

abbrev ok_source : Source → Result Source BaseFault
ok_source source = Ok source

pub source_again : (source : Source) (text : List ℕ) (answer : Result Source BaseFault) → IsSource source text
    → ReadsValue (λ read. IsSource read text) answer → GivesUnlessMemory answer source
source_again source text (Ok read) h reads = inl (ap ok_source (one_source text read source reads.ok h))
source_again source text (Err Form) h reads = absurd (reads.refused.0 refl source h)
source_again source text (Err OutOfMemory) h reads = inr refl

-- a split with an empty part is no answer
pub no_answer : (text path domain : List ℕ) → IsSplit text path domain → (IsPath path → IsDomain domain → ⊥)
    → (other given : List ℕ) → IsAnswerFor text other given → ⊥
no_answer text path domain split empty other given h =
    let parts = one_split path domain other given split.last h.split.last (sym split.split ∙ h.split.split) in
    empty (rw parts.0 h.some_path) (rw parts.1 h.under)

-- where the text is that of a value, want of memory is no claim
pub memory_ran_out : {T : Type 0} → (Stands : T → Type 0) (value : T) → Stands value
    → ReadsValue Stands (refusal T OutOfMemory)
memory_ran_out Stands value is = record {
  ok = tt;
  refused = (λ e. cc e, λ none. absurd (none value is));
}

-- a value that the text is that of is read
pub is_read : {T : Type 0} → (Stands : T → Type 0) (value : T) → Stands value → ReadsValue Stands (Ok value)
is_read Stands value is = record {
  ok = is;
  refused = (λ e. cc e, λ none. absurd (none value is));
}
