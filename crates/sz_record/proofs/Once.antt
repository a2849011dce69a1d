-- Spellings that are equal are those of one value.
use Rattle.std.proofs.Common.{◌≡◌, ℕ, ℤ, ◌==◌, ◌<◌, ◌≤◌, ◌^◌, Bool, true, false, if◌then◌else◌, List, [], ◌∷◌, length, drop, Option, Some, None, IfSome, refl, sym, ap, subst, ◌∙◌, arith}
use Rattle.std.proofs.lemmas.Bool.{eqb-true}
use Rattle.std.proofs.lemmas.Int.{to_z-of_z}
use Rattle.std.proofs.Math.Facts.{Fits-of_z}
use Rattle.std.proofs.lemmas.List.Elements.{All-head, All-tail}
use Rattle.std.proofs.lemmas.Nat.{from_be_bytes-to_be_bytes_8}
use Rattle.std.specs.Prelude.{FitsSigned}
use Rattle.std.specs.Int.{w64, to_be_bytes, from_be_bytes, cast_unsigned, cast_signed as to_z}
use Rattle.std.specs.List.{All, flat_map}
use Rattle.sz_base.specs.Identity.{IsWhole}
use Rattle.sz_base.specs.Serial.{IsSerial}
use Rattle.sz_base.specs.declared.evidence.Evidence.{Evidence}
use Rattle.sz_base.specs.declared.identity.Identity.{Identity}
use Rattle.sz_base.specs.declared.moment.Moment.{Moment}
use Rattle.sz_base.specs.declared.moment.Seconds.{Seconds}
use Rattle.sz_artifacts.specs.declared.conveyed.onboarding.Handling.{Handling}
use Rattle.sz_artifacts.specs.declared.conveyed.onboarding.Handling.TheVariants.{Merge, Replace}
use Rattle.sz_record.specs.Field.{longest}
use Rattle.sz_record.specs.Spelling.{old_version, optional_bytes, text_bytes, long_bytes, anchors_bytes, identity_bytes, time_bytes, nonce_bytes, moment_bytes, evidence_bytes, image_bytes, handling_number, committed_bytes, device_bytes, record_bytes}
use Rattle.sz_record.specs.Stored.{IsStorableMoment, IsStorableEvidence, IsStorableImage, IsStorableCommitted, IsStorable, IsWithin, IsStored, HasMomentWidths, HasImageWidths, HasWidths}
use Rattle.sz_record.specs.declared.device.Committed.{Committed}
use Rattle.sz_record.specs.declared.device.Device.{Device}
use Rattle.sz_record.specs.declared.device.Image.{Image}
use Rattle.sz_record.proofs.Told.{same_front, told_long, told_text, told_bytes, told_alone, tells_8, tells_64}
use Rattle.sz_record.proofs.Parts.{told_serial, told_anchors, told_identity, told_moment, told_evidence, told_optional_long, told_optional_image, told_optional_committed, told_time, told_nonce, handling_small}

text_once : (a b : List ℕ) → text_bytes a ≡ text_bytes b → a ≡ b
unfolding text_bytes
text_once a b is = ap (λ (s : List ℕ). drop 2 s) is

long_once : (a b : List ℕ) → long_bytes a ≡ long_bytes b → a ≡ b
unfolding long_bytes
long_once a b is = ap (λ (s : List ℕ). drop 4 s) is

optional_once : {T : Type 0} (spelled : T → List ℕ) (a b : Option T)
    → ((v w : T) → a ≡ Some v → b ≡ Some w → spelled v ≡ spelled w → v ≡ w)
    → optional_bytes spelled a ≡ optional_bytes spelled b → a ≡ b
unfolding optional_bytes
optional_once spelled None None once is = refl
optional_once spelled None (Some w) once is = absurd (cc is)
optional_once spelled (Some v) None once is = absurd (cc is)
optional_once spelled (Some v) (Some w) once is =
    ap (λ x. Some x) (once v w refl refl (ap (λ (s : List ℕ). drop 1 s) is))

optional_long_once : (a b : Option (List ℕ)) → optional_bytes long_bytes a ≡ optional_bytes long_bytes b → a ≡ b
optional_long_once a b is = optional_once long_bytes a b (λ v w _ _ same. long_once v w same) is

each_once : (xs ys : List (List ℕ)) → length xs ≡ length ys → All (λ item. length item ≤ 65536) xs
    → All (λ item. length item ≤ 65536) ys → flat_map long_bytes xs ≡ flat_map long_bytes ys → xs ≡ ys
each_once [] [] size short shorter is = refl
each_once [] (b ∷ ys) size short shorter is = absurd (omega arith)
each_once (a ∷ xs) [] size short shorter is = absurd (omega arith)
each_once (a ∷ xs) (b ∷ ys) size short shorter is =
    let P : List ℕ → Type 0 = λ i. length i ≤ 65536 in
    let front = same_front (told_long 65536 a (All-head P a xs short) (omega arith))
    (told_long 65536 b (All-head P b ys shorter) (omega arith)) is in
    let rest = each_once xs ys (omega arith) (All-tail P a xs short) (All-tail P b ys shorter) front.1 in
    ap (λ x. x ∷ xs) (long_once a b front.0) ∙ ap (λ s. b ∷ s) rest

anchors_once : (a b : List (List ℕ)) → All (λ item. length item ≤ 65536) a → All (λ item. length item ≤ 65536) b
    → anchors_bytes a ≡ anchors_bytes b → a ≡ b
unfolding anchors_bytes
anchors_once a b short shorter is =
    let size : length a ≡ length b = cc is in
    each_once a b size short shorter (ap (λ (s : List ℕ). drop 1 s) is)

identity_once : (a b : Identity) → IsWhole a → IsWhole b → IsSerial a.serial → IsSerial b.serial → identity_bytes a ≡ identity_bytes b
    → a ≡ b
unfolding identity_bytes
identity_once a b p q r s is =
    let one = same_front (told_serial a.serial r) (told_serial b.serial s) is in
    let two = same_front (told_text 0 256 a.os_name (omega arith) p.os_name (omega arith))
    (told_text 0 256 b.os_name (omega arith) q.os_name (omega arith)) one.1 in
    let three = same_front (told_text 0 256 a.os_version (omega arith) p.os_version (omega arith))
    (told_text 0 256 b.os_version (omega arith) q.os_version (omega arith)) two.1 in
    let four = same_front (told_anchors a.anchors p.some p.most p.anchors)
    (told_anchors b.anchors q.some q.most q.anchors) three.1 in
    let make = λ (s : List ℕ) (n : List ℕ) (v : List ℕ) (c : List (List ℕ)).
    let made : Identity = record { serial = s; anchors = c; os_name = n; os_version = v } in made in
    ap (λ x. make x a.os_name a.os_version a.anchors) (text_once a.serial b.serial one.0)
    ∙ ap (λ x. make b.serial x a.os_version a.anchors) (text_once a.os_name b.os_name two.0)
    ∙ ap (λ x. make b.serial b.os_name x a.anchors) (text_once a.os_version b.os_version three.0)
    ∙ ap (λ x. make b.serial b.os_name b.os_version x)
    (anchors_once a.anchors b.anchors p.anchors q.anchors four.0)

time_once : (a b : ℤ) → FitsSigned w64 a → FitsSigned w64 b → time_bytes a ≡ time_bytes b → a ≡ b
unfolding time_bytes
time_once a b p q is =
    let x : cast_unsigned w64 a ≡ cast_unsigned w64 b =
    sym (from_be_bytes-to_be_bytes_8 (cast_unsigned w64 a) (Fits-of_z p).fits)
    ∙ ap (λ s. from_be_bytes w64 s) is
    ∙ from_be_bytes-to_be_bytes_8 (cast_unsigned w64 b) (Fits-of_z q).fits in
    sym (to_z-of_z w64 a p) ∙ ap (λ n. to_z w64 n) x ∙ to_z-of_z w64 b q

nonce_once : (version : ℕ) (a b : Option (List ℕ)) → (version ≡ old_version → a ≡ None) → (version ≡ old_version → b ≡ None)
    → nonce_bytes version a ≡ nonce_bytes version b → a ≡ b
unfolding nonce_bytes
nonce_once version a b p q is = by_version (version == old_version) (λ e. eqb-true version old_version e) is
  where
    by_version : (test : Bool) → (test ≡ true → version ≡ old_version)
        → (if test then [] else optional_bytes (λ drawn. drawn) a) ≡ (if test then [] else optional_bytes (λ drawn. drawn) b)
        → a ≡ b
    by_version true old same = p (old refl) ∙ sym (q (old refl))
    by_version false old same = optional_once (λ drawn. drawn) a b (λ v w _ _ e. e) same

moment_once : (version : ℕ) (a b : Moment) → IsStorableMoment version a → IsStorableMoment version b → HasMomentWidths a
    → HasMomentWidths b → moment_bytes version a ≡ moment_bytes version b → a ≡ b
unfolding moment_bytes
moment_once version a b p q r s is =
    let one = same_front (told_time a) (told_time b) is in
    let two = same_front (told_nonce version a.nonce r.nonce) (told_nonce version b.nonce s.nonce) one.1 in
    let make = λ (t : ℤ) (n : Option (List ℕ)).
    let time : Seconds = record { 0 = t } in
    let made : Moment = record { time = time; nonce = n } in made in
    ap (λ x. make x a.nonce) (time_once a.time.0 b.time.0 r.time s.time one.0)
    ∙ ap (λ x. make b.time.0 x) (nonce_once version a.nonce b.nonce p q two.0)

evidence_once : (a b : Evidence) → IsStorableEvidence a → IsStorableEvidence b → evidence_bytes a ≡ evidence_bytes b → a ≡ b
unfolding evidence_bytes
evidence_once a b p q is =
    let one = same_front (told_long longest a.ci p.ci (omega arith)) (told_long longest b.ci q.ci (omega arith)) is in
    let two = same_front (told_optional_long a.oc p.oc) (told_optional_long b.oc q.oc) one.1 in
    let three = same_front (told_optional_long a.ov p.ov) (told_optional_long b.ov q.ov) two.1 in
    let make = λ (c : List ℕ) (o : Option (List ℕ)) (v : Option (List ℕ)).
    let made : Evidence = record { ci = c; oc = o; ov = v } in made in
    ap (λ x. make x a.oc a.ov) (long_once a.ci b.ci one.0)
    ∙ ap (λ x. make b.ci x a.ov) (optional_long_once a.oc b.oc two.0)
    ∙ ap (λ x. make b.ci b.oc x) (optional_long_once a.ov b.ov three.0)

number_once : (a b : ℕ) → a < 2 ^ 64 → b < 2 ^ 64 → to_be_bytes w64 a ≡ to_be_bytes w64 b → a ≡ b
number_once a b p q is =
    sym (from_be_bytes-to_be_bytes_8 a p) ∙ ap (λ s. from_be_bytes w64 s) is ∙ from_be_bytes-to_be_bytes_8 b q

image_once : (space version : ℕ) (a b : Image) → IsStorableImage version a → IsStorableImage version b → IsWithin space a
    → IsWithin space b → HasImageWidths a → HasImageWidths b → image_bytes version a ≡ image_bytes version b → a ≡ b
unfolding image_bytes
image_once space version a b p q in_a in_b r s is =
    let one = same_front (told_alone {low = 0} {most = 1} (tells_8 a.area) (omega arith) in_a.area)
    (told_alone {low = 0} {most = 1} (tells_8 b.area) (omega arith) in_b.area) is in
    let two = same_front (told_alone {low = 0} {most = space} (tells_64 a.size r.size) (omega arith) in_a.size)
    (told_alone {low = 0} {most = space} (tells_64 b.size s.size) (omega arith) in_b.size) one.1 in
    let three = same_front (told_bytes 32 a.hash r.hash) (told_bytes 32 b.hash s.hash) two.1 in
    let four = same_front (told_moment version a.when r.when) (told_moment version b.when s.when) three.1 in
    let five = same_front (told_evidence a.evidence p.evidence) (told_evidence b.evidence q.evidence) four.1 in
    let area : a.area ≡ b.area = cc (one.0) in
    let make = λ (n : ℕ) (k : ℕ) (h : List ℕ) (w : Moment) (e : Evidence).
    let made : Image = record { area = n; size = k; hash = h; when = w; evidence = e } in made in
    ap (λ x. make x a.size a.hash a.when a.evidence) area
    ∙ ap (λ x. make b.area x a.hash a.when a.evidence) (number_once a.size b.size r.size s.size two.0)
    ∙ ap (λ x. make b.area b.size x a.when a.evidence) three.0
    ∙ ap (λ x. make b.area b.size b.hash x a.evidence)
    (moment_once version a.when b.when p.when q.when r.when s.when four.0)
    ∙ ap (λ x. make b.area b.size b.hash b.when x) (evidence_once a.evidence b.evidence p.evidence q.evidence five.0)

handling_once : (a b : Handling) → handling_number a ≡ handling_number b → a ≡ b
handling_once Merge Merge is = refl
handling_once Merge Replace is = absurd (omega arith)
handling_once Replace Merge is = absurd (omega arith)
handling_once Replace Replace is = refl

committed_once : (version : ℕ) (a b : Committed) → IsStorableCommitted version a → IsStorableCommitted version b
    → HasMomentWidths a.when → HasMomentWidths b.when → committed_bytes version a ≡ committed_bytes version b → a ≡ b
unfolding committed_bytes
committed_once version a b p q r s is =
    let one = same_front (told_moment version a.when r) (told_moment version b.when s) is in
    let two = same_front (told_evidence a.evidence p.evidence) (told_evidence b.evidence q.evidence) one.1 in
    let three = same_front
    (told_alone {low = 0} {most = 1} (tells_8 (handling_number a.handling)) (omega arith) (handling_small a.handling))
    (told_alone {low = 0} {most = 1} (tells_8 (handling_number b.handling)) (omega arith) (handling_small b.handling)) two.1 in
    let four = same_front (told_optional_long a.pre p.pre) (told_optional_long b.pre q.pre) three.1 in
    let five = same_front (told_optional_long a.configuration p.configuration)
    (told_optional_long b.configuration q.configuration) four.1 in
    let six = same_front (told_optional_long a.post p.post) (told_optional_long b.post q.post) five.1 in
    let handled : handling_number a.handling ≡ handling_number b.handling = cc (three.0) in
    let make = λ (w : Moment) (e : Evidence) (h : Handling) (x : Option (List ℕ)) (y : Option (List ℕ)) (z : Option (List ℕ)).
    let made : Committed =
    record { when = w; evidence = e; handling = h; pre = x; configuration = y; post = z } in made in
    ap (λ x. make x a.evidence a.handling a.pre a.configuration a.post)
    (moment_once version a.when b.when p.when q.when r s one.0)
    ∙ ap (λ x. make b.when x a.handling a.pre a.configuration a.post)
    (evidence_once a.evidence b.evidence p.evidence q.evidence two.0)
    ∙ ap (λ x. make b.when b.evidence x a.pre a.configuration a.post) (handling_once a.handling b.handling handled)
    ∙ ap (λ x. make b.when b.evidence b.handling x a.configuration a.post) (optional_long_once a.pre b.pre four.0)
    ∙ ap (λ x. make b.when b.evidence b.handling b.pre x a.post)
    (optional_long_once a.configuration b.configuration five.0)
    ∙ ap (λ x. make b.when b.evidence b.handling b.pre b.configuration x) (optional_long_once a.post b.post six.0)

some_at : {T : Type 0} (P : T → Type 0) (value : Option T) (v : T) → value ≡ Some v → IfSome value P → P v
some_at {T} P value v is h = let F : Option T → Type 0 = λ o. IfSome o P in subst F is h

device_once : (space version : ℕ) (a b : Device) → IsStorable version a → IsStorable version b
    → IfSome a.image (IsWithin space) → IfSome b.image (IsWithin space) → HasWidths a → HasWidths b
    → device_bytes version a ≡ device_bytes version b → a ≡ b
unfolding device_bytes
device_once space version a b p q in_a in_b r s is =
    let one = same_front (told_identity a.identity p.identity r.serial) (told_identity b.identity q.identity s.serial) is in
    let two = same_front (told_text 0 65535 a.running_name (omega arith) p.running_name (omega arith))
    (told_text 0 65535 b.running_name (omega arith) q.running_name (omega arith)) one.1 in
    let three = same_front (told_text 0 65535 a.running_version (omega arith) p.running_version (omega arith))
    (told_text 0 65535 b.running_version (omega arith) q.running_version (omega arith)) two.1 in
    let four = same_front
    (told_optional_image space version a.image p.image in_a r.image)
    (told_optional_image space version b.image q.image in_b s.image) three.1 in
    let five = same_front (told_optional_committed version a.onboarded p.onboarded r.onboarded)
    (told_optional_committed version b.onboarded q.onboarded s.onboarded) four.1 in
    let image : a.image ≡ b.image = optional_once (image_bytes version) a.image b.image
    (λ v w x y same. image_once space version v w (some_at _ a.image v x p.image) (some_at _ b.image w y q.image)
    (some_at _ a.image v x in_a) (some_at _ b.image w y in_b)
    (some_at _ a.image v x r.image) (some_at _ b.image w y s.image) same) four.0 in
    let onboarded : a.onboarded ≡ b.onboarded = optional_once (committed_bytes version) a.onboarded b.onboarded
    (λ v w x y same. committed_once version v w (some_at _ a.onboarded v x p.onboarded)
    (some_at _ b.onboarded w y q.onboarded) (some_at _ a.onboarded v x r.onboarded)
    (some_at _ b.onboarded w y s.onboarded) same) five.0 in
    let make = λ (i : Identity) (n : List ℕ) (v : List ℕ) (m : Option Image) (c : Option Committed).
    let made : Device =
    record { identity = i; running_name = n; running_version = v; image = m; onboarded = c } in made in
    ap (λ x. make x a.running_name a.running_version a.image a.onboarded)
    (identity_once a.identity b.identity p.identity q.identity r.serial s.serial one.0)
    ∙ ap (λ x. make b.identity x a.running_version a.image a.onboarded)
    (text_once a.running_name b.running_name two.0)
    ∙ ap (λ x. make b.identity b.running_name x a.image a.onboarded)
    (text_once a.running_version b.running_version three.0)
    ∙ ap (λ x. make b.identity b.running_name b.running_version x a.onboarded) image
    ∙ ap (λ x. make b.identity b.running_name b.running_version b.image x) onboarded

-- a payload is the stored form of one device
pub one_device : (space : ℕ) (payload : List ℕ) (a b : Device) → IsStored space payload a → IsStored space payload b
    → a ≡ b
unfolding record_bytes
one_device space payload a b p q =
    let is : record_bytes p.version a ≡ record_bytes q.version b = sym p.spelled ∙ q.spelled in
    let version : p.version ≡ q.version = cc is in
    let rest : device_bytes p.version a ≡ device_bytes q.version b = ap (λ (l : List ℕ). drop 1 l) is in
    let Q : ℕ → Type 0 = λ v. IsStorable v b in
    let R : ℕ → Type 0 = λ v. device_bytes p.version a ≡ device_bytes v b in
    device_once space p.version a b p.storable (subst Q (sym version) q.storable) p.within q.within p.widths q.widths
    (subst R (sym version) rest)
