-- There is one verdict on bytes, but where they end inside a target, which is judged only at its end.
use Rattle.std.proofs.Common.{◌≡◌, ◌≢◌, ◌⊎◌, ℕ, ◌+◌, ◌<◌, Bool, true, false, List, [], length, refl, sym, ap, ◌∙◌, subst, arith, append-nil, length-append, inl, inr, Result, Ok, Err}
use Rattle.std.proofs.lemmas.Bool.{false≢true}
use Rattle.httparse.specs.Grammar.{ReadsRequest, ReadsResponse, RequestHead, ResponseHead}
use Rattle.httparse.proofs.GrammarLemmas.{ReadsRequest-append, ReadsResponse-append, request_unique, response_unique}
use Rattle.sz_http.specs.Head.{IsUnfinished, HasNoHead, NeverHasHead, MayBecomeHead, EndsInsideTarget}
use Rattle.sz_http.specs.Parts.{Parts, request_parts, reply_parts}
use Rattle.sz_http.specs.declared.framing.Framing.{Framing}
use Rattle.sz_http.specs.declared.framing.Framing.TheVariants.{Length, Chunks, UntilEnd}
use Rattle.sz_http.specs.declared.framing.FramingFault.{FramingFault}
use Rattle.sz_http.specs.Framing.{Frames}
use Rattle.sz_http.proofs.FramedOnce.{frames_once}
use Rattle.sz_http.specs.declared.chunk_fault.ChunkFault.{ChunkFault}
use Rattle.sz_http.specs.ChunkRefusal.{IsRefused as IsRefusedBody}
use Rattle.sz_http.proofs.ChunkLines.{same_split}
use Rattle.sz_http.proofs.ChunksOnce.{same_front, chunked_once, part_not_whole}
use Rattle.sz_http.proofs.Refusals.{refused_once, refused_not_part, refused_not_whole}
use Rattle.sz_http.specs.declared.side.Side.{Side}
use Rattle.sz_http.specs.declared.side.Side.TheVariants.{Request, Reply}
use Rattle.sz_http.specs.declared.fault.HttpFault.{HttpFault}
use Rattle.sz_http.specs.declared.fault.HttpFault.TheVariants.{BadHead, BadChunk, TooLarge, Coding, EndedEarly}
use Rattle.sz_http.specs.Message.{kind_of, BeginsWith, IsFramed, IsBody, IsPartOfBody}
use Rattle.sz_http.specs.Verdict.{Outcome, needs_more, done_with, refused, framing_fault, chunk_fault, IsRefused, Verdict}
use Rattle.sz_http.proofs.Heads.{framed_begins}

-- ---- one head

begins_once : (side : Side) (bytes : List ℕ) (head other : Parts) (after left : List ℕ) → BeginsWith side bytes head after
    → BeginsWith side bytes other left → (head ≡ other) × (after ≡ left)
begins_once Request bytes head other after left x y =
    let first = subst (λ (t : List ℕ). ReadsRequest t x.parts.0 after) (sym x.bytes_are) (ReadsRequest-append x.text x.parts.0 [] after x.parts.1) in
    let second = subst (λ (t : List ℕ). ReadsRequest t y.parts.0 left) (sym y.bytes_are) (ReadsRequest-append y.text y.parts.0 [] left y.parts.1) in
    let same = request_unique bytes x.parts.0 y.parts.0 after left first second in
    (x.parts.2 ∙ ap (λ (h : RequestHead). request_parts h) same.0 ∙ sym y.parts.2, same.1)
begins_once Reply bytes head other after left x y =
    let first = subst (λ (t : List ℕ). ReadsResponse t x.parts.0 after) (sym x.bytes_are) (ReadsResponse-append x.text x.parts.0 [] after x.parts.1) in
    let second = subst (λ (t : List ℕ). ReadsResponse t y.parts.0 left) (sym y.bytes_are) (ReadsResponse-append y.text y.parts.0 [] left y.parts.1) in
    let same = response_unique bytes x.parts.0 y.parts.0 after left first second in
    (x.parts.2 ∙ ap (λ (h : ResponseHead). reply_parts h) same.0 ∙ sym y.parts.2, same.1)

framed_once : (side : Side) (limit : ℕ) (bytes : List ℕ) (answer other : Result Framing FramingFault) (head second : Parts) (after left : List ℕ)
    → IsFramed side limit bytes answer head after → IsFramed side limit bytes other second left
    → (answer ≡ other) × (head ≡ second) × (after ≡ left)
framed_once side limit bytes answer other head second after left x y =
    let same = begins_once side bytes head second after left x.begins y.begins in (
      frames_once (kind_of side) head.fields limit answer other x.frames
          (subst (λ (h : Parts). Frames (kind_of side) h.fields limit other) (sym same.0) y.frames),
      same.0,
      same.1,
    )

-- ---- what a verdict says behind a head

-- the bytes behind the head are part of a body, and the verdict waits for more, or the stream has ended too early
record SaysPart (framing : Framing) (limit : ℕ) (after : List ℕ) (ended : Bool) (verdict : Outcome) : Type 0 where
  part : IsPartOfBody framing limit after
  waits : ((ended ≡ false) × (verdict ≡ needs_more))
      ⊎ ((ended ≡ true) × (framing ≢ UntilEnd) × (verdict ≡ refused EndedEarly))

-- they are a body and a rest
record SaysBody (framing : Framing) (limit : ℕ) (after : List ℕ) (ended : Bool) (head : Parts) (total : ℕ) (verdict : Outcome) : Type 0 where
  body : List ℕ
  rest : List ℕ
  used : ℕ
  is : IsBody framing limit ended after body rest
  used_is : used + length rest ≡ total
  verdict_is : verdict ≡ done_with head body used

-- they are refused as a chunked body
record SaysRefused (framing : Framing) (limit : ℕ) (after : List ℕ) (verdict : Outcome) : Type 0 where
  fault : ChunkFault
  framing_is : framing ≡ Chunks
  is : IsRefusedBody limit after fault
  verdict_is : verdict ≡ refused (chunk_fault fault)

-- they run past the limit
record SaysPast (framing : Framing) (limit : ℕ) (after : List ℕ) (verdict : Outcome) : Type 0 where
  framing_is : framing ≡ UntilEnd
  over : limit < length after
  verdict_is : verdict ≡ refused (TooLarge limit)

data SaysBehind (framing : Framing) (limit : ℕ) (after : List ℕ) (ended : Bool) (head : Parts) (total : ℕ) (verdict : Outcome) : Type 0 where
  behind_part : SaysPart framing limit after ended verdict → SaysBehind framing limit after ended head total verdict
  behind_body : SaysBody framing limit after ended head total verdict → SaysBehind framing limit after ended head total verdict
  behind_refused : SaysRefused framing limit after verdict → SaysBehind framing limit after ended head total verdict
  behind_past : SaysPast framing limit after verdict → SaysBehind framing limit after ended head total verdict

-- ---- one verdict behind a head

parts_once : (framing : Framing) (limit : ℕ) (after : List ℕ) (ended : Bool) (verdict other : Outcome) → SaysPart framing limit after ended verdict
    → SaysPart framing limit after ended other → verdict ≡ other
parts_once framing limit after ended verdict other x y = judged x.waits y.waits
  where
    judged : ((ended ≡ false) × (verdict ≡ needs_more)) ⊎ ((ended ≡ true) × (framing ≢ UntilEnd) × (verdict ≡ refused EndedEarly))
        → ((ended ≡ false) × (other ≡ needs_more)) ⊎ ((ended ≡ true) × (framing ≢ UntilEnd) × (other ≡ refused EndedEarly)) → verdict ≡ other
    judged (inl x) (inl y) = x.1 ∙ sym y.1
    judged (inl x) (inr y) = absurd (false≢true (sym x.0 ∙ y.0))
    judged (inr x) (inl y) = absurd (false≢true (sym y.0 ∙ x.0))
    judged (inr x) (inr y) = x.2 ∙ sym y.2

-- a part of a body isn't one
part_or_body : (framing : Framing) (limit : ℕ) (after : List ℕ) (ended : Bool) (head : Parts) (total : ℕ) (verdict other : Outcome)
    → SaysPart framing limit after ended verdict → SaysBody framing limit after ended head total other → ⊥
part_or_body (Length n) limit after ended head total verdict other x y =
    omega (arith, x.part, ap length y.is.0, length-append y.body y.rest, y.is.1)
part_or_body Chunks limit after ended head total verdict other x y = part_not_whole after x.part.0 y.body y.rest x.part.1 y.is.0.reads
part_or_body UntilEnd limit after ended head total verdict other x y = judged x.waits
  where
    judged : ((ended ≡ false) × (verdict ≡ needs_more)) ⊎ ((ended ≡ true) × (UntilEnd ≢ UntilEnd) × (verdict ≡ refused EndedEarly)) → ⊥
    judged (inl waits) = false≢true (sym waits.0 ∙ y.is.0)
    judged (inr early) = early.1 refl

part_or_refused : (framing : Framing) (limit : ℕ) (after : List ℕ) (ended : Bool) (verdict other : Outcome) → SaysPart framing limit after ended verdict
    → SaysRefused framing limit after other → ⊥
part_or_refused framing limit after ended verdict other x y =
    let part = subst (λ (f : Framing). IsPartOfBody f limit after) y.framing_is x.part in
    refused_not_part limit after part.0 y.fault y.is part.1 part.2

part_or_past : (framing : Framing) (limit : ℕ) (after : List ℕ) (ended : Bool) (verdict other : Outcome) → SaysPart framing limit after ended verdict
    → SaysPast framing limit after other → ⊥
part_or_past framing limit after ended verdict other x y =
    let part = subst (λ (f : Framing). IsPartOfBody f limit after) y.framing_is x.part in omega (arith, part, y.over)

-- two bodies at the front of a text are one
body_once : (framing : Framing) (limit : ℕ) (ended : Bool) (after body rest other left : List ℕ) → IsBody framing limit ended after body rest
    → IsBody framing limit ended after other left → (body ≡ other) × (rest ≡ left)
body_once (Length n) limit ended after body rest other left x y =
    let size : length body ≡ length other = omega (arith, x.1, y.1) in
    let e = sym x.0 ∙ y.0 in
    (same_front body other rest left size e, same_split body other rest left size e)
body_once Chunks limit ended after body rest other left x y = chunked_once after body other rest left x.0.reads y.0.reads
body_once UntilEnd limit ended after body rest other left x y = (sym x.1 ∙ y.1, x.2 ∙ sym y.2)

bodies_once : (framing : Framing) (limit : ℕ) (after : List ℕ) (ended : Bool) (head : Parts) (total : ℕ) (verdict other : Outcome)
    → SaysBody framing limit after ended head total verdict → SaysBody framing limit after ended head total other → verdict ≡ other
bodies_once framing limit after ended head total verdict other x y =
    let same = body_once framing limit ended after x.body x.rest y.body y.rest x.is y.is in
    let used : x.used ≡ y.used = omega (arith, x.used_is, y.used_is, ap length same.1) in
    x.verdict_is ∙ ap (λ (b : List ℕ). done_with head b x.used) same.0 ∙ ap (λ (n : ℕ). done_with head y.body n) used ∙ sym y.verdict_is

body_or_refused : (framing : Framing) (limit : ℕ) (after : List ℕ) (ended : Bool) (head : Parts) (total : ℕ) (verdict other : Outcome)
    → SaysBody framing limit after ended head total verdict → SaysRefused framing limit after other → ⊥
body_or_refused framing limit after ended head total verdict other x y =
    let body = subst (λ (f : Framing). IsBody f limit ended after x.body x.rest) y.framing_is x.is in
    refused_not_whole limit after x.body x.rest y.fault y.is body.0 body.1

body_or_past : (framing : Framing) (limit : ℕ) (after : List ℕ) (ended : Bool) (head : Parts) (total : ℕ) (verdict other : Outcome)
    → SaysBody framing limit after ended head total verdict → SaysPast framing limit after other → ⊥
body_or_past framing limit after ended head total verdict other x y =
    let body = subst (λ (f : Framing). IsBody f limit ended after x.body x.rest) y.framing_is x.is in
    omega (arith, ap length body.1, body.3, y.over)

refused_or_past : (framing : Framing) (limit : ℕ) (after : List ℕ) (verdict other : Outcome) → SaysRefused framing limit after verdict
    → SaysPast framing limit after other → ⊥
refused_or_past framing limit after verdict other x y = let e = sym x.framing_is ∙ y.framing_is in cc

behind_once : (framing : Framing) (limit : ℕ) (after : List ℕ) (ended : Bool) (head : Parts) (total : ℕ) (verdict other : Outcome)
    → SaysBehind framing limit after ended head total verdict → SaysBehind framing limit after ended head total other → verdict ≡ other
behind_once f limit after ended head total v w (behind_part x) (behind_part y) = parts_once f limit after ended v w x y
behind_once f limit after ended head total v w (behind_part x) (behind_body y) = absurd (part_or_body f limit after ended head total v w x y)
behind_once f limit after ended head total v w (behind_part x) (behind_refused y) = absurd (part_or_refused f limit after ended v w x y)
behind_once f limit after ended head total v w (behind_part x) (behind_past y) = absurd (part_or_past f limit after ended v w x y)
behind_once f limit after ended head total v w (behind_body x) (behind_part y) = absurd (part_or_body f limit after ended head total w v y x)
behind_once f limit after ended head total v w (behind_body x) (behind_body y) = bodies_once f limit after ended head total v w x y
behind_once f limit after ended head total v w (behind_body x) (behind_refused y) = absurd (body_or_refused f limit after ended head total v w x y)
behind_once f limit after ended head total v w (behind_body x) (behind_past y) = absurd (body_or_past f limit after ended head total v w x y)
behind_once f limit after ended head total v w (behind_refused x) (behind_part y) = absurd (part_or_refused f limit after ended w v y x)
behind_once f limit after ended head total v w (behind_refused x) (behind_body y) = absurd (body_or_refused f limit after ended head total w v y x)
behind_once f limit after ended head total v w (behind_refused x) (behind_refused y) =
    x.verdict_is ∙ ap (λ (g : ChunkFault). refused (chunk_fault g)) (refused_once limit after x.fault y.fault x.is y.is) ∙ sym y.verdict_is
behind_once f limit after ended head total v w (behind_refused x) (behind_past y) = absurd (refused_or_past f limit after v w x y)
behind_once f limit after ended head total v w (behind_past x) (behind_part y) = absurd (part_or_past f limit after ended w v y x)
behind_once f limit after ended head total v w (behind_past x) (behind_body y) = absurd (body_or_past f limit after ended head total w v y x)
behind_once f limit after ended head total v w (behind_past x) (behind_refused y) = absurd (refused_or_past f limit after w v y x)
behind_once f limit after ended head total v w (behind_past x) (behind_past y) = x.verdict_is ∙ sym y.verdict_is

-- ---- what a verdict says

data Says (side : Side) (limit : ℕ) (bytes : List ℕ) (ended : Bool) (verdict : Outcome) : Type 0 where
  says_open : IsUnfinished (kind_of side) bytes
      → ((ended ≡ false) × (verdict ≡ needs_more)) ⊎ ((ended ≡ true) × (verdict ≡ refused EndedEarly)) → Says side limit bytes ended verdict
  says_never : NeverHasHead (kind_of side) bytes → verdict ≡ refused BadHead → Says side limit bytes ended verdict
  says_fault : (fault : FramingFault) (head : Parts) (after : List ℕ) → IsFramed side limit bytes (Err fault) head after
      → verdict ≡ refused (framing_fault fault) → Says side limit bytes ended verdict
  says_behind : (framing : Framing) (head : Parts) (after : List ℕ) → IsFramed side limit bytes (Ok framing) head after
      → SaysBehind framing limit after ended head (length bytes) verdict → Says side limit bytes ended verdict

refused_says : (side : Side) (limit : ℕ) (bytes : List ℕ) (ended : Bool) (fault : HttpFault) → IsRefused side limit bytes ended fault
    → Says side limit bytes ended (refused fault)
refused_says side limit bytes ended BadHead (inl never) = says_never never refl
refused_says side limit bytes ended BadHead (inr x) = says_fault _ x.0 x.1 x.2 refl
refused_says side limit bytes ended BadChunk x =
    says_behind Chunks x.0 x.1 x.2 (behind_refused (record { fault = _; framing_is = refl; is = x.3; verdict_is = refl }))
refused_says side limit bytes ended (TooLarge most) (inl x) = says_fault _ x.0 x.1 x.2 refl
refused_says side limit bytes ended (TooLarge most) (inr (inl x)) =
    says_behind Chunks x.0 x.1 x.2 (behind_refused (record { fault = _; framing_is = refl; is = x.3; verdict_is = refl }))
refused_says side limit bytes ended (TooLarge most) (inr (inr x)) =
    says_behind UntilEnd x.0.0 x.0.1 x.0.2
    (behind_past (record { framing_is = refl; over = x.0.3; verdict_is = ap (λ (n : ℕ). refused (TooLarge n)) x.1 }))
refused_says side limit bytes ended Coding x = says_fault _ x.0 x.1 x.2 refl
refused_says side limit bytes ended EndedEarly (at_end, inl unfinished) = says_open unfinished (inr (at_end, refl))
refused_says side limit bytes ended EndedEarly (at_end, inr x) =
    says_behind x.0 x.1.head x.1.after x.1.framed (behind_part (record { part = x.1.part; waits = inr (at_end, x.2, refl) }))

says : (side : Side) (limit : ℕ) (bytes : List ℕ) (ended : Bool) (verdict : Outcome) → Verdict side limit bytes ended verdict
    → Says side limit bytes ended verdict
says side limit bytes ended needs_more (going, inl unfinished) = says_open unfinished (inl (going, refl))
says side limit bytes ended needs_more (going, inr x) =
    says_behind x.0 x.1.head x.1.after x.1.framed (behind_part (record { part = x.1.part; waits = inl (going, refl) }))
says side limit bytes ended (done_with head body used) x =
    says_behind x.framing head x.after x.framed
    (behind_body (record { body = body; rest = x.rest; used = used; is = x.is_body; used_is = x.used_is; verdict_is = refl }))
says side limit bytes ended (refused fault) x = refused_says side limit bytes ended fault x

-- ---- one verdict

-- a head that isn't whole can still come, where the bytes don't end inside a target
open_or_never : (side : Side) (bytes : List ℕ) → (EndsInsideTarget (kind_of side) bytes → ⊥) → IsUnfinished (kind_of side) bytes
    → NeverHasHead (kind_of side) bytes → ⊥
open_or_never side bytes outside unfinished never = judged unfinished.some
  where
    judged : MayBecomeHead (kind_of side) bytes ⊎ EndsInsideTarget (kind_of side) bytes → ⊥
    judged (inl may) = never may.0 [] may.1
    judged (inr inside) = outside inside

open_once : (ended : Bool) (verdict other : Outcome)
    → ((ended ≡ false) × (verdict ≡ needs_more)) ⊎ ((ended ≡ true) × (verdict ≡ refused EndedEarly))
    → ((ended ≡ false) × (other ≡ needs_more)) ⊎ ((ended ≡ true) × (other ≡ refused EndedEarly)) → verdict ≡ other
open_once ended verdict other (inl x) (inl y) = x.1 ∙ sym y.1
open_once ended verdict other (inl x) (inr y) = absurd (false≢true (sym x.0 ∙ y.0))
open_once ended verdict other (inr x) (inl y) = absurd (false≢true (sym y.0 ∙ x.0))
open_once ended verdict other (inr x) (inr y) = x.1 ∙ sym y.1

never_framed : (side : Side) (limit : ℕ) (bytes : List ℕ) (answer : Result Framing FramingFault) (head : Parts) (after : List ℕ)
    → NeverHasHead (kind_of side) bytes → IsFramed side limit bytes answer head after → ⊥
never_framed side limit bytes answer head after never framed =
    framed_begins side limit bytes answer head after framed
    (subst (λ (t : List ℕ). HasNoHead (kind_of side) t) (append-nil bytes) (never []))

says_once : (side : Side) (limit : ℕ) (bytes : List ℕ) (ended : Bool) (verdict other : Outcome) → (EndsInsideTarget (kind_of side) bytes → ⊥)
    → Says side limit bytes ended verdict → Says side limit bytes ended other → verdict ≡ other
says_once side limit bytes ended v w outside (says_open x e) (says_open y g) = open_once ended v w e g
says_once side limit bytes ended v w outside (says_open x e) (says_never y g) = absurd (open_or_never side bytes outside x y)
says_once side limit bytes ended v w outside (says_open x e) (says_fault f h a y g) = absurd (framed_begins side limit bytes _ h a y x.none)
says_once side limit bytes ended v w outside (says_open x e) (says_behind f h a y g) = absurd (framed_begins side limit bytes _ h a y x.none)
says_once side limit bytes ended v w outside (says_never x e) (says_open y g) = absurd (open_or_never side bytes outside y x)
says_once side limit bytes ended v w outside (says_never x e) (says_never y g) = e ∙ sym g
says_once side limit bytes ended v w outside (says_never x e) (says_fault f h a y g) = absurd (never_framed side limit bytes _ h a x y)
says_once side limit bytes ended v w outside (says_never x e) (says_behind f h a y g) = absurd (never_framed side limit bytes _ h a x y)
says_once side limit bytes ended v w outside (says_fault f h a x e) (says_open y g) = absurd (framed_begins side limit bytes _ h a x y.none)
says_once side limit bytes ended v w outside (says_fault f h a x e) (says_never y g) = absurd (never_framed side limit bytes _ h a y x)
says_once side limit bytes ended v w outside (says_fault f h a x e) (says_fault k i b y g) =
    let same : f ≡ k = let s = (framed_once side limit bytes (Err f) (Err k) h i a b x y).0 in cc in
    e ∙ ap (λ (t : FramingFault). refused (framing_fault t)) same ∙ sym g
says_once side limit bytes ended v w outside (says_fault f h a x e) (says_behind k i b y g) =
    let s = (framed_once side limit bytes (Err f) (Ok k) h i a b x y).0 in absurd (cc)
says_once side limit bytes ended v w outside (says_behind f h a x e) (says_open y g) = absurd (framed_begins side limit bytes _ h a x y.none)
says_once side limit bytes ended v w outside (says_behind f h a x e) (says_never y g) = absurd (never_framed side limit bytes _ h a y x)
says_once side limit bytes ended v w outside (says_behind f h a x e) (says_fault k i b y g) =
    let s = (framed_once side limit bytes (Ok f) (Err k) h i a b x y).0 in absurd (cc)
says_once side limit bytes ended v w outside (says_behind f h a x e) (says_behind k i b y g) =
    let s = framed_once side limit bytes (Ok f) (Ok k) h i a b x y in
    let same : k ≡ f = let t = s.0 in cc in
    behind_once f limit a ended h (length bytes) v w e
    (subst (λ (t : Framing). SaysBehind t limit a ended h (length bytes) w) same
    (subst (λ (t : List ℕ). SaysBehind k limit t ended h (length bytes) w) (sym s.2)
    (subst (λ (p : Parts). SaysBehind k limit b ended p (length bytes) w) (sym s.1) g)))

-- there is one verdict on bytes that don't end inside a target
pub verdict_once : (side : Side) (limit : ℕ) (bytes : List ℕ) (ended : Bool) (verdict other : Outcome) → (EndsInsideTarget (kind_of side) bytes → ⊥)
    → Verdict side limit bytes ended verdict → Verdict side limit bytes ended other → verdict ≡ other
verdict_once side limit bytes ended verdict other outside x y =
    says_once side limit bytes ended verdict other outside (says side limit bytes ended verdict x) (says side limit bytes ended other y)
