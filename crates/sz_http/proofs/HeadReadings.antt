-- A reading after one more byte and after a piece, by the kind and the bytes that it is known to have taken.
use Rattle.std.proofs.Common.{◌≡◌, ℕ, ◌+◌, ◌<◌, ◌≤◌, List, [], ◌∷◌, ◌++◌, length, take, drop, sym, ap, ◌∙◌, subst, append_assoc, take-append-drop, Option, Some, None, IfSome, IsSomeAnd}
use Rattle.sz_http.specs.declared.head.Head.{Head}
use Rattle.sz_http.specs.declared.kind.Kind.{Kind}
use Rattle.sz_http.specs.declared.head_place.Place.{Place}
use Rattle.sz_http.specs.declared.head_place.Place.TheVariants.{Nowhere}
use Rattle.sz_http.specs.declared.head_reading.HeadReading.{HeadReading}
use Rattle.sz_http.specs.Head.{IsHead, most_bytes}
use Rattle.sz_http.specs.Parts.{HasParts, parts_of}
use Rattle.sz_http.specs.HeadPlace.{Left, Leads, Came, Stands, least_left}
use Rattle.sz_http.specs.HeadReading.{Takes, IsRefused}
use Rattle.sz_http.proofs.Stands.{stands_after, too_long, nowhere_more, never_nowhere}

-- where a byte leads after the bytes that are known
leads_known : (k kind : Kind) (s bytes : List ℕ) (place next : Place) (byte : ℕ) → k ≡ kind → s ≡ bytes
    → Leads k (s ++ byte ∷ []) (Left k s place) byte next → Leads kind (bytes ++ byte ∷ []) (Left kind bytes place) byte next
leads_known k kind s bytes place next byte ek es leads =
    subst (λ (t : List ℕ). Leads kind (t ++ byte ∷ []) (Left kind t place) byte next) es
    (subst (λ (x : Kind). Leads x (s ++ byte ∷ []) (Left x s place) byte next) ek leads)

came_known : (k kind : Kind) (s bytes : List ℕ) (place next : Place) (byte : ℕ) → k ≡ kind → s ≡ bytes
    → (Came k s place → Came k (s ++ byte ∷ []) next) → Came kind bytes place → Came kind (bytes ++ byte ∷ []) next
came_known k kind s bytes place next byte ek es came =
    subst (λ (t : List ℕ). Came kind t place → Came kind (t ++ byte ∷ []) next) es
    (subst (λ (x : Kind). Came x s place → Came x (s ++ byte ∷ []) next) ek came)

pub stands_taken : (k kind : Kind) (s bytes : List ℕ) (place next : Place) (byte : ℕ) → k ≡ kind → s ≡ bytes
    → Leads k (s ++ byte ∷ []) (Left k s place) byte next → (Came k s place → Came k (s ++ byte ∷ []) next)
    → Stands kind bytes place → length s + 1 + least_left k next ≤ most_bytes → Stands kind (bytes ++ byte ∷ []) next
stands_taken k kind s bytes place next byte ek es leads came stands few =
    stands_after kind bytes place next byte stands (leads_known k kind s bytes place next byte ek es leads)
    (came_known k kind s bytes place next byte ek es came stands.came)
    (subst (λ (t : List ℕ). length t + 1 + least_left kind next ≤ most_bytes) es
    (subst (λ (x : Kind). length s + 1 + least_left x next ≤ most_bytes) ek few))

pub stands_given_up : (k kind : Kind) (s bytes : List ℕ) (place next : Place) (byte : ℕ) → k ≡ kind → s ≡ bytes
    → Leads k (s ++ byte ∷ []) (Left k s place) byte next → Stands kind bytes place
    → most_bytes < length s + 1 + least_left k next → Stands kind (bytes ++ byte ∷ []) Nowhere
stands_given_up k kind s bytes place next byte ek es leads stands many =
    too_long kind bytes place next byte stands (leads_known k kind s bytes place next byte ek es leads)
    (subst (λ (t : List ℕ). most_bytes < length t + 1 + least_left kind next) es
    (subst (λ (x : Kind). most_bytes < length s + 1 + least_left x next) ek many))

-- a refusal of a front is one of the whole piece
pub refused_whole : (kind : Kind) (before piece : List ℕ) (used : ℕ) (reading : HeadReading) → reading.place ≡ Nowhere
    → Takes reading kind (before ++ take used piece) → IsRefused kind (before ++ piece) reading
refused_whole kind before piece used reading is taken =
    let e : (before ++ take used piece) ++ drop used piece ≡ before ++ piece =
    append_assoc before (take used piece) (drop used piece) ∙ ap (λ (t : List ℕ). before ++ t) (take-append-drop used piece) in
    let front = subst (λ (p : Place). Stands kind (before ++ take used piece) p) is taken.stands in
    let stands = subst (λ (t : List ℕ). Stands kind t Nowhere) e (nowhere_more kind (before ++ take used piece) (drop used piece) front) in
    record {
      taken = record {
        of_kind = taken.of_kind;
        stands = subst (λ (p : Place). Stands kind (before ++ piece) p) (sym is) stands;
        kept = λ live. absurd (live is);
      };
      never = never_nowhere kind (before ++ piece) stands;
    }

-- the parts of the bytes that are known
pub parts_known : (k kind : Kind) (s bytes : List ℕ) (found : Option Head) → k ≡ kind → s ≡ bytes → IsHead kind bytes
    → (IsHead k s → IsSomeAnd found (λ head. HasParts k s (parts_of head)))
    → IfSome found (λ head. IsHead kind bytes × HasParts kind bytes (parts_of head))
parts_known k kind s bytes None ek es is parts = tt
parts_known k kind s bytes (Some head) ek es is parts =
    let here = subst (λ (x : Kind). IsHead x s) (sym ek) (subst (λ (t : List ℕ). IsHead kind t) (sym es) is) in
    (is, subst (λ (t : List ℕ). HasParts kind t (parts_of head)) es (subst (λ (x : Kind). HasParts x s (parts_of head)) ek (parts here)))
