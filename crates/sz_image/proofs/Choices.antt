-- What the downloads over a list of URIs come to, one URI after another.
use Rattle.std.proofs.Common.{◌≡◌, ◌≢◌, ◌⊎◌, ℕ, suc, ◌+◌, ◌<◌, Bool, true, false, IsTrue, List, [], ◌∷◌, ◌++◌, length, get_or, take, drop, count_by, cond, Option, Some, None, Err, refl, sym, ap, ◌∙◌, subst, inl, inr, arith, append_assoc, append-nil}
use Rattle.std.proofs.Math.Seq.{split_at}
use Rattle.std.proofs.lemmas.Bool.{false≢true}
use Rattle.std.proofs.lemmas.List.{take_more}
use Rattle.std.proofs.lemmas.List.Sums.{sum_by_push}
use Rattle.sz_spec.specs.Cause.{HasCause}
use Rattle.sz_spec.specs.Told.{WhereTold}
use Rattle.sz_spec.proofs.Told.{WhereTold-join}
use Rattle.sz_base.specs.declared.image.ImageFault.{ImageFault}
use Rattle.sz_base.specs.declared.image.ImageFault.TheVariants.{Uri as NoUri, Lost, EndedEarly, BadHttp, Coding, HeadTooLarge, Status, ImageTooLarge, WrongHash, DiskFault, OutOfMemory}
use Rattle.sz_disk.specs.Room.{Held}
use Rattle.sz_io.specs.Added.{Adds}
use Rattle.sz_io.specs.Net.{Traffic}
use Rattle.sz_io.specs.declared.exchange.Exchange.{Exchange}
use Rattle.sz_io.proofs.Exchanges.{Adds-added, Adds-join_idle, Adds-refl}
use Rattle.sz_exchange.specs.Exchange.{AddsOne, MayAdd}
use Rattle.sz_uri.specs.Uri.{IsUri}
use Rattle.sz_uri.specs.declared.uri.Uri.{Uri}
use Rattle.sz_image.specs.Downloads.{AddsOwn, AreFaultsBefore, AreFaultsOf, BringsFirst, BringsNone, CountsLost, EndsFor, GoesOn, IsFaultOf, RefusesAll, Stops, StopsOver, Tries, TriesOver, blames_disk}
use Rattle.sz_image.specs.Fetch.{Brings, FailsFor, GivesImage, GivesNoImage, IsSameRoom, Refuses, blames_room, is_lost}
use Rattle.sz_image.specs.declared.choice.NoImage.{NoImage}
use Rattle.sz_image.specs.declared.choice.NoImage.TheVariants as no
use Rattle.sz_image.proofs.Rooms.{holds_from}

-- ---- the texts so far

pub tried_one : (texts : List (List ℕ)) (i : ℕ) (text : List ℕ) → i < length texts → text ≡ get_or texts i text → take (i + 1) texts ≡ take i texts ++ text ∷ []
tried_one texts i text below is = take_more texts i text below ∙ ap (λ (one : List ℕ). take i texts ++ one ∷ []) (sym is)

pub cut_here : (texts : List (List ℕ)) (i : ℕ) (text : List ℕ) → i < length texts → text ≡ get_or texts i text → texts ≡ take i texts ++ text ∷ drop
    (suc i) texts
cut_here texts i text below is = split_at texts i text below ∙ ap (λ (one : List ℕ). take i texts ++ one ∷ drop (suc i) texts) (sym is)

-- ---- one text after others

-- the downloads of the later texts come behind those of the first, which gave no image
pub tries_then : (hash : List ℕ) (space : ℕ) (texts more : List (List ℕ)) (own later : List Exchange) (faults found : List ImageFault)
    (image : Option (List ℕ)) → Tries hash space texts own faults None → Tries hash space more later found image
    → Tries hash space (texts ++ more) (own ++ later) (faults ++ found) image
tries_then hash space [] more own later [] found image first second =
    subst (λ (l : List Exchange). Tries hash space more (l ++ later) found image) (sym first) second
tries_then hash space [] more own later (fault ∷ faults) found image first second = absurd first
tries_then hash space (text ∷ texts) more own later [] found image first second = absurd first
tries_then hash space (text ∷ texts) more own later (fault ∷ faults) found image first second = (
  first.0,
  first.1 ++ later,
  ap (λ (l : List Exchange). l ++ later) first.2 ∙ append_assoc first.0 first.1 later,
  first.3,
  first.4,
  tries_then hash space texts more first.1 later faults found image first.5 second,
)

pub faults_then : (texts more : List (List ℕ)) (faults found : List ImageFault) → AreFaultsOf texts faults → AreFaultsOf more found
    → AreFaultsOf (texts ++ more) (faults ++ found)
faults_then [] more faults found first second = subst (λ (l : List ImageFault). AreFaultsOf more (l ++ found)) (sym first) second
faults_then (text ∷ texts) more [] found first second = absurd first
faults_then (text ∷ texts) more (fault ∷ faults) found first second = (first.0, faults_then texts more faults found first.1 second)

pub faults_before : (texts more : List (List ℕ)) (faults : List ImageFault) (text : List ℕ) (uri : Uri) → AreFaultsOf texts faults → IsUri text uri
    → AreFaultsBefore (texts ++ text ∷ more) faults
faults_before [] more faults text uri first is = subst (λ (l : List ImageFault). AreFaultsBefore (text ∷ more) l) (sym first) (uri, is)
faults_before (one ∷ texts) more [] text uri first is = absurd first
faults_before (one ∷ texts) more (fault ∷ faults) text uri first is = (first.0, faults_before texts more faults text uri first.1 is)

-- ---- what is added

none_added : (a : Traffic) (own : List Exchange) → Adds a a own → own ≡ []
none_added a own adds = Adds-added a a own adds ∙ sym (Adds-added a a [] (Adds-refl a))

-- behind downloads that ended
adds_then : (a b c : Traffic) (own more : List Exchange) → AddsOwn a b own → Adds b c more → Adds a c (own ++ more)
adds_then a b c own more first second = joined first.leaves
  where
    joined : (b.standing ≡ None) ⊎ (b ≡ a) → Adds a c (own ++ more)
    joined (inl idle) = Adds-join_idle a b c own more idle first.adds second
    joined (inr same) =
        let none : own ≡ [] = none_added a own (subst (λ (t : Traffic). Adds a t own) same first.adds) in
        subst (λ (l : List Exchange). Adds a c (l ++ more)) (sym none) (subst (λ (t : Traffic). Adds t c more) same second)

own_then : (a b c : Traffic) (own more : List Exchange) → AddsOwn a b own → AddsOwn b c more → AddsOwn a c (own ++ more)
own_then a b c own more first second = record {
  adds = adds_then a b c own more first second.adds;
  leaves = left first.leaves second.leaves;
}
  where
    left : (b.standing ≡ None) ⊎ (b ≡ a) → (c.standing ≡ None) ⊎ (c ≡ b) → (c.standing ≡ None) ⊎ (c ≡ a)
    left first (inl idle) = inl idle
    left (inl idle) (inr same) = inl (ap (λ (t : Traffic). t.standing) same ∙ idle)
    left (inr before) (inr same) = inr (same ∙ before)

-- ---- one download

one_own : (a b : Traffic) (P : Exchange → Type 0) → (added : AddsOne P a b) → AddsOwn a b (added.0 ∷ [])
one_own a b P added = record { adds = added.1.adds; leaves = inl added.1.idle }

-- one download that gave none
abbrev pub OwnGivesNone : List ℕ → List ℕ → ℕ → ImageFault → Traffic → Traffic → Type 0
OwnGivesNone text hash space fault old new = (own : List Exchange) × AddsOwn old new own × GivesNoImage text hash space fault own

nothing_own : (text hash : List ℕ) (space : ℕ) (a b : Option Traffic) → ((uri : Uri) → ¬ (IsUri text uri)) → b ≡ a
    → WhereTold (OwnGivesNone text hash space NoUri) a b
nothing_own text hash space None b none same = same
nothing_own text hash space (Some x) b none same = rw same ([], record { adds = Adds-refl x; leaves = inr refl }, (none, refl))

-- the exchange that was added, as those of one download
owned : (text hash : List ℕ) (space : ℕ) (fault : ImageFault) (uri : Uri) (a b : Option Traffic)
    → ((x : Exchange) → Refuses uri hash space fault x → GivesNoImage text hash space fault (x ∷ []))
    → WhereTold (AddsOne (Refuses uri hash space fault)) a b → WhereTold (OwnGivesNone text hash space fault) a b
owned text hash space fault uri None b gives told = told
owned text hash space fault uri (Some x) None gives told = told
owned text hash space fault uri (Some x) (Some y) gives told =
    (told.0 ∷ [], one_own x y (Refuses uri hash space fault) told, gives told.0 told.2)

pub fails_own : (text hash : List ℕ) (space : ℕ) (fault : ImageFault) (a b : Option Traffic) → GoesOn fault → FailsFor text hash space fault a b
    → WhereTold (OwnGivesNone text hash space fault) a b
fails_own text hash space NoUri a b goes fails = nothing_own text hash space a b fails.0 fails.1
fails_own text hash space Lost a b goes fails =
    owned text hash space Lost fails.0 a b (λ x refuses. (fails.0, fails.1, x, refl, refuses)) fails.2
fails_own text hash space EndedEarly a b goes fails =
    owned text hash space EndedEarly fails.0 a b (λ x refuses. (fails.0, fails.1, x, refl, refuses)) fails.2
fails_own text hash space BadHttp a b goes fails =
    owned text hash space BadHttp fails.0 a b (λ x refuses. (fails.0, fails.1, x, refl, refuses)) fails.2
fails_own text hash space Coding a b goes fails =
    owned text hash space Coding fails.0 a b (λ x refuses. (fails.0, fails.1, x, refl, refuses)) fails.2
fails_own text hash space HeadTooLarge a b goes fails =
    owned text hash space HeadTooLarge fails.0 a b (λ x refuses. (fails.0, fails.1, x, refl, refuses)) fails.2
fails_own text hash space (Status code) a b goes fails =
    owned text hash space (Status code) fails.0 a b (λ x refuses. (fails.0, fails.1, x, refl, refuses)) fails.2
fails_own text hash space (ImageTooLarge size area) a b goes fails =
    owned text hash space (ImageTooLarge size area) fails.0 a b (λ x refuses. (fails.0, fails.1, x, refl, refuses)) fails.2
fails_own text hash space (WrongHash found) a b goes fails =
    owned text hash space (WrongHash found) fails.0 a b (λ x refuses. (fails.0, fails.1, x, refl, refuses)) fails.2
fails_own text hash space DiskFault a b goes fails = absurd (goes.0 refl)
fails_own text hash space OutOfMemory a b goes fails = absurd (goes.1 refl)

pub disk_own : (text hash : List ℕ) (space : ℕ) (a b : Option Traffic) → FailsFor text hash space DiskFault a b
    → WhereTold (OwnGivesNone text hash space DiskFault) a b
disk_own text hash space a b fails = owned text hash space DiskFault fails.0 a b (λ x refuses. (fails.0, fails.1, x, refl, refuses)) fails.2

pub fails_is : (text hash : List ℕ) (space : ℕ) (fault : ImageFault) (a b : Option Traffic) → GoesOn fault → FailsFor text hash space fault a b
    → IsFaultOf text fault
fails_is text hash space NoUri a b goes fails = fails.0
fails_is text hash space Lost a b goes fails = (fails.0, fails.1)
fails_is text hash space EndedEarly a b goes fails = (fails.0, fails.1)
fails_is text hash space BadHttp a b goes fails = (fails.0, fails.1)
fails_is text hash space Coding a b goes fails = (fails.0, fails.1)
fails_is text hash space HeadTooLarge a b goes fails = (fails.0, fails.1)
fails_is text hash space (Status code) a b goes fails = (fails.0, fails.1)
fails_is text hash space (ImageTooLarge size area) a b goes fails = (fails.0, fails.1)
fails_is text hash space (WrongHash found) a b goes fails = (fails.0, fails.1)
fails_is text hash space DiskFault a b goes fails = absurd (goes.0 refl)
fails_is text hash space OutOfMemory a b goes fails = absurd (goes.1 refl)

-- ---- the counts

pub lost_none : (count : ℕ) → CountsLost [] count count
lost_none count = record { rose = omega arith; stood = λ none. refl }

pub lost_same : (faults : List ImageFault) (a b c : ℕ) → CountsLost faults a b → HasCause b c false → CountsLost faults a c
lost_same faults a b c lost cause = subst (λ (n : ℕ). CountsLost faults a n) (sym (cause.stood refl)) lost

pub lost_more : (faults : List ImageFault) (fault : ImageFault) (a b c : ℕ) → CountsLost faults a b → HasCause b c (is_lost fault)
    → CountsLost (faults ++ fault ∷ []) a c
lost_more faults fault a b c lost cause = judged (is_lost fault) refl
  where
    more : count_by is_lost (faults ++ fault ∷ []) ≡ count_by is_lost faults + cond (is_lost fault) 1 0
    more = sum_by_push (λ (f : ImageFault). cond (is_lost f) 1 0) faults fault

    judged : (yes : Bool) → is_lost fault ≡ yes → CountsLost (faults ++ fault ∷ []) a c
    judged true is =
        let one : count_by is_lost (faults ++ fault ∷ []) ≡ count_by is_lost faults + 1 =
        more ∙ ap (λ (yes : Bool). count_by is_lost faults + cond yes 1 0) is in
        let rose = cause.rose (subst (λ (yes : Bool). IsTrue yes) (sym is) refl) in
        record { rose = omega (arith, lost.rose, rose, one); stood = λ none. absurd (omega (arith, one, none)) }
    judged false is =
        let none : count_by is_lost (faults ++ fault ∷ []) ≡ count_by is_lost faults =
        more ∙ ap (λ (yes : Bool). count_by is_lost faults + cond yes 1 0) is ∙ omega arith in
        let stood : c ≡ b = cause.stood is in
        record { rose = omega (arith, lost.rose, stood, none); stood = λ zero. stood ∙ lost.stood (sym none ∙ zero) }

-- ---- the first of the URIs

tries_join : (hash : List ℕ) (space : ℕ) (texts : List (List ℕ)) (text : List ℕ) (faults : List ImageFault) (fault : ImageFault) (a b c : Traffic)
    → GoesOn fault → TriesOver hash space texts faults None a b → OwnGivesNone text hash space fault b c
    → TriesOver hash space (texts ++ text ∷ []) (faults ++ fault ∷ []) None a c
tries_join hash space texts text faults fault a b c goes first second = (
  first.0 ++ second.0,
  own_then a b c first.0 second.0 first.1 second.1,
  tries_then hash space texts (text ∷ []) first.0 second.0 faults (fault ∷ []) None first.2
      (second.0, [], sym (append-nil second.0), second.2, goes, refl),
)

gives_join : (hash : List ℕ) (space : ℕ) (texts more : List (List ℕ)) (text body : List ℕ) (faults : List ImageFault) (uri : Uri) (a b c : Traffic)
    → IsUri text uri → TriesOver hash space texts faults None a b → AddsOne (GivesImage uri hash space body) b c
    → TriesOver hash space (texts ++ text ∷ more) faults (Some body) a c
gives_join hash space texts more text body faults uri a b c is first second = (
  first.0 ++ second.0 ∷ [],
  own_then a b c first.0 (second.0 ∷ []) first.1 (one_own b c (GivesImage uri hash space body) second),
  subst (λ (l : List ImageFault). Tries hash space (texts ++ text ∷ more) (first.0 ++ second.0 ∷ []) l (Some body)) (append-nil faults)
      (tries_then hash space texts (text ∷ more) first.0 (second.0 ∷ []) faults [] (Some body) first.2
      (uri, is, second.0, refl, second.2)),
)

disk_join : (hash : List ℕ) (space : ℕ) (texts more : List (List ℕ)) (text : List ℕ) (faults : List ImageFault) (a b c : Traffic)
    → TriesOver hash space texts faults None a b → OwnGivesNone text hash space DiskFault b c
    → StopsOver hash space no.DiskFault texts (text ∷ more) faults a c
disk_join hash space texts more text faults a b c first second =
    (first.0, second.0, adds_then a b c first.0 second.0 first.1 second.1.adds, first.2, second.2)

memory_join : (hash : List ℕ) (space : ℕ) (texts more : List (List ℕ)) (faults : List ImageFault) (a b c : Traffic)
    → TriesOver hash space texts faults None a b → MayAdd b c → StopsOver hash space no.OutOfMemory texts more faults a c
memory_join hash space texts more faults a b c first second =
    (first.0, second.0, adds_then a b c first.0 second.0 first.1 second.1, first.2, second.2)

tries_none : (hash : List ℕ) (space : ℕ) (a : Option Traffic) → WhereTold (TriesOver hash space [] [] None) a a
tries_none hash space None = refl
tries_none hash space (Some x) = ([], record { adds = Adds-refl x; leaves = inr refl }, refl)

pub adds_nothing : (a : Option Traffic) → WhereTold MayAdd a a
adds_nothing None = refl
adds_nothing (Some x) = ([], Adds-refl x, omega arith)

-- nothing was tried yet
pub refuses_none : (hash : List ℕ) (space count : ℕ) (a : Option Traffic) → RefusesAll hash space [] [] count count a a
refuses_none hash space count a = record { each = refl; lost = lost_none count; tries = tries_none hash space a }

-- the next one gave none
pub refuses_more : (hash : List ℕ) (space : ℕ) (texts : List (List ℕ)) (text : List ℕ) (faults : List ImageFault) (fault : ImageFault)
    (from to count : ℕ) (a b c : Option Traffic) → RefusesAll hash space texts faults from to a b → GoesOn fault → FailsFor text hash space fault b c
    → HasCause to count (is_lost fault) → RefusesAll hash space (texts ++ text ∷ []) (faults ++ fault ∷ []) from count a c
refuses_more hash space texts text faults fault from to count a b c all goes fails cause = record {
  each = faults_then texts (text ∷ []) faults (fault ∷ []) all.each (fails_is text hash space fault b c goes fails, refl);
  lost = lost_more faults fault from to count all.lost cause;
  tries =
      WhereTold-join (TriesOver hash space texts faults None) (OwnGivesNone text hash space fault)
      (TriesOver hash space (texts ++ text ∷ []) (faults ++ fault ∷ []) None) a b c
      (λ x y z first second. tries_join hash space texts text faults fault x y z goes first second) all.tries
      (fails_own text hash space fault b c goes fails);
}

-- the next one gave it
pub brings_first : (hash : List ℕ) (texts more : List (List ℕ)) (text : List ℕ) (faults : List ImageFault) (size : ℕ) (uri : Uri)
    (first begun now : Held) (from to count : ℕ) (a b c : Option Traffic) → RefusesAll hash first.space texts faults from to a b
    → IsSameRoom first begun → IsUri text uri → Brings uri hash size begun now b c → HasCause to count false
    → BringsFirst hash (texts ++ text ∷ more) size first now from count a c
brings_first hash texts more text faults size uri first begun now from to count a b c all same is brings cause = record {
  body = brings.body;
  size_is = brings.size_is;
  holds = holds_from brings.body first begun now same brings.holds;
  hash_is = brings.hash_is;
  faults = faults;
  each = faults_before texts more faults text uri all.each is;
  lost = lost_same faults from to count all.lost cause;
  tries =
      WhereTold-join (TriesOver hash first.space texts faults None) (AddsOne (GivesImage uri hash first.space brings.body))
      (TriesOver hash first.space (texts ++ text ∷ more) faults (Some brings.body)) a b c
      (λ x y z one two. gives_join hash first.space texts more text brings.body faults uri x y z is one two) all.tries
      (subst (λ (s : ℕ). WhereTold (AddsOne (GivesImage uri hash s brings.body)) b c) same.space brings.given);
}

-- the room failed at the next one
pub stops_disk : (hash : List ℕ) (space : ℕ) (texts more : List (List ℕ)) (text : List ℕ) (faults : List ImageFault)
    (from to count : ℕ) (a b c : Option Traffic) → RefusesAll hash space texts faults from to a b → FailsFor text hash space DiskFault b c
    → HasCause to count false → Stops hash space (texts ++ text ∷ more) no.DiskFault from count a c
stops_disk hash space texts more text faults from to count a b c all fails cause = record {
  tried = texts;
  others = text ∷ more;
  uris_are = refl;
  faults = faults;
  each = all.each;
  lost = lost_same faults from to count all.lost cause;
  tries =
      WhereTold-join (TriesOver hash space texts faults None) (OwnGivesNone text hash space DiskFault)
      (StopsOver hash space no.DiskFault texts (text ∷ more) faults) a b c
      (λ x y z first second. disk_join hash space texts more text faults x y z first second) all.tries
      (disk_own text hash space b c fails);
}

-- memory ran out at the next one
pub stops_memory : (hash : List ℕ) (space : ℕ) (texts more : List (List ℕ)) (faults : List ImageFault)
    (from to count : ℕ) (a b c : Option Traffic) → RefusesAll hash space texts faults from to a b → WhereTold MayAdd b c
    → HasCause to count false → Stops hash space (texts ++ more) no.OutOfMemory from count a c
stops_memory hash space texts more faults from to count a b c all fails cause = record {
  tried = texts;
  others = more;
  uris_are = refl;
  faults = faults;
  each = all.each;
  lost = lost_same faults from to count all.lost cause;
  tries =
      WhereTold-join (TriesOver hash space texts faults None) MayAdd
      (StopsOver hash space no.OutOfMemory texts more faults) a b c
      (λ x y z first second. memory_join hash space texts more faults x y z first second) all.tries fails;
}

-- there was no memory for its fault
pub stops_full : (hash : List ℕ) (space : ℕ) (texts more : List (List ℕ)) (faults : List ImageFault)
    (from to : ℕ) (a b : Option Traffic) → RefusesAll hash space texts faults from to a b
    → Stops hash space (texts ++ more) no.OutOfMemory from to a b
stops_full hash space texts more faults from to a b all =
    stops_memory hash space texts more faults from to to a b b all (adds_nothing b)
    (record { never_falls = omega arith; rose = λ yes. absurd (false≢true yes); stood = λ no. refl })

-- ---- where it ends

-- the texts, cut at the one that was tried
cut : (texts more : List (List ℕ)) (text : List ℕ) → (texts ++ text ∷ []) ++ more ≡ texts ++ text ∷ more
cut texts more text = append_assoc texts (text ∷ []) more

ends_late : (hash : List ℕ) (space : ℕ) (texts more : List (List ℕ)) (text : List ℕ) (faults : List ImageFault) (fault : ImageFault)
    (from to count : ℕ) (a b c : Option Traffic) → RefusesAll hash space texts faults from to a b → GoesOn fault → FailsFor text hash space fault b c
    → HasCause to count (is_lost fault) → Stops hash space (texts ++ text ∷ more) no.OutOfMemory from count a c
ends_late hash space texts more text faults fault from to count a b c all goes fails cause =
    subst (λ (l : List (List ℕ)). Stops hash space l no.OutOfMemory from count a c) (cut texts more text)
    (stops_full hash space (texts ++ text ∷ []) more (faults ++ fault ∷ []) from count a c
    (refuses_more hash space texts text faults fault from to count a b c all goes fails cause))

other_end : (hash : List ℕ) (space : ℕ) (texts more : List (List ℕ)) (text : List ℕ) (faults : List ImageFault) (fault : ImageFault)
    (from to count : ℕ) (a b c : Option Traffic) → RefusesAll hash space texts faults from to a b → fault ≢ DiskFault → FailsFor text hash space fault b c
    → HasCause to count (is_lost fault) → Stops hash space (texts ++ text ∷ more) no.OutOfMemory from count a c
other_end hash space texts more text faults NoUri from to count a b c all other fails cause =
    ends_late hash space texts more text faults NoUri from to count a b c all (other, λ same. cc) fails cause
other_end hash space texts more text faults Lost from to count a b c all other fails cause =
    ends_late hash space texts more text faults Lost from to count a b c all (other, λ same. cc) fails cause
other_end hash space texts more text faults EndedEarly from to count a b c all other fails cause =
    ends_late hash space texts more text faults EndedEarly from to count a b c all (other, λ same. cc) fails cause
other_end hash space texts more text faults BadHttp from to count a b c all other fails cause =
    ends_late hash space texts more text faults BadHttp from to count a b c all (other, λ same. cc) fails cause
other_end hash space texts more text faults Coding from to count a b c all other fails cause =
    ends_late hash space texts more text faults Coding from to count a b c all (other, λ same. cc) fails cause
other_end hash space texts more text faults HeadTooLarge from to count a b c all other fails cause =
    ends_late hash space texts more text faults HeadTooLarge from to count a b c all (other, λ same. cc) fails cause
other_end hash space texts more text faults (Status code) from to count a b c all other fails cause =
    ends_late hash space texts more text faults (Status code) from to count a b c all (other, λ same. cc) fails cause
other_end hash space texts more text faults (ImageTooLarge size area) from to count a b c all other fails cause =
    ends_late hash space texts more text faults (ImageTooLarge size area) from to count a b c all (other, λ same. cc) fails cause
other_end hash space texts more text faults (WrongHash found) from to count a b c all other fails cause =
    ends_late hash space texts more text faults (WrongHash found) from to count a b c all (other, λ same. cc) fails cause
other_end hash space texts more text faults DiskFault from to count a b c all other fails cause = absurd (other refl)
other_end hash space texts more text faults OutOfMemory from to count a b c all other fails cause =
    stops_memory hash space texts (text ∷ more) faults from to count a b c all fails cause

pub ends_so : (hash : List ℕ) (space : ℕ) (texts more : List (List ℕ)) (text : List ℕ) (faults : List ImageFault) (fault : ImageFault) (why : NoImage)
    (from to count : ℕ) (a b c : Option Traffic) → EndsFor fault why → RefusesAll hash space texts faults from to a b
    → FailsFor text hash space fault b c → HasCause to count (is_lost fault)
    → BringsNone hash space (texts ++ text ∷ more) from count a c why
ends_so hash space texts more text faults fault why from to count a b c (inl disk) all fails cause =
    subst (λ (w : NoImage). BringsNone hash space (texts ++ text ∷ more) from count a c w) (sym disk.1)
    (stops_disk hash space texts more text faults from to count a b c all (subst (λ (f : ImageFault). FailsFor text hash space f b c) disk.0 fails)
    (subst (λ (f : ImageFault). HasCause to count (is_lost f)) disk.0 cause))
ends_so hash space texts more text faults fault why from to count a b c (inr other) all fails cause =
    subst (λ (w : NoImage). BringsNone hash space (texts ++ text ∷ more) from count a c w) (sym other.1)
    (other_end hash space texts more text faults fault from to count a b c all other.0 fails cause)

-- a fault that goes on, or that isn't the room's, blames the room for nothing
no_blame : (T : Type 0) (fault : ImageFault) → fault ≢ DiskFault → blames_room {T = T} (Err fault) ≡ false
no_blame T NoUri other = refl
no_blame T Lost other = refl
no_blame T EndedEarly other = refl
no_blame T BadHttp other = refl
no_blame T Coding other = refl
no_blame T HeadTooLarge other = refl
no_blame T (Status code) other = refl
no_blame T (ImageTooLarge size area) other = refl
no_blame T (WrongHash found) other = refl
no_blame T DiskFault other = absurd (other refl)
no_blame T OutOfMemory other = refl

pub blames_so : (T U : Type 0) (fault : ImageFault) (why : NoImage) → EndsFor fault why
    → blames_disk {T = U} (Err why) ≡ blames_room {T = T} (Err fault)
blames_so T U fault why (inl disk) =
    ap (λ (w : NoImage). blames_disk {T = U} (Err w)) disk.1 ∙ sym (ap (λ (f : ImageFault). blames_room {T = T} (Err f)) disk.0)
blames_so T U fault why (inr other) =
    ap (λ (w : NoImage). blames_disk {T = U} (Err w)) other.1 ∙ sym (no_blame T fault other.0)

pub goes_blameless : (T : Type 0) (fault : ImageFault) → GoesOn fault → blames_room {T = T} (Err fault) ≡ false
goes_blameless T fault goes = no_blame T fault goes.0
