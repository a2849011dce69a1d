-- What each call of a network does to the exchange with a server.
use Rattle.std.proofs.Common.{◌≡◌, ℕ, zero, suc, ◌<◌, ◌==◌, ◌&&◌, not, Bool, true, false, if◌then◌else◌, List, [], ◌∷◌, ◌++◌, length, take, drop, Option, Some, None, Result, Ok, Err, OnOk, IsSomeAnd, MatchOption, refl, sym, ap, ◌∙◌, subst, arith, append-nil}
use Rattle.std.proofs.Math.Dec.{eqb-suc-zero}
use Rattle.std.proofs.lemmas.Bool.{and_left}
use Rattle.std.proofs.lemmas.List.{drop_at, take-append-drop}
use Rattle.std.specs.Option.{option_map}
use Rattle.sz_spec.specs.Told.{WhereTold}
use Rattle.sz_base.specs.declared.target.Target.{Target}
use Rattle.sz_io.specs.Added.{Adds}
use Rattle.sz_io.specs.Connection.{with_received}
use Rattle.sz_io.specs.Net.{Standing, Traffic, exchange_of, exchanges, left_behind, first_standing, first_end, ended, sent_on, received_on, with_standing, refused_exchange, after_close, after_refused_connect, after_refused_receive, Connects, Sends, SendsFront, FailsToSend, Receives}
use Rattle.sz_io.specs.declared.exchange.Exchange.{Exchange}
use Rattle.sz_io.specs.declared.exchange.ExchangeEnd.{ExchangeEnd}
use Rattle.sz_io.specs.declared.exchange.ExchangeEnd.TheVariants.{Open, Closed, Lost, Left}
use Rattle.sz_io.proofs.Exchanges.{AreLater-length, Adds-added, Adds-join, Adds-close, Adds-connect, Adds-refused_connect, Adds-send, Adds-refused_send, Adds-receive, Adds-refused_receive}
use Rattle.sz_exchange.specs.Exchange.{Adds1, AddsOne, end_of, Hears, IsAsking, Loses, MayAdd}

-- ---- one exchange

-- behind the exchanges of before, with the one that stood left, there is one more
only_one : (a c : Traffic) (more : List Exchange) (x : Exchange) → Adds a c more → exchanges c ≡ left_behind a ++ x ∷ [] → more ≡ x ∷ []
only_one a c more x adds all =
    let close = Adds-close a in
    let kept : left_behind a ≡ close.kept ++ [] = close.split in
    let long : length (exchanges a) ≡ length (left_behind a) =
    omega (arith, AreLater-length (exchanges a) close.kept close.later, ap length kept, ap length (append-nil close.kept)) in
    Adds-added a c more adds ∙ ap (λ (n : ℕ). drop n (exchanges c)) long ∙ ap (λ (l : List Exchange). drop (length (left_behind a)) l) all
    ∙ drop_at (left_behind a) (x ∷ []) (length (left_behind a)) refl

-- the connection goes on
moves : (target : Target) (sent received sent2 received2 : List ℕ) (end end2 : ExchangeEnd) (a b c : Traffic) (d : Standing)
    → (asking : IsAsking target sent received end a b) → Adds b c [] → c ≡ with_standing b d
    → d.target ≡ asking.standing.target → d.connection.sent ≡ sent2 → d.connection.received ≡ received2 → d.end ≡ end2
    → IsAsking target sent2 received2 end2 a c
moves target sent received sent2 received2 end end2 a b c d asking adds is target_same sent_is received_is end_is =
    let joined = Adds-join a b c (exchange_of asking.standing ∷ []) [] asking.adds adds in
    let all : exchanges c ≡ left_behind a ++ exchange_of d ∷ [] =
    ap (λ (t : Traffic). exchanges t) is ∙ ap (λ (l : List Exchange). l ++ exchange_of d ∷ []) asking.past in
    record {
      standing = d;
      stands = ap (λ (t : Traffic). t.standing) is;
      past = ap (λ (t : Traffic). t.past) is ∙ asking.past;
      adds = subst (λ (l : List Exchange). Adds a c l) (only_one a c (joined.extended ++ []) (exchange_of d) joined.adds all) joined.adds;
      target_is = target_same ∙ asking.target_is;
      sent_is = sent_is;
      received_is = received_is;
      end_is = end_is;
    }

pub connected : (target : Target) (a b : Traffic) → Connects target a b → IsAsking target [] [] Open a b
connected target a b connects = record {
  standing = first_standing target connects.answer;
  stands = connects.standing;
  past = connects.past;
  adds = Adds-connect target a b connects;
  target_is = refl;
  sent_is = refl;
  received_is = refl;
  end_is = refl;
}

pub sent_all : (target : Target) (bytes : List ℕ) (a b c : Traffic) → IsAsking target [] [] Open a b → Sends bytes b c → IsAsking target bytes [] Open a c
sent_all target bytes a b c asking sends =
    let is : c ≡ with_standing b (sent_on bytes asking.standing) =
    subst (λ (o : Option Standing). IsSomeAnd o (λ s. c ≡ with_standing b (sent_on bytes s))) asking.stands sends in
    moves target [] [] bytes [] Open Open a b c (sent_on bytes asking.standing) asking (Adds-send bytes b c sends) is refl
    (ap (λ (l : List ℕ). l ++ bytes) asking.sent_is) asking.received_is asking.end_is

pub sent_lost : (target : Target) (bytes : List ℕ) (a b c : Traffic) → IsAsking target [] [] Open a b → FailsToSend bytes b c
    → (n : ℕ) × IsAsking target (take n bytes) [] Lost a c
sent_lost target bytes a b c asking fails =
    let s = asking.standing in
    let is : (n : ℕ) × (c ≡ with_standing b (ended Lost (sent_on (take n bytes) s))) =
    subst (λ (o : Option Standing). MatchOption o (c ≡ b)
    (λ s. (n : ℕ) × (c ≡ with_standing b (ended Lost (sent_on (take n bytes) s))))) asking.stands fails in (
      is.0,
      moves target [] [] (take is.0 bytes) [] Open Lost a b c (ended Lost (sent_on (take is.0 bytes) s)) asking (Adds-refused_send bytes b c fails) is.1 refl
          (ap (λ (l : List ℕ). l ++ take is.0 bytes) asking.sent_is) asking.received_is (ap (λ (e : ExchangeEnd). first_end e Lost) asking.end_is),
    )

same_standing : (target : Target) (sent received into : List ℕ) (count : ℕ) (a b c : Traffic) → (asking : IsAsking target sent received Open a b)
    → (receives : Receives into count b c) → receives.standing ≡ asking.standing
same_standing target sent received into count a b c asking receives = let both = sym receives.stood ∙ asking.stands in cc

received_some : (into : List ℕ) (count : ℕ) (s : Standing) → 0 < count → received_on into count s ≡ record s { connection = with_received count s.connection }
received_some into zero s some = absurd (omega arith)
received_some into (suc count) s some =
    ap (λ (b : Bool). if b then ended Closed s else record s { connection = with_received (suc count) s.connection })
    (and_left (suc count == 0) (not (length into == 0)) (eqb-suc-zero count))

received_none : (into : List ℕ) (s : Standing) → 0 < length into → received_on into 0 s ≡ ended Closed s
received_none [] s some = absurd (omega arith)
received_none (byte ∷ into) s some =
    ap (λ (b : Bool). if 0 == 0 && not b then ended Closed s else record s { connection = with_received 0 s.connection }) (eqb-suc-zero (length into))

pub received_more : (target : Target) (sent received into : List ℕ) (count : ℕ) (a b c : Traffic) → 0 < count → IsAsking target sent received Open a b
    → Receives into count b c → IsAsking target sent (received ++ take count into) Open a c
received_more target sent received into count a b c some asking receives =
    let s = asking.standing in
    let same = same_standing target sent received into count a b c asking receives in
    let is : c ≡ with_standing b (record s { connection = with_received count s.connection }) =
    receives.gives ∙ ap (λ (t : Standing). with_standing b (received_on into count t)) same
    ∙ ap (λ (t : Standing). with_standing b t) (received_some into count s some) in
    let bytes : take count s.connection.rest.bytes ≡ take count into =
    sym (receives.may.bytes ∙ ap (λ (t : Standing). take count t.connection.rest.bytes) same) in
    moves target sent received sent (received ++ take count into) Open Open a b c (record s { connection = with_received count s.connection }) asking
    (Adds-receive into count b c receives) is refl asking.sent_is
    (ap (λ (l : List ℕ). l ++ take count s.connection.rest.bytes) asking.received_is ∙ ap (λ (l : List ℕ). received ++ l) bytes) asking.end_is

pub received_end : (target : Target) (sent received into : List ℕ) (count : ℕ) (a b c : Traffic) → count ≡ 0 → 0 < length into
    → IsAsking target sent received Open a b → Receives into count b c → IsAsking target sent received Closed a c
received_end target sent received into count a b c none some asking receives =
    let s = asking.standing in
    let same = same_standing target sent received into count a b c asking receives in
    let is : c ≡ with_standing b (ended Closed s) =
    receives.gives ∙ ap (λ (t : Standing). with_standing b (received_on into count t)) same ∙ ap (λ (n : ℕ). with_standing b (received_on into n s)) none
    ∙ ap (λ (t : Standing). with_standing b t) (received_none into s some) in
    moves target sent received sent received Open Closed a b c (ended Closed s) asking (Adds-receive into count b c receives) is refl asking.sent_is
    asking.received_is (ap (λ (e : ExchangeEnd). first_end e Closed) asking.end_is)

pub received_lost : (target : Target) (sent received : List ℕ) (a b : Traffic) → IsAsking target sent received Open a b
    → IsAsking target sent received Lost a (after_refused_receive b)
received_lost target sent received a b asking =
    let s = asking.standing in
    let is : after_refused_receive b ≡ with_standing b (ended Lost s) =
    ap (λ (o : Option Standing). record b { standing = option_map (λ s. ended Lost s) o }) asking.stands in
    moves target sent received sent received Open Lost a b (after_refused_receive b) (ended Lost s) asking (Adds-refused_receive b) is refl asking.sent_is
    asking.received_is (ap (λ (e : ExchangeEnd). first_end e Lost) asking.end_is)

-- ---- the end of the exchange

closing : (target : Target) (sent received : List ℕ) (end : ExchangeEnd) (a b : Traffic) → (asking : IsAsking target sent received end a b)
    → Adds1 a (after_close b) (exchange_of (ended Left asking.standing))
closing target sent received end a b asking =
    let x = exchange_of (ended Left asking.standing) in
    let joined = Adds-join a b (after_close b) (exchange_of asking.standing ∷ []) [] asking.adds (Adds-close b) in
    let all : exchanges (after_close b) ≡ left_behind a ++ x ∷ [] =
    ap (λ (o : Option Standing). left_behind (record b { standing = o })) asking.stands ∙ ap (λ (l : List Exchange). l ++ x ∷ []) asking.past in
    record {
      adds = subst (λ (l : List Exchange). Adds a (after_close b) l) (only_one a (after_close b) (joined.extended ++ []) x joined.adds all) joined.adds;
      idle = refl;
    }

-- the end so far of an exchange that goes on
abbrev pub going_end : Bool → ExchangeEnd
going_end true = Closed
going_end false = Open

left_end : (closed : Bool) → first_end (going_end closed) Left ≡ end_of closed
left_end true = refl
left_end false = refl

pub hears : (target : Target) (request : List ℕ) (Tells : List ℕ → Bool → Type 0) (received : List ℕ) (closed : Bool) (a b : Traffic)
    → IsAsking target request received (going_end closed) a b → Tells received closed
    → AddsOne (Hears target request Tells) a (after_close b)
hears target request Tells received closed a b asking tells = (
  exchange_of (ended Left asking.standing),
  closing target request received (going_end closed) a b asking,
  record {
    target_is = asking.target_is;
    sent = asking.sent_is;
    closed = closed;
    end_is = ap (λ (e : ExchangeEnd). first_end e Left) asking.end_is ∙ left_end closed;
    tells = subst (λ (r : List ℕ). Tells r closed) (sym asking.received_is) tells;
  },
)

pub loses : (target : Target) (request sent left received : List ℕ) (a b : Traffic) → IsAsking target sent received Lost a b → request ≡ sent ++ left
    → AddsOne (Loses target request) a (after_close b)
loses target request sent left received a b asking front = (
  exchange_of (ended Left asking.standing),
  closing target sent received Lost a b asking,
  record {
    target_is = asking.target_is;
    sent = (left, front ∙ ap (λ (l : List ℕ). l ++ left) (sym asking.sent_is));
    lost = ap (λ (e : ExchangeEnd). first_end e Left) asking.end_is;
  },
)

pub may_add : (target : Target) (sent received : List ℕ) (end : ExchangeEnd) (a b : Traffic) → IsAsking target sent received end a b → MayAdd a (after_close b)
may_add target sent received end a b asking =
    (exchange_of (ended Left asking.standing) ∷ [], (closing target sent received end a b asking).adds, omega arith)

pub refused_loses : (target : Target) (request : List ℕ) (a : Traffic)
    → AddsOne (Loses target request) a (after_close (after_refused_connect target a))
refused_loses target request a = (
  refused_exchange target,
  record { adds = Adds-refused_connect target a; idle = refl },
  record { target_is = refl; sent = (request, refl); lost = refl },
)

pub unsent_adds : (a : Traffic) → MayAdd a (after_close (after_close a))
unsent_adds a = ([], Adds-close a, omega arith)

-- ---- where the network tells

pub told_on : (R S T : Traffic → Traffic → Type 0) (a b c : Option Traffic) → ((x y z : Traffic) → R x y → S y z → T x z) → WhereTold R a b → WhereTold S b c
    → WhereTold T a c
told_on R S T None None c step first second = second
told_on R S T None (Some y) c step first second = absurd (cc)
told_on R S T (Some x) None c step first second = absurd first
told_on R S T (Some x) (Some y) None step first second = absurd second
told_on R S T (Some x) (Some y) (Some z) step first second = step x y z first second

pub told_to : (R T : Traffic → Traffic → Type 0) (f : Traffic → Traffic) (a b c : Option Traffic) → c ≡ option_map f b → ((x y : Traffic) → R x y → T x (f y))
    → WhereTold R a b → WhereTold T a c
told_to R T f None None c is step first = is
told_to R T f None (Some y) c is step first = absurd (cc)
told_to R T f (Some x) None c is step first = absurd first
told_to R T f (Some x) (Some y) c is step first = rw is (step x y first)

pub told_from : (T : Traffic → Traffic → Type 0) (f : Traffic → Traffic) (a b : Option Traffic) → b ≡ option_map f a
    → ((x : Traffic) → T x (f x)) → WhereTold T a b
told_from T f None b is step = is
told_from T f (Some x) b is step = rw is (step x)

pub told_closed : (T : Traffic → Traffic → Type 0) (f : Traffic → Traffic) (a b : Option Traffic) → b ≡ option_map f a
    → ((x : Traffic) → T x (after_close (f x))) → WhereTold T a (option_map after_close b)
told_closed T f None b is step = ap (λ (o : Option Traffic). option_map after_close o) is
told_closed T f (Some x) b is step = rw is (step x)

pub told_ending : (R T : Traffic → Traffic → Type 0) (a b : Option Traffic) → ((x y : Traffic) → R x y → T x (after_close y)) → WhereTold R a b
    → WhereTold T a (option_map after_close b)
told_ending R T a b step first = told_to R T after_close a b (option_map after_close b) refl step first

pub loses_told : (target : Target) (request bytes : List ℕ) (a b c : Option Traffic) → WhereTold (IsAsking target request bytes Open) a b
    → c ≡ option_map after_refused_receive b → WhereTold (AddsOne (Loses target request)) a (option_map after_close c)
loses_told target request bytes a b c asking failed =
    told_ending (IsAsking target request bytes Lost) (AddsOne (Loses target request)) a c
    (λ x y h. loses target request request [] bytes x y h (sym (append-nil request)))
    (told_to (IsAsking target request bytes Open) (IsAsking target request bytes Lost) after_refused_receive a b c failed
    (λ x y h. received_lost target request bytes x y h) asking)

pub end_told : (target : Target) (request bytes into : List ℕ) (count : ℕ) (a b c : Option Traffic) → count ≡ 0 → 0 < length into
    → WhereTold (IsAsking target request bytes Open) a b → WhereTold (Receives into count) b c
    → WhereTold (IsAsking target request bytes Closed) a c
end_told target request bytes into count a b c none some asking receives =
    told_on (IsAsking target request bytes Open) (Receives into count) (IsAsking target request bytes Closed) a b c
    (λ x y z asked re. received_end target request bytes into count x y z none some asked re) asking receives

pub more_told : (target : Target) (request bytes into piece : List ℕ) (count : ℕ) (a b c : Option Traffic) → 0 < count → piece ≡ take count into
    → WhereTold (IsAsking target request bytes Open) a b → WhereTold (Receives into count) b c
    → WhereTold (IsAsking target request (bytes ++ piece) Open) a c
more_told target request bytes into piece count a b c some is asking receives =
    subst (λ (t : List ℕ). WhereTold (IsAsking target request (bytes ++ t) Open) a c) (sym is)
    (told_on (IsAsking target request bytes Open) (Receives into count) (IsAsking target request (bytes ++ take count into) Open) a b c
    (λ x y z asked re. received_more target request bytes into count x y z some asked re) asking receives)

pub may_told : (target : Target) (request bytes : List ℕ) (a b : Option Traffic) → WhereTold (IsAsking target request bytes Open) a b
    → WhereTold MayAdd a (option_map after_close b)
may_told target request bytes a b asking =
    told_ending (IsAsking target request bytes Open) MayAdd a b (λ x y h. may_add target request bytes Open x y h) asking

-- ---- what the calls do where the network tells

-- an exchange that goes on, with what came of it
abbrev pub GoesOnWith : Target → List ℕ → ExchangeEnd → (List ℕ → Type 0) → Traffic → Traffic → Type 0
GoesOnWith target request end Came old new = (bytes : List ℕ) × IsAsking target request bytes end old new × Came bytes

pub connect_lost : (target : Target) (request : List ℕ) (a b : Option Traffic) → b ≡ option_map (after_refused_connect target) a
    → WhereTold (AddsOne (Loses target request)) a (option_map after_close b)
connect_lost target request None b is = ap (λ (o : Option Traffic). option_map after_close o) is
connect_lost target request (Some x) b is = rw is (refused_loses target request x)

pub connect_unsent : (a b : Option Traffic) → b ≡ option_map after_close a → WhereTold MayAdd a (option_map after_close b)
connect_unsent None b is = ap (λ (o : Option Traffic). option_map after_close o) is
connect_unsent (Some x) b is = rw is (unsent_adds x)

pub sent_whole : (target : Target) (request : List ℕ) (a b c : Option Traffic) → WhereTold (Connects target) a b → WhereTold (Sends request) b c
    → WhereTold (IsAsking target request [] Open) a c
sent_whole target request a b c first second =
    told_on (Connects target) (Sends request) (IsAsking target request [] Open) a b c
    (λ x y z connects sends. sent_all target request x y z (connected target x y connects) sends) first second

pub send_lost : (target : Target) (request : List ℕ) (a b c : Option Traffic) → WhereTold (Connects target) a b → WhereTold (FailsToSend request) b c
    → WhereTold (AddsOne (Loses target request)) a (option_map after_close c)
send_lost target request a b c first second =
    told_to (λ x z. (n : ℕ) × IsAsking target (take n request) [] Lost x z) (AddsOne (Loses target request)) after_close a c (option_map after_close c) refl
    (λ x z lost. loses target request (take lost.0 request) (drop lost.0 request) [] x z lost.1 (sym (take-append-drop lost.0 request)))
    (told_on (Connects target) (FailsToSend request) (λ x z. (n : ℕ) × IsAsking target (take n request) [] Lost x z) a b c
    (λ x y z connects fails. sent_lost target request x y z (connected target x y connects) fails) first second)

pub send_unsent : (target : Target) (request : List ℕ) (a b c : Option Traffic) → WhereTold (Connects target) a b → WhereTold (SendsFront request) b c
    → WhereTold MayAdd a (option_map after_close c)
send_unsent target request a b c first second =
    told_to (λ x z. (n : ℕ) × IsAsking target (take n request) [] Open x z) MayAdd after_close a c (option_map after_close c) refl
    (λ x z part. may_add target (take part.0 request) [] Open x z part.1)
    (told_on (Connects target) (SendsFront request) (λ x z. (n : ℕ) × IsAsking target (take n request) [] Open x z) a b c
    (λ x y z connects sends. (sends.0, sent_all target (take sends.0 request) x y z (connected target x y connects) sends.1)) first second)

-- ---- results

pub on_ok : {T E : Type 0} → (P Q : Type 0) → (result : Result T E) → (P → Q) → OnOk result P → OnOk result Q
on_ok P Q (Ok value) step holds = step holds
on_ok P Q (Err fault) step holds = holds
