-- What a call adds to the exchanges so far, and that two calls add what the first adds and then what the
-- second adds.
use Rattle.std.proofs.Common.{◌≡◌, ◌≢◌, ◌<◌, subst, inl, inr, ℕ, zero, suc, IsTrue, ◌==◌, ◌&&◌, not, Bool, true, false, if◌then◌else◌, IsSomeAnd, MatchOption, List, [], ◌∷◌, ◌++◌, length, take, drop, Option, Some, None, refl, sym, ap, ◌∙◌, append_assoc, append-nil, arith}
use Rattle.std.proofs.Math.Dec.{eqb-suc-zero}
use Rattle.std.proofs.lemmas.Bool.{and_left}
use Rattle.std.proofs.lemmas.List.{drop_at, take_at}
use Rattle.std.specs.Option.{option_map}
use Rattle.sz_base.specs.declared.target.Target.{Target}
use Rattle.sz_io.specs.declared.script.Script.{Script}
use Rattle.sz_io.specs.declared.exchange.Exchange.{Exchange}
use Rattle.sz_io.specs.declared.exchange.ExchangeEnd.{ExchangeEnd}
use Rattle.sz_io.specs.declared.exchange.ExchangeEnd.TheVariants.{Open, Closed, Lost, Left}
use Rattle.sz_io.specs.Connection.{push_some, with_received, IsAtClose, MayReceive}
use Rattle.sz_io.proofs.Connections.{all_bytes-with_received}
use Rattle.sz_io.specs.Net.{Traffic, left_behind, Standing, exchanges, exchange_of, first_end, ended, sent_on, received_on, with_standing, first_standing, refused_exchange, after_close, after_refused_connect, after_refused_receive, Connects, Sends, SendsFront, FailsToSend, Receives}
use Rattle.sz_io.specs.Added.{IsLater, AreLater, ReceivedFrom, TakesFirst, CameOf, answer_of, StandsOn, TakesAnswers, Adds, added}

pub IsLater-refl : (e : Exchange) → IsLater e e
IsLater-refl e = record { target = refl; sent = ([], sym (append-nil e.sent)); received = ([], sym (append-nil e.received)); end = λ _. refl }

pub IsLater-trans : (a b c : Exchange) → IsLater a b → IsLater b c → IsLater a c
IsLater-trans a b c ab bc = record {
  target = bc.target ∙ ab.target;
  sent = (ab.sent.0 ++ bc.sent.0, bc.sent.1 ∙ ap (λ l. l ++ bc.sent.0) ab.sent.1 ∙ append_assoc a.sent ab.sent.0 bc.sent.0);
  received = (ab.received.0 ++ bc.received.0, bc.received.1 ∙ ap (λ l. l ++ bc.received.0) ab.received.1 ∙ append_assoc a.received ab.received.0 bc.received.0);
  end = λ ended. bc.end (λ opened. ended (sym (ab.end ended) ∙ opened)) ∙ ab.end ended;
}

pub AreLater-refl : (xs : List Exchange) → AreLater xs xs
AreLater-refl [] = refl
AreLater-refl (x ∷ xs) = (IsLater-refl x, AreLater-refl xs)

pub AreLater-trans : (xs ys zs : List Exchange) → AreLater xs ys → AreLater ys zs → AreLater xs zs
AreLater-trans [] [] zs first second = second
AreLater-trans [] (y ∷ ys) zs first second = absurd (cc)
AreLater-trans (x ∷ xs) [] zs first second = absurd first
AreLater-trans (x ∷ xs) (y ∷ ys) [] first second = absurd second
AreLater-trans (x ∷ xs) (y ∷ ys) (z ∷ zs) first second = (IsLater-trans x y z first.0 second.0, AreLater-trans xs ys zs first.1 second.1)

pub AreLater-length : (xs ys : List Exchange) → AreLater xs ys → length ys ≡ length xs
AreLater-length [] ys later = ap length later
AreLater-length (x ∷ xs) [] later = absurd later
AreLater-length (x ∷ xs) (y ∷ ys) later = let same : length ys ≡ length xs = AreLater-length xs ys later.1 in omega arith

-- a later form of two lists joined is a later form of each, joined
pub record AreLaterParts (xs ys zs : List Exchange) : Type 0 where
  pub front : List Exchange
  pub back : List Exchange
  pub joined : zs ≡ front ++ back
  pub first : AreLater xs front
  pub second : AreLater ys back

pub AreLater-parts : (xs ys zs : List Exchange) → AreLater (xs ++ ys) zs → AreLaterParts xs ys zs
AreLater-parts [] ys zs later = record { front = []; back = zs; joined = refl; first = refl; second = later }
AreLater-parts (x ∷ xs) ys [] later = absurd later
AreLater-parts (x ∷ xs) ys (z ∷ zs) later =
    let rest = AreLater-parts xs ys zs later.1 in
    record { front = z ∷ rest.front; back = rest.back; joined = ap (λ l. z ∷ l) rest.joined; first = (later.0, rest.first); second = rest.second }

pub AreLater-push : (xs : List Exchange) (x y : Exchange) → IsLater x y → AreLater (xs ++ x ∷ []) (xs ++ y ∷ [])
AreLater-push [] x y later = (later, refl)
AreLater-push (z ∷ xs) x y later = (IsLater-refl z, AreLater-push xs x y later)

takes-rest : (x : Exchange) (more : List Exchange) (front others back : List Script) → TakesFirst x front others
    → CameOf more (others ++ back) → CameOf (x ∷ more) (front ++ back)
takes-rest x more front others back (inl took) rest = (others ++ back, inl (took.0, ap (λ l. l ++ back) took.1, took.2), rest)
takes-rest x more front others back (inr refused) rest = (others ++ back, inr (ap (λ l. l ++ back) refused.0, refused.1), rest)

pub CameOf-append : (xs ys : List Exchange) (front back : List Script) → CameOf xs front → CameOf ys back → CameOf (xs ++ ys) (front ++ back)
CameOf-append [] ys front back first second = rw first second
CameOf-append (x ∷ xs) ys front back first second =
    let rest = CameOf-append xs ys first.0 back first.2 second in
    takes-rest x (xs ++ ys) front first.0 back first.1 rest

-- nothing ended, and no answer was taken
pub TakesAnswers-none : (a b : Traffic) → b.to_come ≡ a.to_come
    → ((stood : List Script) → StandsOn a.standing stood → StandsOn b.standing stood) → TakesAnswers a b []
TakesAnswers-none a b same stands = record {
  front = [];
  answers = sym same;
  took = λ stood on. record { past = []; last = stood; all = append-nil stood; in_order = refl; stands = stands stood on };
}

pub TakesAnswers-join : (a b c : Traffic) (first second : List Exchange) → TakesAnswers a b first → TakesAnswers b c second → TakesAnswers a c (first ++ second)
TakesAnswers-join a b c first second ab bc = record {
  front = ab.front ++ bc.front;
  answers = ab.answers ∙ ap (λ l. ab.front ++ l) bc.answers ∙ sym (append_assoc ab.front bc.front c.to_come);
  took = λ stood on.
      let one = ab.took stood on in
      let two = bc.took one.last one.stands in
      record {
        past = one.past ++ two.past;
        last = two.last;
        all = sym (append_assoc stood ab.front bc.front) ∙ ap (λ l. l ++ bc.front) one.all ∙ append_assoc one.past one.last bc.front
            ∙ ap (λ l. one.past ++ l) two.all ∙ sym (append_assoc one.past two.past two.last);
        in_order = CameOf-append first second one.past two.past one.in_order two.in_order;
        stands = two.stands;
      };
}

-- a call that does nothing adds nothing
pub Adds-refl : (a : Traffic) → Adds a a []
Adds-refl a = record {
  kept = exchanges a;
  split = sym (append-nil (exchanges a));
  later = AreLater-refl (exchanges a);
  past = ([], sym (append-nil a.past));
  taken = TakesAnswers-none a a refl (λ _ on. on);
}

-- what was added are the exchanges behind those of before
pub Adds-added : (a b : Traffic) (more : List Exchange) → Adds a b more → more ≡ added a b
Adds-added a b more adds =
    let long : length adds.kept ≡ length (exchanges a) = AreLater-length (exchanges a) adds.kept adds.later in
    sym (ap (drop (length (exchanges a))) adds.split ∙ drop_at adds.kept more (length (exchanges a)) long)

-- Two calls add what the first one added, in a later form, and then what the second one added.
pub record AddsJoined (a c : Traffic) (first second : List Exchange) : Type 0 where
  pub extended : List Exchange
  pub later : AreLater first extended
  pub adds : Adds a c (extended ++ second)

pub Adds-join : (a b c : Traffic) (first second : List Exchange) → Adds a b first → Adds b c second → AddsJoined a c first second
Adds-join a b c first second ab bc =
    let both : AreLater (ab.kept ++ first) bc.kept = rw (← ab.split) bc.later in
    let parts = AreLater-parts ab.kept first bc.kept both in
    record {
      extended = parts.back;
      later = parts.second;
      adds = record {
        kept = parts.front;
        split = bc.split ∙ ap (λ l. l ++ second) parts.joined ∙ append_assoc parts.front parts.back second;
        later = AreLater-trans (exchanges a) ab.kept parts.front ab.later parts.first;
        past = (ab.past.0 ++ bc.past.0, bc.past.1 ∙ ap (λ l. l ++ bc.past.0) ab.past.1 ∙ append_assoc a.past ab.past.0 bc.past.0);
        taken = TakesAnswers-join a b c ab.past.0 bc.past.0 ab.taken bc.taken;
      };
    }

push_some-append : (front back : List Exchange) (o : Option Exchange) → push_some (front ++ back) o ≡ front ++ push_some back o
push_some-append front back None = refl
push_some-append front back (Some x) = append_assoc front back (x ∷ [])

same-front : (xs ys zs ws : List Exchange) → length xs ≡ length zs → xs ++ ys ≡ zs ++ ws → xs ≡ zs
same-front xs ys zs ws long same = sym (take_at xs ys (length zs) long) ∙ ap (take (length zs)) same ∙ take_at zs ws (length zs) refl

idle-exchanges : (t : Traffic) → t.standing ≡ None → exchanges t ≡ t.past
idle-exchanges t idle = ap (λ o. push_some t.past (option_map exchange_of o)) idle

-- where no connection stands in between, two calls add just what the first one added and then what the second one added
pub Adds-join_idle : (a b c : Traffic) (first second : List Exchange) → b.standing ≡ None → Adds a b first → Adds b c second → Adds a c (first ++ second)
Adds-join_idle a b c first second idle ab bc =
    let all : exchanges b ≡ b.past = idle-exchanges b idle in
    let long : length bc.kept ≡ length b.past = AreLater-length (exchanges b) bc.kept bc.later ∙ ap length all in
    let tail = push_some bc.past.0 (option_map exchange_of c.standing) in
    let behind : exchanges c ≡ b.past ++ tail = ap (λ l. push_some l (option_map exchange_of c.standing)) bc.past.1
    ∙ push_some-append b.past bc.past.0 (option_map exchange_of c.standing) in
    let same : bc.kept ≡ b.past = same-front bc.kept second b.past tail long (sym bc.split ∙ behind) in
    record {
      kept = ab.kept;
      split = bc.split ∙ ap (λ l. l ++ second) (same ∙ sym all ∙ ab.split) ∙ append_assoc ab.kept first second;
      later = ab.later;
      past = (ab.past.0 ++ bc.past.0, bc.past.1 ∙ ap (λ l. l ++ bc.past.0) ab.past.1 ∙ append_assoc a.past ab.past.0 bc.past.0);
      taken = TakesAnswers-join a b c ab.past.0 bc.past.0 ab.taken bc.taken;
    }

-- What was added where no connection stood before: the exchanges gone since, and the one that stands.
pub Adds-idle : (a b : Traffic) (more : List Exchange) → a.standing ≡ None → (adds : Adds a b more)
    → more ≡ push_some adds.past.0 (option_map exchange_of b.standing)
Adds-idle a b more idle adds =
    let tail = push_some adds.past.0 (option_map exchange_of b.standing) in
    let behind : exchanges b ≡ a.past ++ tail = ap (λ l. push_some l (option_map exchange_of b.standing)) adds.past.1
    ∙ push_some-append a.past adds.past.0 (option_map exchange_of b.standing) in
    let long : length (exchanges a) ≡ length a.past = ap length (idle-exchanges a idle) in
    Adds-added a b more adds ∙ ap (λ n. drop n (exchanges b)) long ∙ ap (drop (length a.past)) behind ∙ drop_at a.past tail (length a.past) refl

stands-none : (o : Option Standing) (last : List Script) → o ≡ None → StandsOn o last → last ≡ []
stands-none None last none on = on
stands-none (Some s) last none on = absurd (cc)

idle-took : (a b : Traffic) (gone : List Exchange) (o p : Option Standing) → o ≡ None → p ≡ None → a.standing ≡ o → b.standing ≡ p
    → (taken : TakesAnswers a b gone) → CameOf gone taken.front
idle-took a b gone o p before now ao bp taken =
    let on : StandsOn a.standing [] = rw (ao ∙ before) refl in
    let took = taken.took [] on in
    let none : took.last ≡ [] = stands-none b.standing took.last (bp ∙ now) took.stands in
    let all : taken.front ≡ took.past = took.all ∙ ap (λ l. took.past ++ l) none ∙ append-nil took.past in
    rw all took.in_order

-- where no connection stands before or after, the exchanges added took the answers that were taken, in order
pub Adds-came_of : (a b : Traffic) (more : List Exchange) → a.standing ≡ None → b.standing ≡ None → (adds : Adds a b more) → CameOf more adds.taken.front
Adds-came_of a b more before now adds =
    let gone : more ≡ adds.past.0 = Adds-idle a b more before adds ∙ ap (λ o. push_some adds.past.0 (option_map exchange_of o)) now in
    rw gone (idle-took a b adds.past.0 None None refl refl before now adds.taken)

first_end-stays : (end later : ExchangeEnd) → end ≢ Open → first_end end later ≡ end
first_end-stays Open later came = absurd (came refl)
first_end-stays Closed later came = refl
first_end-stays Lost later came = refl
first_end-stays Left later came = refl

pub IsLater-ended : (end : ExchangeEnd) (s : Standing) → IsLater (exchange_of s) (exchange_of (ended end s))
IsLater-ended end s = record {
  target = refl;
  sent = ([], sym (append-nil s.connection.sent));
  received = ([], sym (append-nil s.connection.received));
  end = first_end-stays s.end end;
}

pub IsLater-sent : (bytes : List ℕ) (s : Standing) → IsLater (exchange_of s) (exchange_of (sent_on bytes s))
IsLater-sent bytes s = record {
  target = refl;
  sent = (bytes, refl);
  received = ([], sym (append-nil s.connection.received));
  end = λ _. refl;
}

later-either : (e f g : Standing) (first : Bool) → IsLater (exchange_of e) (exchange_of f) → IsLater (exchange_of e) (exchange_of g)
    → IsLater (exchange_of e) (exchange_of (if first then f else g))
later-either e f g true one other = one
later-either e f g false one other = other

pub IsLater-received : (into : List ℕ) (count : ℕ) (s : Standing) → IsLater (exchange_of s) (exchange_of (received_on into count s))
IsLater-received into count s =
    later-either s (ended Closed s) (record s { connection = with_received count s.connection }) (count == 0 && not (length into == 0)) (IsLater-ended Closed s)
    (record { target = refl; sent = ([], sym (append-nil s.connection.sent)); received = (take count s.connection.rest.bytes, refl); end = λ _. refl })

left-later : (past : List Exchange) (o : Option Standing)
    → AreLater (push_some past (option_map exchange_of o)) (push_some past (option_map (λ s. exchange_of (ended Left s)) o))
left-later past None = AreLater-refl past
left-later past (Some s) = AreLater-push past (exchange_of s) (exchange_of (ended Left s)) (IsLater-ended Left s)

past-stays : (past : List Exchange) (o : Option Exchange) → (gone : List Exchange) × (push_some past o ≡ past ++ gone)
past-stays past None = ([], sym (append-nil past))
past-stays past (Some x) = (x ∷ [], refl)

-- the exchange that stood took the answer that it stood on
came-left : (end : ExchangeEnd) (s : Standing) → (end ≡ Closed → IsAtClose s.connection) → ReceivedFrom (answer_of s) (record (exchange_of s) { end = end })
came-left end s close = record {
  front = (s.connection.rest.bytes, refl);
  whole = λ closed. sym (ap (λ l. s.connection.received ++ l) (close closed).no_more ∙ append-nil s.connection.received);
  closed = λ closed. (close closed).closed;
}

left-closed : (end later : ExchangeEnd) → later ≢ Closed → first_end end later ≡ Closed → end ≡ Closed
left-closed Open later other closed = absurd (other closed)
left-closed Closed later other closed = refl
left-closed Lost later other closed = closed
left-closed Left later other closed = closed

left-took : (past : List Exchange) (o : Option Standing) (stood : List Script) → StandsOn o stood
    → CameOf (past-stays past (option_map (λ s. exchange_of (ended Left s)) o)).0 stood
unfolding past-stays
left-took past None stood on = on
left-took past (Some s) stood on =
    ([], inl (answer_of s, on.0, came-left (first_end s.end Left) s (λ closed. on.1 (left-closed s.end Left (λ same. absurd (cc)) closed))), refl)

-- a connect that succeeds adds an exchange without bytes
pub Adds-connect : (target : Target) (a b : Traffic) (connects : Connects target a b) → Adds a b (exchange_of (first_standing target connects.answer) ∷ [])
Adds-connect target a b connects =
    let gone = past-stays a.past (option_map (λ s. exchange_of (ended Left s)) a.standing) in
    record {
      kept = left_behind a;
      split = ap (λ o. push_some b.past (option_map exchange_of o)) connects.standing
          ∙ ap (λ l. l ++ exchange_of (first_standing target connects.answer) ∷ []) connects.past;
      later = left-later a.past a.standing;
      past = (gone.0, connects.past ∙ gone.1);
      taken = record {
        front = connects.answer ∷ [];
        answers = connects.taken;
        took = λ stood on. record {
          past = stood;
          last = connects.answer ∷ [];
          all = refl;
          in_order = left-took a.past a.standing stood on;
          stands = rw connects.standing (refl, λ closed. absurd (cc));
        };
      };
    }

-- a connect that fails adds a lost one
pub Adds-refused_connect : (target : Target) (a : Traffic) → Adds a (after_refused_connect target a) (refused_exchange target ∷ [])
Adds-refused_connect target a =
    let lost = refused_exchange target ∷ [] in
    let gone = past-stays a.past (option_map (λ s. exchange_of (ended Left s)) a.standing) in
    record {
      kept = left_behind a;
      split = refl;
      later = left-later a.past a.standing;
      past = (gone.0 ++ lost, ap (λ l. l ++ lost) gone.1 ∙ append_assoc a.past gone.0 lost);
      taken = record {
        front = [];
        answers = refl;
        took = λ stood on. record {
          past = stood ++ [];
          last = [];
          all = sym (append-nil (stood ++ []));
          in_order = CameOf-append gone.0 lost stood [] (left-took a.past a.standing stood on) ([], inr (refl, refl), refl);
          stands = refl;
        };
      };
    }

-- a close adds none
pub Adds-close : (a : Traffic) → Adds a (after_close a) []
Adds-close a = record {
  kept = left_behind a;
  split = sym (append-nil (left_behind a));
  later = left-later a.past a.standing;
  past = past-stays a.past (option_map (λ s. exchange_of (ended Left s)) a.standing);
  taken = record {
    front = [];
    answers = refl;
    took = λ stood on. record { past = stood; last = []; all = refl; in_order = left-took a.past a.standing stood on; stands = refl };
  };
}

-- A connection that went on: its exchange is a later form, on the same answer, and a close comes at its end.
pub record GoesOn (before now : Standing) : Type 0 where
  pub later : IsLater (exchange_of before) (exchange_of now)
  pub answer : answer_of now ≡ answer_of before
  pub close : (before.end ≡ Closed → IsAtClose before.connection) → now.end ≡ Closed → IsAtClose now.connection

goes-on-stands : (s d : Standing) (answers : List Script) → GoesOn s d → StandsOn (Some s) answers → StandsOn (Some d) answers
goes-on-stands s d answers goes_on on = (on.0 ∙ ap (λ answer. answer ∷ []) (sym goes_on.answer), goes_on.close on.1)

pub GoesOn-trans : (a b c : Standing) → GoesOn a b → GoesOn b c → GoesOn a c
GoesOn-trans a b c ab bc = record {
  later = IsLater-trans (exchange_of a) (exchange_of b) (exchange_of c) ab.later bc.later;
  answer = bc.answer ∙ ab.answer;
  close = λ before. bc.close (ab.close before);
}

GoesOn-lost : (s : Standing) → GoesOn s (ended Lost s)
GoesOn-lost s = record {
  later = IsLater-ended Lost s;
  answer = refl;
  close = λ before closed. before (left-closed s.end Lost (λ same. absurd (cc)) closed);
}

closes-same : (s : Standing) (bytes : List ℕ) → IsAtClose s.connection → IsAtClose (sent_on bytes s).connection
closes-same s bytes close = record { no_more = close.no_more; closed = close.closed }

GoesOn-sent : (bytes : List ℕ) (s : Standing) → GoesOn s (sent_on bytes s)
GoesOn-sent bytes s = record { later = IsLater-sent bytes s; answer = refl; close = λ before closed. closes-same s bytes (before closed) }

GoesOn-closed : (s : Standing) → IsAtClose s.connection → GoesOn s (ended Closed s)
GoesOn-closed s close = record { later = IsLater-ended Closed s; answer = refl; close = λ _ _. close }

drop-none : (count : ℕ) (bytes : List ℕ) → bytes ≡ [] → drop count bytes ≡ []
drop-none zero bytes none = none
drop-none (suc count) [] none = refl
drop-none (suc count) (byte ∷ bytes) none = absurd (cc)

GoesOn-took : (count : ℕ) (s : Standing) → GoesOn s (record s { connection = with_received count s.connection })
GoesOn-took count s = record {
  later = record { target = refl; sent = ([], sym (append-nil s.connection.sent)); received = (take count s.connection.rest.bytes, refl); end = λ _. refl };
  answer = ap (λ bytes. record { bytes = bytes; closed = s.connection.rest.closed }) (all_bytes-with_received count s.connection);
  close = λ before closed. record {
    no_more = drop-none count s.connection.rest.bytes (before closed).no_more;
    closed = (before closed).closed;
  };
}

GoesOn-either : (s d e : Standing) (first : Bool) → (IsTrue first → GoesOn s d) → GoesOn s e → GoesOn s (if first then d else e)
GoesOn-either s d e true one other = one refl
GoesOn-either s d e false one other = other

is-end : (count long : ℕ) → IsTrue (count == 0 && not (long == 0)) → (count ≡ 0) × (0 < long)
is-end zero zero holds = absurd (cc)
is-end zero (suc long) holds = (refl, (omega arith))
is-end (suc count) long holds =
    let no : true ≡ false = sym holds ∙ and_left (suc count == 0) (not (long == 0)) (eqb-suc-zero count) in
    absurd (cc)

GoesOn-received : (into : List ℕ) (count : ℕ) (s : Standing) → MayReceive s.connection into count → GoesOn s (received_on into count s)
GoesOn-received into count s may =
    GoesOn-either s (ended Closed s) (record s { connection = with_received count s.connection }) (count == 0 && not (length into == 0))
    (λ holds. let at = is-end count (length into) holds in GoesOn-closed s (may.end at.0 at.1)) (GoesOn-took count s)

-- what goes on over the connection that stands adds none
pub Adds-standing : (a : Traffic) (s d : Standing) → a.standing ≡ Some s → GoesOn s d → Adds a (with_standing a d) []
Adds-standing a s d stood goes_on = record {
  kept = a.past ++ exchange_of d ∷ [];
  split = sym (append-nil (a.past ++ exchange_of d ∷ []));
  later = rw stood (AreLater-push a.past (exchange_of s) (exchange_of d) goes_on.later);
  past = ([], sym (append-nil a.past));
  taken = TakesAnswers-none a (with_standing a d) refl (λ answers on. goes-on-stands s d answers goes_on (subst (λ o. StandsOn o answers) stood on));
}

stood-some : (P : Standing → Type 0) (o : Option Standing) → IsSomeAnd o P → (s : Standing) × (o ≡ Some s) × P s
stood-some P None given = absurd given
stood-some P (Some s) given = (s, refl, given)

pub Adds-send : (bytes : List ℕ) (a b : Traffic) → Sends bytes a b → Adds a b []
Adds-send bytes a b sends =
    let stood = stood-some (λ s. b ≡ with_standing a (sent_on bytes s)) a.standing sends in
    rw stood.2 (Adds-standing a stood.0 (sent_on bytes stood.0) stood.1 (GoesOn-sent bytes stood.0))

pub Adds-send_front : (bytes : List ℕ) (a b : Traffic) → SendsFront bytes a b → Adds a b []
Adds-send_front bytes a b sends = Adds-send (take sends.0 bytes) a b sends.1

refused_send-cases : (bytes : List ℕ) (a b : Traffic) (o : Option Standing) → a.standing ≡ o
    → MatchOption o (b ≡ a) (λ s. (n : ℕ) × (b ≡ with_standing a (ended Lost (sent_on (take n bytes) s)))) → Adds a b []
refused_send-cases bytes a b None stood fails = rw fails (Adds-refl a)
refused_send-cases bytes a b (Some s) stood fails =
    let sent = sent_on (take fails.0 bytes) s in
    let goes_on = GoesOn-trans s sent (ended Lost sent) (GoesOn-sent (take fails.0 bytes) s) (GoesOn-lost sent) in
    rw fails.1 (Adds-standing a s (ended Lost sent) stood goes_on)

pub Adds-refused_send : (bytes : List ℕ) (a b : Traffic) → FailsToSend bytes a b → Adds a b []
Adds-refused_send bytes a b fails = refused_send-cases bytes a b a.standing refl fails

pub Adds-receive : (into : List ℕ) (count : ℕ) (a b : Traffic) → Receives into count a b → Adds a b []
Adds-receive into count a b receives =
    let s = receives.standing in
    rw receives.gives (Adds-standing a s (received_on into count s) receives.stood (GoesOn-received into count s receives.may))

refused_receive-cases : (a : Traffic) (o : Option Standing) → a.standing ≡ o → Adds a (record a { standing = option_map (ended Lost) o }) []
refused_receive-cases a None stood = rw (← stood) (Adds-refl a)
refused_receive-cases a (Some s) stood = Adds-standing a s (ended Lost s) stood (GoesOn-lost s)

pub Adds-refused_receive : (a : Traffic) → Adds a (after_refused_receive a) []
Adds-refused_receive a = refused_receive-cases a a.standing refl

-- where no connection stands, a close does nothing
pub after_close-idle : (a : Traffic) → a.standing ≡ None → after_close a ≡ a
after_close-idle a idle =
    ap (λ o. record { to_come = a.to_come; past = push_some a.past (option_map (λ s. exchange_of (ended Left s)) o); standing = None }) idle
    ∙ ap (λ o. record { to_come = a.to_come; past = a.past; standing = o }) (sym idle)

-- A connect closes the connection that stands, so that it does the same after a close.
pub Connects-after_close : (target : Target) (a b : Traffic) → Connects target a b → Connects target (after_close a) b
Connects-after_close target a b connects =
    record { answer = connects.answer; taken = connects.taken; past = connects.past; standing = connects.standing }

pub after_refused_connect-after_close : (target : Target) (a : Traffic) → after_refused_connect target (after_close a) ≡ after_refused_connect target a
after_refused_connect-after_close target a = refl
