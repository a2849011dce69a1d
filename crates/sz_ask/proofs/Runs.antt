-- What a call came to, where the network tells its exchanges.
use Rattle.std.proofs.Common.{◌≡◌, ◌≢◌, ℕ, Bool, false, List, [], ◌∷◌, Option, Some, None, Result, Ok, Err, refl, sym, subst, arith, inr}
use Rattle.std.specs.Option.{option_map}
use Rattle.std.specs.Prelude.{OnOk, IfErr}
use Rattle.sz_spec.specs.Told.{WhereTold}
use Rattle.sz_base.specs.declared.evidence.Evidence.{Evidence}
use Rattle.sz_base.specs.declared.target.Target.{Target}
use Rattle.sz_io.specs.Net.{after_close, Traffic}
use Rattle.sz_io.proofs.Exchanges.{Adds-refl}
use Rattle.sz_io.specs.declared.exchange.Exchange.{Exchange}
use Rattle.sz_rest.specs.Reply.{FitsLimits, IsReplyFault, ReplyOf}
use Rattle.sz_rest.specs.declared.fault.RestFault.{RestFault}
use Rattle.sz_rest.specs.declared.fault.RestFault.TheVariants as rest
use Rattle.sz_ask.specs.Coming.{HasCome}
use Rattle.sz_exchange.specs.Exchange.{AddsOne, Hears, IsAsking, Loses, MayAdd}
use Rattle.sz_exchange.proofs.Askings.{going_end, hears, may_add, told_ending}
use Rattle.sz_ask.specs.Asked.{blames_net, HearsReply, Ran, RanTo}
use Rattle.sz_ask.specs.Reply.{HasReply, of_rest, TellsEvidence, TellsFault}
use Rattle.sz_ask.specs.declared.fault.ServerFault.{ServerFault}
use Rattle.sz_ask.specs.declared.fault.ServerFault.TheVariants as server
use Rattle.sz_ask.specs.declared.incoming.Incoming.{Incoming}

abbrev whole : Incoming → List ℕ → Bool → Type 0
whole incoming bytes closed = HasCome incoming bytes closed

abbrev faulty : ServerFault → List ℕ → Bool → Type 0
faulty fault bytes closed = TellsFault bytes closed fault

pub told_same : (R : Traffic → Traffic → Type 0) (a : Option Traffic) → ((x : Traffic) → R x x) → WhereTold R a a
told_same R None step = refl
told_same R (Some x) step = step x

pub nothing_added : (a : Option Traffic) → WhereTold MayAdd a a
nothing_added a = told_same MayAdd a (λ x. ([], Adds-refl x, omega arith))

pub told_weaker : (R T : Traffic → Traffic → Type 0) (a b : Option Traffic) → ((x y : Traffic) → R x y → T x y) → WhereTold R a b → WhereTold T a b
told_weaker R T None b step is = is
told_weaker R T (Some x) None step is = absurd is
told_weaker R T (Some x) (Some y) step is = step x y is

-- where one exchange was added, at most one was
pub one_may : (Is : Exchange → Type 0) (a b : Option Traffic) → WhereTold (AddsOne Is) a b → WhereTold MayAdd a b
one_may Is a b is = told_weaker (AddsOne Is) MayAdd a b (λ x y h. (h.0 ∷ [], h.1.adds, omega arith)) is

pub ran_moved : (target : Target) (r s : List ℕ) (answer : Result Evidence ServerFault) (a b c : Option Traffic) → r ≡ s → c ≡ b
    → Ran target r answer a b → Ran target s answer a c
ran_moved target r s answer a b c text place ran =
    subst (λ (t : List ℕ). Ran target t answer a c) text (subst (λ (o : Option Traffic). Ran target r answer a o) (sym place) ran)

-- ---- the reply, on the way

pub ran_whole : (target : Target) (request bytes : List ℕ) (closed : Bool) (new : Incoming) (a b : Option Traffic)
    → WhereTold (IsAsking target request bytes (going_end closed)) a b → HasCome new bytes closed
    → WhereTold (AddsOne (Hears target request (λ bs end. HasCome new bs end))) a (option_map after_close b)
ran_whole target request bytes closed new a b asking come =
    told_ending (IsAsking target request bytes (going_end closed)) (AddsOne (Hears target request (whole new))) a b
    (λ x y h. hears target request (whole new) bytes closed x y h come) asking

ran_faulty : (target : Target) (request bytes : List ℕ) (closed : Bool) (fault : ServerFault) (a b : Option Traffic)
    → WhereTold (IsAsking target request bytes (going_end closed)) a b → TellsFault bytes closed fault
    → WhereTold (AddsOne (Hears target request (faulty fault))) a (option_map after_close b)
ran_faulty target request bytes closed fault a b asking tells =
    told_ending (IsAsking target request bytes (going_end closed)) (AddsOne (Hears target request (faulty fault))) a b
    (λ x y h. hears target request (faulty fault) bytes closed x y h tells) asking

pub ran_refused : (target : Target) (request bytes : List ℕ) (closed : Bool) (fault : ServerFault) (a b : Option Traffic)
    → WhereTold (IsAsking target request bytes (going_end closed)) a b → TellsFault bytes closed fault
    → Ran target request (Err fault) a (option_map after_close b)
ran_refused target request bytes closed server.Lost a b asking tells = absurd tells
ran_refused target request bytes closed server.OutOfMemory a b asking tells =
    told_ending (IsAsking target request bytes (going_end closed)) MayAdd a b
    (λ x y h. may_add target request bytes (going_end closed) x y h) asking
ran_refused target request bytes closed server.EndedEarly a b asking tells =
    ran_faulty target request bytes closed server.EndedEarly a b asking tells
ran_refused target request bytes closed server.BadHttp a b asking tells =
    ran_faulty target request bytes closed server.BadHttp a b asking tells
ran_refused target request bytes closed server.Coding a b asking tells =
    ran_faulty target request bytes closed server.Coding a b asking tells
ran_refused target request bytes closed (server.TooLarge limit) a b asking tells =
    ran_faulty target request bytes closed (server.TooLarge limit) a b asking tells
ran_refused target request bytes closed (server.Status code) a b asking tells =
    ran_faulty target request bytes closed (server.Status code) a b asking tells
ran_refused target request bytes closed (server.Member name) a b asking tells =
    ran_faulty target request bytes closed (server.Member name) a b asking tells

pub ran_end : {U : Type 0} → (target : Target) (request bytes : List ℕ) (closed : Bool) (new : Incoming) (result : Result U ServerFault)
    (a b : Option Traffic) → WhereTold (IsAsking target request bytes (going_end closed)) a b
    → OnOk result (HasCome new bytes closed) → IfErr result (λ fault. TellsFault bytes closed fault)
    → RanTo target request result new a (option_map after_close b)
ran_end target request bytes closed new (Ok unit) a b asking ok refused = ran_whole target request bytes closed new a b asking ok
ran_end target request bytes closed new (Err fault) a b asking ok refused =
    ran_refused target request bytes closed fault a b asking refused

-- ---- the reply, read

tells_rest : (bytes : List ℕ) (closed : Bool) (status : ℕ) (body : List ℕ) (cause : RestFault) → HasReply bytes closed status body
    → IsReplyFault status body cause → TellsFault bytes closed (of_rest cause)
tells_rest bytes closed status body (rest.Status code) has is = inr (status, body, rest.Status code, has, is, refl)
tells_rest bytes closed status body (rest.Member name) has is = inr (status, body, rest.Member name, has, is, refl)
tells_rest bytes closed status body (rest.TooLarge limit) has is = inr (status, body, rest.TooLarge limit, has, is, refl)
tells_rest bytes closed status body rest.OutOfMemory has is = tt

-- what is heard, told otherwise
hears_as : (target : Target) (request : List ℕ) (One Other : List ℕ → Bool → Type 0) (a b : Option Traffic)
    → ((bytes : List ℕ) (closed : Bool) → One bytes closed → Other bytes closed)
    → WhereTold (AddsOne (Hears target request One)) a b → WhereTold (AddsOne (Hears target request Other)) a b
hears_as target request One Other a b step is =
    told_weaker (AddsOne (Hears target request One)) (AddsOne (Hears target request Other)) a b
    (λ x y h. (
      h.0,
      h.1,
      record {
        target_is = h.2.target_is;
        sent = h.2.sent;
        closed = h.2.closed;
        end_is = h.2.end_is;
        tells = step h.0.received h.2.closed h.2.tells;
      },
    )) is

pub ran_reply_fault : (target : Target) (request : List ℕ) (incoming : Incoming) (status : ℕ) (body : List ℕ) (cause : RestFault)
    (a b : Option Traffic) → WhereTold (AddsOne (Hears target request (whole incoming))) a b
    → ((bytes : List ℕ) (closed : Bool) → HasCome incoming bytes closed → HasReply bytes closed status body)
    → IsReplyFault status body cause → Ran target request (Err (of_rest cause)) a b
ran_reply_fault target request incoming status body (rest.Status code) a b is has fault =
    hears_as target request (whole incoming) (faulty (server.Status code)) a b
    (λ bytes closed come. tells_rest bytes closed status body (rest.Status code) (has bytes closed come) fault) is
ran_reply_fault target request incoming status body (rest.Member name) a b is has fault =
    hears_as target request (whole incoming) (faulty (server.Member name)) a b
    (λ bytes closed come. tells_rest bytes closed status body (rest.Member name) (has bytes closed come) fault) is
ran_reply_fault target request incoming status body (rest.TooLarge limit) a b is has fault =
    hears_as target request (whole incoming) (faulty (server.TooLarge limit)) a b
    (λ bytes closed come. tells_rest bytes closed status body (rest.TooLarge limit) (has bytes closed come) fault) is
ran_reply_fault target request incoming status body rest.OutOfMemory a b is has fault =
    one_may (Hears target request (whole incoming)) a b is

pub ran_evidence : (target : Target) (request : List ℕ) (incoming : Incoming) (status : ℕ) (body : List ℕ) (evidence : Evidence)
    (a b : Option Traffic) → WhereTold (AddsOne (Hears target request (whole incoming))) a b
    → ((bytes : List ℕ) (closed : Bool) → HasCome incoming bytes closed → HasReply bytes closed status body)
    → status ≡ 200 → ReplyOf body evidence → FitsLimits evidence → Ran target request (Ok evidence) a b
ran_evidence target request incoming status body evidence a b is has good reply fits =
    hears_as target request (whole incoming) (λ bytes closed. TellsEvidence bytes closed evidence) a b
    (λ bytes closed come. (body, subst (λ (n : ℕ). HasReply bytes closed n body) good (has bytes closed come), reply, fits)) is

-- ---- whom a fault blames

pub blames_same : (A B : Type 0) (fault : ServerFault) → blames_net {T = A} (Err fault) ≡ blames_net {T = B} (Err fault)
blames_same A B server.Lost = refl
blames_same A B server.EndedEarly = refl
blames_same A B server.BadHttp = refl
blames_same A B server.Coding = refl
blames_same A B (server.TooLarge limit) = refl
blames_same A B (server.Status code) = refl
blames_same A B (server.Member name) = refl
blames_same A B server.OutOfMemory = refl

pub blames_none : (cause : RestFault) → blames_net {T = Evidence} (Err (of_rest cause)) ≡ false
blames_none (rest.Status code) = refl
blames_none (rest.Member name) = refl
blames_none (rest.TooLarge limit) = refl
blames_none rest.OutOfMemory = refl

-- ---- what a caller makes of an answer

-- an answer other than want of memory was heard in the one exchange that was added
pub ran_heard : (target : Target) (request : List ℕ) (answer : Result Evidence ServerFault) (a b : Option Traffic)
    → answer ≢ Err server.OutOfMemory → Ran target request answer a b
    → WhereTold (AddsOne (λ exchange. HearsReply target request exchange answer)) a b
ran_heard target request (Ok evidence) a b told ran = ran
ran_heard target request (Err server.Lost) a b told ran = ran
ran_heard target request (Err server.EndedEarly) a b told ran = ran
ran_heard target request (Err server.BadHttp) a b told ran = ran
ran_heard target request (Err server.Coding) a b told ran = ran
ran_heard target request (Err (server.TooLarge limit)) a b told ran = ran
ran_heard target request (Err (server.Status code)) a b told ran = ran
ran_heard target request (Err (server.Member name)) a b told ran = ran
ran_heard target request (Err server.OutOfMemory) a b told ran = absurd (told refl)

-- at most one exchange was added
pub ran_may : (target : Target) (request : List ℕ) (answer : Result Evidence ServerFault) (a b : Option Traffic)
    → Ran target request answer a b → WhereTold MayAdd a b
ran_may target request (Ok evidence) a b ran =
    one_may (λ exchange. HearsReply target request exchange (Ok evidence)) a b ran
ran_may target request (Err server.Lost) a b ran = one_may (Loses target request) a b ran
ran_may target request (Err server.EndedEarly) a b ran =
    one_may (Hears target request (faulty server.EndedEarly)) a b ran
ran_may target request (Err server.BadHttp) a b ran = one_may (Hears target request (faulty server.BadHttp)) a b ran
ran_may target request (Err server.Coding) a b ran = one_may (Hears target request (faulty server.Coding)) a b ran
ran_may target request (Err (server.TooLarge limit)) a b ran =
    one_may (Hears target request (faulty (server.TooLarge limit))) a b ran
ran_may target request (Err (server.Status code)) a b ran =
    one_may (Hears target request (faulty (server.Status code))) a b ran
ran_may target request (Err (server.Member name)) a b ran =
    one_may (Hears target request (faulty (server.Member name))) a b ran
ran_may target request (Err server.OutOfMemory) a b ran = ran
