-- What has come of an image after one more front of a piece.
use Rattle.std.proofs.Common.{◌≡◌, ◌⊎◌, ℕ, zero, suc, ◌+◌, ◌<◌, ◌≤◌, Bool, true, false, IsTrue, List, [], ◌∷◌, ◌++◌, length, take, Option, Some, None, Err, refl, sym, ap, ◌∙◌, subst, inl, inr, arith, length-append}
use Rattle.std.proofs.lemmas.Bool.{false≢true}
use Rattle.std.specs.Option.{option_map}
use Rattle.sha2.specs.Hashers.{Holds256}
use Rattle.sha2.specs.Sha256.{sha256}
use Rattle.sz_spec.specs.Cause.{HasCause}
use Rattle.sz_spec.specs.Told.{WhereTold}
use Rattle.sz_base.specs.declared.image.ImageFault.{ImageFault}
use Rattle.sz_base.specs.declared.image.ImageFault.TheVariants.{Uri as NoUri, Lost, EndedEarly, BadHttp, Coding, HeadTooLarge, Status, ImageTooLarge, WrongHash, DiskFault, OutOfMemory}
use Rattle.sz_disk.specs.Room.{Held, HasPut, IsRestarted, IsSound}
use Rattle.sz_io.specs.Net.{Traffic, after_close}
use Rattle.sz_io.specs.declared.exchange.Exchange.{Exchange}
use Rattle.sz_exchange.specs.Exchange.{AddsOne, IsAsking}
use Rattle.sz_exchange.proofs.Askings.{going_end, hears, told_ending}
use Rattle.sz_uri.specs.Uri.{IsUri}
use Rattle.sz_uri.specs.declared.uri.Uri.{Uri}
use Rattle.sz_http.specs.declared.fed.Fed.{Fed}
use Rattle.sz_http.specs.declared.reading.Reading.{Reading}
use Rattle.sz_http.specs.declared.side.Side.TheVariants.{Reply}
use Rattle.sz_http.specs.Reading.{IsWholeAtEnd, Takes}
use Rattle.sz_image.specs.declared.incoming.Incoming.{Incoming}
use Rattle.sz_image.specs.Coming.{HasCome, HasReceived, IsAskingFor, IsComing, IsJudged, StopsFor, TakesFront}
use Rattle.sz_image.specs.Fetch.{Brings, Fails, FailsFor, GivesImage, HearsOf, HoldsBody, blames_net, blames_room}
use Rattle.sz_image.specs.Reply.{GivesBody, HasStatus, IsRefused}
use Rattle.sz_image.specs.Request.{request_text}
use Rattle.sz_image.proofs.Replies.{gives_more, judged_status}
use Rattle.sz_image.proofs.Rooms.{holds_from, same_restarted}

told_put : (body more : List ℕ) (first held now : Option (List ℕ)) → held ≡ option_map (λ x. body) first → now ≡ option_map (λ x. x ++ more) held
    → now ≡ option_map (λ x. body ++ more) first
told_put body more None held now one two = two ∙ ap (λ (o : Option (List ℕ)). option_map (λ x. x ++ more) o) one
told_put body more (Some x) held now one two = two ∙ ap (λ (o : Option (List ℕ)). option_map (λ x. x ++ more) o) one

holds_more : (body more : List ℕ) (first held now : Held) → HoldsBody body first held → HasPut more held now → HoldsBody (body ++ more) first now
holds_more body more first held now holds put = record {
  space = put.space ∙ holds.space;
  used = omega (arith, put.used, holds.used, length-append body more);
  bytes = told_put body more first.bytes held.bytes now.bytes holds.bytes put.bytes;
}

-- there is room for what came of the body
pub has_room : (incoming : Incoming) (reading next : Reading) (first held : Held) (bytes piece : List ℕ) (headed : Bool) (fed : Fed)
    → (coming : IsComing incoming reading first held bytes) → TakesFront first.space bytes coming.body piece next headed fed
    → held.used + length fed.body.now ≤ held.space
has_room incoming reading next first held bytes piece headed fed coming took =
    omega (arith, took.fits, coming.holds.used, coming.holds.space, length-append coming.body fed.body.now)

pub came_more : (old mid new : Incoming) (reading next : Reading) (first held now : Held) (bytes piece : List ℕ) (fed : Fed)
    → (coming : IsComing old reading first held bytes) → TakesFront first.space bytes coming.body piece next mid.headed fed
    → mid.hasher ≡ old.hasher → new.headed ≡ mid.headed
    → ((before : List ℕ) → Holds256 mid.hasher before → Holds256 new.hasher (before ++ fed.body.now))
    → HasPut fed.body.now held now → IsComing new next first now (bytes ++ take fed.used piece)
came_more old mid new reading next first held now bytes piece fed coming took hasher headed hashed put = record {
  body = coming.body ++ fed.body.now;
  taken = took.taken;
  headed = λ yes. took.status (sym headed ∙ yes);
  hashed = hashed coming.body (rw hasher coming.hashed);
  holds = holds_more coming.body fed.body.now first held now coming.holds put;
}

pub came_whole : (old mid new : Incoming) (reading next : Reading) (first held now : Held) (bytes piece more : List ℕ) (fed : Fed)
    → (coming : IsComing old reading first held bytes) → TakesFront first.space bytes coming.body piece next mid.headed fed → fed.done ≡ true
    → mid.hasher ≡ old.hasher → ((before : List ℕ) → Holds256 mid.hasher before → Holds256 new.hasher (before ++ fed.body.now))
    → HasPut fed.body.now held now → HasCome new first now ((bytes ++ take fed.used piece) ++ more) false
came_whole old mid new reading next first held now bytes piece more fed coming took done hasher hashed put = record {
  body = coming.body ++ fed.body.now;
  gives = gives_more first.space (bytes ++ take fed.used piece) more (coming.body ++ fed.body.now) false (took.done done);
  hashed = hashed coming.body (rw hasher coming.hashed);
  holds = holds_more coming.body fed.body.now first held now coming.holds put;
}

-- the end of the connection makes it whole
pub came_to_end : (old new : Incoming) (reading next : Reading) (first held : Held) (bytes : List ℕ) → (coming : IsComing old reading first held bytes)
    → IsWholeAtEnd Reply first.space bytes coming.body next → new.hasher ≡ old.hasher → IsJudged new.headed bytes → HasCome new first held bytes true
came_to_end old new reading next first held bytes coming whole hasher judged = record {
  body = coming.body;
  gives = record {
    status = judged_status new.headed first.space (length bytes) bytes coming.body true whole.verdict.0 judged whole.verdict.1;
    whole = (whole.verdict.0, length bytes, whole.verdict.1);
  };
  hashed = rw hasher coming.hashed;
  holds = coming.holds;
}

-- ---- a front of a piece, within the room's space

pub front_of : (old : Incoming) (reading next : Reading) (first held : Held) (bytes piece : List ℕ) (space : ℕ) (headed : Bool) (fed : Fed)
    → (coming : IsComing old reading first held bytes) → space ≡ held.space
    → ((bytes body : List ℕ) → Takes reading Reply space bytes false body → (IsTrue old.headed → HasStatus bytes 200)
    → TakesFront space bytes body piece next headed fed)
    → TakesFront first.space bytes coming.body piece next headed fed
front_of old reading next first held bytes piece space headed fed coming is took =
    let same : space ≡ first.space = is ∙ coming.holds.space in
    subst (λ (s : ℕ). TakesFront s bytes coming.body piece next headed fed) same
    (took bytes coming.body (subst (λ (s : ℕ). Takes reading Reply s bytes false coming.body) (sym same) coming.taken) coming.headed)

pub refusal_of : (old : Incoming) (reading : Reading) (first held : Held) (bytes piece : List ℕ) (space : ℕ) (fault : ImageFault)
    → (coming : IsComing old reading first held bytes) → space ≡ held.space
    → ((hash bytes body : List ℕ) → Takes reading Reply space bytes false body → IsRefused space hash (bytes ++ piece) false fault)
    → (hash : List ℕ) → IsRefused first.space hash (bytes ++ piece) false fault
refusal_of old reading first held bytes piece space fault coming is refuses hash =
    let same : space ≡ first.space = is ∙ coming.holds.space in
    subst (λ (s : ℕ). IsRefused s hash (bytes ++ piece) false fault) same
    (refuses hash bytes coming.body (subst (λ (s : ℕ). Takes reading Reply s bytes false coming.body) (sym same) coming.taken))

pub moved : (space : ℕ) (before body piece : List ℕ) (reading : Reading) (headed : Bool) (fed : Fed) → TakesFront space before body piece reading headed fed
    → 0 < length piece → fed.done ≡ false → 0 < fed.used
moved space before body piece reading headed fed took some more = judged fed.used refl
  where
    none : (length piece ≡ 0) ⊎ (fed.done ≡ true) → ⊥
    none (inl empty) = omega arith
    none (inr done) = false≢true (sym more ∙ done)

    judged : (n : ℕ) → fed.used ≡ n → 0 < fed.used
    judged zero is = absurd (none (took.moves is))
    judged (suc n) is = omega (arith, is)

-- ---- what no fault of a reply is

pub stops_for : (space : ℕ) (hash bytes : List ℕ) (fault : ImageFault) → IsRefused space hash bytes false fault → StopsFor space hash bytes fault
stops_for space hash bytes NoUri is = is
stops_for space hash bytes Lost is = is
stops_for space hash bytes EndedEarly is = is
stops_for space hash bytes BadHttp is = is
stops_for space hash bytes Coding is = is
stops_for space hash bytes HeadTooLarge is = is
stops_for space hash bytes (Status code) is = is
stops_for space hash bytes (ImageTooLarge size area) is = is
stops_for space hash bytes (WrongHash found) is = is
stops_for space hash bytes DiskFault is = tt
stops_for space hash bytes OutOfMemory is = is

pub blameless_room : (T : Type 0) (space : ℕ) (hash bytes : List ℕ) (closed : Bool) (fault : ImageFault) → IsRefused space hash bytes closed fault
    → blames_room {T = T} (Err fault) ≡ false
blameless_room T space hash bytes closed NoUri is = refl
blameless_room T space hash bytes closed Lost is = refl
blameless_room T space hash bytes closed EndedEarly is = refl
blameless_room T space hash bytes closed BadHttp is = refl
blameless_room T space hash bytes closed Coding is = refl
blameless_room T space hash bytes closed HeadTooLarge is = refl
blameless_room T space hash bytes closed (Status code) is = refl
blameless_room T space hash bytes closed (ImageTooLarge size area) is = refl
blameless_room T space hash bytes closed (WrongHash found) is = refl
blameless_room T space hash bytes closed DiskFault is = absurd is
blameless_room T space hash bytes closed OutOfMemory is = refl

pub blameless_net : (T : Type 0) (space : ℕ) (hash bytes : List ℕ) (closed : Bool) (fault : ImageFault) → IsRefused space hash bytes closed fault
    → blames_net {T = T} (Err fault) ≡ false
blameless_net T space hash bytes closed NoUri is = refl
blameless_net T space hash bytes closed Lost is = absurd is
blameless_net T space hash bytes closed EndedEarly is = refl
blameless_net T space hash bytes closed BadHttp is = refl
blameless_net T space hash bytes closed Coding is = refl
blameless_net T space hash bytes closed HeadTooLarge is = refl
blameless_net T space hash bytes closed (Status code) is = refl
blameless_net T space hash bytes closed (ImageTooLarge size area) is = refl
blameless_net T space hash bytes closed (WrongHash found) is = refl
blameless_net T space hash bytes closed DiskFault is = refl
blameless_net T space hash bytes closed OutOfMemory is = refl

pub blameless_stop : (T : Type 0) (space : ℕ) (hash bytes : List ℕ) (fault : ImageFault) → StopsFor space hash bytes fault
    → blames_net {T = T} (Err fault) ≡ false
blameless_stop T space hash bytes NoUri is = refl
blameless_stop T space hash bytes Lost is = absurd is
blameless_stop T space hash bytes EndedEarly is = refl
blameless_stop T space hash bytes BadHttp is = refl
blameless_stop T space hash bytes Coding is = refl
blameless_stop T space hash bytes HeadTooLarge is = refl
blameless_stop T space hash bytes (Status code) is = refl
blameless_stop T space hash bytes (ImageTooLarge size area) is = refl
blameless_stop T space hash bytes (WrongHash found) is = refl
blameless_stop T space hash bytes DiskFault is = refl
blameless_stop T space hash bytes OutOfMemory is = refl

pub no_cause : (before now : ℕ) (failed : Bool) → now ≡ before → failed ≡ false → HasCause before now failed
no_cause before now failed same is = record {
  never_falls = omega (arith, same);
  rose = λ yes. absurd (false≢true (sym is ∙ yes));
  stood = λ no. same;
}

-- ---- a fault of a reply, as a download tells it

-- the connection that stands, over which so much came, and which the server closed or not
abbrev pub IsAskingTo : Uri → List ℕ → Bool → Traffic → Traffic → Type 0
IsAskingTo uri bytes closed = IsAsking uri.target (request_text uri) bytes (going_end closed)

ending : (uri : Uri) (Tells : List ℕ → Bool → Type 0) (bytes : List ℕ) (closed : Bool) (a b : Option Traffic) → Tells bytes closed
    → WhereTold (IsAskingTo uri bytes closed) a b → WhereTold (AddsOne (HearsOf uri Tells)) a (option_map after_close b)
ending uri Tells bytes closed a b is asking =
    told_ending (IsAskingTo uri bytes closed) (AddsOne (HearsOf uri Tells)) a b
    (λ x y h. hears uri.target (request_text uri) Tells bytes closed x y h is) asking

refusing : (uri : Uri) (hash bytes : List ℕ) (space : ℕ) (closed : Bool) (fault : ImageFault) (a b : Option Traffic) → IsRefused space hash bytes closed fault
    → WhereTold (IsAskingTo uri bytes closed) a b
    → WhereTold (AddsOne (HearsOf uri (λ heard closed. IsRefused space hash heard closed fault))) a (option_map after_close b)
refusing uri hash bytes space closed fault a b is asking = ending uri (λ heard closed. IsRefused space hash heard closed fault) bytes closed a b is asking

pub fails_told : (uri : Uri) (hash bytes : List ℕ) (space : ℕ) (closed : Bool) (fault : ImageFault) (a b : Option Traffic)
    → IsRefused space hash bytes closed fault → WhereTold (IsAskingTo uri bytes closed) a b
    → Fails uri hash space fault a (option_map after_close b)
fails_told uri hash bytes space closed NoUri a b is asking = absurd is
fails_told uri hash bytes space closed Lost a b is asking = absurd is
fails_told uri hash bytes space closed EndedEarly a b is asking = refusing uri hash bytes space closed EndedEarly a b is asking
fails_told uri hash bytes space closed BadHttp a b is asking = refusing uri hash bytes space closed BadHttp a b is asking
fails_told uri hash bytes space closed Coding a b is asking = refusing uri hash bytes space closed Coding a b is asking
fails_told uri hash bytes space closed HeadTooLarge a b is asking = refusing uri hash bytes space closed HeadTooLarge a b is asking
fails_told uri hash bytes space closed (Status code) a b is asking = refusing uri hash bytes space closed (Status code) a b is asking
fails_told uri hash bytes space closed (ImageTooLarge size area) a b is asking = refusing uri hash bytes space closed (ImageTooLarge size area) a b is asking
fails_told uri hash bytes space closed (WrongHash found) a b is asking = refusing uri hash bytes space closed (WrongHash found) a b is asking
fails_told uri hash bytes space closed DiskFault a b is asking = absurd is
fails_told uri hash bytes space closed OutOfMemory a b is asking = absurd is

pub stops_told : (uri : Uri) (hash bytes : List ℕ) (space : ℕ) (fault : ImageFault) (a b : Option Traffic) → StopsFor space hash bytes fault
    → WhereTold (IsAskingFor uri bytes) a b → Fails uri hash space fault a (option_map after_close b)
stops_told uri hash bytes space NoUri a b is asking = absurd is
stops_told uri hash bytes space Lost a b is asking = absurd is
stops_told uri hash bytes space EndedEarly a b is asking = refusing uri hash bytes space false EndedEarly a b is asking
stops_told uri hash bytes space BadHttp a b is asking = refusing uri hash bytes space false BadHttp a b is asking
stops_told uri hash bytes space Coding a b is asking = refusing uri hash bytes space false Coding a b is asking
stops_told uri hash bytes space HeadTooLarge a b is asking = refusing uri hash bytes space false HeadTooLarge a b is asking
stops_told uri hash bytes space (Status code) a b is asking = refusing uri hash bytes space false (Status code) a b is asking
stops_told uri hash bytes space (ImageTooLarge size area) a b is asking = refusing uri hash bytes space false (ImageTooLarge size area) a b is asking
stops_told uri hash bytes space (WrongHash found) a b is asking = refusing uri hash bytes space false (WrongHash found) a b is asking
stops_told uri hash bytes space DiskFault a b is asking = ending uri (λ _ _. Unit {0}) bytes false a b tt asking
stops_told uri hash bytes space OutOfMemory a b is asking = absurd is

-- ---- the whole reply

-- a room that holds nothing tells no bytes
pub holds_none : (told : Option (List ℕ)) (used : ℕ) → used ≡ 0 → ((bytes : List ℕ) → told ≡ Some bytes → length bytes ≡ used)
    → told ≡ option_map (λ (held : List ℕ). []) told
holds_none None used none counted = refl
holds_none (Some []) used none counted = refl
holds_none (Some (byte ∷ bytes)) used none counted = absurd (omega (arith, none, counted (byte ∷ bytes) refl))

pub begins_coming : (incoming : Incoming) (reading : Reading) (held : Held) → Takes reading Reply held.space [] false [] → held.used ≡ 0 → IsSound held
    → Holds256 incoming.hasher [] → incoming.headed ≡ false → IsComing incoming reading held held []
begins_coming incoming reading held taken none sound hashed headed = record {
  body = [];
  taken = taken;
  headed = λ yes. absurd (false≢true (sym headed ∙ yes));
  hashed = hashed;
  holds = record { space = refl; used = none; bytes = holds_none held.bytes held.used none sound.counted };
}

pub received_told : (uri : Uri) (incoming : Incoming) (first held : Held) (bytes digest : List ℕ) (closed : Bool) (a b : Option Traffic)
    → HasCome incoming first held bytes closed → ((body : List ℕ) → Holds256 incoming.hasher body → digest ≡ sha256 body)
    → WhereTold (IsAskingTo uri bytes closed) a b → HasReceived uri digest first held a (option_map after_close b)
received_told uri incoming first held bytes digest closed a b come hashes asking = record {
  body = come.body;
  holds = come.holds;
  digest_is = hashes come.body come.hashed;
  heard = ending uri (λ heard closed. GivesBody first.space heard closed come.body) bytes closed a b come.gives asking;
}

-- what the exchange that was added is, it also is
one_so : (P Q : Exchange → Type 0) (a b : Option Traffic) → ((x : Exchange) → P x → Q x) → WhereTold (AddsOne P) a b → WhereTold (AddsOne Q) a b
one_so P Q None b so told = told
one_so P Q (Some x) None so told = told
one_so P Q (Some x) (Some y) so told = (told.0, told.1, so told.0 told.2)

hears_so : (uri : Uri) (Tells So : List ℕ → Bool → Type 0) (x : Exchange) → ((bytes : List ℕ) (closed : Bool) → Tells bytes closed → So bytes closed)
    → HearsOf uri Tells x → HearsOf uri So x
hears_so uri Tells So x so heard = record {
  target_is = heard.target_is;
  sent = heard.sent;
  closed = heard.closed;
  end_is = heard.end_is;
  tells = so x.received heard.closed heard.tells;
}

-- the image that was asked for is in the room that was begun anew
pub brings_of : (uri : Uri) (hash digest : List ℕ) (size : ℕ) (first begun now : Held) (a b : Option Traffic) → IsRestarted first begun
    → HasReceived uri digest begun now a b → digest ≡ hash → size ≡ now.used → Brings uri hash size first now a b
brings_of uri hash digest size first begun now a b restarted received is size_is =
    let hashed : sha256 received.body ≡ hash = sym received.digest_is ∙ is in
    record {
      body = received.body;
      size_is = size_is ∙ received.holds.used;
      holds = holds_from received.body first begun now (same_restarted first begun restarted) received.holds;
      hash_is = hashed;
      given =
          subst (λ (s : ℕ). WhereTold (AddsOne (GivesImage uri hash s received.body)) a b) restarted.space
          (one_so (HearsOf uri (λ bytes closed. GivesBody begun.space bytes closed received.body)) (GivesImage uri hash begun.space received.body) a b
          (λ x heard. record { heard = heard; hash_is = hashed }) received.heard);
    }

pub wrong_of : (uri : Uri) (hash digest : List ℕ) (space : ℕ) (begun now : Held) (a b : Option Traffic) → begun.space ≡ space
    → HasReceived uri digest begun now a b → (digest ≡ hash → ⊥) → Fails uri hash space (WrongHash digest) a b
wrong_of uri hash digest space begun now a b same received other =
    let Gives = λ (bytes : List ℕ) (closed : Bool). GivesBody begun.space bytes closed received.body in
    let Wrong = λ (bytes : List ℕ) (closed : Bool). IsRefused begun.space hash bytes closed (WrongHash digest) in
    subst (λ (s : ℕ). WhereTold (AddsOne (HearsOf uri (λ bytes closed. IsRefused s hash bytes closed (WrongHash digest)))) a b) same
    (one_so (HearsOf uri Gives) (HearsOf uri Wrong) a b
    (λ x heard. hears_so uri Gives Wrong x (λ bytes closed gives. (received.body, gives, received.digest_is, other)) heard) received.heard)

-- ---- a text that is a URI

pub fails_for : (text hash : List ℕ) (uri : Uri) (space : ℕ) (fault : ImageFault) (a b : Option Traffic) → IsUri text uri → Fails uri hash space fault a b
    → FailsFor text hash space fault a b
fails_for text hash uri space NoUri a b is fails = absurd fails
fails_for text hash uri space Lost a b is fails = (uri, is, fails)
fails_for text hash uri space EndedEarly a b is fails = (uri, is, fails)
fails_for text hash uri space BadHttp a b is fails = (uri, is, fails)
fails_for text hash uri space Coding a b is fails = (uri, is, fails)
fails_for text hash uri space HeadTooLarge a b is fails = (uri, is, fails)
fails_for text hash uri space (Status code) a b is fails = (uri, is, fails)
fails_for text hash uri space (ImageTooLarge size area) a b is fails = (uri, is, fails)
fails_for text hash uri space (WrongHash found) a b is fails = (uri, is, fails)
fails_for text hash uri space DiskFault a b is fails = (uri, is, fails)
fails_for text hash uri space OutOfMemory a b is fails = fails
