-- The parts of a device, each told by its field.
use Rattle.std.proofs.Common.{◌≡◌, ◌⊎◌, ℕ, ◌==◌, ◌≤◌, Bool, true, false, ◌&&◌, not, if◌then◌else◌, List, [], length, take, get_or, Result, Ok, Err, Option, Some, None, IfSome, refl, sym, ap, subst, ◌∙◌, inl, inr, arith, append-nil, eq-eqb}
use Rattle.std.proofs.Math.Seq.{take-append_seam}
use Rattle.std.proofs.lemmas.Bool.{ne_eqb}
use Rattle.std.proofs.lemmas.List.Sums.{AllPass-from_list_all, list_all-from_AllPass}
use Rattle.std.specs.List.{All, list_all}
use Rattle.sz_base.specs.Identity.{IsWhole}
use Rattle.sz_base.specs.Serial.{IsSerial, is_serial_byte}
use Rattle.sz_base.specs.declared.evidence.Evidence.{Evidence}
use Rattle.sz_base.specs.declared.identity.Identity.{Identity}
use Rattle.sz_base.specs.declared.moment.Moment.{Moment}
use Rattle.sz_artifacts.specs.declared.conveyed.onboarding.Handling.{Handling}
use Rattle.sz_artifacts.specs.declared.conveyed.onboarding.Handling.TheVariants.{Merge, Replace}
use Rattle.sz_record.specs.Field.{nothing, bytes, number, passing, tested, text, long, longest, optional}
use Rattle.sz_record.specs.Reading.{IsWrong, TakesField}
use Rattle.sz_record.specs.Spelling.{old_version, new_version, optional_bytes, text_bytes, long_bytes, anchors_bytes, identity_bytes, time_bytes, nonce_bytes, moment_bytes, evidence_bytes, image_bytes, handling_number, committed_bytes, device_bytes, record_bytes}
use Rattle.sz_record.specs.Stored.{is_serial_text, serial_field, anchors_field, identity_field, nonce_field, moment_field, evidence_field, image_field, committed_field, device_field, record_field, wrong_in, first_wrong, IsLong, IsStorableMoment, IsStorableEvidence, IsStorableImage, IsStorableCommitted, IsStorable, IsWithin, IsStored, HasMomentWidths, HasImageWidths, HasWidths}
use Rattle.sz_record.specs.declared.device.Committed.{Committed}
use Rattle.sz_record.specs.declared.device.Device.{Device}
use Rattle.sz_record.specs.declared.device.Image.{Image}
use Rattle.sz_record.specs.declared.unread.Wrong.{Wrong}
use Rattle.sz_record.specs.declared.unread.Wrong.TheVariants.{At}
use Rattle.sz_record.proofs.Fields.{takes_none, wrong_at}
use Rattle.sz_record.proofs.Told.{Told, told_none, told_next, told_bytes, told_number, told_alone, told_text, told_long, told_optional, told_each, tells_8, tells_64}

-- each value that is there
some_each : {T : Type 0} {P Q : T → Type 0} (value : Option T) → ((v : T) → P v → Q v) → IfSome value P → IfSome value Q
some_each None f h = h
some_each (Some v) f h = f v h

-- the test of a serial number's text, behind its length
pub serial_passes : (serial : List ℕ) → IsSerial serial → is_serial_text (text_bytes serial) ≡ true
unfolding text_bytes
serial_passes serial is =
    ap (λ b. b && not (get_or serial 0 0 == 46)) (list_all-from_AllPass is_serial_byte serial is.allowed)
    ∙ ap (λ b. true && not b) (ne_eqb (get_or serial 0 0) 46 is.first)

pub told_serial : (serial : List ℕ) → IsSerial serial → Told serial_field (text_bytes serial)
unfolding serial_field passing
told_serial serial is =
    let whole = told_text 1 64 serial is.some is.most (omega arith) in
    record {
      takes = λ old new joined.
          let took = whole.takes old new joined in
          let own = text_bytes serial in
          let front : take (length own) old ≡ own =
          ap (λ s. take (length own) s) joined ∙ take-append_seam own new in
          record {
            joined = joined;
            told =
                ap (λ r. tested is_serial_text r old) took.told
                ∙ ap (λ (b : Bool). let r : Result ℕ ℕ = if b then Ok (length own) else Err 0 in r)
                (ap (λ s. is_serial_text s) front ∙ serial_passes serial is);
          };
    }

pub serial_taken : (serial read : List ℕ) (old new : List ℕ) → TakesField (text 1 64) (text_bytes read) old new
    → serial ≡ read → IsSerial read → TakesField serial_field (text_bytes serial) old new
serial_taken serial read old new took same is =
    subst (λ s. TakesField serial_field (text_bytes s) old new) (sym same) ((told_serial read is).takes old new took.joined)

serial_of : (read : List ℕ) → 1 ≤ length read → length read ≤ 64 → is_serial_text (text_bytes read) ≡ true → IsSerial read
unfolding text_bytes
serial_of read some most passes =
    let parts = both_true (list_all is_serial_byte read) (not (get_or read 0 0 == 46)) passes in
    record {
      some = some;
      most = most;
      allowed = AllPass-from_list_all is_serial_byte read parts.0;
      first = λ is. true-not-false (sym parts.1 ∙ ap (λ b. not b) (eq-eqb (get_or read 0 0) 46 is));
    }
  where
    both_true : (a b : Bool) → (a && b) ≡ true → (a ≡ true) × (b ≡ true)
    both_true true true is = (refl, refl)
    both_true true false is = absurd (cc is)
    both_true false b is = absurd (cc is)

    true-not-false : true ≡ false → ⊥
    true-not-false is = cc is

-- a text of the right length that is no serial number
pub serial_wrong : (read : List ℕ) (old new : List ℕ) → TakesField (text 1 64) (text_bytes read) old new → 1 ≤ length read
    → length read ≤ 64 → (IsSerial read → ⊥) → IsWrong serial_field old (At (length old))
unfolding serial_field passing
serial_wrong read old new took some most none =
    let own = text_bytes read in
    let front : take (length own) old ≡ own =
    ap (λ s. take (length own) s) took.joined ∙ take-append_seam own new in
    let test : is_serial_text (take (length own) old) ≡ false =
    ap (λ s. is_serial_text s) front ∙ refused (is_serial_text own) (λ e. none (serial_of read some most e)) in
    wrong_at serial_field old (At (length old)) 0 (length old) refl
    (ap (λ r. tested is_serial_text r old) took.told
    ∙ ap (λ (b : Bool). let r : Result ℕ ℕ = if b then Ok (length own) else Err 0 in r) test)
    (omega arith)
  where
    refused : (b : Bool) → (b ≡ true → ⊥) → b ≡ false
    refused true none = absurd (none refl)
    refused false none = refl

pub told_anchors : (anchors : List (List ℕ)) → 1 ≤ length anchors → length anchors ≤ 8
    → All (λ anchor. length anchor ≤ 65536) anchors → Told anchors_field (anchors_bytes anchors)
unfolding anchors_field anchors_bytes
told_anchors anchors some most short =
    told_number _ (tells_8 (length anchors)) some most (told_each 65536 anchors (omega arith) short)

pub told_identity : (identity : Identity) → IsWhole identity → IsSerial identity.serial
    → Told identity_field (identity_bytes identity)
unfolding identity_field identity_bytes
told_identity identity is serial =
    told_next (told_serial identity.serial serial)
    (told_next (told_text 0 256 identity.os_name (omega arith) is.os_name (omega arith))
    (told_next (told_text 0 256 identity.os_version (omega arith) is.os_version (omega arith))
    (told_next (told_anchors identity.anchors is.some is.most is.anchors) told_none)))

pub told_time : (moment : Moment) → Told (bytes 8) (time_bytes moment.time.0)
unfolding time_bytes
told_time moment = told_bytes 8 _ refl

pub told_nonce : (version : ℕ) (nonce : Option (List ℕ)) → IfSome nonce (λ n. length n ≡ 16)
    → Told (nonce_field version) (nonce_bytes version nonce)
unfolding nonce_field nonce_bytes
told_nonce version nonce wide =
    elim (version == old_version)
    as (λ b. Told (if b then nothing else optional (bytes 16))
    (if b then [] else optional_bytes (λ drawn. drawn) nonce)) [
      | true ↦ told_none
      | false ↦ told_optional (bytes 16) (λ drawn. drawn) nonce (some_each nonce (λ n size. told_bytes 16 n size) wide)
    ]

pub nonce_older : (version : ℕ) (left : List ℕ) → version ≡ 1 → TakesField (nonce_field version) (nonce_bytes version None) left left
unfolding nonce_field nonce_bytes
nonce_older version left is = subst (λ v. TakesField (nonce_field v) (nonce_bytes v None) left left) (sym is) (takes_none left)

pub nonce_newer : (version : ℕ) (nonce : Option (List ℕ)) (old new : List ℕ) → (version ≡ 1 → ⊥)
    → TakesField (optional (bytes 16)) (optional_bytes (λ drawn. drawn) nonce) old new
    → TakesField (nonce_field version) (nonce_bytes version nonce) old new
unfolding nonce_field nonce_bytes
nonce_newer version nonce old new newer took =
    subst (λ (b : Bool). TakesField (if b then nothing else optional (bytes 16))
    (if b then [] else optional_bytes (λ drawn. drawn) nonce) old new)
    (sym (ne_eqb version 1 newer)) took

pub nonce_wrong : (version : ℕ) (left : List ℕ) (wrong : Wrong) → (version ≡ 1 → ⊥) → IsWrong (optional (bytes 16)) left wrong
    → IsWrong (nonce_field version) left wrong
unfolding nonce_field
nonce_wrong version left wrong newer h =
    subst (λ (b : Bool). IsWrong (if b then nothing else optional (bytes 16)) left wrong) (sym (ne_eqb version 1 newer)) h

pub told_moment : (version : ℕ) (moment : Moment) → HasMomentWidths moment
    → Told (moment_field version) (moment_bytes version moment)
unfolding moment_field moment_bytes
told_moment version moment wide =
    told_next (told_time moment) (told_next (told_nonce version moment.nonce wide.nonce) told_none)

pub told_optional_long : (value : Option (List ℕ)) → IfSome value IsLong
    → Told (optional (long longest)) (optional_bytes long_bytes value)
told_optional_long value short =
    told_optional (long longest) long_bytes value (some_each value (λ v h. told_long longest v h (omega arith)) short)

pub told_evidence : (evidence : Evidence) → IsStorableEvidence evidence → Told evidence_field (evidence_bytes evidence)
unfolding evidence_field evidence_bytes
told_evidence evidence is =
    told_next (told_long longest evidence.ci is.ci (omega arith))
    (told_next (told_optional_long evidence.oc is.oc)
    (told_next (told_optional_long evidence.ov is.ov) told_none))

pub told_image : (space version : ℕ) (image : Image) → IsStorableImage version image → IsWithin space image
    → HasImageWidths image → Told (image_field space version) (image_bytes version image)
unfolding image_field image_bytes
told_image space version image is within wide =
    told_next (told_alone (tells_8 image.area) (omega arith) within.area)
    (told_next (told_alone (tells_64 image.size wide.size) (omega arith) within.size)
    (told_next (told_bytes 32 image.hash wide.hash)
    (told_next (told_moment version image.when wide.when)
    (told_next (told_evidence image.evidence is.evidence) told_none))))

pub handling_small : (handling : Handling) → handling_number handling ≤ 1
handling_small Merge = omega arith
handling_small Replace = omega arith

pub told_committed : (version : ℕ) (committed : Committed) → IsStorableCommitted version committed
    → HasMomentWidths committed.when → Told (committed_field version) (committed_bytes version committed)
unfolding committed_field committed_bytes
told_committed version committed is wide =
    let handled : handling_number committed.handling ≤ 1 = handling_small committed.handling in
    told_next (told_moment version committed.when wide)
    (told_next (told_evidence committed.evidence is.evidence)
    (told_next (told_alone (tells_8 (handling_number committed.handling)) (omega arith) handled)
    (told_next (told_optional_long committed.pre is.pre)
    (told_next (told_optional_long committed.configuration is.configuration)
    (told_next (told_optional_long committed.post is.post) told_none)))))

-- both facts of a value that is there
some_both : {T : Type 0} {P Q R : T → Type 0} (value : Option T) → ((v : T) → P v → Q v → R v) → IfSome value P
    → IfSome value Q → IfSome value R
some_both None f p q = p
some_both (Some v) f p q = f v p q

some_all : {T : Type 0} {P Q R S : T → Type 0} (value : Option T) → ((v : T) → P v → Q v → R v → S v)
    → IfSome value P → IfSome value Q → IfSome value R → IfSome value S
some_all None f p q r = p
some_all (Some v) f p q r = f v p q r

pub told_optional_image : (space version : ℕ) (image : Option Image) → IfSome image (IsStorableImage version)
    → IfSome image (IsWithin space) → IfSome image HasImageWidths
    → Told (optional (image_field space version)) (optional_bytes (image_bytes version) image)
told_optional_image space version image is within wide =
    told_optional (image_field space version) (image_bytes version) image
    (some_all image (λ v a b c. told_image space version v a b c) is within wide)

pub told_optional_committed : (version : ℕ) (committed : Option Committed)
    → IfSome committed (IsStorableCommitted version) → IfSome committed (λ c. HasMomentWidths c.when)
    → Told (optional (committed_field version)) (optional_bytes (committed_bytes version) committed)
told_optional_committed version committed is wide =
    told_optional (committed_field version) (committed_bytes version) committed
    (some_both committed (λ v a b. told_committed version v a b) is wide)

pub told_device : (space version : ℕ) (device : Device) → IsStorable version device
    → IfSome device.image (IsWithin space) → HasWidths device
    → Told (device_field space version) (device_bytes version device)
unfolding device_field device_bytes
told_device space version device is within wide =
    told_next (told_identity device.identity is.identity wide.serial)
    (told_next (told_text 0 65535 device.running_name (omega arith) is.running_name (omega arith))
    (told_next (told_text 0 65535 device.running_version (omega arith) is.running_version (omega arith))
    (told_next (told_optional_image space version device.image is.image within wide.image)
    (told_next (told_optional_committed version device.onboarded is.onboarded wide.onboarded)
    told_none))))

known_between : (version : ℕ) → (version ≡ old_version) ⊎ (version ≡ new_version) → (1 ≤ version) × (version ≤ 2)
known_between version (inl is) = (omega arith, omega arith)
known_between version (inr is) = (omega arith, omega arith)

pub told_record : (space version : ℕ) (device : Device) → (version ≡ old_version) ⊎ (version ≡ new_version)
    → IsStorable version device → IfSome device.image (IsWithin space) → HasWidths device
    → Told (record_field space) (record_bytes version device)
unfolding record_field record_bytes
told_record space version device known is within wide =
    let between = known_between version known in
    told_number (device_field space) (tells_8 version) between.0 between.1 (told_device space version device is within wide)

-- a payload that is spelled has no wrong byte
pub stored_is_right : (space : ℕ) (payload : List ℕ) (device : Device) → IsStored space payload device
    → first_wrong space payload ≡ None
unfolding first_wrong
stored_is_right space payload device is =
    let own = record_bytes is.version device in
    let told = (told_record space is.version device is.known is.storable is.within is.widths).takes payload []
    (is.spelled ∙ sym (append-nil own)) in
    let whole : (length own == length payload) ≡ true =
    eq-eqb (length own) (length payload) (ap (λ (s : List ℕ). length s) (sym is.spelled)) in
    ap (λ r. wrong_in r payload) told.told
    ∙ ap (λ (b : Bool). let r : Option ℕ = if b then None else Some (length own) in r) whole

-- what is read can be written
newer_moment : (moment : Moment) → IsStorableMoment new_version moment
newer_moment moment is = absurd (omega arith)

pub stored_is_storable : (space : ℕ) (payload : List ℕ) (device : Device) → IsStored space payload device
    → IsStorable new_version device
stored_is_storable space payload device is = record {
  identity = is.storable.identity;
  running_name = is.storable.running_name;
  running_version = is.storable.running_version;
  image = some_each device.image (λ image h. record { when = newer_moment image.when; evidence = h.evidence })
      is.storable.image;
  onboarded = some_each device.onboarded (λ committed h. record {
    when = newer_moment committed.when;
    evidence = h.evidence;
    pre = h.pre;
    configuration = h.configuration;
    post = h.post;
  }) is.storable.onboarded;
}
