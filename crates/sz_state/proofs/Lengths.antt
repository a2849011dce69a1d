-- A device whose record fits a cell has parts that fit their lengths.
use Rattle.std.proofs.Common.{ℕ, ◌≤◌, List, [], ◌∷◌, length, Option, Some, None, IfSome, unwrap_or, arith}
use Rattle.std.specs.List.{concat}
use Rattle.std.specs.Int.{w32, w64, to_be_bytes}
use Rattle.std.proofs.lemmas.List.{length-append}
use Rattle.sz_base.specs.declared.evidence.Evidence.{Evidence}
use Rattle.sz_base.specs.declared.moment.Moment.{Moment}
use Rattle.sz_artifacts.specs.declared.conveyed.onboarding.BootImage.{BootImage}
use Rattle.sz_artifacts.specs.declared.conveyed.onboarding.Onboarding.{Onboarding}
use Rattle.sz_record.specs.Field.{longest}
use Rattle.sz_record.specs.Spelling.{new_version, long_bytes, optional_bytes, moment_bytes, evidence_bytes, image_bytes, handling_number, committed_bytes, identity_bytes, text_bytes, device_bytes, record_bytes}
use Rattle.sz_record.specs.Stored.{IsLong, IsStorable, IsStorableCommitted, IsStorableEvidence, IsStorableImage, IsStorableMoment, most_name_bytes}
use Rattle.sz_record.specs.declared.device.Committed.{Committed}
use Rattle.sz_record.specs.declared.device.Device.{Device}
use Rattle.sz_record.specs.declared.device.Image.{Image}
use Rattle.sz_state.specs.Change.{HasShortNames}
use Rattle.sz_state.specs.Fitting.{Fits}
use Rattle.sz_state.specs.Step.{commitment, once_onboarded, with_image}

-- each of these parts has at most so many bytes
EachWithin : ℕ → List (List ℕ) → Type 0
EachWithin n [] = Unit {0}
EachWithin n (part ∷ parts) = (length part ≤ n) × EachWithin n parts

each-within : (n : ℕ) (parts : List (List ℕ)) → length (concat parts) ≤ n → EachWithin n parts
unfolding EachWithin
each-within n [] fits = tt
each-within n (part ∷ parts) fits =
    let both = length-append part (concat parts) in
    (omega (arith, both), each-within n parts (omega (arith, both)))

long-within : (n : ℕ) (long : List ℕ) → n ≤ longest → length (long_bytes long) ≤ n → IsLong long
unfolding long_bytes
long-within n long most fits = omega (arith, length-append (to_be_bytes w32 (length long)) long)

optional-within : (n : ℕ) (long : Option (List ℕ)) → n ≤ longest → length (optional_bytes long_bytes long) ≤ n
    → IfSome long IsLong
unfolding optional_bytes
optional-within n None most fits = tt
optional-within n (Some long) most fits = long-within n long most (omega (arith, fits))

evidence-within : (n : ℕ) (evidence : Evidence) → n ≤ longest → length (evidence_bytes evidence) ≤ n
    → IsStorableEvidence evidence
unfolding evidence_bytes EachWithin
evidence-within n evidence most fits =
    let parts = each-within n (long_bytes evidence.ci ∷ optional_bytes long_bytes evidence.oc
    ∷ optional_bytes long_bytes evidence.ov ∷ []) fits in
    record {
      ci = long-within n evidence.ci most parts.0;
      oc = optional-within n evidence.oc most parts.1.0;
      ov = optional-within n evidence.ov most parts.1.1.0;
    }

-- the newer version has a nonce
any_moment : (moment : Moment) → IsStorableMoment new_version moment
any_moment moment older = absurd (omega (arith, older))

image-within : (n : ℕ) (image : Image) → n ≤ longest → length (image_bytes new_version image) ≤ n
    → IsStorableImage new_version image
unfolding image_bytes EachWithin
image-within n image most fits =
    let parts = each-within n ((image.area ∷ []) ∷ to_be_bytes w64 image.size ∷ image.hash
    ∷ moment_bytes new_version image.when ∷ evidence_bytes image.evidence ∷ []) fits in
    record {
      when = any_moment image.when;
      evidence = evidence-within n image.evidence most parts.1.1.1.1.0;
    }

committed-within : (n : ℕ) (committed : Committed) → n ≤ longest → length (committed_bytes new_version committed) ≤ n
    → IsStorableCommitted new_version committed
unfolding committed_bytes EachWithin
committed-within n committed most fits =
    let parts = each-within n (moment_bytes new_version committed.when ∷ evidence_bytes committed.evidence
    ∷ (handling_number committed.handling ∷ []) ∷ optional_bytes long_bytes committed.pre
    ∷ optional_bytes long_bytes committed.configuration ∷ optional_bytes long_bytes committed.post ∷ []) fits in
    record {
      when = any_moment committed.when;
      evidence = evidence-within n committed.evidence most parts.1.0;
      pre = optional-within n committed.pre most parts.1.1.1.0;
      configuration = optional-within n committed.configuration most parts.1.1.1.1.0;
      post = optional-within n committed.post most parts.1.1.1.1.1.0;
    }

-- the parts of a record that has at most so many bytes
parts-within : (n : ℕ) (device : Device) → length (record_bytes new_version device) ≤ n
    → EachWithin n (identity_bytes device.identity ∷ text_bytes device.running_name ∷ text_bytes device.running_version
    ∷ optional_bytes (image_bytes new_version) device.image
    ∷ optional_bytes (committed_bytes new_version) device.onboarded ∷ [])
unfolding record_bytes device_bytes
parts-within n device fits =
    each-within n (identity_bytes device.identity ∷ text_bytes device.running_name ∷ text_bytes device.running_version
    ∷ optional_bytes (image_bytes new_version) device.image
    ∷ optional_bytes (committed_bytes new_version) device.onboarded ∷ []) (omega (arith, fits))

name-within : (named : Option (List ℕ)) (running : List ℕ) → IfSome named (λ name. length name ≤ 256)
    → length running ≤ most_name_bytes → length (unwrap_or named running) ≤ most_name_bytes
name-within None running short fits = fits
name-within (Some name) running short fits = omega (arith, short)

some_image : (n : ℕ) (image : Image) → n ≤ longest → length (optional_bytes (image_bytes new_version) (Some image)) ≤ n
    → IsStorableImage new_version image
unfolding optional_bytes
some_image n image most fits = image-within n image most (omega (arith, fits))

some_committed : (n : ℕ) (committed : Committed) → n ≤ longest
    → length (optional_bytes (committed_bytes new_version) (Some committed)) ≤ n → IsStorableCommitted new_version committed
unfolding optional_bytes
some_committed n committed most fits = committed-within n committed most (omega (arith, fits))

-- the device with an image in place has a record
pub installed-storable : (n : ℕ) (before : Device) (boot : BootImage) (image : Image) → n ≤ longest
    → IsStorable new_version before → HasShortNames boot → Fits n (with_image before boot image)
    → IsStorable new_version (with_image before boot image)
unfolding EachWithin
installed-storable n before boot image most storable short fits =
    let parts = parts-within n (with_image before boot image) fits in
    record {
      identity = storable.identity;
      running_name = name-within boot.os_name before.running_name short.os_name storable.running_name;
      running_version = name-within boot.os_version before.running_version short.os_version storable.running_version;
      image = some_image n image most parts.1.1.1.0;
      onboarded = storable.onboarded;
    }

-- and so has the committed one
pub onboarded-storable : (n : ℕ) (before : Device) (onboarding : Onboarding) (when : Moment) (evidence : Evidence)
    → n ≤ longest → IsStorable new_version before → Fits n (once_onboarded before onboarding when evidence)
    → IsStorable new_version (once_onboarded before onboarding when evidence)
unfolding EachWithin
onboarded-storable n before onboarding when evidence most storable fits =
    let parts = parts-within n (once_onboarded before onboarding when evidence) fits in
    record {
      identity = storable.identity;
      running_name = storable.running_name;
      running_version = storable.running_version;
      image = storable.image;
      onboarded = some_committed n (commitment onboarding when evidence) most parts.1.1.1.1.0;
    }
