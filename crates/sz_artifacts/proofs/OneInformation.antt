-- A value is read as one redirect, and as one piece of onboarding information.
use Rattle.std.proofs.Common.{◌≡◌, ℕ, Bool, true, false, List, [], ◌∷◌, Option, Some, None, MatchBool, refl, ap, subst}
use Rattle.serde_json.specs.Data.{Data, Items, no_items, item}
use Rattle.sz_base.specs.declared.target.Target.{Target}
use Rattle.sz_artifacts.specs.Conveyed.{IsConveyed}
use Rattle.sz_artifacts.specs.Hash.{is_sha256}
use Rattle.sz_artifacts.specs.Image.{IsBootImage, IsHash, NamesHash, NamesHashWhere}
use Rattle.sz_artifacts.specs.Onboarding.{IsImageWhere, IsInformation, IsOnboarding}
use Rattle.sz_artifacts.specs.Redirect.{AreServers, IsRedirect, IsServer}
use Rattle.sz_artifacts.specs.declared.conveyed.Conveyed.{Conveyed}
use Rattle.sz_artifacts.specs.declared.conveyed.Conveyed.TheVariants.{Redirect, Onboarding as OnboardingInformation}
use Rattle.sz_artifacts.specs.declared.conveyed.onboarding.BootImage.{BootImage}
use Rattle.sz_artifacts.specs.declared.conveyed.onboarding.Handling.{Handling}
use Rattle.sz_artifacts.specs.declared.conveyed.onboarding.Onboarding.{Onboarding}

target_parts : (target : Target) (host : List ℕ) (port : ℕ) → target.host ≡ host → target.port ≡ port → target ≡ record { host = host; port = port }
target_parts target host port h p = rw (← h, ← p) refl

one_server : (entry : Data) (target other : Target) → IsServer entry target → IsServer entry other → target ≡ other
one_server entry target other h g =
    let named : h.named ≡ g.named = cc in
    let port : target.port ≡ other.port = cc in
    target_parts target other.host other.port (cc) port

one_list : (entries : Items) (targets others : List Target) → AreServers entries targets → AreServers entries others → targets ≡ others
one_list no_items [] [] h g = refl
one_list no_items [] (other ∷ others) h g = absurd g
one_list no_items (target ∷ targets) others h g = absurd h
one_list (item entry entries) [] others h g = absurd h
one_list (item entry entries) (target ∷ targets) [] h g = absurd g
one_list (item entry entries) (target ∷ targets) (other ∷ others) h g =
    let first = one_server entry target other h.0 g.0 in
    let rest = one_list entries targets others h.1 g.1 in
    cc

one_redirect : (value : Data) (targets others : List Target) → IsRedirect value targets → IsRedirect value others → targets ≡ others
one_redirect value targets others h g =
    let information : g.information ≡ h.information = cc in
    let servers : g.servers ≡ h.servers = cc in
    one_list h.servers targets others h.each (subst (λ entries. AreServers entries others) servers g.each)

one_hash_at : (named : Bool) (entry : Data) (hash other : Option (List ℕ)) (Later Later' : Type 0) → (Later → Later' → hash ≡ other)
    → MatchBool named (IsHash entry hash) Later → MatchBool named (IsHash entry other) Later' → hash ≡ other
one_hash_at true entry hash other Later Later' rest h g =
    let bytes : h.bytes ≡ g.bytes = cc in
    cc
one_hash_at false entry hash other Later Later' rest h g = rest h g

one_hash : (entries : Items) (hash other : Option (List ℕ)) → NamesHash entries hash → NamesHash entries other → hash ≡ other
one_hash no_items hash other h g = cc
one_hash (item entry entries) hash other h g =
    let algorithm : g.0 ≡ h.0 = cc in
    let same = subst (λ name. MatchBool (is_sha256 name) (IsHash entry other) (NamesHash entries other)) algorithm g.2 in
    one_hash_at (is_sha256 h.0) entry hash other (NamesHash entries hash) (NamesHash entries other) (one_hash entries hash other) h.2 same

one_hash_where : (entries : Option Items) (hash other : Option (List ℕ)) → NamesHashWhere entries hash → NamesHashWhere entries other → hash ≡ other
one_hash_where None hash other h g = cc
one_hash_where (Some entries) hash other h g = one_hash entries hash other h g

image_parts : (image : BootImage) (os_name os_version : Option (List ℕ)) (uris : List (List ℕ)) (hash : Option (List ℕ)) → image.os_name ≡ os_name
    → image.os_version ≡ os_version
    → image.uris ≡ uris → image.hash ≡ hash → image ≡ record { os_name = os_name; os_version = os_version; uris = uris; hash = hash }
image_parts image os_name os_version uris hash n v u h = rw (← n, ← v, ← u, ← h) refl

one_image : (value : Data) (image other : BootImage) → IsBootImage value image → IsBootImage value other → image ≡ other
one_image value image other h g =
    let uris : h.uris ≡ g.uris = cc in
    let listed : image.uris ≡ other.uris = cc in
    let verification : g.verification ≡ h.verification = cc in
    let hash = one_hash_where h.verification image.hash other.hash h.hash (subst (λ entries. NamesHashWhere entries other.hash) verification g.hash) in
    image_parts image other.os_name other.os_version other.uris other.hash (cc) (cc) listed hash

one_image_where : (value : Option Data) (image other : Option BootImage) → IsImageWhere value image → IsImageWhere value other → image ≡ other
one_image_where None None None h g = refl
one_image_where None None (Some other) h g = absurd g
one_image_where None (Some image) other h g = absurd h
one_image_where (Some value) None other h g = absurd h
one_image_where (Some value) (Some image) None h g = absurd g
one_image_where (Some value) (Some image) (Some other) h g = ap Some (one_image value image other h g)

onboarding_parts : (onboarding : Onboarding) (image : Option BootImage) (handling : Handling) (pre configuration post : Option (List ℕ))
    → onboarding.image ≡ image
    → onboarding.handling ≡ handling → onboarding.pre ≡ pre → onboarding.configuration ≡ configuration → onboarding.post ≡ post
    → onboarding ≡ record { image = image; handling = handling; pre = pre; configuration = configuration; post = post }
onboarding_parts onboarding image handling pre configuration post i h b c a = rw (← i, ← h, ← b, ← c, ← a) refl

one_information : (information : Data) (onboarding other : Onboarding) → IsInformation information onboarding → IsInformation information other
    → onboarding ≡ other
one_information information onboarding other h g =
    let same : g.image ≡ h.image = cc in
    let image = one_image_where h.image onboarding.image other.image h.of_image (subst (λ value. IsImageWhere value other.image) same g.of_image) in
    let named : h.named ≡ g.named = cc in
    let handling : onboarding.handling ≡ other.handling = cc in
    onboarding_parts onboarding other.image other.handling other.pre other.configuration other.post image handling (cc) (cc) (cc)

one_onboarding : (value : Data) (onboarding other : Onboarding) → IsOnboarding value onboarding → IsOnboarding value other → onboarding ≡ other
one_onboarding value onboarding other h g =
    let same : g.information ≡ h.information = cc in
    one_information h.information onboarding other h.inside (subst (λ information. IsInformation information other) same g.inside)

pub one_conveyed : (value : Data) (conveyed other : Conveyed) → IsConveyed value conveyed → IsConveyed value other → conveyed ≡ other
one_conveyed value (Redirect targets) (Redirect others) h g = ap Redirect (one_redirect value targets others h.1 g.1)
one_conveyed value (Redirect targets) (OnboardingInformation other) h g =
    let apart : Some false ≡ Some true = cc in
    cc
one_conveyed value (OnboardingInformation onboarding) (Redirect others) h g =
    let apart : Some false ≡ Some true = cc in
    cc
one_conveyed value (OnboardingInformation onboarding) (OnboardingInformation other) h g =
    ap OnboardingInformation (one_onboarding value onboarding other h.1 g.1)
