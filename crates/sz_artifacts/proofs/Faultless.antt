-- A value has no member at fault exactly where it is read.
use Rattle.std.proofs.Common.{◌≡◌, ℕ, Bool, true, false, if◌then◌else◌, List, [], ◌∷◌, Option, Some, None, unwrap_or, MatchBool, refl}
use Rattle.serde_json.specs.Data.{Data, Items, no_items, item}
use Rattle.sz_base.specs.declared.target.Target.{Target}
use Rattle.sz_json.proofs.Faultless.{neither, read_inside, read_member}
use Rattle.sz_json.specs.Fault.{fault_of, first_inside}
use Rattle.sz_json.specs.Form.{binary_of, list_of, object_of, port_of, text_of}
use Rattle.sz_json.specs.Member.{optional, required}
use Rattle.sz_json.specs.declared.name.Name.{Name}
use Rattle.sz_json.specs.declared.name.Name.TheVariants as name
use Rattle.sz_artifacts.specs.Address.{address_of}
use Rattle.sz_artifacts.specs.Conveyed.{conveyed_fault, fault_where, has_onboarding, IsConveyed}
use Rattle.sz_artifacts.specs.Hash.{hash_of, is_sha256}
use Rattle.sz_artifacts.specs.Image.{hash_fault, hash_fault_where, image_fault, IsBootImage, IsHash, NamesHash, NamesHashWhere, short_text_of, texts_of}
use Rattle.sz_artifacts.specs.Onboarding.{default_handling, handling_of, image_fault_where, information_fault, IsImageWhere, IsInformation, IsOnboarding, onboarding_fault}
use Rattle.sz_artifacts.specs.Redirect.{AreServers, default_port, IsRedirect, IsServer, redirect_fault, server_fault, servers_fault, some_list_of}
use Rattle.sz_artifacts.specs.declared.conveyed.Conveyed.{Conveyed}
use Rattle.sz_artifacts.specs.declared.conveyed.Conveyed.TheVariants.{Redirect, Onboarding as OnboardingInformation}
use Rattle.sz_artifacts.specs.declared.conveyed.onboarding.BootImage.{BootImage}
use Rattle.sz_artifacts.specs.declared.conveyed.onboarding.Onboarding.{Onboarding}

pub server_fault_none : (entry : Data) (target : Target) → IsServer entry target → server_fault entry ≡ None
server_fault_none entry target h = rw (h.address, h.port)

pub servers_fault_none : (entries : Items) (targets : List Target) → AreServers entries targets → servers_fault entries ≡ None
servers_fault_none no_items [] h = refl
servers_fault_none no_items (target ∷ targets) h = absurd h
servers_fault_none (item entry entries) [] h = absurd h
servers_fault_none (item entry entries) (target ∷ targets) h = rw (server_fault_none entry target h.0) (servers_fault_none entries targets h.1)

pub redirect_fault_none : (value : Data) (targets : List Target) → IsRedirect value targets → redirect_fault value ≡ None
redirect_fault_none value targets h = rw (h.top, h.bootstrap_server) (servers_fault_none h.servers targets h.each)

named_fault : (named : Bool) (entry : Data) (later : Option Name) (hash : Option (List ℕ)) (Later : Type 0) → (Later → later ≡ None)
    → MatchBool named (IsHash entry hash) Later
    → (if named then fault_of (required hash_of name.HashValue entry) else later) ≡ None
named_fault true entry later hash Later rest h = rw h.value
named_fault false entry later hash Later rest h = rest h

pub hash_fault_none : (entries : Items) (hash : Option (List ℕ)) → NamesHash entries hash → hash_fault entries ≡ None
hash_fault_none no_items hash h = refl
hash_fault_none (item entry entries) hash h =
    rw h.1 (named_fault (is_sha256 h.0) entry (hash_fault entries) hash (NamesHash entries hash) (hash_fault_none entries hash) h.2)

hash_fault_where_none : (entries : Option Items) (hash : Option (List ℕ)) → NamesHashWhere entries hash → hash_fault_where entries ≡ None
hash_fault_where_none None hash h = refl
hash_fault_where_none (Some entries) hash h = hash_fault_none entries hash h

pub image_fault_none : (value : Data) (image : BootImage) → IsBootImage value image → image_fault value ≡ None
image_fault_none value image h = rw (h.os_name, h.os_version, h.download_uri, h.image_verification, hash_fault_where_none h.verification image.hash h.hash)

image_fault_where_none : (value : Option Data) (image : Option BootImage) → IsImageWhere value image → image_fault_where value ≡ None
image_fault_where_none None None h = refl
image_fault_where_none None (Some image) h = absurd h
image_fault_where_none (Some value) None h = absurd h
image_fault_where_none (Some value) (Some image) h = image_fault_none value image h

information_fault_none : (information : Data) (onboarding : Onboarding) → IsInformation information onboarding → information_fault information ≡ None
information_fault_none information onboarding h =
    rw (h.boot_image, image_fault_where_none h.image onboarding.image h.of_image, h.handling, h.pre, h.configuration, h.post)

pub onboarding_fault_none : (value : Data) (onboarding : Onboarding) → IsOnboarding value onboarding → onboarding_fault value ≡ None
onboarding_fault_none value onboarding h = rw h.top (information_fault_none h.information onboarding h.inside)

pub conveyed_fault_none : (value : Data) (conveyed : Conveyed) → IsConveyed value conveyed → conveyed_fault value ≡ None
conveyed_fault_none value (Redirect targets) h = rw h.0 (redirect_fault_none value targets h.1)
conveyed_fault_none value (OnboardingInformation onboarding) h = rw h.0 (onboarding_fault_none value onboarding h.1)

-- ---- and the other way: where no member is at fault, it is read

read_server : (entry : Data) → server_fault entry ≡ None → (target : Target) × IsServer entry target
read_server entry h =
    let from_1 = neither _ _ h in
    let from_2 = neither _ _ from_1.1 in
    let address = read_member (required address_of name.Address entry) from_1.0 in
    let port = read_member (optional port_of name.Port entry) from_2.0 in (
      record { host = address.0; port = unwrap_or port.0 default_port },
      record { named = port.0; address = address.1; port = port.1; or_default = refl },
    )

read_servers : (entries : Items) → servers_fault entries ≡ None → (targets : List Target) × AreServers entries targets
read_servers no_items h = ([], tt)
read_servers (item entry entries) h =
    let parts = neither (server_fault entry) (servers_fault entries) h in
    let first = read_server entry parts.0 in
    let rest = read_servers entries parts.1 in
    (first.0 ∷ rest.0, (first.1, rest.1))

read_redirect : (value : Data) → redirect_fault value ≡ None → (targets : List Target) × IsRedirect value targets
read_redirect value h =
    let top = read_inside (required object_of name.RedirectInformation value)
    (λ information. first_inside (required some_list_of name.BootstrapServer information) servers_fault) h in
    let servers = read_inside (required some_list_of name.BootstrapServer top.0) servers_fault top.2 in
    let each = read_servers servers.0 servers.2 in
    (each.0, record { information = top.0; servers = servers.0; top = top.1; bootstrap_server = servers.1; each = each.1 })

read_hash_at : (named : Bool) (entry : Data) (later : Option Name) (Later : Option (List ℕ) → Type 0)
    → (later ≡ None → (hash : Option (List ℕ)) × Later hash)
    → (if named then fault_of (required hash_of name.HashValue entry) else later) ≡ None
    → (hash : Option (List ℕ)) × MatchBool named (IsHash entry hash) (Later hash)
read_hash_at true entry later Later rest h =
    let value = read_member (required hash_of name.HashValue entry) h in
    (Some value.0, record { bytes = value.0; named = refl; value = value.1 })
read_hash_at false entry later Later rest h = rest h

read_hash : (entries : Items) → hash_fault entries ≡ None → (hash : Option (List ℕ)) × NamesHash entries hash
read_hash no_items h = (None, refl)
read_hash (item entry entries) h =
    let algorithm = read_inside (required text_of name.HashAlgorithm entry)
    (λ algorithm. if is_sha256 algorithm then fault_of (required hash_of name.HashValue entry) else hash_fault entries) h in
    let hash = read_hash_at (is_sha256 algorithm.0) entry (hash_fault entries) (NamesHash entries) (read_hash entries) algorithm.2 in
    (hash.0, (algorithm.0, algorithm.1, hash.1))

read_hash_where : (entries : Option Items) → hash_fault_where entries ≡ None → (hash : Option (List ℕ)) × NamesHashWhere entries hash
read_hash_where None h = (None, refl)
read_hash_where (Some entries) h = read_hash entries h

read_image : (value : Data) → image_fault value ≡ None → (image : BootImage) × IsBootImage value image
read_image value h =
    let from_1 = neither _ _ h in
    let from_2 = neither _ _ from_1.1 in
    let from_3 = neither _ _ from_2.1 in
    let from_4 = neither _ _ from_3.1 in
    let os_name = read_member (optional short_text_of name.OsName value) from_1.0 in
    let os_version = read_member (optional short_text_of name.OsVersion value) from_2.0 in
    let uris = read_member (optional texts_of name.DownloadUri value) from_3.0 in
    let verification = read_inside (optional list_of name.ImageVerification value) hash_fault_where from_4.0 in
    let hash = read_hash_where verification.0 verification.2 in (
      record { os_name = os_name.0; os_version = os_version.0; uris = unwrap_or uris.0 []; hash = hash.0 },
      record {
        uris = uris.0;
        verification = verification.0;
        os_name = os_name.1;
        os_version = os_version.1;
        download_uri = uris.1;
        or_none = refl;
        image_verification = verification.1;
        hash = hash.1;
      },
    )

read_image_where : (value : Option Data) → image_fault_where value ≡ None → (image : Option BootImage) × IsImageWhere value image
read_image_where None h = (None, tt)
read_image_where (Some value) h = let image = read_image value h in (Some image.0, image.1)

read_information : (information : Data) → information_fault information ≡ None → (onboarding : Onboarding) × IsInformation information onboarding
read_information information h =
    let from_1 = neither _ _ h in
    let from_2 = neither _ _ from_1.1 in
    let from_3 = neither _ _ from_2.1 in
    let from_4 = neither _ _ from_3.1 in
    let from_5 = neither _ _ from_4.1 in
    let found = read_inside (optional object_of name.BootImage information) image_fault_where from_1.0 in
    let image = read_image_where found.0 found.2 in
    let handling = read_member (optional handling_of name.ConfigurationHandling information) from_2.0 in
    let pre = read_member (optional binary_of name.PreConfigurationScript information) from_3.0 in
    let configuration = read_member (optional binary_of name.Configuration information) from_4.0 in
    let post = read_member (optional binary_of name.PostConfigurationScript information) from_5.0 in (
      record {
        image = image.0;
        handling = unwrap_or handling.0 default_handling;
        pre = pre.0;
        configuration = configuration.0;
        post = post.0;
      },
      record {
        image = found.0;
        named = handling.0;
        boot_image = found.1;
        of_image = image.1;
        handling = handling.1;
        or_default = refl;
        pre = pre.1;
        configuration = configuration.1;
        post = post.1;
      },
    )

read_onboarding : (value : Data) → onboarding_fault value ≡ None → (onboarding : Onboarding) × IsOnboarding value onboarding
read_onboarding value h =
    let top = read_inside (required object_of name.OnboardingInformation value) information_fault h in
    let inside = read_information top.0 top.2 in
    (inside.0, record { information = top.0; top = top.1; inside = inside.1 })

read_where : (value : Data) (top : Option Bool) → has_onboarding value ≡ top → fault_where value top ≡ None → (conveyed : Conveyed) × IsConveyed value conveyed
read_where value None e h = cc
read_where value (Some false) e h = let redirect = read_redirect value h in (Redirect redirect.0, (e, redirect.1))
read_where value (Some true) e h = let onboarding = read_onboarding value h in (OnboardingInformation onboarding.0, (e, onboarding.1))

pub read_conveyed : (value : Data) → conveyed_fault value ≡ None → (conveyed : Conveyed) × IsConveyed value conveyed
read_conveyed value h = read_where value (has_onboarding value) refl h
