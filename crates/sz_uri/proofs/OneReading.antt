-- A text gives one URI.
use Rattle.std.proofs.Common.{◌≡◌, List, ℕ, sym, ◌∙◌, ap}
use Rattle.url.specs.Parts.{Parts}
use Rattle.sz_uri.specs.Uri.{IsUri, IsUriOf}
use Rattle.sz_uri.specs.declared.uri.Uri.{Uri}

same_uri : (a b : Uri) → a.target.host ≡ b.target.host → a.target.port ≡ b.target.port
    → a.path_and_query ≡ b.path_and_query → a ≡ b
same_uri a b hosts ports paths =
    let with_host : List ℕ → Uri = λ host. record {
      target = record { host = host; port = a.target.port };
      path_and_query = a.path_and_query;
    } in
    let with_port : ℕ → Uri = λ port. record {
      target = record { host = b.target.host; port = port };
      path_and_query = a.path_and_query;
    } in
    let with_path : List ℕ → Uri = λ path. record { target = b.target; path_and_query = path } in
    ap with_host hosts ∙ ap with_port ports ∙ ap with_path paths

-- the parts of a URL give one
pub one_of_parts : (url : Parts) (a b : Uri) → IsUriOf url a → IsUriOf url b → a ≡ b
one_of_parts url a b ha hb =
    let hosts : a.target.host ≡ b.target.host = cc (ha.host, hb.host) in
    let ports : a.target.port ≡ b.target.port = cc (ha.port, hb.port) in
    let paths : a.path_and_query ≡ b.path_and_query = ha.asked ∙ sym hb.asked in
    same_uri a b hosts ports paths

-- and so does a text
pub one_uri : (text : List ℕ) (a b : Uri) → IsUri text a → IsUri text b → a ≡ b
one_uri text a b ha hb =
    let parts : ha.url ≡ hb.url = cc (ha.parsed, hb.parsed) in
    let gives = rw parts at ha.gives in
    one_of_parts hb.url a b gives hb.gives
