-- What a URI gives: the host and port to connect to, and what to ask for there.
use Rattle.std.specs.Prelude.{◌≡◌, ◌≤◌, ◌⊎◌, ℕ, List, [], ◌++◌, Option, Some, None, Ok, option_map, codes}
use Rattle.std.specs.Option.{option_or}
use Rattle.std.specs.Str.{IsUtf8}
use Rattle.url.specs.Host.{host_text}
use Rattle.url.specs.Parser.{parse_url}
use Rattle.url.specs.Parts.{Parts, nonempty_host}
use Rattle.url.specs.Scheme.{default_port}
use Rattle.sz_base.specs.Host.{IsHost}
use Rattle.sz_uri.specs.declared.uri.Uri.{Uri}

-- the schemes of HTTP (RFC 9110 section 4.2)
abbrev pub IsHttp : List ℕ → Type 0
IsHttp scheme = (scheme ≡ codes "http") ⊎ (scheme ≡ codes "https")

-- a question mark and the query, where there is one
abbrev pub query_text : Option (List ℕ) → List ℕ
query_text None = []
query_text (Some query) = codes "?" ++ query

-- what a server is asked for: the path and the query (RFC 9112 section 3.2.1)
abbrev pub asked_for : Parts → List ℕ
asked_for url = url.path ++ query_text url.query

-- The parts of a URL of HTTP give this. Its port is the scheme's own where it names none.
pub record IsUriOf (url : Parts) (uri : Uri) : Type 0 where
  pub scheme : IsHttp url.scheme
  pub host : option_map host_text (nonempty_host url) ≡ Some uri.target.host
  pub is_host : IsHost uri.target.host
  pub port : option_or url.port (default_port url.scheme) ≡ Some uri.target.port
  pub not_zero : 1 ≤ uri.target.port
  pub asked : uri.path_and_query ≡ asked_for url

-- the text is UTF-8, the URL Standard reads it, and its parts give this
pub record IsUri (text : List ℕ) (uri : Uri) : Type 0 where
  pub utf8 : IsUtf8 text
  pub url : Parts
  pub parsed : parse_url None text ≡ Ok url
  pub gives : IsUriOf url uri
