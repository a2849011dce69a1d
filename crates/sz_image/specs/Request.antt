-- The request for an image, as a device sends it (RFC 9112 sections 3 and 5).
use Rattle.std.specs.Prelude.{ℕ, List, ◌++◌, codes}
use Rattle.httparse.specs.Ascii.{crlf_bytes}
use Rattle.sz_base.specs.Target.{target_text}
use Rattle.sz_uri.specs.declared.uri.Uri.{Uri}

-- GET what the URI asks for, of its host and port, over a connection for this request alone
abbrev pub request_text : Uri → List ℕ
request_text uri =
    codes "GET " ++ uri.path_and_query ++ codes " HTTP/1.1" ++ crlf_bytes
    ++ codes "Host: " ++ target_text uri.target ++ crlf_bytes
    ++ codes "Connection: close" ++ crlf_bytes
    ++ crlf_bytes
