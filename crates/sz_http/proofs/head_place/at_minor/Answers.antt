use Rattle.sz_http.proofs.HeadSteps.{minor_reply, minor_request}
use Rattle.sz_http.proofs.head_place.at_minor.Goals as goal

pub returns-in-Reply-clause-leads : goal.returns-in-Reply-clause-leads
returns-in-Reply-clause-leads c = λ bytes. minor_reply c.args.kind bytes c.args.byte c.else-byte-ne48.either c.in-Reply.is

pub returns-in-Request : goal.returns-in-Request
returns-in-Request c = record {
  leads = λ bytes. minor_request c.args.kind bytes c.args.byte c.else-byte-ne48.either c.in-Request.is;
  came = λ bytes. tt;
}
