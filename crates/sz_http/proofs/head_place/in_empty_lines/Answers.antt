use Rattle.std.proofs.Common.{◌++◌, ◌∷◌, []}
use Rattle.sz_http.proofs.Comes.{came_lf}
use Rattle.sz_http.proofs.HeadSteps.{empty_lines_cr, empty_lines_lf, empty_lines_other, empty_lines_reply, not_reply}
use Rattle.sz_http.proofs.head_place.in_empty_lines.Goals as goal

pub returns-then-byte-eq13-clause-leads : goal.returns-then-byte-eq13-clause-leads
returns-then-byte-eq13-clause-leads c = λ bytes. empty_lines_cr c.args.kind bytes c.args.byte c.if-byte-eq13.true

pub returns-then-byte-eq10-clause-leads : goal.returns-then-byte-eq10-clause-leads
returns-then-byte-eq10-clause-leads c = λ bytes. empty_lines_lf c.args.kind bytes c.args.byte c.if-byte-eq10.true

pub returns-then-byte-eq10-clause-came : goal.returns-then-byte-eq10-clause-came
returns-then-byte-eq10-clause-came c = λ bytes. came_lf c.args.kind bytes c.args.byte c.if-byte-eq10.true

pub returns-in-Reply-clause-leads : goal.returns-in-Reply-clause-leads
returns-in-Reply-clause-leads c = λ bytes.
    empty_lines_reply c.args.kind bytes c.args.byte c.in_version.result c.if-byte-eq13.false c.if-byte-eq10.false c.in-Reply.is
    (c.in_version.ensures.leads bytes)

pub returns-in-Request : goal.returns-in-Request
returns-in-Request c = record {
  leads = λ bytes. empty_lines_other c.args.kind bytes c.args.byte c.at_method.result c.if-byte-eq13.false c.if-byte-eq10.false
      (c.at_method.ensures.leads c.args.kind bytes (not_reply c.args.kind c.in-Request.is));
  came = λ bytes. c.at_method.ensures.came c.args.kind bytes (not_reply c.args.kind c.in-Request.is);
}

pub returns-in-Reply-clause-came : goal.returns-in-Reply-clause-came
returns-in-Reply-clause-came c = λ bytes came. c.in_version.ensures.came (bytes ++ c.args.byte ∷ [])
