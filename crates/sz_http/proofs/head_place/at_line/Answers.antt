use Rattle.std.proofs.Common.{sym, ◌∙◌}
use Rattle.sz_http.proofs.HeadSteps.{line_cr, line_lf, line_name, line_full, line_refused}
use Rattle.sz_http.proofs.head_place.at_line.Goals as goal
use Rattle.sz_http.proofs.head_place.at_line.Goals.{else-room-gt0-via-then-room-gt0+else-is_header_name_token, else-room-gt0-via-else-room-gt0}

pub returns-then-byte-eq13-clause-leads : goal.returns-then-byte-eq13-clause-leads
returns-then-byte-eq13-clause-leads c = λ kind bytes. line_cr kind bytes c.args.room c.args.byte c.if-byte-eq13.true

pub returns-then-byte-eq10-clause-leads : goal.returns-then-byte-eq10-clause-leads
returns-then-byte-eq10-clause-leads c = λ kind bytes. line_lf kind bytes c.args.room c.args.byte c.if-byte-eq10.true

pub returns-then-is_header_name_token-clause-leads :
    goal.returns-then-is_header_name_token-clause-leads
returns-then-is_header_name_token-clause-leads c = λ kind bytes.
    line_name kind bytes c.args.room c.args.byte c.if-room-gt0.true (sym c.is_header_name_token.ensures ∙ c.if-is_header_name_token.true)

pub returns-clause-leads : goal.returns-clause-leads
returns-clause-leads c = λ kind bytes. elim c.else-room-gt0.branch [
  | else-room-gt0-via-then-room-gt0+else-is_header_name_token w ↦
      line_refused kind bytes c.args.room c.args.byte c.if-byte-eq13.false c.if-byte-eq10.false
      (sym w.is_header_name_token.ensures ∙ w.if-is_header_name_token.false)
  | else-room-gt0-via-else-room-gt0 w ↦
      line_full kind bytes c.args.room c.args.byte w.if-room-gt0.false c.if-byte-eq13.false c.if-byte-eq10.false
]
