use Rattle.std.proofs.Common.{sym, ◌∙◌}
use Rattle.std.proofs.lemmas.Bool.{iff_false}
use Rattle.sz_http.proofs.Comes.{came_more_target}
use Rattle.sz_http.proofs.HeadSteps.{target_goes_on, target_ends, target_refused, whole_slice, slice_whole}
use Rattle.sz_http.proofs.head_place.in_target.Goals as goal
use Rattle.sz_http.proofs.head_place.in_target.Goals.{else-byte-eq32-via-then-byte-eq32+else-is_whole_target, else-byte-eq32-via-else-byte-eq32}

pub returns-then-is_uri_token-clause-leads : goal.returns-then-is_uri_token-clause-leads
returns-then-is_uri_token-clause-leads c = λ kind.
    target_goes_on kind c.args.start c.args.bytes.now c.args.byte c.if-start-bytes.false (sym c.is_uri_token.ensures ∙ c.if-is_uri_token.true)

pub returns-then-is_uri_token-clause-came : goal.returns-then-is_uri_token-clause-came
returns-then-is_uri_token-clause-came c = λ kind.
    came_more_target kind c.args.bytes.now c.args.byte c.args.start (sym c.is_uri_token.ensures ∙ c.if-is_uri_token.true)

pub returns-then-is_whole_target-clause-leads : goal.returns-then-is_whole_target-clause-leads
returns-then-is_whole_target-clause-leads c = λ kind.
    target_ends kind c.args.start c.args.bytes.now _ c.args.byte c.if-start-bytes.false c.if-byte-eq32.true
    (whole_slice c.args.start c.args.bytes.now (c.is_whole_target.ensures.0 c.if-is_whole_target.true))

pub returns-clause-leads : goal.returns-clause-leads
returns-clause-leads c = λ kind.
    let fails = sym c.is_uri_token.ensures ∙ c.if-is_uri_token.false in
    elim c.else-byte-eq32.branch [
      | else-byte-eq32-via-then-byte-eq32+else-is_whole_target w ↦
          target_refused kind c.args.start c.args.bytes.now _ c.args.byte fails
          (λ e whole. iff_false w.is_whole_target.ensures w.if-is_whole_target.false (slice_whole c.args.start c.args.bytes.now whole))
      | else-byte-eq32-via-else-byte-eq32 w ↦
          target_refused kind c.args.start c.args.bytes.now _ c.args.byte fails (λ e whole. w.if-byte-eq32.false e)
    ]
