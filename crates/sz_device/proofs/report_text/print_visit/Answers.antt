use Rattle.std.proofs.Common.{◌+◌, ◌++◌, List, ℕ, codes, sym, subst}
use Rattle.std.specs.Fmt.{decimal}
use Rattle.sz_commands.proofs.Fronts.{AppendsFront-first, AppendsFront-next, Appends-next}
use Rattle.sz_device.proofs.Lines.{four-parts, refused-first, written-behind}
use Rattle.sz_device.proofs.report_text.print_visit.Goals as goal
use Rattle.sz_device.specs.OnboardText.{item_text, note_end}
use Rattle.sz_spec.specs.Told.{Appends, AppendsFront}
use Rattle.sz_walk.specs.declared.visit.Visit.{Visit}

-- the head of a visit's line
abbrev head_of : Visit → List ℕ
head_of visit = codes "source " ++ decimal (visit.source + 1) ++ codes " depth " ++ decimal visit.depth ++ codes " "

pub returns-in_err-write_parts-clause-written : goal.returns-in_err-write_parts-clause-written
returns-in_err-write_parts-clause-written g c =
    let visit = c.args.visit.now in
    let head = sym (four-parts (decimal (visit.source + 1)) (codes " depth ") (decimal visit.depth) (codes " ")) in
    let front = subst
    (λ (text : List ℕ). AppendsFront (g.O.Sink.written c.args.out.now) (g.O.Sink.written c.write_parts.new.out) (codes "source " ++ text)) head
    (rw (c.as_bytes.ensures.value, c.format.ensures.text, c.from.ensures, c.as_bytes-2.ensures.value, c.format-2.ensures.text)
    at c.in_err-write_parts.ensures.written) in
    refused-first (head_of visit ++ item_text visit.item) (note_end visit.note) c.from_residual.result _ _ c.from_residual.ensures.0
    (AppendsFront-first _ _ (head_of visit) (item_text visit.item) front)

pub returns-in_err-print_item-clause-written : goal.returns-in_err-print_item-clause-written
returns-in_err-print_item-clause-written g c =
    let visit = c.args.visit.now in
    let head = sym (four-parts (decimal (visit.source + 1)) (codes " depth ") (decimal visit.depth) (codes " ")) in
    let written = subst
    (λ (text : List ℕ). Appends (g.O.Sink.written c.args.out.now) (g.O.Sink.written c.write_parts.new.out) (codes "source " ++ text)) head
    (rw (c.as_bytes.ensures.value, c.format.ensures.text, c.from.ensures, c.as_bytes-2.ensures.value, c.format-2.ensures.text)
    at c.in_ok-write_parts.ensures.written) in
    refused-first (head_of visit ++ item_text visit.item) (note_end visit.note) c.from_residual-in_err-print_item.result _ _
    c.from_residual-in_err-print_item.ensures.0
    (AppendsFront-next _ (g.O.Sink.written c.write_parts.new.out) _ (head_of visit) (item_text visit.item) written
    c.in_err-print_item.ensures.written)

pub returns-clause-written : goal.returns-clause-written
returns-clause-written g c =
    let visit = c.args.visit.now in
    let head = sym (four-parts (decimal (visit.source + 1)) (codes " depth ") (decimal visit.depth) (codes " ")) in
    let written = subst
    (λ (text : List ℕ). Appends (g.O.Sink.written c.args.out.now) (g.O.Sink.written c.write_parts.new.out) (codes "source " ++ text)) head
    (rw (c.as_bytes.ensures.value, c.format.ensures.text, c.from.ensures, c.as_bytes-2.ensures.value, c.format-2.ensures.text)
    at c.in_ok-write_parts.ensures.written) in
    written-behind (head_of visit ++ item_text visit.item) (note_end visit.note) c.print_note.result _ (g.O.Sink.written c.print_item.new.out) _
    (Appends-next _ (g.O.Sink.written c.write_parts.new.out) _ (head_of visit) (item_text visit.item) written c.in_ok-print_item.ensures.written)
    c.print_note.ensures.written
