use Rattle.std.proofs.Common.{ℕ, List, [], ap, sym, ◌∙◌, arith}
use Rattle.std.proofs.lemmas.Bool.{iff_false}
use Rattle.std.proofs.lemmas.Option.{get_or_from_slice_get}
use Rattle.sz_http.specs.Parts.{fields_of}
use Rattle.sz_http.specs.Framing.{value_if}
use Rattle.sz_http.proofs.Values.{value_named, value_unnamed}
use Rattle.sz_rest.proofs.asked.value_at.Goals as goal
use Rattle.sz_rest.proofs.asked.value_at.Goals.{in_default-via-in-Some+else-eq_ignore_ascii_case, in_default-via-in_default}

pub returns-in-Some : goal.returns-in-Some
returns-in-Some c = λ inside.
    let e = get_or_from_slice_get (fields_of c.args.fields.now) c.args.index _ ([], []) c.in-Some.ensures.some in
    value_named c.args.name.now (c.in-Some.found.now, c.in-Some.value.now) (c.eq_ignore_ascii_case.ensures.test.0 c.if-eq_ignore_ascii_case.true)
    ∙ ap (λ (field : List ℕ × List ℕ). value_if c.args.name.now field) (sym e)

pub returns-in_default : goal.returns-in_default
returns-in_default c = λ inside. elim c.in_default.branch [
  | in_default-via-in-Some+else-eq_ignore_ascii_case w ↦
      let e = get_or_from_slice_get (fields_of c.args.fields.now) c.args.index _ ([], []) w.in-Some.ensures.some in
      value_unnamed c.args.name.now (w.in-Some.found.now, w.in-Some.value.now)
      (iff_false w.eq_ignore_ascii_case.ensures.test w.if-eq_ignore_ascii_case.false)
      ∙ ap (λ (field : List ℕ × List ℕ). value_if c.args.name.now field) (sym e)
  | in_default-via-in_default w ↦ absurd (omega (arith, w.in_default.ensures.none))
]
