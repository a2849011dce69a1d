use Rattle.std.proofs.Common.{◌≡◌, ◌<◌, ◌∙◌, length, get_or, rules}
use Rattle.sz_program.proofs.Forms.{not_utf8, texts_more, utf8_more}
use Rattle.sz_program.proofs.form.texts.Goals as goal

pub loop-word-preserved : goal.loop-word-preserved
loop-word-preserved c =
    let i = c.loop-word.word-index in
    let words = c.args.words.now in
    let word = c.word-item.result in
    let within : i < length words = search rules in
    let is : word ≡ get_or words i word = c.word-item.is in
    let bytes : c.as_slice.result.now ≡ word = c.as_slice.ensures in
    record {
      same = rw c.in_ok-push.ensures.items
          (texts_more words i word within is c.loop-word.texts.items c.in-Ok.text (c.in-Ok.ensures.cases.0 ∙ bytes) c.loop-word.invariant.same);
      utf8 = utf8_more words i word within is (rw bytes at c.in-Ok.ensures.cases.1) c.loop-word.invariant.utf8;
    }

pub returns-in_default : goal.returns-in_default
returns-in_default c =
    let i = c.loop-word.word-index in
    let words = c.args.words.now in
    let word = c.word-item.result in
    let within : i < length words = search rules in
    not_utf8 words i word within c.word-item.is (rw c.as_slice.ensures at c.in_default.ensures.cases.0)
