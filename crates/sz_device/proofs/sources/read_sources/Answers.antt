use Rattle.std.proofs.Common.{◌<◌, length, rules, arith, subst, List, ℕ}
use Rattle.std.proofs.lemmas.Grind.{common_steps}
use Rattle.std.proofs.lemmas.List.{take_all}
use Rattle.std.proofs.lemmas.Result.{err_from_is_err_and}
use Rattle.sz_device.proofs.Naming.{texts_more, too_many, why_unread}
use Rattle.sz_device.proofs.sources.read_sources.Goals as goal
use Rattle.sz_device.specs.Sources.{AreTextsOf}

pub returns-then-words-gt-MOST_SOURCES-clause-unread : goal.returns-then-words-gt-MOST_SOURCES-clause-unread
returns-then-words-gt-MOST_SOURCES-clause-unread c = too_many c.args.disk.now c.args.words.now (λ few. grind (arith, common_steps))

pub loop-word-preserved : goal.loop-word-preserved
loop-word-preserved c =
    let i = c.loop-word.word-index in
    let words = c.args.words.now in
    let word = c.word-item.result in
    let within : i < length words = search rules in
    rw c.in_ok-push.ensures.ok
    (texts_more c.args.disk.now c.loop-word.sources words i _ word within c.word-item.is c.loop-word.invariant c.in_ok-read_beside.ensures.ok)

pub returns-in_err-read_beside-clause-unread : goal.returns-in_err-read_beside-clause-unread
returns-in_err-read_beside-clause-unread c =
    let i = c.loop-word.word-index in
    let words = c.args.words.now in
    let word = c.word-item.result in
    let within : i < length words = search rules in
    let p = err_from_is_err_and c.from_residual.result c.from_residual.ensures.1 in
    rw (p.1, p.2) (why_unread c.args.disk.now words i word c.in_err-read_beside.field-0.0 within c.word-item.is c.in_err-read_beside.ensures.none)

pub returns-clause-named : goal.returns-clause-named
returns-clause-named c =
    let all = take_all c.loop-word.word-index c.args.words.now (grind (arith, common_steps)) in record {
      few = grind (arith, common_steps);
      texts = subst (λ (words : List (List ℕ)). AreTextsOf c.args.disk.now c.loop-word.sources words) all c.loop-word.invariant;
    }
