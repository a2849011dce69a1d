use Rattle.std.proofs.Common.{◌≡◌, map, take, true}
use Rattle.std.specs.List.{list_all}
use Rattle.std.specs.Str.{is_utf8}
use Rattle.sz_program.proofs.form.texts.Given as goal

-- the texts are the words so far, and these are UTF-8
abbrev pub invariant-loop-word : goal.invariant-loop-word
invariant-loop-word l = record {
  same : map (λ text. text.now) l.texts.items ≡ take l.word-index l.words;
  utf8 : list_all is_utf8 (take l.word-index l.words) ≡ true;
}
