use Rattle.std.proofs.Common.{◌≡◌, ◌+◌, ◌≤◌, drop}
use Rattle.sz_json.specs.Bounded.{marks_in}
use Rattle.sz_json.proofs.Marks.{marks_from}
use Rattle.sz_json.proofs.bounded.is_bounded.Given as goal

-- the marks so far and those of what is left are those of the text
abbrev pub invariant-loop-byte : goal.invariant-loop-byte
invariant-loop-byte l = record {
  few : l.marks ≤ 16384;
  counted : marks_in l.text ≡ l.marks + marks_from l.place (drop l.byte-index l.text);
}
