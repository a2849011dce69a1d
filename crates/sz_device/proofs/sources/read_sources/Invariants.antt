use Rattle.std.proofs.Common.{take}
use Rattle.sz_device.proofs.sources.read_sources.Given as goal
use Rattle.sz_device.specs.Sources.{AreTextsOf}

-- the sources are those of the words so far
abbrev pub invariant-loop-word : goal.invariant-loop-word
invariant-loop-word l = AreTextsOf l.disk l.sources (take l.word-index l.words)
