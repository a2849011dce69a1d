use Rattle.std.proofs.Common.{◌≡◌, ◌++◌, ◌∷◌, take, string_bytes}
use Rattle.std.specs.List.{flat_map}
use Rattle.sz_artifacts.specs.WrittenInformation.{pair_text}
use Rattle.sz_artifacts.proofs.conveyed.writing.joined.Given as goal

abbrev pub invariant-loop-byte : goal.invariant-loop-byte
invariant-loop-byte l = string_bytes l.text ≡ pair_text l.first ++ flat_map (λ byte. 58 ∷ pair_text byte) (take l.byte-index l.rest)
