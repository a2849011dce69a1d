-- The artifacts that authorise a bootstrap.
use Rattle.std.specs.Prelude.{ℕ}

-- of each artifact: 1 MiB
abbrev pub most_artifact_bytes : ℕ
most_artifact_bytes = 1048576
