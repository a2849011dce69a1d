-- How long connections may last.
use Rattle.std.specs.Prelude.{◌≡◌, ℕ, ◌+◌, ◌-◌, ◌*◌, ◌/◌, ◌^◌, min}
use Rattle.std.specs.Duration.{as_nanos, max_nanos}
use Rattle.sz_real.specs.declared.connection.Limits.{Limits}

-- how long a connection may last with so many times this more, in nanoseconds
abbrev pub lasting_nanos : Limits → ℕ → ℕ → ℕ
lasting_nanos limits each count = min (as_nanos limits.whole + each * min count (2 ^ 32 - 1)) max_nanos

-- How long a connection may last that moved so many bytes and whose caller takes so many: longer for each KiB that it
-- moved, but no longer than for each 64 KiB that its caller takes.
abbrev pub whole_nanos : Limits → ℕ → ℕ → ℕ
whole_nanos limits moved most =
    min (lasting_nanos limits (as_nanos limits.for_each_kib) (moved / 1024))
    (lasting_nanos limits (as_nanos limits.for_each_part) (most / 65536))

-- 10 s for the connect to an address and 30 s for all of a name, 30 s for a call, 60 s for a connection and 1 s more
-- for each KiB or 64 KiB, 2 s for what was sent to arrive
pub record IsUsual (limits : Limits) : Type 0 where
  pub connect : as_nanos limits.connect ≡ 10 * 10 ^ 9
  pub addresses : as_nanos limits.addresses ≡ 30 * 10 ^ 9
  pub call : as_nanos limits.call ≡ 30 * 10 ^ 9
  pub whole : as_nanos limits.whole ≡ 60 * 10 ^ 9
  pub for_each_kib : as_nanos limits.for_each_kib ≡ 10 ^ 9
  pub for_each_part : as_nanos limits.for_each_part ≡ 10 ^ 9
  pub linger : as_nanos limits.linger ≡ 2 * 10 ^ 9
