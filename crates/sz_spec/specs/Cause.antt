-- The causes of refusals. An object of the outside counts its own faults, and each refusal that blames
-- the object is tied to that count.
use Rattle.std.specs.Prelude.{◌≡◌, ℕ, ◌+◌, ◌≤◌, min, Bool, false, IsTrue}

-- where a count stands still: the greatest u64
abbrev pub last_count : ℕ
last_count = 18446744073709551615

-- the count with so many more, or its end
abbrev pub risen : ℕ → ℕ → ℕ
risen count more = min (count + more) last_count

-- the count rose so many times, or stands at its end
abbrev pub RoseBy : ℕ → ℕ → ℕ → Type 0
RoseBy before now times = risen before times ≤ now

-- the count rose, or stands at its end
abbrev pub Rose : ℕ → ℕ → Type 0
Rose before now = RoseBy before now 1

-- The object's count of faults before and after one call: the call failed only where the count rose, and
-- any other answer left the count as it was.
pub record HasCause (before now : ℕ) (failed : Bool) : Type 0 where
  pub never_falls : before ≤ now
  pub rose : IsTrue failed → Rose before now
  pub stood : failed ≡ false → now ≡ before
