use Rattle.std.proofs.Common.{◌≡◌, ℕ, List, length}
use Rattle.sz_x509.specs.RevocationList.{AreEntries, is_listed}
use Rattle.sz_x509.proofs.crl.Crl.lists.Given as goal

-- the serial number is listed exactly where it is among the entries that are left
abbrev pub invariant-loop-serial : goal.invariant-loop-serial
invariant-loop-serial l =
    (serials : List (List ℕ)) → AreEntries serials l.self.entries.now →
    (rest : List (List ℕ)) × AreEntries rest l.reader.left.now × (is_listed l.serial serials ≡ is_listed l.serial rest)

abbrev pub decreases-loop-serial : goal.decreases-loop-serial
decreases-loop-serial l = length l.reader.left.now
