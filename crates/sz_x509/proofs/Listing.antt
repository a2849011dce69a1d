-- A walk over the entries of a list, up to the one with a serial number.
use Rattle.std.proofs.Common.{◌≡◌, ℕ, false, List, [], ◌∷◌, refl, sym, ap, subst, ◌∙◌, arith, length, length-append}
use Rattle.sz_der.specs.Spots.{after, Spot, spot_of}
use Rattle.sz_der.specs.Tags.{sequence_tag}
use Rattle.sz_der.specs.declared.reader.DerReader.{DerReader}
use Rattle.sz_x509.specs.CrlPlaces.{BeginsEntry}
use Rattle.sz_x509.specs.RevocationList.{AreEntries, is_listed}
use Rattle.sz_x509.proofs.CrlParts.{has_entry, serial_at}
use Rattle.sz_x509.proofs.ExtensionLists.{whole_some}

-- the entry that is next, and those behind it
pub record ListsOn (reader : DerReader) (serials : List (List ℕ)) : Type 0 where
  pub serial : List ℕ
  pub rest : List (List ℕ)
  pub serials_are : serials ≡ serial ∷ rest
  pub begins : BeginsEntry (spot_of reader)
  pub serial_is : serial_at (spot_of reader) ≡ serial
  pub left : AreEntries rest (after (spot_of reader)).left

left_is : (reader : DerReader) → (spot_of reader).left ≡ reader.left.now
unfolding spot_of
left_is reader = refl

pub lists_on : (reader : DerReader) (serials : List (List ℕ)) → AreEntries serials reader.left.now → (reader.left.now ≡ [] → ⊥) → ListsOn reader serials
lists_on reader [] are more = absurd (more are)
lists_on reader (serial ∷ rest) are more =
    let entry = has_entry (spot_of reader) serial are.0 are.1 are.2 (left_is reader ∙ are.3) in
    record {
      serial = serial;
      rest = rest;
      serials_are = refl;
      begins = entry.begins;
      serial_is = entry.serial_is;
      left = rw entry.after are.4;
    }

pub lists_none : (serials : List (List ℕ)) (bytes serial : List ℕ) → AreEntries serials bytes → bytes ≡ [] → is_listed serial serials ≡ false
lists_none [] bytes serial are nothing = refl
lists_none (first ∷ rest) bytes serial are nothing =
    absurd (omega (arith, ap length are.3, length-append are.0 are.1, whole_some sequence_tag _ are.0 are.2.is_sequence, ap length nothing))

pub next_left : (reader new : DerReader) (rest : List (List ℕ)) → spot_of new ≡ after (spot_of reader) → AreEntries rest (after (spot_of reader)).left →
    AreEntries rest new.left.now
unfolding spot_of
next_left reader new rest next are = subst (λ (s : Spot). AreEntries rest s.left) (sym next) are
