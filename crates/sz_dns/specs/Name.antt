-- Domain names in a message: labels, and pointers to other places of it (RFC 1035 sections 3.1 and 4.1.4).
use Rattle.std.specs.Prelude.{◌≡◌, ℕ, suc, ◌+◌, ◌*◌, ◌≤◌, ◌==◌, ◌&&◌, Bool, nat_lt, nat_le, if◌then◌else◌, List, [], ◌∷◌, ◌++◌, length, drop, slice_index, Option, Some, None}
use Rattle.sz_dns.specs.declared.fault.DnsKind.{DnsKind}
use Rattle.sz_dns.specs.declared.fault.DnsKind.TheVariants.{Short, Pointer, Label}
use Rattle.sz_dns.specs.Limits.{most_name_bytes, most_pointers}

-- a label at the front of the bytes: its length, from 1 to 63, and its bytes (sections 2.3.4 and 3.1)
pub record BeginsWithLabel (bytes label rest : List ℕ) : Type 0 where
  pub some : 1 ≤ length label
  pub few : length label ≤ 63
  pub spelled : bytes ≡ length label ∷ label ++ rest

-- A pointer at the front of the bytes: two bytes, of which the first has its top two bits set and the others write the
-- place in the message that it leads to (section 4.1.4).
pub record BeginsWithPointer (bytes : List ℕ) (to : ℕ) (rest : List ℕ) : Type 0 where
  pub high : ℕ
  pub low : ℕ
  pub spelled : bytes ≡ (192 + high) ∷ low ∷ rest
  pub leads : to ≡ high * 256 + low

-- The name at the front of the bytes, which are part of the message, with the pointers that were followed, and what
-- comes after it. It is the root, or a label and then a name, or a pointer to a name.
pub data NameOf (message : List ℕ) : List ℕ → List (List ℕ) → ℕ → List ℕ → Type 0 where
  root : {bytes rest : List ℕ} → bytes ≡ 0 ∷ rest → NameOf message bytes [] 0 rest
  labelled : {bytes label after rest : List ℕ} {labels : List (List ℕ)} {pointers : ℕ}
      → BeginsWithLabel bytes label after → NameOf message after labels pointers rest
      → NameOf message bytes (label ∷ labels) pointers rest
  pointed : {bytes after rest : List ℕ} {labels : List (List ℕ)} {pointers to : ℕ}
      → BeginsWithPointer bytes to rest → NameOf message (drop to message) labels pointers after
      → NameOf message bytes labels (suc pointers) rest

-- how many bytes these labels have, each with its length
abbrev pub labels_size : List (List ℕ) → ℕ
labels_size [] = 0
labels_size (label ∷ labels) = 1 + length label + labels_size labels

-- a name within its limits: 255 bytes with the root and without pointers (section 2.3.4), and 127 pointers
pub record IsName (message bytes : List ℕ) (labels : List (List ℕ)) (rest : List ℕ) : Type 0 where
  pub pointers : ℕ
  pub name : NameOf message bytes labels pointers rest
  pub short : labels_size labels + 1 ≤ most_name_bytes
  pub few : pointers ≤ most_pointers

-- ---- the first fault

-- the kind that stands beside the first condition that holds
abbrev pub first_of : List (Bool × DnsKind) → Option DnsKind
first_of [] = None
first_of (rule ∷ rules) = if rule.0 then Some rule.1 else first_of rules

abbrev pub is_label : ℕ → Bool
is_label first = nat_lt 0 first && nat_lt first 64

abbrev pub is_pointer : ℕ → Bool
is_pointer first = nat_le 192 first

-- What is wrong with the label, the pointer or the root at the front of the bytes, after labels of so many bytes and so
-- many pointers: the first that applies.
unfoldable pub front_fault : List ℕ → ℕ → ℕ → Option DnsKind
front_fault bytes size pointers =
    let first = slice_index bytes 0 in
    first_of (
    (length bytes == 0, Short)
    ∷ (is_pointer first && length bytes == 1, Short)
    ∷ (is_pointer first && nat_le most_pointers pointers, Pointer)
    ∷ (is_label first && nat_le (length bytes) first, Short)
    ∷ (is_label first && nat_lt most_name_bytes (size + 1 + first + 1), Pointer)
    ∷ (nat_le 64 first && nat_lt first 192, Label)
    ∷ [])

-- The fault of a name that goes on at the front of the bytes, after labels of so many bytes and so many pointers: it is
-- there, or behind a label or a pointer with which nothing is wrong.
pub data GoesWrong (message : List ℕ) : List ℕ → ℕ → ℕ → DnsKind → Type 0 where
  here : {bytes : List ℕ} {size pointers : ℕ} {kind : DnsKind} → front_fault bytes size pointers ≡ Some kind
      → GoesWrong message bytes size pointers kind
  behind_label : {bytes label after : List ℕ} {size pointers : ℕ} {kind : DnsKind}
      → front_fault bytes size pointers ≡ None → BeginsWithLabel bytes label after
      → GoesWrong message after (size + 1 + length label) pointers kind → GoesWrong message bytes size pointers kind
  behind_pointer : {bytes rest : List ℕ} {size pointers to : ℕ} {kind : DnsKind}
      → front_fault bytes size pointers ≡ None → BeginsWithPointer bytes to rest
      → GoesWrong message (drop to message) size (suc pointers) kind → GoesWrong message bytes size pointers kind

-- why no name stands at the front of the bytes
abbrev pub IsNameFault : List ℕ → List ℕ → DnsKind → Type 0
IsNameFault message bytes kind = GoesWrong message bytes 0 0 kind
