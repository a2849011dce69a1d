-- Leaf numbers that were handed out.
use Rattle.std.specs.Prelude.{ℕ, ◌+◌, ◌-◌, ◌<◌, List, length, slice_index_or}
use Rattle.sz_hss.specs.Key.{HssKey}
use Rattle.sz_lms.specs.Hss.{HssOk}

-- the leaf numbers of this key, from the first on, as many as are left
pub record Reserved : Type 0 where
  pub key : HssKey
  pub first : ℕ
  pub left : ℕ

-- without the first one, which is spent
abbrev pub one_spent : Reserved → Reserved
one_spent reserved = record { key = reserved.key; first = reserved.first + 1; left = reserved.left - 1 }

-- each signature is one of the message at its place under the public key
abbrev pub VerifyEach : List ℕ → List (List ℕ) → List (List ℕ) → Type 0
VerifyEach public messages signatures =
    (i : ℕ) (d e : List ℕ) → i < length messages
    → HssOk public (slice_index_or messages i e) (slice_index_or signatures i d)
