-- A key that was made stands on its disk.
use Rattle.std.proofs.Common.{◌≡◌, ℕ, ◌≤◌, false, List, Ok, subst, ap, ◌∙◌, arith}
use Rattle.std.specs.Prelude.{nat_lt}
use Rattle.std.proofs.lemmas.Bool.Decides.{nat_tests}
use Rattle.sz_commands.specs.Objects.{EntropySeen}
use Rattle.sz_disk.specs.Disk.{Seen}
use Rattle.sz_hss.specs.Key.{HssKey, Shape}
use Rattle.sz_hss.specs.Leaf.{leaf_count}
use Rattle.sz_hss.specs.Signature.{hss_public_of}
use Rattle.sz_hss.specs.Stored.{StoredKey}
use Rattle.sz_keys.specs.KeyMade.{IsStanding}
use Rattle.sz_signer.specs.Answer.{Created, IsDrawn}
use Rattle.sz_signer.specs.KeyDisk.{HoldsKey, least_size}
use Rattle.sz_signer.specs.State.{SignerState}

large-enough : (size : ℕ) → false ≡ nat_lt size least_size → least_size ≤ size
large-enough size e = grind (arith, nat_tests)

module _ (shapes : List Shape) (key : HssKey) (old new : Seen) (signer : SignerState) (created : Created key old new (Ok signer)) where
  pub is-standing : (before after : EntropySeen) → IsDrawn shapes before.bytes after.bytes key → false ≡ nat_lt old.size least_size
      → IsStanding shapes key old new before after
  is-standing before after drawn size = record {
    begun = record { drawn = drawn; room = large-enough old.size size; any_moment = created.any_moment };
    free = created.answer.free;
    means = subst (λ (stored : StoredKey). HoldsKey new stored) created.answer.stored created.answer.stands.means;
  }

  pub end-is : (end : ℕ) → end ≡ signer.stored.end → end ≡ leaf_count key
  end-is end e = e ∙ ap (λ (stored : StoredKey). stored.end) created.answer.stored

  pub public-is : (public : List ℕ) → public ≡ hss_public_of signer.stored.key → public ≡ hss_public_of key
  public-is public e = e ∙ ap (λ (stored : StoredKey). hss_public_of stored.key) created.answer.stored
