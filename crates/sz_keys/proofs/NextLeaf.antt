-- What an attached key and a reservation make of a disk.
use Rattle.std.proofs.Common.{◌≡◌, ℕ, ◌+◌, ◌<◌, ◌≤◌, true, false, List, Result, Ok, Err, refl, inr, sym, ap, ◌∙◌, subst, arith}
use Rattle.std.specs.Prelude.{◌↔◌, nat_lt}
use Rattle.std.proofs.lemmas.Bool.Decides.{nat_tests}
use Rattle.sz_disk.specs.Disk.{Seen, LeavesOnly}
use Rattle.sz_hss.specs.Signature.{hss_public_of, hss_signature_of}
use Rattle.sz_hss.specs.Stored.{StoredKey}
use Rattle.sz_keys.specs.LeafSpent.{IsFound, IsSpent, MaySpend}
use Rattle.sz_keys.specs.SignerFailure.{failure_from}
use Rattle.sz_lms.specs.Hss.{HssOk}
use Rattle.sz_signer.specs.Answer.{MeansOldOrAdvanced, ReserveAnswers}
use Rattle.sz_signer.specs.Fault.{disk_failed, is_exhausted}
use Rattle.sz_signer.specs.KeyDisk.{HoldsKey}
use Rattle.sz_signer.specs.Leaves.{Reserved}
use Rattle.sz_signer.specs.State.{HasLast, SignerState}
use Rattle.sz_signer.specs.declared.fault.SignFault.{SignFault}
use Rattle.sz_signer.specs.declared.fault.SignFault.TheVariants.{Failed, Exhausted, OutOfMemory, NotFormatted, Damaged, InUse, EntropyFault, CellExhausted, TooSmall, BadKey}

abbrev pub refused_by : SignFault → Result Reserved SignFault
refused_by fault = Err fault

over : (end next : ℕ) → true ≡ nat_lt end next → end < next
over end next e = grind (arith, nat_tests)

within : (end next : ℕ) → false ≡ nat_lt end next → next ≤ end
within end next e = grind (arith, nat_tests)

module _ {D : Type 0} (seen : D → Seen) (message : List ℕ) (old mid new : D) (signer after : SignerState) (found : IsFound seen old mid signer)
    (any_moment : LeavesOnly (seen mid) (seen new) (MeansOldOrAdvanced 1 signer.stored)) where
  found-after : new ≡ mid → IsFound seen old new signer
  found-after same = subst (λ (d : D). IsFound seen old d signer) (sym same) found

  -- a reservation that was refused
  pub refused : (fault : SignFault) → is_exhausted (refused_by fault) ≡ nat_lt signer.stored.end (signer.stored.next + 1)
      → (is_exhausted (refused_by fault) ≡ false → (sequence : ℕ)
      → (refused_by fault ≡ Err (CellExhausted sequence)) ↔ HasLast signer.cell sequence)
      → ReserveAnswers 1 (seen new) signer after (refused_by fault) → (disk_failed (refused_by fault) ≡ false → new ≡ mid)
      → MaySpend seen message old new (Err (failure_from fault))
  refused Failed exhausted last answer untouched = inr (signer, record { found = mid; key = found; any_moment = any_moment })
  refused (Exhausted next end) exhausted last answer untouched =
      let short = over signer.stored.end (signer.stored.next + 1) exhausted in
      (signer, found-after (untouched refl), answer.1, answer.2, omega (arith, answer.1, answer.2, short))
  refused (CellExhausted sequence) exhausted last answer untouched =
      (signer, sequence, found-after (untouched refl), (last refl sequence).0 refl, within signer.stored.end (signer.stored.next + 1) exhausted)
  refused OutOfMemory exhausted last answer untouched = absurd answer
  refused NotFormatted exhausted last answer untouched = absurd answer
  refused (Damaged slot sequence length) exhausted last answer untouched = absurd answer
  refused InUse exhausted last answer untouched = absurd answer
  refused EntropyFault exhausted last answer untouched = absurd answer
  refused (TooSmall size) exhausted last answer untouched = absurd answer
  refused (BadKey place byte) exhausted last answer untouched = absurd answer

  -- one that was not
  pub spent : (leaves : Reserved) → ReserveAnswers 1 (seen new) signer after (Ok leaves) → IsSpent seen old new signer
  spent leaves answer = record {
    handing = record { found = mid; key = found; any_moment = any_moment };
    means = subst (λ (stored : StoredKey). HoldsKey (seen new) stored) answer.1 answer.2.means;
  }

  -- and the signature with its leaf number
  pub spent-signed : (leaves : Reserved) (leaf : ℕ) (signature : List ℕ) → ReserveAnswers 1 (seen new) signer after (Ok leaves)
      → leaf ≡ leaves.first → signature ≡ hss_signature_of after.stored.key leaves.first message
      → HssOk (hss_public_of after.stored.key) message signature → MaySpend seen message old new (Ok (leaf, signature))
  spent-signed leaves leaf signature answer leaf_is exact verifies = (
    signer,
    spent leaves answer,
    leaf_is ∙ ap (λ (r : Reserved). r.first) answer.0,
    exact ∙ ap (λ (stored : StoredKey). hss_signature_of stored.key leaves.first message) answer.1
        ∙ ap (λ (n : ℕ). hss_signature_of signer.stored.key n message) (sym leaf_is),
    subst (λ (stored : StoredKey). HssOk (hss_public_of stored.key) message signature) answer.1 verifies,
  )
