-- The refusals exclude each other: what there is grows from one to the next.
use Rattle.std.proofs.Common.{◌≡◌, ◌≤◌, ◌<◌, ◌⊎◌, ◌-◌, ℕ, zero, suc, ℤ, List, [], ◌∷◌, Option, None, refl, sym, ap, ◌∙◌, subst, inl, inr, arith}
use Rattle.std.proofs.lemmas.Bool.{cases_eq, cases_order}
use Rattle.std.specs.List.{AllByRecursion}
use Rattle.sz_cms.specs.Message.{Signed}
use Rattle.sz_chain.specs.Chain.{IsIn, lowest}
use Rattle.sz_chain.proofs.Unlisted.{without_lists}
use Rattle.sz_x509.specs.Certificate.{Certificate}
use Rattle.sz_chain.specs.SignedBy.{HasCandidate, HasFitting, HasSigner, HasVerified, IsUnsignedFor, IsSignedByOne, SignedBy}
use Rattle.sz_chain.specs.declared.fault.ChainFault.{ChainFault}
use Rattle.sz_chain.specs.declared.fault.ChainFault.TheVariants as fault
use Rattle.sz_chain.specs.declared.fault.Why.TheVariants as why

module _ (signed : Signed) (bag anchors : List (List ℕ)) (crls : Option (List (List ℕ))) (when : ℤ) where
  -- a chain that lists clear is one without lists
  signed_without_lists : IsSignedByOne signed bag anchors crls when → IsSignedByOne signed bag anchors None when
  signed_without_lists (content, is) = (
    content,
    record {
      has_content = is.has_content;
      signer = is.signer;
      is_fitting = is.is_fitting;
      certs = is.certs;
      anchor = is.anchor;
      in_bag = is.in_bag;
      is_anchor = is.is_anchor;
      chain = without_lists crls when is.certs is.anchor is.chain;
      fits = is.fits;
      verifies = is.verifies;
    },
  )

  lowest_in : (certs : List Certificate) (anchor : Certificate) → AllByRecursion (IsIn bag) certs → IsIn anchors anchor →
      IsIn bag (lowest certs anchor) ⊎ IsIn anchors (lowest certs anchor)
  lowest_in [] anchor in_bag is_anchor = inr is_anchor
  lowest_in (cert ∷ above) anchor in_bag is_anchor = inl in_bag.0

  verified_from : IsSignedByOne signed bag anchors None when → HasVerified signed bag anchors
  verified_from (content, is) = record {
    content = content;
    signer = is.signer;
    cert = lowest is.certs is.anchor;
    has_content = is.has_content;
    is_fitting = is.is_fitting;
    is_cert = lowest_in is.certs is.anchor is.in_bag is.is_anchor;
    fits = is.fits;
    verifies = is.verifies;
  }

  -- what there is, by its number
  Has : ℕ → Type 0
  Has zero = HasSigner signed
  Has (suc zero) = HasFitting signed
  Has (suc (suc zero)) = HasCandidate signed bag anchors
  Has (suc (suc (suc zero))) = HasVerified signed bag anchors
  Has (suc (suc (suc (suc zero)))) = IsSignedByOne signed bag anchors None when
  Has (suc (suc (suc (suc (suc n))))) = IsSignedByOne signed bag anchors crls when

  less : (n : ℕ) → Has (suc n) → Has n
  unfolding Has
  less zero is =
      record { content = is.content; signer = is.signer; has_content = is.has_content; is_signer = is.is_fitting.is_signer }
  less (suc zero) is =
      record { content = is.content; signer = is.signer; has_content = is.has_content; is_fitting = is.is_fitting }
  less (suc (suc zero)) is = record {
    content = is.content;
    signer = is.signer;
    cert = is.cert;
    has_content = is.has_content;
    is_fitting = is.is_fitting;
    is_cert = is.is_cert;
    fits = is.fits;
  }
  less (suc (suc (suc zero))) is = verified_from is
  less (suc (suc (suc (suc zero)))) is = signed_without_lists is
  less (suc (suc (suc (suc (suc n))))) is = is

  down : (n m : ℕ) → n ≤ m → Has m → Has n
  down n zero few is =
      let e : zero ≡ n = omega arith in subst Has e is
  down n (suc m) few is =
      elim (cases_eq n (suc m)) [
        | inl same ↦ subst Has (sym same) is
        | inr other ↦ down n m (omega arith) (less m is)
      ]

  -- the number of the first thing that is missing
  level : ChainFault → ℕ
  level fault.NoSigner = 0
  level fault.BadDigest = 1
  level (fault.NoChain why.NoCandidate) = 2
  level (fault.NoChain why.Signature) = 3
  level (fault.NoChain why.Path) = 4
  level (fault.NoChain why.Revoked) = 5

  fault_at : ℕ → ChainFault
  fault_at zero = fault.NoSigner
  fault_at (suc zero) = fault.BadDigest
  fault_at (suc (suc zero)) = fault.NoChain why.NoCandidate
  fault_at (suc (suc (suc zero))) = fault.NoChain why.Signature
  fault_at (suc (suc (suc (suc zero)))) = fault.NoChain why.Path
  fault_at (suc (suc (suc (suc (suc n))))) = fault.NoChain why.Revoked

  back : (f : ChainFault) → fault_at (level f) ≡ f
  unfolding level fault_at
  back fault.NoSigner = refl
  back fault.BadDigest = refl
  back (fault.NoChain why.NoCandidate) = refl
  back (fault.NoChain why.Signature) = refl
  back (fault.NoChain why.Path) = refl
  back (fault.NoChain why.Revoked) = refl

  misses : (f : ChainFault) → IsUnsignedFor signed bag anchors crls when f → Has (level f) → ⊥
  unfolding level Has
  misses fault.NoSigner is has = is has
  misses fault.BadDigest is has = is.1 has
  misses (fault.NoChain why.NoCandidate) is has = is.1 has
  misses (fault.NoChain why.Signature) is has = is.1 has
  misses (fault.NoChain why.Path) is has = is.1 has
  misses (fault.NoChain why.Revoked) is has = is.1 has

  before : (f : ChainFault) → IsUnsignedFor signed bag anchors crls when f → (n : ℕ) → n < level f → Has (level f - 1)
  unfolding level Has
  before fault.NoSigner is n some = absurd (omega arith)
  before fault.BadDigest is n some = is.0
  before (fault.NoChain why.NoCandidate) is n some = is.0
  before (fault.NoChain why.Signature) is n some = is.0
  before (fault.NoChain why.Path) is n some = is.0
  before (fault.NoChain why.Revoked) is n some = is.0

  earlier : (f g : ChainFault) → IsUnsignedFor signed bag anchors crls when f → IsUnsignedFor signed bag anchors crls when g → level f < level g → ⊥
  earlier f g p q lt = misses f p (down (level f) (level g - 1) (omega arith) (before g q (level f) lt))

  pub one_fault : (f g : ChainFault) → IsUnsignedFor signed bag anchors crls when f → IsUnsignedFor signed bag anchors crls when g → f ≡ g
  one_fault f g p q =
      elim (cases_order (level f) (level g)) [
        | inl same ↦ sym (back f) ∙ ap fault_at same ∙ back g
        | inr other ↦ elim other [
          | inl lt ↦ absurd (earlier f g p q lt)
          | inr gt ↦ absurd (earlier g f q p gt)
        ]
      ]

  level_few : (f : ChainFault) → level f ≤ 5
  unfolding level
  level_few fault.NoSigner = omega arith
  level_few fault.BadDigest = omega arith
  level_few (fault.NoChain why.NoCandidate) = omega arith
  level_few (fault.NoChain why.Signature) = omega arith
  level_few (fault.NoChain why.Path) = omega arith
  level_few (fault.NoChain why.Revoked) = omega arith

  has_all : IsSignedByOne signed bag anchors crls when → Has 5
  unfolding Has
  has_all is = is

  -- what is signed isn't refused
  pub not_both : (f : ChainFault) (content : List ℕ) → IsUnsignedFor signed bag anchors crls when f → SignedBy signed bag anchors crls when content → ⊥
  not_both f content p is = misses f p (down (level f) 5 (level_few f) (has_all (content, is)))
