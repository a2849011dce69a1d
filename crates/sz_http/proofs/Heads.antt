-- A head stays one whatever follows it, and so does what was taken of it.
use Rattle.std.proofs.Common.{◌⊎◌, ℕ, List, [], ◌++◌, sym, ap, ◌∙◌, subst, arith, append_assoc, length-append, inl, inr, Result}
use Rattle.httparse.proofs.GrammarLemmas.{ReadsRequest-append, ReadsResponse-append, ReadsSection-append}
use Rattle.sz_http.specs.declared.kind.Kind.{Kind}
use Rattle.sz_http.specs.declared.kind.Kind.TheVariants.{Request, Reply, Trailer}
use Rattle.sz_http.specs.declared.head_reading.HeadReading.{HeadReading}
use Rattle.sz_http.specs.Head.{BeginsWithHead, IsHead, HasNoHead, NeverHasHead}
use Rattle.sz_http.specs.Parts.{Parts}
use Rattle.sz_http.specs.declared.framing.Framing.{Framing}
use Rattle.sz_http.specs.declared.framing.FramingFault.{FramingFault}
use Rattle.sz_http.specs.declared.side.Side.{Side}
use Rattle.sz_http.specs.Message.{kind_of, IsFramed}
use Rattle.sz_http.specs.Reading.{HasTakenHead}

pub begins_more : (kind : Kind) (text after : List ℕ) → IsHead kind text → BeginsWithHead kind (text ++ after) after
begins_more Request text after head = record {
  reads = (head.reads.0, ReadsRequest-append text head.reads.0 [] after head.reads.1, head.reads.2);
  fits = omega (arith, head.fits, length-append text after);
}
begins_more Reply text after head = record {
  reads = (head.reads.0, ReadsResponse-append text head.reads.0 [] after head.reads.1, head.reads.2);
  fits = omega (arith, head.fits, length-append text after);
}
begins_more Trailer text after head = record {
  reads = (head.reads.0, head.reads.1, ReadsSection-append text head.reads.0 head.reads.1 [] after head.reads.2, head.reads.3);
  fits = omega (arith, head.fits, length-append text after);
}

pub never_more : (kind : Kind) (bytes more : List ℕ) → NeverHasHead kind bytes → NeverHasHead kind (bytes ++ more)
never_more kind bytes more never = λ further.
    subst (λ (t : List ℕ). HasNoHead kind t) (sym (append_assoc bytes more further)) (never (more ++ further))

pub framed_more : (side : Side) (limit : ℕ) (bytes more : List ℕ) (framing : Result Framing FramingFault) (head : Parts) (after : List ℕ)
    → IsFramed side limit bytes framing head after → IsFramed side limit (bytes ++ more) framing head (after ++ more)
framed_more side limit bytes more framing head after framed =
    let begins = framed.begins in
    record {
      begins = record {
        text = begins.text;
        is_head = begins.is_head;
        parts = begins.parts;
        bytes_are = ap (λ (t : List ℕ). t ++ more) begins.bytes_are ∙ append_assoc begins.text after more;
      };
      frames = framed.frames;
    }

-- a framed message has its head
pub framed_begins : (side : Side) (limit : ℕ) (bytes : List ℕ) (framing : Result Framing FramingFault) (head : Parts) (after : List ℕ)
    → IsFramed side limit bytes framing head after → HasNoHead (kind_of side) bytes → ⊥
framed_begins side limit bytes framing head after framed none =
    let begins = framed.begins in
    none after (subst (λ (t : List ℕ). BeginsWithHead (kind_of side) t after) (sym begins.bytes_are)
    (begins_more (kind_of side) begins.text after begins.is_head))

pub head_more : (reading : HeadReading) (kind : Kind) (bytes more : List ℕ) → HasTakenHead reading kind bytes
    → (HasNoHead kind bytes → HasNoHead kind (bytes ++ more)) → HasTakenHead reading kind (bytes ++ more)
head_more reading kind bytes more has grows = record {
  text = has.text;
  after = has.after ++ more;
  bytes_are = ap (λ (t : List ℕ). t ++ more) has.bytes_are ∙ append_assoc has.text has.after more;
  taken = has.taken;
  end = judged has.end;
}
  where
    judged : IsHead kind has.text ⊎ HasNoHead kind bytes → IsHead kind has.text ⊎ HasNoHead kind (bytes ++ more)
    judged (inl head) = inl head
    judged (inr none) = inr (grows none)

-- behind a framed head the head's reading stays as it is
pub framed_head_more : (reading : HeadReading) (side : Side) (limit : ℕ) (bytes more : List ℕ) (framing : Result Framing FramingFault) (head : Parts)
    (after : List ℕ) → IsFramed side limit bytes framing head after → HasTakenHead reading (kind_of side) bytes
    → HasTakenHead reading (kind_of side) (bytes ++ more)
framed_head_more reading side limit bytes more framing head after framed has =
    head_more reading (kind_of side) bytes more has (λ none. absurd (framed_begins side limit bytes framing head after framed none))
