-- A chunked body is read in one way, and a part of one goes on.
use Rattle.std.proofs.Common.{◌≡◌, ℕ, zero, suc, ◌<◌, ◌⊎◌, List, [], ◌∷◌, ◌++◌, length, refl, sym, ap, ◌∙◌, subst, arith, append_assoc, append-nil, length-append, inl, inr, All}
use Rattle.std.proofs.lemmas.List.{flat_map_more}
use Rattle.std.proofs.lemmas.List.Elements.{All-head, All-tail, All-nil, All-push, All-weaker}
use Rattle.std.specs.List.{flat_map}
use Rattle.httparse.specs.Grammar.{lf, IsField}
use Rattle.httparse.proofs.GrammarLemmas.{ReadsSection-append, section_unique}
use Rattle.sz_http.specs.declared.kind.Kind.TheVariants.{Trailer}
use Rattle.sz_http.specs.Head.{IsHead, HasNoHead, MayBecomeHead, EndsInsideTarget}
use Rattle.httparse.specs.Grammar.{ReadsSection}
use Rattle.sz_http.specs.Chunked.{SizeLine, line_text, line_size, IsSizeLine, Chunk, print_chunk, IsChunk, IsShortChunk, content_of, ReadsChunked, ReadsShort}
use Rattle.sz_http.specs.ChunkPart.{IsInLine, IsInChunk, IsInTrailer, IsPart}
use Rattle.sz_http.proofs.ChunkLines.{more_bytes, plain_line, same_text, same_size, same_split, print_chunk-append}
use Rattle.sz_http.proofs.ChunkParts.{zero_line, zero_short, zeros, zeros_filled}

-- ---- one reading

trailer_once : (a b x y : List ℕ) → IsHead Trailer a → IsHead Trailer b → a ++ x ≡ b ++ y → x ≡ y
trailer_once a b x y first second e =
    let here = ReadsSection-append a first.reads.0 first.reads.1 [] x first.reads.2 in
    let there = subst (λ (t : List ℕ). ReadsSection t second.reads.0 second.reads.1 y) (sym e)
    (ReadsSection-append b second.reads.0 second.reads.1 [] y second.reads.2) in
    (section_unique (a ++ x) first.reads.0 second.reads.0 first.reads.1 second.reads.1 x y here there).2

pub same_front : (a b x y : List ℕ) → length a ≡ length b → a ++ x ≡ b ++ y → a ≡ b
same_front [] [] x y e is = refl
same_front [] (c ∷ b) x y e is = absurd (omega arith)
same_front (c ∷ a) [] x y e is = absurd (omega arith)
same_front (c ∷ a) (d ∷ b) x y e is =
    let heads = more_bytes is in
    ap (λ (v : ℕ). v ∷ a) heads.0 ∙ ap (λ (t : List ℕ). d ∷ t) (same_front a b x y (omega arith) heads.1)

-- the end of a body: the line of size 0, the trailer, and what follows
abbrev pub end_text : SizeLine → List ℕ → List ℕ → List ℕ
end_text last trailer rest = line_text last ++ 13 ∷ 10 ∷ (trailer ++ rest)

pub record IsEnd (last : SizeLine) (trailer : List ℕ) : Type 0 where
  pub line : IsSizeLine last
  pub zero_size : line_size last ≡ 0
  pub head : IsHead Trailer trailer

first_chunk : (chunk : Chunk) (chunks : List Chunk) (x : List ℕ)
    → flat_map print_chunk (chunk ∷ chunks) ++ x
    ≡ line_text chunk.line ++ 13 ∷ 10 ∷ (chunk.bytes ++ 13 ∷ 10 ∷ (flat_map print_chunk chunks ++ x))
first_chunk chunk chunks x =
    append_assoc (print_chunk chunk) (flat_map print_chunk chunks) x ∙ print_chunk-append chunk (flat_map print_chunk chunks ++ x)

-- a chunk isn't the end
pub no_end : (chunk : Chunk) (last : SizeLine) (trailer x y : List ℕ) → IsChunk chunk → IsEnd last trailer
    → line_text chunk.line ++ 13 ∷ x ≡ line_text last ++ 13 ∷ y → ⊥
no_end chunk last trailer x y valid end e =
    let texts = same_text (line_text chunk.line) (line_text last) x y (plain_line chunk.line valid.line) (plain_line last end.line) e in
    omega (arith, same_size chunk.line last valid.line end.line texts.0, end.zero_size, valid.some, valid.size)

once : (cs ds : List Chunk) (l m : SizeLine) (t u r q : List ℕ) → All IsChunk cs → All IsChunk ds → IsEnd l t → IsEnd m u
    → flat_map print_chunk cs ++ end_text l t r ≡ flat_map print_chunk ds ++ end_text m u q → (content_of cs ≡ content_of ds) × (r ≡ q)
once [] [] l m t u r q all_c all_d first second e =
    let texts = same_text (line_text l) (line_text m) _ _ (plain_line l first.line) (plain_line m second.line) e in
    (refl, trailer_once t u r q first.head second.head (more_bytes texts.1).1)
once [] (d ∷ ds) l m t u r q all_c all_d first second e =
    absurd (no_end d l t _ _ (All-head IsChunk d ds all_d) first (sym (first_chunk d ds (end_text m u q)) ∙ sym e))
once (c ∷ cs) [] l m t u r q all_c all_d first second e =
    absurd (no_end c m u _ _ (All-head IsChunk c cs all_c) second (sym (first_chunk c cs (end_text l t r)) ∙ e))
once (c ∷ cs) (d ∷ ds) l m t u r q all_c all_d first second e =
    let vc = All-head IsChunk c cs all_c in
    let vd = All-head IsChunk d ds all_d in
    let joined = sym (first_chunk c cs (end_text l t r)) ∙ e ∙ first_chunk d ds (end_text m u q) in
    let texts = same_text (line_text c.line) (line_text d.line) _ _ (plain_line c.line vc.line) (plain_line d.line vd.line) joined in
    let size : length c.bytes ≡ length d.bytes = omega (arith, same_size c.line d.line vc.line vd.line texts.0, vc.size, vd.size) in
    let bodies = (more_bytes texts.1).1 in
    let behind = same_split c.bytes d.bytes _ _ size bodies in
    let later = once cs ds l m t u r q (All-tail IsChunk c cs all_c) (All-tail IsChunk d ds all_d) first second (more_bytes (more_bytes behind).1).1 in (
      ap (λ (x : List ℕ). x ++ content_of cs) (same_front c.bytes d.bytes _ _ size bodies)
          ∙ ap (λ (x : List ℕ). d.bytes ++ x) later.0,
      later.1,
    )

-- a text is a chunked body and a rest in one way
pub chunked_once : (text content other rest left : List ℕ) → ReadsChunked text content rest → ReadsChunked text other left
    → (content ≡ other) × (rest ≡ left)
chunked_once text content other rest left first second =
    let same = once first.chunks second.chunks first.last second.last first.trailer second.trailer rest left first.each second.each
    (record { line = first.last_line; zero_size = first.zero_size; head = first.is_trailer })
    (record { line = second.last_line; zero_size = second.zero_size; head = second.is_trailer }) (sym first.text_is ∙ second.text_is) in
    (first.content_is ∙ same.0 ∙ sym second.content_is, same.1)

-- ---- a part goes on

-- so many bytes more make the text a chunked body
pub record GoesOn (text : List ℕ) : Type 0 where
  pub more : List ℕ
  pub content : List ℕ
  pub some : 0 < length more
  pub reads : ReadsChunked (text ++ more) content []

-- the empty line that ends a trailer of no fields
empty_trailer : IsHead Trailer (10 ∷ [])
empty_trailer = record { reads = ([], lf, (All-nil IsField, refl), omega arith); fits = omega arith }

-- a body of these chunks and no trailer
ended : (chunks : List Chunk) (last : SizeLine) (text : List ℕ) → All IsChunk chunks → IsSizeLine last → line_size last ≡ 0
    → text ≡ flat_map print_chunk chunks ++ (line_text last ++ 13 ∷ 10 ∷ 10 ∷ []) → ReadsChunked text (content_of chunks) []
ended chunks last text each line zero_size is = record {
  chunks = chunks;
  last = last;
  trailer = 10 ∷ [];
  each = each;
  last_line = line;
  zero_size = zero_size;
  is_trailer = empty_trailer;
  text_is = is;
  content_is = refl;
}

valid_chunks : (chunks : List Chunk) → All IsShortChunk chunks → All IsChunk chunks
valid_chunks chunks each = All-weaker IsShortChunk IsChunk (λ chunk short. short.valid) chunks each

-- behind a chunk the body can end
with_chunk : (chunks : List Chunk) (chunk : Chunk) (text more tail : List ℕ) → All IsShortChunk chunks → IsChunk chunk → 0 < length more
    → text ≡ flat_map print_chunk chunks ++ tail → tail ++ more ≡ print_chunk chunk ++ (48 ∷ 13 ∷ 10 ∷ 10 ∷ []) → GoesOn text
with_chunk chunks chunk text more tail each valid some is front =
    let all = chunks ++ chunk ∷ [] in
    let whole : text ++ more ≡ flat_map print_chunk all ++ (48 ∷ 13 ∷ 10 ∷ 10 ∷ []) =
    ap (λ (t : List ℕ). t ++ more) is ∙ append_assoc (flat_map print_chunk chunks) tail more
    ∙ ap (λ (t : List ℕ). flat_map print_chunk chunks ++ t) front
    ∙ sym (append_assoc (flat_map print_chunk chunks) (print_chunk chunk) (48 ∷ 13 ∷ 10 ∷ 10 ∷ []))
    ∙ ap (λ (t : List ℕ). t ++ (48 ∷ 13 ∷ 10 ∷ 10 ∷ [])) (flat_map_more print_chunk [] chunks chunk) in
    record {
      more = more;
      content = content_of all;
      some = some;
      reads = ended all zero_line (text ++ more) (All-push IsChunk chunks chunk (valid_chunks chunks each) valid) zero_short.valid refl whole;
    }

-- a front of a line, short or not, and of the CR behind it
pub line_goes_on : (chunks : List Chunk) (text tail left : List ℕ) (line : SizeLine) → All IsShortChunk chunks → text ≡ flat_map print_chunk chunks ++ tail
    → IsSizeLine line → tail ++ left ≡ line_text line ++ 13 ∷ [] → GoesOn text
line_goes_on chunks text tail left line each is valid front = judged (line_size line) refl
  where
    judged : (n : ℕ) → line_size line ≡ n → GoesOn text
    judged zero none = record {
      more = left ++ 10 ∷ 10 ∷ [];
      content = content_of chunks;
      some = omega (arith, length-append left (10 ∷ 10 ∷ []));
      reads = ended chunks line (text ++ (left ++ 10 ∷ 10 ∷ [])) (valid_chunks chunks each) valid none
          (ap (λ (t : List ℕ). t ++ (left ++ 10 ∷ 10 ∷ [])) is
          ∙ append_assoc (flat_map print_chunk chunks) tail (left ++ 10 ∷ 10 ∷ [])
          ∙ ap (λ (t : List ℕ). flat_map print_chunk chunks ++ t)
          (sym (append_assoc tail left (10 ∷ 10 ∷ [])) ∙ ap (λ (t : List ℕ). t ++ 10 ∷ 10 ∷ []) front
          ∙ append_assoc (line_text line) (13 ∷ []) (10 ∷ 10 ∷ [])));
    }
    judged (suc n) some =
        let bytes = zeros (suc n) in
        let filled : length bytes ≡ suc n = zeros_filled (suc n) in
        let behind = 10 ∷ (bytes ++ 13 ∷ 10 ∷ 48 ∷ 13 ∷ 10 ∷ 10 ∷ []) in
        let chunk : Chunk = record { line = line; bytes = bytes } in
        with_chunk chunks chunk text (left ++ behind) tail each
        (record { line = valid; some = omega (arith, filled); size = some ∙ sym filled })
        (omega (arith, length-append left behind)) is
        (sym (append_assoc tail left behind) ∙ ap (λ (t : List ℕ). t ++ behind) front ∙ append_assoc (line_text line) (13 ∷ []) behind
        ∙ sym (print_chunk-append chunk (48 ∷ 13 ∷ 10 ∷ 10 ∷ [])))

in_chunk_goes_on : (chunks : List Chunk) (text tail part : List ℕ) → All IsShortChunk chunks → text ≡ flat_map print_chunk chunks ++ tail
    → IsInChunk tail part → GoesOn text
in_chunk_goes_on chunks text tail part each is inside =
    let more = inside.left ++ (48 ∷ 13 ∷ 10 ∷ 10 ∷ []) in
    let line = line_text inside.chunk.line in
    with_chunk chunks inside.chunk text more tail each inside.short.valid (omega (arith, inside.some, length-append inside.left (48 ∷ 13 ∷ 10 ∷ 10 ∷ []))) is
    (ap (λ (t : List ℕ). t ++ more) inside.is ∙ append_assoc line (13 ∷ 10 ∷ inside.behind) more
    ∙ ap (λ (t : List ℕ). line ++ 13 ∷ 10 ∷ t)
    (sym (append_assoc inside.behind inside.left (48 ∷ 13 ∷ 10 ∷ 10 ∷ [])) ∙ ap (λ (t : List ℕ). t ++ (48 ∷ 13 ∷ 10 ∷ 10 ∷ [])) inside.front
    ∙ append_assoc inside.chunk.bytes (13 ∷ 10 ∷ []) (48 ∷ 13 ∷ 10 ∷ 10 ∷ []))
    ∙ sym (print_chunk-append inside.chunk (48 ∷ 13 ∷ 10 ∷ 10 ∷ [])))

some_more : (text more : List ℕ) → HasNoHead Trailer text → IsHead Trailer (text ++ more) → 0 < length more
some_more text [] none head = absurd (none [] (subst (λ (t : List ℕ). IsHead Trailer t) (append-nil text) head))
some_more text (byte ∷ more) none head = omega arith

in_trailer_goes_on : (chunks : List Chunk) (text tail : List ℕ) → All IsShortChunk chunks → text ≡ flat_map print_chunk chunks ++ tail
    → IsInTrailer tail → GoesOn text
in_trailer_goes_on chunks text tail each is inside = judged inside.unfinished.some
  where
    judged : MayBecomeHead Trailer inside.front ⊎ EndsInsideTarget Trailer inside.front → GoesOn text
    judged (inr none) = absurd none
    judged (inl (more, head)) = record {
      more = more;
      content = content_of chunks;
      some = some_more inside.front more inside.unfinished.none head;
      reads = record {
        chunks = chunks;
        last = inside.line;
        trailer = inside.front ++ more;
        each = valid_chunks chunks each;
        last_line = inside.short.valid;
        zero_size = inside.zero_size;
        is_trailer = head;
        text_is =
            ap (λ (t : List ℕ). t ++ more) is ∙ append_assoc (flat_map print_chunk chunks) tail more
            ∙ ap (λ (t : List ℕ). flat_map print_chunk chunks ++ t)
            (ap (λ (t : List ℕ). t ++ more) inside.is ∙ append_assoc (line_text inside.line) (13 ∷ 10 ∷ inside.front) more
            ∙ ap (λ (t : List ℕ). line_text inside.line ++ 13 ∷ 10 ∷ t) (sym (append-nil (inside.front ++ more))));
        content_is = refl;
      };
    }

pub part_goes_on : (text content : List ℕ) → IsPart text content → GoesOn text
part_goes_on text content part = judged part.behind
  where
    judged : (IsInLine part.tail × (part.part ≡ [])) ⊎ (IsInChunk part.tail part.part ⊎ (IsInTrailer part.tail × (part.part ≡ []))) → GoesOn text
    judged (inl inside) = line_goes_on part.chunks text part.tail inside.0.left inside.0.line part.each part.text_is inside.0.short.valid inside.0.is
    judged (inr (inl inside)) = in_chunk_goes_on part.chunks text part.tail part.part part.each part.text_is inside
    judged (inr (inr inside)) = in_trailer_goes_on part.chunks text part.tail part.each part.text_is inside.0

-- ---- the body and what follows it

pub reads_more : (text content rest more : List ℕ) → ReadsChunked text content rest → ReadsChunked (text ++ more) content (rest ++ more)
reads_more text content rest more reads =
    let front = flat_map print_chunk reads.chunks in
    let last = line_text reads.last in
    record {
      chunks = reads.chunks;
      last = reads.last;
      trailer = reads.trailer;
      each = reads.each;
      last_line = reads.last_line;
      zero_size = reads.zero_size;
      is_trailer = reads.is_trailer;
      text_is =
          ap (λ (t : List ℕ). t ++ more) reads.text_is ∙ append_assoc front (last ++ 13 ∷ 10 ∷ (reads.trailer ++ rest)) more
          ∙ ap (λ (t : List ℕ). front ++ t) (append_assoc last (13 ∷ 10 ∷ (reads.trailer ++ rest)) more
          ∙ ap (λ (t : List ℕ). last ++ 13 ∷ 10 ∷ t) (append_assoc reads.trailer rest more));
      content_is = reads.content_is;
    }

pub short_more : (text content rest more : List ℕ) → ReadsShort text content rest → ReadsShort (text ++ more) content (rest ++ more)
unfolding reads_more
short_more text content rest more short = record {
  reads = reads_more text content rest more short.reads;
  each = short.each;
  last = short.last;
}

-- a part isn't whole
pub part_not_whole : (text content other rest : List ℕ) → IsPart text content → ReadsChunked text other rest → ⊥
part_not_whole text content other rest part whole =
    let goes = part_goes_on text content part in
    let same = chunked_once (text ++ goes.more) other goes.content (rest ++ goes.more) [] (reads_more text other rest goes.more whole) goes.reads in
    omega (arith, ap length same.1, length-append rest goes.more, goes.some)
