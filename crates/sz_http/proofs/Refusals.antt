-- A text that is refused is no chunked body and no part of one, and is refused for one fault.
use Rattle.std.proofs.Common.{◌≡◌, ℕ, ◌+◌, ◌<◌, ◌≤◌, ◌⊎◌, true, List, [], ◌∷◌, ◌++◌, length, refl, sym, ap, ◌∙◌, subst, arith, append_assoc, append-nil, length-append, length-take, inl, inr, All}
use Rattle.std.proofs.lemmas.Bool.{false≢true, cases_lt}
use Rattle.std.proofs.lemmas.List.Elements.{All-head, All-tail}
use Rattle.std.specs.List.{flat_map}
use Rattle.httparse.specs.Grammar.{AllPass, is_extension_byte}
use Rattle.sz_http.specs.declared.chunk_fault.ChunkFault.{ChunkFault}
use Rattle.sz_http.specs.declared.chunk_fault.ChunkFault.TheVariants.{BadChunk, TooLarge}
use Rattle.sz_http.specs.Chunked.{SizeLine, line_text, line_size, IsSizeLine, IsShortLine, Chunk, print_chunk, IsChunk, IsShortChunk, content_of, ReadsChunked, ReadsShort, BeginsChunked}
use Rattle.sz_http.specs.ChunkPart.{IsInLine, IsInChunk, IsBehindChunks, IsPart}
use Rattle.sz_http.specs.ChunkRefusal.{EndsInLongLine, RefusesNext, IsRefused}
use Rattle.sz_http.proofs.ChunkLines.{more_bytes, plain_line, same_text, same_size, same_split, print_chunk-append}
use Rattle.sz_http.proofs.ChunksOnce.{same_front, end_text, no_end, IsEnd, GoesOn, part_goes_on, line_goes_on}

-- ---- two texts that begin with chunks

chunk_same : (c d : Chunk) (x y : List ℕ) → IsChunk c → IsChunk d → print_chunk c ++ x ≡ print_chunk d ++ y → (c.bytes ≡ d.bytes) × (x ≡ y)
chunk_same c d x y vc vd e =
    let joined = sym (print_chunk-append c x) ∙ e ∙ print_chunk-append d y in
    let texts = same_text (line_text c.line) (line_text d.line) _ _ (plain_line c.line vc.line) (plain_line d.line vd.line) joined in
    let size : length c.bytes ≡ length d.bytes = omega (arith, same_size c.line d.line vc.line vd.line texts.0, vc.size, vd.size) in
    let bodies = (more_bytes texts.1).1 in
    let behind = same_split c.bytes d.bytes _ _ size bodies in
    (same_front c.bytes d.bytes _ _ size bodies, (more_bytes (more_bytes behind).1).1)

-- the text is at least one chunk, which have this content, and then rest
record Ahead (content text rest : List ℕ) : Type 0 where
  chunk : Chunk
  later : List ℕ
  valid : IsShortChunk chunk
  is : text ≡ print_chunk chunk ++ later
  few : length chunk.bytes ≤ length content

-- one text has more chunks than the other, or both have the same
data Aligned (first second x y : List ℕ) : Type 0 where
  same : first ≡ second → x ≡ y → Aligned first second x y
  longer : (content : List ℕ) → Ahead content y x → first ≡ second ++ content → Aligned first second x y
  shorter : (content : List ℕ) → Ahead content x y → second ≡ first ++ content → Aligned first second x y

aligned_more : (bytes other first second x y : List ℕ) → bytes ≡ other → Aligned first second x y → Aligned (bytes ++ first) (other ++ second) x y
aligned_more bytes other first second x y e (same contents rests) =
    same (ap (λ (t : List ℕ). t ++ first) e ∙ ap (λ (t : List ℕ). other ++ t) contents) rests
aligned_more bytes other first second x y e (longer content ahead contents) =
    longer content ahead (ap (λ (t : List ℕ). t ++ first) e ∙ ap (λ (t : List ℕ). other ++ t) contents ∙ sym (append_assoc other second content))
aligned_more bytes other first second x y e (shorter content ahead contents) =
    shorter content ahead (ap (λ (t : List ℕ). t ++ second) (sym e) ∙ ap (λ (t : List ℕ). bytes ++ t) contents ∙ sym (append_assoc bytes first content))

ahead_of : (chunk : Chunk) (chunks : List Chunk) (text rest : List ℕ) → All IsShortChunk (chunk ∷ chunks)
    → text ≡ flat_map print_chunk (chunk ∷ chunks) ++ rest → Ahead (content_of (chunk ∷ chunks)) text rest
ahead_of chunk chunks text rest each is = record {
  chunk = chunk;
  later = flat_map print_chunk chunks ++ rest;
  valid = All-head IsShortChunk chunk chunks each;
  is = is ∙ append_assoc (print_chunk chunk) (flat_map print_chunk chunks) rest;
  few = omega (arith, length-append chunk.bytes (content_of chunks));
}

aligned : (cs ds : List Chunk) (x y : List ℕ) → All IsShortChunk cs → All IsShortChunk ds
    → flat_map print_chunk cs ++ x ≡ flat_map print_chunk ds ++ y → Aligned (content_of cs) (content_of ds) x y
aligned [] [] x y all_c all_d e = same refl e
aligned [] (d ∷ ds) x y all_c all_d e = shorter (content_of (d ∷ ds)) (ahead_of d ds x y all_d e) refl
aligned (c ∷ cs) [] x y all_c all_d e = longer (content_of (c ∷ cs)) (ahead_of c cs y x all_c (sym e)) refl
aligned (c ∷ cs) (d ∷ ds) x y all_c all_d e =
    let joined = sym (append_assoc (print_chunk c) (flat_map print_chunk cs) x) ∙ e ∙ append_assoc (print_chunk d) (flat_map print_chunk ds) y in
    let heads = chunk_same c d _ _ (All-head IsShortChunk c cs all_c).valid (All-head IsShortChunk d ds all_d).valid joined in
    aligned_more c.bytes d.bytes (content_of cs) (content_of ds) x y heads.0
    (aligned cs ds x y (All-tail IsShortChunk c cs all_c) (All-tail IsShortChunk d ds all_d) heads.1)

-- ---- what stands behind chunks holds no whole chunk, and less than the next one

-- a line that isn't whole has no line end in it
line_stops : (line : SizeLine) (tail x : List ℕ) → IsSizeLine line → IsInLine tail → tail ≡ line_text line ++ 13 ∷ 10 ∷ x → ⊥
line_stops line tail x valid inside is =
    let joined : line_text line ++ 13 ∷ 10 ∷ (x ++ inside.left) ≡ line_text inside.line ++ 13 ∷ [] =
    sym (append_assoc (line_text line) (13 ∷ 10 ∷ x) inside.left) ∙ ap (λ (t : List ℕ). t ++ inside.left) (sym is) ∙ inside.is in
    let texts = same_text (line_text line) (line_text inside.line) _ _ (plain_line line valid) (plain_line inside.line inside.short.valid) joined in
    omega (arith, ap length texts.1)

-- the line in front of a chunk's bytes is of one size
chunk_line : (line : SizeLine) (chunk : Chunk) (x y : List ℕ) → IsSizeLine line → IsChunk chunk
    → line_text line ++ 13 ∷ 10 ∷ x ≡ line_text chunk.line ++ 13 ∷ 10 ∷ y
    → (line_size line ≡ length chunk.bytes) × (x ≡ y)
chunk_line line chunk x y valid whole e =
    let texts = same_text (line_text line) (line_text chunk.line) _ _ (plain_line line valid) (plain_line chunk.line whole.line) e in
    (same_size line chunk.line valid whole.line texts.0 ∙ whole.size, (more_bytes texts.1).1)

no_chunk : (tail part content rest : List ℕ) → IsBehindChunks tail part → Ahead content tail rest → ⊥
no_chunk tail part content rest (inl inside) ahead =
    line_stops ahead.chunk.line tail _ ahead.valid.valid.line inside.0 (ahead.is ∙ print_chunk-append ahead.chunk ahead.later)
no_chunk tail part content rest (inr (inl inside)) ahead =
    let own = inside.short.valid in
    let lines = chunk_line inside.chunk.line ahead.chunk _ _ own.line ahead.valid.valid
    (sym inside.is ∙ ahead.is ∙ print_chunk-append ahead.chunk ahead.later) in
    omega (
      arith,
      inside.some,
      own.size,
      lines.0,
      ap length lines.1,
      ap length inside.front,
      length-append inside.behind inside.left,
      length-append inside.chunk.bytes (13 ∷ 10 ∷ []),
      length-append ahead.chunk.bytes (13 ∷ 10 ∷ ahead.later),
    )
no_chunk tail part content rest (inr (inr inside)) ahead =
    let lines = chunk_line inside.0.line ahead.chunk _ _ inside.0.short.valid ahead.valid.valid
    (sym inside.0.is ∙ ahead.is ∙ print_chunk-append ahead.chunk ahead.later) in
    omega (arith, lines.0, inside.0.zero_size, ahead.valid.valid.some)

no_chunk_at_end : (last : SizeLine) (trailer content text rest left : List ℕ) → IsEnd last trailer → text ≡ end_text last trailer left
    → Ahead content text rest → ⊥
no_chunk_at_end last trailer content text rest left end is ahead =
    no_end ahead.chunk last trailer _ _ ahead.valid.valid end (sym (print_chunk-append ahead.chunk ahead.later) ∙ sym ahead.is ∙ is)

-- the bytes of a chunk that have come
part_few : (tail part : List ℕ) (inside : IsInChunk tail part) → (length part ≤ length inside.behind) × (length part ≤ length inside.chunk.bytes)
part_few tail part inside =
    let e = ap length inside.part_is ∙ length-take (length inside.behind) inside.chunk.bytes in (omega (arith, e), omega (arith, e))

part_in_chunk : (tail part content more rest : List ℕ) → IsBehindChunks tail part → Ahead content (tail ++ more) rest → length part ≤ length content
part_in_chunk tail part content more rest (inl inside) ahead = omega (arith, ap length inside.1)
part_in_chunk tail part content more rest (inr (inl inside)) ahead =
    let own = inside.short.valid in
    let lines = chunk_line inside.chunk.line ahead.chunk _ _ own.line ahead.valid.valid
    (sym (append_assoc (line_text inside.chunk.line) (13 ∷ 10 ∷ inside.behind) more) ∙ ap (λ (t : List ℕ). t ++ more) (sym inside.is)
    ∙ ahead.is ∙ print_chunk-append ahead.chunk ahead.later) in
    omega (arith, (part_few tail part inside).1, own.size, lines.0, ahead.few)
part_in_chunk tail part content more rest (inr (inr inside)) ahead = omega (arith, ap length inside.1)

part_at_end : (tail part more trailer left : List ℕ) (last : SizeLine) → IsBehindChunks tail part → IsEnd last trailer
    → tail ++ more ≡ end_text last trailer left → length part ≡ 0
part_at_end tail part more trailer left last (inl inside) end e = omega (arith, ap length inside.1)
part_at_end tail part more trailer left last (inr (inl inside)) end e =
    absurd (no_end inside.chunk last trailer _ _ inside.short.valid end
    (sym (append_assoc (line_text inside.chunk.line) (13 ∷ 10 ∷ inside.behind) more) ∙ ap (λ (t : List ℕ). t ++ more) (sym inside.is) ∙ e))
part_at_end tail part more trailer left last (inr (inr inside)) end e = omega (arith, ap length inside.1)

part_in_part : (tail part more other : List ℕ) → IsBehindChunks tail part → IsBehindChunks (tail ++ more) other → length part ≤ length other
part_in_part tail part more other (inl inside) larger = omega (arith, ap length inside.1)
part_in_part tail part more other (inr (inr inside)) larger = omega (arith, ap length inside.1)
part_in_part tail part more other (inr (inl inside)) larger = judged larger
  where
    opened : tail ++ more ≡ line_text inside.chunk.line ++ 13 ∷ 10 ∷ (inside.behind ++ more)
    opened = ap (λ (t : List ℕ). t ++ more) inside.is ∙ append_assoc (line_text inside.chunk.line) (13 ∷ 10 ∷ inside.behind) more

    judged : IsBehindChunks (tail ++ more) other → length part ≤ length other
    judged (inl line) = absurd (line_stops inside.chunk.line (tail ++ more) _ inside.short.valid.line line.0 opened)
    judged (inr (inl chunk)) =
        let own = inside.short.valid in
        let lines = chunk_line inside.chunk.line chunk.chunk _ _ own.line chunk.short.valid (sym opened ∙ chunk.is) in
        let few = part_few tail part inside in
        omega (
          arith,
          few.0,
          few.1,
          own.size,
          lines.0,
          ap length lines.1,
          length-append inside.behind more,
          ap length chunk.part_is,
          length-take (length chunk.behind) chunk.chunk.bytes,
        )
    judged (inr (inr end)) =
        let lines = chunk_line end.0.line inside.chunk _ _ end.0.short.valid inside.short.valid (sym end.0.is ∙ opened) in
        absurd (omega (arith, lines.0, end.0.zero_size, inside.short.valid.some))

-- ---- the content of a part is no more than that of what it is a part of

end_of : (text content rest : List ℕ) (reads : ReadsChunked text content rest) → IsEnd reads.last reads.trailer
end_of text content rest reads = record { line = reads.last_line; zero_size = reads.zero_size; head = reads.is_trailer }

grows_whole : (text content more other rest : List ℕ) → IsPart text content → ReadsShort (text ++ more) other rest → length content ≤ length other
grows_whole text content more other rest part whole =
    judged (aligned part.chunks whole.reads.chunks (part.tail ++ more) (end_text whole.reads.last whole.reads.trailer rest) part.each whole.each
    (sym (append_assoc (flat_map print_chunk part.chunks) part.tail more) ∙ ap (λ (t : List ℕ). t ++ more) (sym part.text_is) ∙ whole.reads.text_is))
  where
    total : length content ≡ length (content_of part.chunks) + length part.part
    total = ap length part.content_is ∙ length-append (content_of part.chunks) part.part

    judged : Aligned (content_of part.chunks) (content_of whole.reads.chunks) (part.tail ++ more) (end_text whole.reads.last whole.reads.trailer rest)
        → length content ≤ length other
    judged (same contents rests) =
        omega (
          arith,
          total,
          ap length contents,
          ap length whole.reads.content_is,
          part_at_end part.tail part.part more whole.reads.trailer rest whole.reads.last part.behind (end_of (text ++ more) other rest whole.reads) rests,
        )
    judged (longer k ahead contents) =
        absurd (no_chunk_at_end whole.reads.last whole.reads.trailer k _ _ rest (end_of (text ++ more) other rest whole.reads) refl ahead)
    judged (shorter k ahead contents) =
        omega (
          arith,
          total,
          ap length contents,
          length-append (content_of part.chunks) k,
          ap length whole.reads.content_is,
          part_in_chunk part.tail part.part k more _ part.behind ahead,
        )

grows_part : (text content more other : List ℕ) → IsPart text content → IsPart (text ++ more) other → length content ≤ length other
grows_part text content more other part larger =
    judged (aligned part.chunks larger.chunks (part.tail ++ more) larger.tail part.each larger.each
    (sym (append_assoc (flat_map print_chunk part.chunks) part.tail more) ∙ ap (λ (t : List ℕ). t ++ more) (sym part.text_is) ∙ larger.text_is))
  where
    total : length content ≡ length (content_of part.chunks) + length part.part
    total = ap length part.content_is ∙ length-append (content_of part.chunks) part.part

    whole : length other ≡ length (content_of larger.chunks) + length larger.part
    whole = ap length larger.content_is ∙ length-append (content_of larger.chunks) larger.part

    judged : Aligned (content_of part.chunks) (content_of larger.chunks) (part.tail ++ more) larger.tail → length content ≤ length other
    judged (same contents rests) =
        omega (
          arith,
          total,
          whole,
          ap length contents,
          part_in_part part.tail part.part more larger.part part.behind (subst (λ (t : List ℕ). IsBehindChunks t larger.part) (sym rests) larger.behind),
        )
    judged (longer k ahead contents) = absurd (no_chunk larger.tail larger.part k _ larger.behind ahead)
    judged (shorter k ahead contents) =
        omega (
          arith,
          total,
          whole,
          ap length contents,
          length-append (content_of part.chunks) k,
          part_in_chunk part.tail part.part k more _ part.behind ahead,
        )

-- ---- a line of 257 bytes

-- bytes without CR are no longer than the line that they begin
plain_front : (a b x y : List ℕ) → AllPass is_extension_byte a → a ++ x ≡ b ++ 13 ∷ y → length a ≤ length b
plain_front [] b x y plain e = omega arith
plain_front (c ∷ a) [] x y plain e =
    let passes = All-head (λ v. is_extension_byte v ≡ true) c a plain in
    absurd (false≢true (subst (λ (v : ℕ). is_extension_byte v ≡ true) (more_bytes e).0 passes))
plain_front (c ∷ a) (d ∷ b) x y plain e =
    omega (arith, plain_front a b x y (All-tail (λ v. is_extension_byte v ≡ true) c a plain) (more_bytes e).1)

-- a line of 257 bytes begins no line of fewer
long_stops : (line other : SizeLine) (x y : List ℕ) → IsSizeLine line → length (line_text line) ≡ 257 → IsShortLine other
    → line_text line ++ x ≡ line_text other ++ 13 ∷ y → ⊥
long_stops line other x y valid long short e =
    omega (arith, plain_front (line_text line) (line_text other) x y (plain_line line valid) e, short.few)

long_ahead : (line : SizeLine) (x content rest : List ℕ) → IsSizeLine line → length (line_text line) ≡ 257 → Ahead content (line_text line ++ x) rest → ⊥
long_ahead line x content rest valid long ahead =
    long_stops line ahead.chunk.line x _ valid long (record { valid = ahead.valid.valid.line; few = ahead.valid.few })
    (ahead.is ∙ print_chunk-append ahead.chunk ahead.later)

long_tail : (line : SizeLine) (x tail part : List ℕ) → IsSizeLine line → length (line_text line) ≡ 257 → IsBehindChunks tail part
    → line_text line ++ x ≡ tail → ⊥
long_tail line x tail part valid long (inl inside) e =
    long_stops line inside.0.line (x ++ inside.0.left) [] valid long inside.0.short
    (sym (append_assoc (line_text line) x inside.0.left) ∙ ap (λ (t : List ℕ). t ++ inside.0.left) e ∙ inside.0.is)
long_tail line x tail part valid long (inr (inl inside)) e =
    long_stops line inside.chunk.line x _ valid long (record { valid = inside.short.valid.line; few = inside.short.few }) (e ∙ inside.is)
long_tail line x tail part valid long (inr (inr inside)) e =
    long_stops line inside.0.line x _ valid long inside.0.short (e ∙ inside.0.is)

long_not_part : (text more content : List ℕ) → EndsInLongLine text → IsPart (text ++ more) content → ⊥
long_not_part text more content long part =
    judged (aligned long.chunks part.chunks (line_text long.line ++ more) part.tail long.each part.each
    (sym (append_assoc (flat_map print_chunk long.chunks) (line_text long.line) more) ∙ ap (λ (t : List ℕ). t ++ more) (sym long.is) ∙ part.text_is))
  where
    judged : Aligned (content_of long.chunks) (content_of part.chunks) (line_text long.line ++ more) part.tail → ⊥
    judged (same contents rests) = long_tail long.line more part.tail part.part long.valid long.long part.behind rests
    judged (longer k ahead contents) = no_chunk part.tail part.part k _ part.behind ahead
    judged (shorter k ahead contents) = long_ahead long.line more k _ long.valid long.long ahead

long_not_whole : (text more content rest : List ℕ) → EndsInLongLine text → ReadsShort (text ++ more) content rest → ⊥
long_not_whole text more content rest long whole =
    judged (aligned long.chunks whole.reads.chunks (line_text long.line ++ more) (end_text whole.reads.last whole.reads.trailer rest) long.each whole.each
    (sym (append_assoc (flat_map print_chunk long.chunks) (line_text long.line) more) ∙ ap (λ (t : List ℕ). t ++ more) (sym long.is)
    ∙ whole.reads.text_is))
  where
    judged : Aligned (content_of long.chunks) (content_of whole.reads.chunks) (line_text long.line ++ more)
        (end_text whole.reads.last whole.reads.trailer rest) → ⊥
    judged (same contents rests) = long_stops long.line whole.reads.last more _ long.valid long.long whole.last rests
    judged (longer k ahead contents) =
        no_chunk_at_end whole.reads.last whole.reads.trailer k _ _ rest (end_of (text ++ more) content rest whole.reads) refl ahead
    judged (shorter k ahead contents) = long_ahead long.line more k _ long.valid long.long ahead

long_goes_on : (text : List ℕ) → EndsInLongLine text → GoesOn text
long_goes_on text long =
    line_goes_on long.chunks text (line_text long.line) (13 ∷ []) long.line long.each long.is long.valid refl

-- ---- refusals

goes_on_begins : (text : List ℕ) → GoesOn text → (more : List ℕ) × BeginsChunked (text ++ more)
goes_on_begins text goes = (goes.more, (goes.content, [], goes.reads))

why_not_part : (limit : ℕ) (front content : List ℕ) (byte : ℕ) (fault : ChunkFault) (more other : List ℕ) → RefusesNext limit front content byte fault
    → IsPart ((front ++ byte ∷ []) ++ more) other → length other ≤ limit → ⊥
why_not_part limit front content byte BadChunk more other never part few =
    let goes = part_goes_on ((front ++ byte ∷ []) ++ more) other part in
    never (more ++ goes.more) (
      goes.content,
      [],
      subst (λ (t : List ℕ). ReadsChunked t goes.content [])
          (append_assoc (front ++ byte ∷ []) more goes.more) goes.reads,
    )
why_not_part limit front content byte (TooLarge most) more other (inl past) part few =
    omega (
      arith,
      past.1.0,
      length-append content (byte ∷ []),
      grows_part (front ++ byte ∷ []) (content ++ byte ∷ []) more other past.1.1 part,
    )
why_not_part limit front content byte (TooLarge most) more other (inr long) part few =
    long_not_part (front ++ byte ∷ []) more other long.1 part

why_not_whole : (limit : ℕ) (front content : List ℕ) (byte : ℕ) (fault : ChunkFault) (more other rest : List ℕ)
    → RefusesNext limit front content byte fault → ReadsShort ((front ++ byte ∷ []) ++ more) other rest → length other ≤ limit → ⊥
why_not_whole limit front content byte BadChunk more other rest never whole few = never more (other, rest, whole.reads)
why_not_whole limit front content byte (TooLarge most) more other rest (inl past) whole few =
    omega (
      arith,
      past.1.0,
      length-append content (byte ∷ []),
      grows_whole (front ++ byte ∷ []) (content ++ byte ∷ []) more other rest past.1.1 whole,
    )
why_not_whole limit front content byte (TooLarge most) more other rest (inr long) whole few =
    long_not_whole (front ++ byte ∷ []) more other rest long.1 whole

decided : (limit : ℕ) (text : List ℕ) (fault : ChunkFault) (is : IsRefused limit text fault) → text ≡ (is.front ++ is.byte ∷ []) ++ is.rest
decided limit text fault is = is.text_is ∙ sym (append_assoc is.front (is.byte ∷ []) is.rest)

-- a refused text is no part of a body within the limits
pub refused_not_part : (limit : ℕ) (text content : List ℕ) (fault : ChunkFault) → IsRefused limit text fault → IsPart text content → length content ≤ limit → ⊥
refused_not_part limit text content fault is part few =
    why_not_part limit is.front is.content is.byte fault is.rest content is.why
    (subst (λ (t : List ℕ). IsPart t content) (decided limit text fault is) part) few

-- a refused text begins with no body within the limits
pub refused_not_whole : (limit : ℕ) (text content rest : List ℕ) (fault : ChunkFault) → IsRefused limit text fault → ReadsShort text content rest
    → length content ≤ limit → ⊥
refused_not_whole limit text content rest fault is whole few =
    why_not_whole limit is.front is.content is.byte fault is.rest content rest is.why
    (subst (λ (t : List ℕ). ReadsShort t content rest) (decided limit text fault is) whole) few

-- the shorter of two fronts of a text is a front of the longer one
front_of : (a b x y : List ℕ) → length a ≤ length b → a ++ x ≡ b ++ y → (z : List ℕ) × (b ≡ a ++ z)
front_of [] b x y few e = (b, refl)
front_of (c ∷ a) [] x y few e = absurd (omega arith)
front_of (c ∷ a) (d ∷ b) x y few e =
    let later = front_of a b x y (omega arith) (more_bytes e).1 in
    (later.0, ap (λ (v : ℕ). v ∷ b) (sym (more_bytes e).0) ∙ ap (λ (t : List ℕ). c ∷ t) later.1)

-- of two refusals none comes first
not_before : (limit : ℕ) (text : List ℕ) (fault other : ChunkFault) (x : IsRefused limit text fault) (y : IsRefused limit text other)
    → length x.front < length y.front → ⊥
not_before limit text fault other x y before =
    let prefix = x.front ++ x.byte ∷ [] in
    let within = front_of prefix y.front x.rest (y.byte ∷ y.rest) (omega (arith, length-append x.front (x.byte ∷ [])))
    (sym (decided limit text fault x) ∙ y.text_is) in
    why_not_part limit x.front x.content x.byte fault within.0 y.content x.why
    (subst (λ (t : List ℕ). IsPart t y.content) within.1 y.part) y.few

-- at one byte there is one fault
one_why : (limit : ℕ) (front content second : List ℕ) (byte : ℕ) (fault other : ChunkFault) → RefusesNext limit front content byte fault
    → RefusesNext limit front second byte other → fault ≡ other
one_why limit front content second byte BadChunk BadChunk x y = refl
one_why limit front content second byte BadChunk (TooLarge most) x (inl past) =
    let begins = goes_on_begins (front ++ byte ∷ []) (part_goes_on (front ++ byte ∷ []) (second ++ byte ∷ []) past.1.1) in
    absurd (x begins.0 begins.1)
one_why limit front content second byte BadChunk (TooLarge most) x (inr long) =
    let begins = goes_on_begins (front ++ byte ∷ []) (long_goes_on (front ++ byte ∷ []) long.1) in absurd (x begins.0 begins.1)
one_why limit front content second byte (TooLarge most) BadChunk (inl past) y =
    let begins = goes_on_begins (front ++ byte ∷ []) (part_goes_on (front ++ byte ∷ []) (content ++ byte ∷ []) past.1.1) in
    absurd (y begins.0 begins.1)
one_why limit front content second byte (TooLarge most) BadChunk (inr long) y =
    let begins = goes_on_begins (front ++ byte ∷ []) (long_goes_on (front ++ byte ∷ []) long.1) in absurd (y begins.0 begins.1)
one_why limit front content second byte (TooLarge most) (TooLarge least) (inl x) (inl y) = ap (λ (n : ℕ). TooLarge n) (x.0 ∙ sym y.0)
one_why limit front content second byte (TooLarge most) (TooLarge least) (inr x) (inr y) = ap (λ (n : ℕ). TooLarge n) (x.0 ∙ sym y.0)
one_why limit front content second byte (TooLarge most) (TooLarge least) (inl x) (inr y) =
    absurd (long_not_part (front ++ byte ∷ []) [] (content ++ byte ∷ []) y.1
    (subst (λ (t : List ℕ). IsPart t (content ++ byte ∷ [])) (sym (append-nil (front ++ byte ∷ []))) x.1.1))
one_why limit front content second byte (TooLarge most) (TooLarge least) (inr x) (inl y) =
    absurd (long_not_part (front ++ byte ∷ []) [] (second ++ byte ∷ []) x.1
    (subst (λ (t : List ℕ). IsPart t (second ++ byte ∷ [])) (sym (append-nil (front ++ byte ∷ []))) y.1.1))

-- a text is refused for one fault
pub refused_once : (limit : ℕ) (text : List ℕ) (fault other : ChunkFault) → IsRefused limit text fault → IsRefused limit text other → fault ≡ other
refused_once limit text fault other x y = judged (cases_lt (length x.front) (length y.front)) (cases_lt (length y.front) (length x.front))
  where
    judged : (length x.front < length y.front) ⊎ (length y.front ≤ length x.front) → (length y.front < length x.front) ⊎ (length x.front ≤ length y.front)
        → fault ≡ other
    judged (inl before) later = absurd (not_before limit text fault other x y before)
    judged (inr few) (inl before) = absurd (not_before limit text other fault y x before)
    judged (inr few) (inr many) =
        let e = sym x.text_is ∙ y.text_is in
        let long : length x.front ≡ length y.front = omega (arith, few, many) in
        let fronts = same_front x.front y.front _ _ long e in
        let bytes = more_bytes (same_split x.front y.front _ _ long e) in
        one_why limit x.front x.content y.content x.byte fault other x.why
        (subst (λ (t : List ℕ). RefusesNext limit t y.content x.byte other) (sym fronts)
        (subst (λ (b : ℕ). RefusesNext limit y.front y.content b other) (sym bytes.0) y.why))
