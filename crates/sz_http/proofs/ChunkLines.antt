-- A chunked body has its first line, its sizes and its chunks in one way only, and what no chunked body begins with.
use Rattle.std.proofs.Common.{◌≡◌, ◌≢◌, ℕ, ◌<◌, ◌≤◌, ◌⊎◌, Bool, true, false, not, List, [], ◌∷◌, ◌++◌, length, refl, sym, ap, ◌∙◌, subst, arith, append_assoc, length-append, inl, inr, Option, Some, None, All}
use Rattle.std.proofs.lemmas.Bool.{false≢true, both_ways, or_from, ne_eqb}
use Rattle.std.proofs.lemmas.List.{length_push}
use Rattle.std.proofs.lemmas.List.Elements.{All-head, All-tail, All-cons, All-nil, All-append, All-push, All-weaker}
use Rattle.std.specs.List.{flat_map}
use Rattle.std.specs.Char.{is_ascii_hexdigit}
use Rattle.std.specs.Str.Parse.{digits_value}
use Rattle.httparse.specs.Grammar.{AllPass, is_extension_byte, IsExtension, print_extension}
use Rattle.httparse.specs.Pieces.{Stops}
use Rattle.httparse.proofs.GrammarLemmas.{ReadsSection-append}
use Rattle.httparse.proofs.RunLemmas.{run_unique}
use Rattle.sz_http.specs.declared.kind.Kind.TheVariants.{Trailer}
use Rattle.sz_http.specs.Head.{IsHead, BeginsWithHead, NeverHasHead}
use Rattle.sz_http.specs.Chunked.{SizeLine, line_text, line_size, IsSizeLine, Chunk, print_chunk, IsChunk, content_of, BeginsChunked}
use Rattle.sz_http.specs.ChunkPlace.{NoneFrom}

pub more_bytes : {b c : ℕ} {xs ys : List ℕ} → b ∷ xs ≡ c ∷ ys → (b ≡ c) × (xs ≡ ys)
more_bytes e = (cc, cc)

-- ---- bytes that are neither CR nor LF

pub plain : (b : ℕ) → b ≢ 13 → b ≢ 10 → is_extension_byte b ≡ true
plain b not_cr not_lf = ap (λ (v : Bool). not v) (or_from _ _ (ne_eqb b 13 not_cr) (ne_eqb b 10 not_lf))

hex_plain : (b : ℕ) → is_ascii_hexdigit b ≡ true → is_extension_byte b ≡ true
hex_plain b hex = plain b
    (λ e. false≢true (subst (λ (v : ℕ). is_ascii_hexdigit v ≡ true) e hex))
    (λ e. false≢true (subst (λ (v : ℕ). is_ascii_hexdigit v ≡ true) e hex))

pub plain_extension : (extension : Option (List ℕ)) → IsExtension extension → AllPass is_extension_byte (print_extension extension)
plain_extension None valid = All-nil (λ v. is_extension_byte v ≡ true)
plain_extension (Some text) valid = All-cons (λ v. is_extension_byte v ≡ true) 59 text refl valid

pub plain_digits : (digits : List ℕ) → AllPass is_ascii_hexdigit digits → AllPass is_extension_byte digits
plain_digits digits hex = All-weaker (λ v. is_ascii_hexdigit v ≡ true) (λ v. is_extension_byte v ≡ true) hex_plain digits hex

pub plain_line : (line : SizeLine) → IsSizeLine line → AllPass is_extension_byte (line_text line)
plain_line line valid =
    All-append (λ v. is_extension_byte v ≡ true) line.digits (print_extension line.extension)
    (plain_digits line.digits valid.digits) (plain_extension line.extension valid.extension)

-- ---- lines in one way

pub same_text : (a b x y : List ℕ) → AllPass is_extension_byte a → AllPass is_extension_byte b → a ++ 13 ∷ x ≡ b ++ 13 ∷ y
    → (a ≡ b) × (x ≡ y)
same_text a b x y pa pb e =
    let run = run_unique is_extension_byte a b (13 ∷ x) (13 ∷ y) pa pb refl refl e in (run.0, (more_bytes run.1).1)

stops_digits : (extension : Option (List ℕ)) (x : List ℕ) → Stops is_ascii_hexdigit (print_extension extension ++ 13 ∷ x)
stops_digits None x = refl
stops_digits (Some text) x = refl

pub same_size : (l m : SizeLine) → IsSizeLine l → IsSizeLine m → line_text l ≡ line_text m → line_size l ≡ line_size m
same_size l m vl vm e =
    let longer : l.digits ++ (print_extension l.extension ++ 13 ∷ []) ≡ m.digits ++ (print_extension m.extension ++ 13 ∷ []) =
    sym (append_assoc l.digits (print_extension l.extension) (13 ∷ [])) ∙ ap (λ (t : List ℕ). t ++ 13 ∷ []) e
    ∙ append_assoc m.digits (print_extension m.extension) (13 ∷ []) in
    let run = run_unique is_ascii_hexdigit l.digits m.digits _ _ vl.digits vm.digits (stops_digits l.extension []) (stops_digits m.extension []) longer in
    ap (λ (t : List ℕ). digits_value 16 t) run.0

pub same_split : (a b x y : List ℕ) → length a ≡ length b → a ++ x ≡ b ++ y → x ≡ y
same_split [] [] x y e is = is
same_split [] (c ∷ b) x y e is = absurd (omega arith)
same_split (c ∷ a) [] x y e is = absurd (omega arith)
same_split (c ∷ a) (d ∷ b) x y e is = same_split a b x y (omega arith) (more_bytes is).1

-- ---- the first line of a chunked body

-- what comes after a line of this size
abbrev pub AfterLine : ℕ → List ℕ → Type 0
AfterLine size after =
    ((size ≡ 0) × ((trailer : List ℕ) × (rest : List ℕ) × IsHead Trailer trailer × (after ≡ trailer ++ rest)))
    ⊎ ((bytes : List ℕ) × (later : List ℕ) × (0 < length bytes) × (size ≡ length bytes) × (after ≡ bytes ++ 13 ∷ 10 ∷ later) × BeginsChunked later)

pub record FirstLine (text : List ℕ) : Type 0 where
  pub line : SizeLine
  pub after : List ℕ
  pub valid : IsSizeLine line
  pub is : text ≡ line_text line ++ 13 ∷ 10 ∷ after
  pub then : AfterLine (line_size line) after

-- a chunk and what follows it
pub print_chunk-append : (chunk : Chunk) (x : List ℕ)
    → print_chunk chunk ++ x ≡ line_text chunk.line ++ 13 ∷ 10 ∷ (chunk.bytes ++ 13 ∷ 10 ∷ x)
print_chunk-append chunk x =
    append_assoc (line_text chunk.line) (13 ∷ 10 ∷ (chunk.bytes ++ 13 ∷ 10 ∷ [])) x
    ∙ ap (λ (t : List ℕ). line_text chunk.line ++ 13 ∷ 10 ∷ t) (append_assoc chunk.bytes (13 ∷ 10 ∷ []) x)

pub first_line : (text : List ℕ) → BeginsChunked text → FirstLine text
first_line text begins =
    let reads = begins.2 in
    go reads.chunks reads.each reads.text_is
  where
    go : (chunks : List Chunk) → All IsChunk chunks
        → text ≡ flat_map print_chunk chunks ++ (line_text begins.2.last ++ (13 ∷ 10 ∷ (begins.2.trailer ++ begins.1))) → FirstLine text
    go [] each is = record {
      line = begins.2.last;
      after = begins.2.trailer ++ begins.1;
      valid = begins.2.last_line;
      is = is;
      then = inl (begins.2.zero_size, (begins.2.trailer, begins.1, begins.2.is_trailer, refl));
    }
    go (chunk ∷ chunks) each is =
        let first = All-head IsChunk chunk chunks each in
        let later = flat_map print_chunk chunks ++ (line_text begins.2.last ++ (13 ∷ 10 ∷ (begins.2.trailer ++ begins.1))) in
        record {
          line = chunk.line;
          after = chunk.bytes ++ 13 ∷ 10 ∷ later;
          valid = first.line;
          is = is ∙ append_assoc (print_chunk chunk) (flat_map print_chunk chunks) (line_text begins.2.last ++ (13 ∷ 10 ∷ (begins.2.trailer ++ begins.1)))
              ∙ print_chunk-append chunk later;
          then = inr (
            chunk.bytes,
            later,
            first.some,
            first.size,
            refl,
            (
              content_of chunks,
              begins.1,
              record {
                chunks = chunks;
                last = begins.2.last;
                trailer = begins.2.trailer;
                each = All-tail IsChunk chunk chunks each;
                last_line = begins.2.last_line;
                zero_size = begins.2.zero_size;
                is_trailer = begins.2.is_trailer;
                text_is = refl;
                content_is = refl;
              },
            ),
          );
        }

-- what follows a chunk is a chunked body again
pub behind_chunk : (chunk : Chunk) (x : List ℕ) → IsChunk chunk → BeginsChunked (print_chunk chunk ++ x) → BeginsChunked x
behind_chunk chunk x valid begins =
    let first = first_line (print_chunk chunk ++ x) begins in
    let same = same_text (line_text chunk.line) (line_text first.line) _ _ (plain_line chunk.line valid.line) (plain_line first.line first.valid)
    (sym (print_chunk-append chunk x) ∙ first.is) in
    let size = same_size chunk.line first.line valid.line first.valid same.0 in
    go first.line first.after first.then size (more_bytes same.1).1
  where
    go : (line : SizeLine) (after : List ℕ) → AfterLine (line_size line) after → line_size chunk.line ≡ line_size line
        → chunk.bytes ++ 13 ∷ 10 ∷ x ≡ after → BeginsChunked x
    go line after (inl end) size e = absurd (omega (arith, valid.some, valid.size, end.0))
    go line after (inr next) size e =
        let rest = same_split chunk.bytes next.0 (13 ∷ 10 ∷ x) (13 ∷ 10 ∷ next.1) (omega (arith, valid.size, next.3)) (e ∙ next.4) in
        subst (λ (t : List ℕ). BeginsChunked t) (sym (more_bytes (more_bytes rest).1).1) next.5

pub behind_chunks : (chunks : List Chunk) (x : List ℕ) → All IsChunk chunks → BeginsChunked (flat_map print_chunk chunks ++ x) → BeginsChunked x
behind_chunks [] x each begins = begins
behind_chunks (chunk ∷ chunks) x each begins =
    behind_chunks chunks x (All-tail IsChunk chunk chunks each)
    (behind_chunk chunk (flat_map print_chunk chunks ++ x) (All-head IsChunk chunk chunks each)
    (subst (λ (t : List ℕ). BeginsChunked t) (append_assoc (print_chunk chunk) (flat_map print_chunk chunks) x) begins))

-- ---- what no chunked body begins with

-- digits and then a byte that cannot follow them
pub bad_after_digits : (tail : List ℕ) (b : ℕ) → AllPass is_ascii_hexdigit tail → is_ascii_hexdigit b ≡ false
    → (length tail ≡ 0) ⊎ ((b ≢ 59) × (b ≢ 13)) → NoneFrom (tail ++ b ∷ [])
bad_after_digits tail b hex fails bad more begins =
    let first = first_line ((tail ++ b ∷ []) ++ more) begins in
    let joined = sym (append_assoc tail (b ∷ []) more) ∙ first.is
    ∙ append_assoc first.line.digits (print_extension first.line.extension) (13 ∷ 10 ∷ first.after) in
    let run = run_unique is_ascii_hexdigit tail first.line.digits (b ∷ more) _ hex first.valid.digits fails
    (stops_digits first.line.extension (10 ∷ first.after)) joined in
    judged bad first.line.digits first.line.extension first.after first.valid.some run.0 run.1
  where
    judged : (length tail ≡ 0) ⊎ ((b ≢ 59) × (b ≢ 13)) → (digits : List ℕ) (extension : Option (List ℕ)) (after : List ℕ) → 0 < length digits
        → tail ≡ digits → b ∷ more ≡ print_extension extension ++ 13 ∷ 10 ∷ after → ⊥
    judged (inl none) digits extension after some e is = omega (arith, ap length e)
    judged (inr other) digits None after some e is = other.1 (more_bytes is).0
    judged (inr other) digits (Some text) after some e is = other.0 (more_bytes is).0

hex_front : (front more digits rest : List ℕ) → AllPass is_ascii_hexdigit front → Stops is_ascii_hexdigit rest → front ++ more ≡ digits ++ rest
    → length front ≤ length digits
hex_front [] more digits rest hex stops e = omega arith
hex_front (c ∷ front) more [] [] hex stops e = absurd stops
hex_front (c ∷ front) more [] (d ∷ rest) hex stops e =
    let passes = All-head (λ v. is_ascii_hexdigit v ≡ true) c front hex in
    absurd (both_ways (is_ascii_hexdigit d) stops (subst (λ (v : ℕ). is_ascii_hexdigit v ≡ true) (more_bytes e).0 passes))
hex_front (c ∷ front) more (d ∷ digits) rest hex stops e =
    omega (arith, hex_front front more digits rest (All-tail (λ v. is_ascii_hexdigit v ≡ true) c front hex) stops (more_bytes e).1)

-- a 17th digit
pub bad_digit : (tail : List ℕ) (b : ℕ) → AllPass is_ascii_hexdigit tail → is_ascii_hexdigit b ≡ true → length tail ≡ 16 → NoneFrom (tail ++ b ∷ [])
bad_digit tail b hex passes full more begins =
    let first = first_line ((tail ++ b ∷ []) ++ more) begins in
    let joined = first.is ∙ append_assoc first.line.digits (print_extension first.line.extension) (13 ∷ 10 ∷ first.after) in
    omega (
      arith,
      length_push tail b,
      first.valid.few,
      hex_front (tail ++ b ∷ []) more first.line.digits _ (All-push (λ v. is_ascii_hexdigit v ≡ true) tail b hex passes)
          (stops_digits first.line.extension (10 ∷ first.after)) joined,
    )

-- LF where no CR is
pub bad_line_feed : (tail : List ℕ) (b : ℕ) → AllPass is_extension_byte tail → b ≡ 10 → NoneFrom (tail ++ b ∷ [])
bad_line_feed tail b all is more begins =
    let first = first_line ((tail ++ b ∷ []) ++ more) begins in
    let joined : tail ++ 10 ∷ more ≡ line_text first.line ++ 13 ∷ 10 ∷ first.after =
    ap (λ (v : ℕ). tail ++ v ∷ more) (sym is) ∙ sym (append_assoc tail (b ∷ []) more) ∙ first.is in
    let run = run_unique is_extension_byte tail (line_text first.line) (10 ∷ more) (13 ∷ 10 ∷ first.after) all
    (plain_line first.line first.valid) refl refl joined in
    let same : ◌≡◌ {A = ℕ} 10 13 = (more_bytes run.1).0 in omega arith

-- another byte than LF after the CR of a line
pub bad_after_cr : (line : SizeLine) (tail : List ℕ) (b : ℕ) → IsSizeLine line → tail ≡ line_text line ++ 13 ∷ [] → b ≢ 10 → NoneFrom (tail ++ b ∷ [])
bad_after_cr line tail b valid is other more begins =
    let first = first_line ((tail ++ b ∷ []) ++ more) begins in
    let joined : line_text line ++ 13 ∷ b ∷ more ≡ line_text first.line ++ 13 ∷ 10 ∷ first.after =
    sym (append_assoc (line_text line) (13 ∷ []) (b ∷ more)) ∙ ap (λ (t : List ℕ). t ++ b ∷ more) (sym is)
    ∙ sym (append_assoc tail (b ∷ []) more) ∙ first.is in
    let same = same_text (line_text line) (line_text first.line) (b ∷ more) (10 ∷ first.after) (plain_line line valid)
    (plain_line first.line first.valid) joined in
    other (more_bytes same.1).0

-- what stands behind a line and the bytes of its chunk
behind_data : (line : SizeLine) (part text : List ℕ) → IsSizeLine line → line_size line ≡ length part → 0 < length part
    → BeginsChunked (line_text line ++ 13 ∷ 10 ∷ (part ++ text)) → (later : List ℕ) × (text ≡ 13 ∷ 10 ∷ later)
behind_data line part text valid size some begins =
    let first = first_line (line_text line ++ 13 ∷ 10 ∷ (part ++ text)) begins in
    let same = same_text (line_text line) (line_text first.line) _ _ (plain_line line valid) (plain_line first.line first.valid) first.is in
    let sizes = same_size line first.line valid first.valid same.0 in
    go first.line first.after first.then sizes (more_bytes same.1).1
  where
    go : (other : SizeLine) (after : List ℕ) → AfterLine (line_size other) after → line_size line ≡ line_size other → part ++ text ≡ after
        → (later : List ℕ) × (text ≡ 13 ∷ 10 ∷ later)
    go other after (inl end) sizes e = absurd (omega (arith, end.0))
    go other after (inr next) sizes e =
        (next.1, same_split part next.0 text (13 ∷ 10 ∷ next.1) (omega (arith, next.3)) (e ∙ next.4))

-- another byte than CR behind a chunk
pub bad_data_end : (line : SizeLine) (tail part : List ℕ) (b : ℕ) → IsSizeLine line → line_size line ≡ length part → 0 < length part
    → tail ≡ line_text line ++ (13 ∷ 10 ∷ part) → b ≢ 13 → NoneFrom (tail ++ b ∷ [])
bad_data_end line tail part b valid size some is other more begins =
    let joined : (tail ++ b ∷ []) ++ more ≡ line_text line ++ 13 ∷ 10 ∷ (part ++ b ∷ more) =
    append_assoc tail (b ∷ []) more ∙ ap (λ (t : List ℕ). t ++ b ∷ more) is ∙ append_assoc (line_text line) (13 ∷ 10 ∷ part) (b ∷ more) in
    let behind = behind_data line part (b ∷ more) valid size some (subst (λ (t : List ℕ). BeginsChunked t) joined begins) in
    other (more_bytes behind.1).0

-- another byte than LF after the CR behind a chunk
pub bad_data_line_feed : (line : SizeLine) (tail part : List ℕ) (b : ℕ) → IsSizeLine line → line_size line ≡ length part → 0 < length part
    → tail ≡ line_text line ++ (13 ∷ 10 ∷ (part ++ 13 ∷ [])) → b ≢ 10 → NoneFrom (tail ++ b ∷ [])
bad_data_line_feed line tail part b valid size some is other more begins =
    let joined : (tail ++ b ∷ []) ++ more ≡ line_text line ++ 13 ∷ 10 ∷ (part ++ 13 ∷ b ∷ more) =
    append_assoc tail (b ∷ []) more ∙ ap (λ (t : List ℕ). t ++ b ∷ more) is
    ∙ append_assoc (line_text line) (13 ∷ 10 ∷ (part ++ 13 ∷ [])) (b ∷ more)
    ∙ ap (λ (t : List ℕ). line_text line ++ 13 ∷ 10 ∷ t) (append_assoc part (13 ∷ []) (b ∷ more)) in
    let behind = behind_data line part (13 ∷ b ∷ more) valid size some (subst (λ (t : List ℕ). BeginsChunked t) joined begins) in
    other (more_bytes (more_bytes behind.1).1).0

-- a trailer that can not become one
pub bad_trailer : (line : SizeLine) (tail text : List ℕ) → IsSizeLine line → line_size line ≡ 0 → tail ≡ line_text line ++ (13 ∷ 10 ∷ text)
    → NeverHasHead Trailer text → NoneFrom tail
bad_trailer line tail text valid size is never more begins =
    let joined : tail ++ more ≡ line_text line ++ 13 ∷ 10 ∷ (text ++ more) =
    ap (λ (t : List ℕ). t ++ more) is ∙ append_assoc (line_text line) (13 ∷ 10 ∷ text) more in
    let first = first_line (tail ++ more) begins in
    let same = same_text (line_text line) (line_text first.line) _ _ (plain_line line valid) (plain_line first.line first.valid) (sym joined ∙ first.is) in
    let sizes = same_size line first.line valid first.valid same.0 in
    go first.line first.after first.then sizes (more_bytes same.1).1
  where
    go : (other : SizeLine) (after : List ℕ) → AfterLine (line_size other) after → line_size line ≡ line_size other → text ++ more ≡ after → ⊥
    go other after (inr next) sizes e = omega (arith, next.2, next.3)
    go other after (inl end) sizes e =
        let trailer = end.1.0 in
        let rest = end.1.1 in
        let head = end.1.2 in
        never more rest (subst (λ (t : List ℕ). BeginsWithHead Trailer t rest) (sym (e ∙ end.1.3)) (record {
          reads = (
            head.reads.0,
            head.reads.1,
            ReadsSection-append trailer head.reads.0 head.reads.1 [] rest head.reads.2,
            head.reads.3,
          );
          fits = omega (arith, head.fits, length-append trailer rest);
        }))
