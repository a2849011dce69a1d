use Rattle.std.proofs.Common.{◌≡◌, ℕ, ◌+◌, ◌-◌, ◌≤◌, List, ◌++◌, length, take, drop, inl, sym, subst, length-append, length-drop, length-take, arith}
use Rattle.std.proofs.lemmas.Bool.{false≢true}
use Rattle.std.proofs.lemmas.List.{take_rest}
use Rattle.sz_http.specs.declared.chunk_place.Place.{Place}
use Rattle.sz_http.specs.ChunkReading.{Came}
use Rattle.sz_http.proofs.Feeding.{data_taken, data_length, refused_data, not_whole}
use Rattle.sz_http.proofs.ChunkParts.{part_of}
use Rattle.sz_http.proofs.chunked_body.ChunkedBody.take_data.Goals as goal

pub returns-then-count-self : goal.returns-then-count-self
returns-then-count-self c = λ limit before content takes.
    let self = c.args.self.now in
    let piece = c.args.piece.now in
    let stands = subst (λ (p : Place). Came self.trailer p (before ++ take c.args.used piece) content) c.requires.place takes.came in
    let rest = length-take (length piece - c.args.used) (drop c.args.used piece) in
    let behind = length-drop c.args.used piece in
    refused_data self.trailer limit self.limit c.args.left self.room c.min-count.result c.args.used before content piece takes.limited
    stands takes.room c.if-count-self.true (omega arith) (omega arith)

pub returns : goal.returns
returns c = λ limit before content takes.
    let self = c.args.self.now in
    let piece = c.args.piece.now in
    let used = c.args.used in
    let count = c.min-count.result in
    let stands = subst (λ (p : Place). Came self.trailer p (before ++ take used piece) content) c.requires.place takes.came in
    let rest = length-take (length piece - used) (drop used piece) in
    let behind = length-drop used piece in
    let inside : used + count ≤ length piece = omega arith in
    let few : count ≤ c.args.left = omega arith in
    let body = take_rest piece used in
    let came = data_taken self.trailer c.args.left count used before content piece c.after_data-self.result stands few inside
    c.after_data-self.ensures.more c.after_data-self.ensures.whole in
    let long = data_length count used piece inside in
    let full : length (take count (take (length piece - used) (drop used piece))) ≡ count =
    subst (λ (t : List ℕ). length (take count t) ≡ count) (sym body) long in
    let bytes = before ++ take (used + count) piece in
    let some = take count (take (length piece - used) (drop used piece)) in
    let after = subst (λ (t : List ℕ). Came self.trailer c.after_data-self.result bytes (content ++ take count t)) (sym body) came in
    let here : length (content ++ some) + (self.room - count) ≡ limit = omega (arith, takes.room, length-append content some) in
    record {
      within = inside;
      taken = record { limited = takes.limited; going = takes.going; room = here; came = after };
      done = λ e. absurd (false≢true e);
      more = λ e. record {
        part = part_of self.trailer c.after_data-self.result bytes (content ++ some) after
            (not_whole c.args.left count c.after_data-self.result few c.after_data-self.ensures.more c.after_data-self.ensures.whole);
        few = omega (arith, here);
      };
      moves = λ none. inl (omega (arith, stands.at.2));
    }
