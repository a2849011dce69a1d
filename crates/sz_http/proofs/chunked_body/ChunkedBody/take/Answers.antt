use Rattle.sz_http.proofs.Feeding.{line_otherwise}
use Rattle.sz_http.proofs.chunked_body.ChunkedBody.take.Goals as goal

pub take_line_byte-requires : goal.take_line_byte-requires
take_line_byte-requires c = line_otherwise c.args.self.now.place c.requires c.in_default.not-InTrailer
