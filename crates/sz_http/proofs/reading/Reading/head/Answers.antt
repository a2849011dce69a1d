use Rattle.sz_http.specs.Message.{kind_of}
use Rattle.sz_http.proofs.Taken.{head_none, head_parts}
use Rattle.sz_http.proofs.reading.Reading.head.Goals as goal

pub returns-clause-parts : goal.returns-clause-parts
returns-clause-parts c = λ side limit bytes ended body takes.
    let has = takes.head in
    head_parts c.head.result side bytes has.text has.after has.bytes_are (c.head.ensures.parts (kind_of side) has.text has.taken)

pub returns-clause-none : goal.returns-clause-none
returns-clause-none c = λ side limit bytes ended body takes.
    let has = takes.head in
    head_none c.head.result c.args.self.now.head (kind_of side) bytes has (c.head.ensures.none (kind_of side) has.text has.taken)
