use Rattle.std.proofs.Common.{Ok, Err}
use Rattle.std.proofs.lemmas.Result.{err_from_is_err_and}
use Rattle.sz_source.proofs.Words.{reads_dhcp4, reads_dhcp6, reads_dns, reads_server, reads_usb}
use Rattle.sz_source.proofs.source.Source.read.Goals as goal

pub returns-in_err-path_of : goal.returns-in_err-path_of
returns-in_err-path_of c =
    let p = err_from_is_err_and c.from_residual.result c.from_residual.ensures.1 in
    record {
      reads = rw (p.1, p.2)
          (reads_usb c.args.word.now c.in-Some.path.now (Err c.in_err-path_of.field-0.0)
          c.in-Some.ensures.some c.in_err-path_of.ensures.reads);
    }

pub returns-in-Some : goal.returns-in-Some
returns-in-Some c = record {
  reads = reads_usb c.args.word.now c.in-Some.path.now (Ok c.in_ok-path_of.field-0)
      c.in-Some.ensures.some c.in_ok-path_of.ensures.reads;
}

pub returns-in_err-path_of-2 : goal.returns-in_err-path_of-2
returns-in_err-path_of-2 c =
    let p = err_from_is_err_and c.from_residual-in_err-path_of-2.result c.from_residual-in_err-path_of-2.ensures.1 in
    record {
      reads = rw (p.1, p.2)
          (reads_dhcp4 c.args.word.now c.in-Some-behind.path.now (Err c.in_err-path_of-2.field-0.0)
          c.in-Some-behind.ensures.some c.in_err-path_of-2.ensures.reads);
    }

pub returns-in-Some-behind : goal.returns-in-Some-behind
returns-in-Some-behind c = record {
  reads = reads_dhcp4 c.args.word.now c.in-Some-behind.path.now (Ok c.in_ok-path_of-2.field-0)
      c.in-Some-behind.ensures.some c.in_ok-path_of-2.ensures.reads;
}

pub returns-in_err-path_of-3 : goal.returns-in_err-path_of-3
returns-in_err-path_of-3 c =
    let p = err_from_is_err_and c.from_residual-in_err-path_of-3.result c.from_residual-in_err-path_of-3.ensures.1 in
    record {
      reads = rw (p.1, p.2)
          (reads_dhcp6 c.args.word.now c.in-Some-behind-2.path.now (Err c.in_err-path_of-3.field-0.0)
          c.in-Some-behind-2.ensures.some c.in_err-path_of-3.ensures.reads);
    }

pub returns-in-Some-behind-2 : goal.returns-in-Some-behind-2
returns-in-Some-behind-2 c = record {
  reads = reads_dhcp6 c.args.word.now c.in-Some-behind-2.path.now (Ok c.in_ok-path_of-3.field-0)
      c.in-Some-behind-2.ensures.some c.in_ok-path_of-3.ensures.reads;
}

pub returns-in_err-path : goal.returns-in_err-path
returns-in_err-path c =
    let p = err_from_is_err_and c.from_residual-in_err-path.result c.from_residual-in_err-path.ensures.1 in
    record {
      reads = rw (p.1, p.2)
          (reads_dns c.args.word.now c.in-Some-behind-3.answer.now (Err c.in_err-path.field-0.0)
          c.in-Some-behind-3.ensures.some c.in_err-path.ensures.reads);
    }

pub returns-in-Some-behind-3 : goal.returns-in-Some-behind-3
returns-in-Some-behind-3 c = record {
  reads = reads_dns c.args.word.now c.in-Some-behind-3.answer.now (Ok (c.in_ok-path.path, c.in_ok-path.domain))
      c.in-Some-behind-3.ensures.some c.in_ok-path.ensures.reads;
}

pub returns-in_err-read : goal.returns-in_err-read
returns-in_err-read c =
    let p = err_from_is_err_and c.from_residual-in_err-read.result c.from_residual-in_err-read.ensures.1 in
    record {
      reads = rw (p.1, p.2)
          (reads_server c.args.word.now c.in-Some-behind-4.server.now (Err c.in_err-read.field-0.0)
          c.in-Some-behind-4.ensures.some c.in_err-read.ensures.reads);
    }

pub returns-in-Some-behind-4 : goal.returns-in-Some-behind-4
returns-in-Some-behind-4 c = record {
  reads = reads_server c.args.word.now c.in-Some-behind-4.server.now (Ok c.in_ok-read.field-0)
      c.in-Some-behind-4.ensures.some c.in_ok-read.ensures.reads;
}
