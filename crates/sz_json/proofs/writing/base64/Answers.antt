use Rattle.sz_json.proofs.writing.base64.Goals as goal

pub returns : goal.returns
returns c = c.in_ok-encode.ensures.text
