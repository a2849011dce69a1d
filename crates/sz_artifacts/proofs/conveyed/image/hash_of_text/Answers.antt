use Rattle.sz_artifacts.proofs.Pairs.{answer-hash_of_text}
use Rattle.sz_artifacts.proofs.conveyed.image.hash_of_text.Goals as goal

pub returns : goal.returns
returns c = answer-hash_of_text c.args.text.now _ c.colon_hex.ensures.some c.colon_hex.ensures.none.0
