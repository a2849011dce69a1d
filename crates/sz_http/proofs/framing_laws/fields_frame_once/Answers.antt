use Rattle.sz_http.proofs.FramedOnce.{frames_once}
use Rattle.sz_http.proofs.framing_laws.fields_frame_once.Goals as goal

pub returns : goal.returns
returns c = frames_once
