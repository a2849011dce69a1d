use Rattle.sz_json.proofs.Base64.{base64_of-text, IsBase64-base64_of}
use Rattle.sz_json.proofs.laws.binary_is_base64.Goals as goal

pub returns : goal.returns
returns c = λ text bytes. (IsBase64-base64_of text bytes, base64_of-text text bytes)
