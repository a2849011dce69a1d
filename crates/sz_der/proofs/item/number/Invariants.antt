use Rattle.std.proofs.Common.{◌≡◌, ◌^◌, ◌<◌, take}
use Rattle.sz_der.specs.Der.{number_of}
use Rattle.sz_der.proofs.item.number.Given as goal

abbrev pub invariant-loop-octet : goal.invariant-loop-octet
invariant-loop-octet l = record {
  read : l.number ≡ number_of (take l.octet-index l.octets);
  fits : l.number < 256 ^ l.octet-index;
}
