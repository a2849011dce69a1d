-- Faults of a JSON text as faults of a reply.
use Rattle.sz_json.specs.declared.fault.JsonFault.{JsonFault}
use Rattle.sz_json.specs.declared.fault.JsonFault.TheVariants as json
use Rattle.sz_rest.specs.declared.fault.RestFault.{RestFault}
use Rattle.sz_rest.specs.declared.fault.RestFault.TheVariants.{Member, OutOfMemory}

abbrev pub of_json : JsonFault → RestFault
of_json (json.Member name) = Member name
of_json json.OutOfMemory = OutOfMemory
