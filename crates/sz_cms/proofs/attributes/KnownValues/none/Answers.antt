use Rattle.std.proofs.Common.{refl}
use Rattle.sz_cms.specs.Places.{value_among}
use Rattle.sz_cms.proofs.attributes.KnownValues.none.Goals as goal

pub returns : goal.returns
unfolding value_among
returns c =
    record { content_type = refl; digest = refl }
