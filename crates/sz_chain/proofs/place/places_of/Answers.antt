use Rattle.sz_chain.proofs.Reading.{places_are, places_few}
use Rattle.sz_chain.proofs.place.places_of.Goals as goal

pub add_readable-requires-2 : goal.add_readable-requires-2
add_readable-requires-2 c =
    let one = c.add_readable.ensures in places_few _ _ one.0 c.new-places.ensures one.1 one.3

pub returns : goal.returns
returns c =
    let one = c.add_readable.ensures in
    let other = c.add_readable-2.ensures in
    places_are c.args.anchors.now c.args.bag.now _ _ _ one.0 other.0 c.new-places.ensures one.1 other.1 one.2 other.2
