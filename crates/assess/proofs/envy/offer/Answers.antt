use Rattle.assess.proofs.Offering.{offered}
use Rattle.assess.proofs.envy.offer.Goals as goal

pub returns : goal.returns
returns c = offered c.args.line.now c.put.new.self c.args.slots.now c.put.new.slots c.args.envy c.put.result c.put.ensures.done c.put.ensures.stays
