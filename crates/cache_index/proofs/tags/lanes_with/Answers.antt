use Rattle.cache_index.proofs.LaneLemmas.{lane_alone, lane_bit}
use Rattle.cache_index.proofs.tags.lanes_with.Goals as goal

pub returns-clause-lanes : goal.returns-clause-lanes
returns-clause-lanes c lane below = lane_bit c.args.tags c.args.tag lane c.ranges.tags.fits c.requires below

pub returns-clause-others : goal.returns-clause-others
returns-clause-others c lane below = lane_alone _ lane below
