use Rattle.replay_runs.proofs.accesses.make_room.Goals as goal

pub returns-clause-text : goal.returns-clause-text
returns-clause-text c = (
  c.drain_for_put.new.scribe.text.items,
  c.evict_where_full.new.scribe.text.items,
  c.in_ok-drain_for_put.ensures.text,
  c.in_ok-evict_where_full.ensures.text,
  c.in_ok-free_where_none.ensures.text,
)
