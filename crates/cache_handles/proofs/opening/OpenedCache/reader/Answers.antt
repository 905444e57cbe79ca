use Rattle.bump_handles.proofs.TakeLemmas.{takes_seen}
use Rattle.cache_handles.proofs.opening.OpenedCache.reader.Goals as goal

pub returns-clause-takes : goal.returns-clause-takes
returns-clause-takes g c =
    rw (← c.self.view_is) (takes_seen (λ b. b.value) c.args.number c.self.inside.readers.items c.take_at.new.parts.items c.take_at.result c.take_at.ensures)
