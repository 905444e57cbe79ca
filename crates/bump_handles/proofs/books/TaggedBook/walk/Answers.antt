use Rattle.bump_handles.proofs.LookLemmas.{walks}
use Rattle.bump_handles.proofs.books.TaggedBook.walk.Goals as goal

pub returns-in-Ok : goal.returns-in-Ok
returns-in-Ok g c = record {
  walks = walks c.args.place c.args.from c.in-Ok.first c.args.self.now c.args.chunks.now c.walk_on.new.chunks c.walk_on.result
      c.in-Ok.ensures c.walk_on.ensures.walks;
}
