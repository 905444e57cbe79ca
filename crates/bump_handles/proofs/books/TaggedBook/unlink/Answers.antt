use Rattle.bump_handles.proofs.LookLemmas.{unlinks}
use Rattle.bump_handles.proofs.books.TaggedBook.unlink.Goals as goal

pub returns-in-Ok : goal.returns-in-Ok
returns-in-Ok g c = record {
  unlinks = unlinks c.args.id _ _ _ c.in-Ok.ended c.label_of.result c.unlink.new.self c.self.view_is c.in-Ok.ensures.refused
      c.in-Ok.ensures.unlinked c.label_of.ensures.reads c.label_of.ensures.store;
}
