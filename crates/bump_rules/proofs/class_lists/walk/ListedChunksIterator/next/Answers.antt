-- The next chunk is the first that is still to come, and the walk goes on behind it.
use Rattle.std.proofs.Common.{sym, ◌∙◌}
use Rattle.bump_rules.specs.Lists.{list_at}
use Rattle.bump_rules.proofs.class_lists.Walks.{goes_on}
use Rattle.bump_rules.proofs.class_lists.walk.ListedChunksIterator.next.Goals as goal

pub after-self-inside-requires : goal.after-self-inside-requires
after-self-inside-requires c =
    let a = c.self.inside in
    (goes_on c.in_ok-chunk.chunk a.left (list_at a.lists.now a.place) a.next c.self.invariant c.in_ok-chunk.was).there

pub invariant_of-self : goal.invariant_of-self
invariant_of-self c =
    let a = c.self.inside in
    let on = (goes_on c.in_ok-chunk.chunk a.left
    (list_at a.lists.now a.place) a.next c.self.invariant c.in_ok-chunk.was).on c.after-self-inside.ensures.once in
    rw c.after-self-inside.ensures.next on

pub returns-clause-steps : goal.returns-clause-steps
returns-clause-steps c =
    let a = c.self.inside in
    sym c.self.view_is ∙ (goes_on c.in_ok-chunk.chunk a.left
    (list_at a.lists.now a.place) a.next c.self.invariant c.in_ok-chunk.was).is
