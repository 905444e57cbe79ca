use Rattle.std.proofs.Common.{refl, subst}
use Rattle.cache_lists.specs.Items.{KeepsItems}
use Rattle.cache_part.specs.Tending.{DrainsEach}
use Rattle.cache_part.proofs.PartLemmas.{cursor_kept, first_kept, part_kept}
use Rattle.cache_part.proofs.ViewLemmas.{index_stays}
use Rattle.cache_part.proofs.parts.Part.drain.Goals as goal

pub invariant_of-self : goal.invariant_of-self
invariant_of-self g c = (
  part_kept c.self.inside.settings.seed c.self.inside.settings.key_words c.self.inside.lists.book
      c.drain.new.lists.book c.self.inside.index.table c.self.invariant.0 c.drain.ensures.kept,
  c.self.invariant.1,
  cursor_kept c.self.inside.cursor c.self.inside.lists.book c.drain.new.lists.book c.drain.ensures.kept.class c.self.invariant.2,
  first_kept c.self.inside.index.first c.self.inside.lists.book c.drain.new.lists.book c.drain.ensures.kept.class
      c.self.invariant.3,
)

pub returns : goal.returns
returns g c =
    let is = c.self.view_is in let left = c.drain.new.lists in record {
      drains = subst (λ v. DrainsEach c.args.most c.args.now v.book c.args.lanes.now left.book
          c.drain.new.lanes) is c.drain.ensures.drains;
      items = subst (λ v. KeepsItems v.book left.book) is c.drain.ensures.kept;
      rest = index_stays _ _ left c.self.inside.index.table is c.drain.ensures.evictions refl;
    }
