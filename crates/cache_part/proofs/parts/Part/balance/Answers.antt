use Rattle.std.proofs.Common.{refl, subst}
use Rattle.cache_lists.specs.Items.{KeepsItems}
use Rattle.cache_part.specs.Tending.{BalancesByAge}
use Rattle.cache_part.proofs.PartLemmas.{cursor_kept, first_kept, part_kept}
use Rattle.cache_part.proofs.ViewLemmas.{index_stays}
use Rattle.cache_part.proofs.parts.Part.balance.Goals as goal

pub invariant_of-self : goal.invariant_of-self
invariant_of-self g c = (
  part_kept c.self.inside.settings.seed c.self.inside.settings.key_words c.self.inside.lists.book
      c.balance.new.lists.book c.self.inside.index.table c.self.invariant.0 c.balance.ensures.kept,
  c.self.invariant.1,
  cursor_kept c.self.inside.cursor c.self.inside.lists.book c.balance.new.lists.book c.balance.ensures.kept.class c.self.invariant.2,
  first_kept c.self.inside.index.first c.self.inside.lists.book c.balance.new.lists.book c.balance.ensures.kept.class
      c.self.invariant.3,
)

pub returns : goal.returns
returns g c =
    let is = c.self.view_is in let left = c.balance.new.lists in record {
      balances = subst (λ v. BalancesByAge c.args.most c.args.bounds c.args.now v.book left.book) is c.balance.ensures.balances;
      items = subst (λ v. KeepsItems v.book left.book) is c.balance.ensures.kept;
      rest = index_stays _ _ left c.self.inside.index.table is c.balance.ensures.evictions refl;
    }
