use Rattle.std.proofs.Common.{◌≤◌, ◌++◌, List, Option, Some, None, replicate, slice_set, sym, ap, ◌∙◌, subst}
use Rattle.bump_rules.specs.declared.items.ItemId.{ItemId}
use Rattle.cache_index.specs.Views.{Led, IndexView}
use Rattle.cache_index.proofs.NumberLemmas.{set_from}
use Rattle.cache_index.proofs.index.Index.put.Goals as goal

pub returns-clause-table : goal.returns-clause-table
returns-clause-table c =
    let first = c.self.inside.first in
    let v = c.self.inside.from_zero in
    let chunk = c.args.life.chunk in
    let led : Option Led = Some (record { hash = c.args.hash; generation = c.args.life.generation }) in
    let high : first ≤ chunk = subst (λ (u : IndexView). u.first ≤ chunk) (sym c.self.view_is) c.requires.first in
    ap (λ (t : List (Option Led)). replicate first None ++ t) (c.put.ensures.table
    ∙ ap (λ (i : ItemId). slice_set v.table i.chunk (Some (record { hash = c.args.hash; generation = i.generation })))
    c.counted_from-life.ensures)
    ∙ (set_from first v chunk led high ∙ ap (λ (u : IndexView). slice_set u.table chunk led) c.self.view_is)
