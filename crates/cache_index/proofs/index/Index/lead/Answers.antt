use Rattle.std.proofs.Common.{◌-◌, ◌≤◌, ◌++◌, List, Option, IsSome, None, replicate, slice_set, sym, ap, ◌∙◌, subst}
use Rattle.bump_rules.specs.declared.items.ItemId.{ItemId}
use Rattle.cache_index.specs.Views.{Led, IndexView, led_at, numbered_from, with_generation}
use Rattle.cache_index.proofs.NumberLemmas.{led_from, led_high, set_from}
use Rattle.cache_index.proofs.index.Index.lead.Goals as goal

pub returns-clause-table : goal.returns-clause-table
returns-clause-table c =
    let first = c.self.inside.first in
    let v = c.self.inside.from_zero in
    let old = c.args.old in
    let chunk = c.args.life.chunk in
    let generation = c.args.life.generation in
    let high : first ≤ chunk = subst (λ (u : IndexView). u.first ≤ chunk) (sym c.self.view_is) c.requires.first in
    let old_high : first ≤ old = led_high first v old
    (subst (λ (u : IndexView). IsSome (led_at u.table old)) (sym c.self.view_is) c.requires.old) in
    let left : IndexView = record v { table = slice_set v.table (old - first) None } in
    let led = with_generation generation (led_at v.table (old - first)) in
    ap (λ (t : List (Option Led)). replicate first None ++ t) (c.lead.ensures.table
    ∙ ap (λ (i : ItemId). slice_set left.table i.chunk (with_generation i.generation (led_at v.table (old - first))))
    c.counted_from-life.ensures)
    ∙ (set_from first left chunk led high
    ∙ (ap (λ (t : List (Option Led)). slice_set t chunk led) (set_from first v old None old_high)
    ∙ (ap (λ (o : Option Led). slice_set (slice_set (numbered_from first v).table old None) chunk
    (with_generation generation o)) (sym (led_from first v old old_high))
    ∙ ap (λ (u : IndexView). slice_set (slice_set u.table old None) chunk
    (with_generation generation (led_at u.table old))) c.self.view_is)))
