use Rattle.std.proofs.Common.{◌++◌, List, Option, IsSome, None, replicate, slice_set, sym, ap, ◌∙◌, subst}
use Rattle.cache_index.specs.Views.{Led, IndexView, led_at}
use Rattle.cache_index.proofs.NumberLemmas.{led_high, set_from}
use Rattle.cache_index.proofs.index.Index.clear.Goals as goal

pub returns-clause-table : goal.returns-clause-table
returns-clause-table c =
    let first = c.self.inside.first in
    let v = c.self.inside.from_zero in
    let chunk = c.args.chunk in
    let high = led_high first v chunk
    (subst (λ (u : IndexView). IsSome (led_at u.table chunk)) (sym c.self.view_is) c.requires) in
    ap (λ (t : List (Option Led)). replicate first None ++ t) c.clear.ensures.table
    ∙ (set_from first v chunk None high ∙ ap (λ (u : IndexView). slice_set u.table chunk None) c.self.view_is)
