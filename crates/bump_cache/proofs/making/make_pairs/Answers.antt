use Rattle.std.proofs.Common.{rules, ◌≡◌, ◌++◌, List, [], ◌∷◌, sym, ap, ◌∙◌}
use Rattle.std.proofs.lemmas.List.{append_assoc}
use Rattle.std.specs.Vec.Iter.{into_iter_items}
use Rattle.cache_shelf.specs.Shelves.{ShelfView}
use Rattle.bump_cache.specs.Opening.{IsWide}
use Rattle.cache_config.proofs.Places.{all_rest}
use Rattle.bump_cache.proofs.making.make_pairs.Goals as goal

pub loop-shelf-preserved : goal.loop-shelf-preserved
loop-shelf-preserved g c =
    let so_far = c.loop-shelf.invariant in
    let made = c.loop-shelf.all.items in
    let rest = into_iter_items c.next.new.self in
    let next : into_iter_items c.loop-shelf.shelf-iterator ≡ c.in-Some.shelf ∷ rest = c.in-Some.ensures.steps.0 in
    let pairs : c.in_ok-pairs.pairs ≡ c.in-Some.shelf = search rules in
    record {
      made = ap (λ (ps : List ShelfView). ps ++ rest) c.in_ok-push.ensures.items
          ∙ (append_assoc made (c.in_ok-pairs.pairs ∷ []) rest
          ∙ (ap (λ (p : ShelfView). made ++ (p ∷ rest)) pairs
          ∙ (ap (λ (all : List ShelfView). made ++ all) (sym next) ∙ so_far.made)));
      wide = all_rest (IsWide g.K.Packed.width g.V.Packed.width) (into_iter_items c.loop-shelf.shelf-iterator)
          c.in-Some.shelf rest next so_far.wide;
    }
