use Rattle.std.proofs.Common.{◌≡◌, ◌+◌, List, ◌∷◌, length, ap, ◌∙◌, arith}
use Rattle.std.specs.Vec.Iter.{into_iter_items}
use Rattle.bump_handles.specs.Opening.{all_there}
use Rattle.cache_shelf.specs.Shelves.{ShelfView}
use Rattle.cache_config.proofs.Places.{all_rest}
use Rattle.cache_handles.specs.Opening.{IsShelfFor, part_of_shelf, parts_of}
use Rattle.cache_handles.proofs.ConfigLemmas.{byte_sound, parts_counted}
use Rattle.cache_handles.proofs.OpeningLemmas.{made_one}
use Rattle.cache_handles.proofs.opening.make_parts.Goals as goal

pub new-requires-clause-key : goal.new-requires-clause-key
new-requires-clause-key g c = (byte_sound c.args.config.now c.requires.sound).key

pub new-requires-clause-value : goal.new-requires-clause-value
new-requires-clause-value g c = (byte_sound c.args.config.now c.requires.sound).value

pub new-requires-clause-parts : goal.new-requires-clause-parts
new-requires-clause-parts g c = parts_counted c.args.config.now c.requires.sound

pub loop-shelf-preserved : goal.loop-shelf-preserved
loop-shelf-preserved g c =
    let so_far = c.loop-shelf.invariant in
    let number = c.loop-shelf.number in
    let rest = into_iter_items c.next.new.self in
    let next : into_iter_items c.loop-shelf.shelf-iterator ≡ c.in-Some.shelf ∷ rest = c.in-Some.ensures.steps.0 in
    record {
      made = made_one (λ b. b.value) c.loop-shelf.all.items c.push.new.self.items c.in_ok-new.field-0
          (part_of_shelf c.args.config.now number c.in-Some.shelf) _
          (all_there (parts_of c.args.config.now (number + 1) rest)) _ c.in_ok-push.ensures.items
          (c.in_ok-new.ensures.ok ∙ c.in_ok-part.ensures)
          (ap (λ (shelves : List ShelfView). all_there (parts_of c.args.config.now number shelves)) next) so_far.made;
      counted = omega (arith, so_far.counted, ap length next);
      fit = all_rest (IsShelfFor c.args.config.now) (into_iter_items c.loop-shelf.shelf-iterator) c.in-Some.shelf rest
          next so_far.fit;
    }
