use Rattle.std.proofs.Common.{None, ap, ◌∙◌}
use Rattle.std.proofs.lemmas.List.{get_or-set_same}
use Rattle.cache_lists.specs.Linked.{linked_at}
use Rattle.cache_index.specs.Views.{led_at}
use Rattle.cache_part.proofs.Agreements.{led_some}
use Rattle.cache_part.proofs.ending.end_led.Goals as goal

pub clear-requires : goal.clear-requires
clear-requires g c =
    led_some (led_at c.args.index.now.table c.args.chunk) (linked_at c.args.lists.now.book.sheet c.args.chunk)
    c.requires.led c.requires.linked

pub end_unled-requires : goal.end_unled-requires
end_unled-requires g c = record {
  unled = ap (λ t. led_at t c.args.chunk) c.clear.ensures.table
      ∙ get_or-set_same c.args.index.now.table c.args.chunk None None c.requires.within;
  own = c.requires.own;
  linked = c.requires.linked;
}
