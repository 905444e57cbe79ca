use Rattle.std.proofs.Common.{sym, ◌∙◌}
use Rattle.example_links.proofs.TwoLists.{none_in_two}
use Rattle.example_links.proofs.lru.Lru.insert.Goals as goal

pub unreachable-requires : goal.unreachable-requires
unreachable-requires c =
    none_in_two c.self.inside.links c.self.invariant.0 c.self.invariant.1 c.nodes.ensures.each_once (sym c.back.ensures.last ∙ c.in-None.is) (sym c.front.ensures.first ∙ c.in_default.is)
