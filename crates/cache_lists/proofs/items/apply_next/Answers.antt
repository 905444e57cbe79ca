use Rattle.std.proofs.Common.{sym, ap, ◌∙◌, arith}
use Rattle.bump_steps.specs.Views.{standing}
use Rattle.cache_lists.proofs.Bumping.{front_keeps, seen_keeps}
use Rattle.cache_lists.proofs.Ways.{front_flows}
use Rattle.cache_lists.proofs.items.apply_next.Goals as goal

pub returns-clause-items : goal.returns-clause-items
returns-clause-items g c =
    seen_keeps c.args.book.now c.load_head-head.new.self c.apply_front.new.self c.in-Some.bump.life.chunk c.load_head-head.result c.load_head-head.ensures.looked
    (front_keeps c.load_head-head.new.self c.apply_front.new.self c.fetch.new.self c.apply_front.new.lane c.in-Some.bump c.args.now c.apply_front.result
    c.apply_front.ensures.applied.front (c.fetch.ensures.aboard.told ∙ c.in-Some.is)
    (ap (λ b. (standing b.sheet c.in-Some.bump.life.chunk).1) c.load_head-head.ensures.looked ∙ (sym c.load_head-head.ensures.generation ∙ grind (arith, c.if-head-bump.false))))

pub returns-clause-flows : goal.returns-clause-flows
returns-clause-flows g c = front_flows c.args.book.now c.load_head-head.new.self c.apply_front.new.self c.fetch.new.self c.apply_front.new.lane
    c.in-Some.bump.life.chunk c.args.now c.load_head-head.result c.apply_front.result c.load_head-head.ensures.looked c.apply_front.ensures.applied.front
