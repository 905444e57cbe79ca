use Rattle.std.proofs.Common.{◌≡◌, Some, sym, ◌∙◌, arith}
use Rattle.replay_policies.specs.Tables.{number_of}
use Rattle.replay_policies.proofs.lines.Line.ask.Goals as goal

pub index-requires : goal.index-requires
index-requires c =
    let l = c.self.inside in
    let some : number_of l.table c.args.key ≡ Some c.in-Some.node = sym c.get.ensures ∙ c.in-Some.is in
    let is = c.self.invariant.nodes in
    let below = is.below c.in-Some.node (is.found c.args.key c.in-Some.node some) in
    omega (arith, below, c.self.invariant.long)
