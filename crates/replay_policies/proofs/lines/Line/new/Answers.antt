use Rattle.std.proofs.Common.{◌≡◌, length, ap, arith}
use Rattle.bump_links.specs.Lists.{Lists, list_at}
use Rattle.replay_policies.proofs.LineLemmas.{IsNodes-made, held-empty}
use Rattle.replay_policies.proofs.lines.Line.new.Goals as goal

pub invariant_of-result : goal.invariant_of-result
invariant_of-result c =
    let made = c.in_ok-new.ensures.made in
    let links = c.in_ok-new.field-0 in
    let nodes : links.nodes ≡ c.args.room = ap (λ (s : Lists). s.nodes) made in
    record {
      two = ap (λ (s : Lists). length s.lists) made;
      long = omega (arith, c.in_ok-vec.ensures.len, nodes);
      nodes = IsNodes-made c.args.room links.nodes (list_at links 0) (list_at links 1) c.in_ok-vec.field-0.items c.new-2.result
          nodes (ap (λ (s : Lists). list_at s 0) made) (ap (λ (s : Lists). list_at s 1) made) c.new-2.ensures;
    }

pub returns-clause-keys : goal.returns-clause-keys
returns-clause-keys c = λ k. held-empty c.new-2.result k c.new-2.ensures
