use Rattle.std.proofs.Common.{◌≡◌, ◌<◌, ◌∷◌, length, set, Some, sym, ap, ◌∙◌, arith}
use Rattle.std.proofs.lemmas.List.{length-set}
use Rattle.bump_links.specs.Lists.{Lists, list_at, without, times}
use Rattle.replay_policies.specs.declared.entries.Entry.{Entry}
use Rattle.replay_policies.specs.Lines.{LineView, uses_at}
use Rattle.replay_policies.specs.Tables.{held, number_of}
use Rattle.replay_policies.proofs.LineLemmas.{first-among, moved_used, left_free, none_used, same_used, filled_here, uses-set, IsNodes-same, IsNodes-more}
use Rattle.replay_policies.proofs.TableLemmas.{held-other, none_of}
use Rattle.replay_policies.proofs.lines.Line.push.Goals as goal

pub invariant_of-self : goal.invariant_of-self
invariant_of-self c =
    let l = c.self.inside in
    let node = c.in-Some.node in
    let e = c.args.entry in
    let is = c.self.invariant.nodes in
    let moved = c.move_front.ensures in
    let absent = none_of (number_of l.table e.key) (ap (λ (v : LineView). held v.table e.key) c.self.view_is ∙ c.requires.new) in
    let among = first-among node (list_at l.links 0) (sym c.in-Some.ensures.first) in
    let apart = is.apart node in
    let one : times node (list_at l.links 0) ≡ 1 = omega (arith, among, apart) in
    let there : node < length l.entries.items = omega (arith, c.in-Some.ensures.in_range, c.self.invariant.long) in
    let free : list_at c.move_front.new.self 0 ≡ without node (list_at l.links 0) =
    ap (λ (s : Lists). list_at s 0) moved.moved ∙ left_free node l.links.lists c.self.invariant.two in
    let used : list_at c.move_front.new.self 1 ≡ node ∷ without node (list_at l.links 1) =
    ap (λ (s : Lists). list_at s 1) moved.moved ∙ moved_used node l.links.lists c.self.invariant.two in
    record {
      two = moved.lists ∙ c.self.invariant.two;
      long = length-set l.entries.items node e ∙ c.self.invariant.long ∙ sym moved.nodes;
      nodes = IsNodes-same l.links.nodes c.move_front.new.self.nodes (without node (list_at l.links 0))
          (list_at c.move_front.new.self 0) (node ∷ without node (list_at l.links 1)) (list_at c.move_front.new.self 1)
          (set l.entries.items node e) c.set.new.self moved.nodes free used
          (IsNodes-more l.links.nodes (list_at l.links 0) (list_at l.links 1) l.entries.items l.table c.self.invariant.nodes c.set.new.self e node absent there c.self.invariant.long one c.set.ensures.numbers);
    }

pub returns-clause-count : goal.returns-clause-count
returns-clause-count c =
    let l = c.self.inside in
    let node = c.in-Some.node in
    let e = c.args.entry in
    let is = c.self.invariant.nodes in
    let moved = c.move_front.ensures in
    let absent = none_of (number_of l.table e.key) (ap (λ (v : LineView). held v.table e.key) c.self.view_is ∙ c.requires.new) in
    let among = first-among node (list_at l.links 0) (sym c.in-Some.ensures.first) in
    let apart = is.apart node in
    let one : times node (list_at l.links 0) ≡ 1 = omega (arith, among, apart) in
    let there : node < length l.entries.items = omega (arith, c.in-Some.ensures.in_range, c.self.invariant.long) in
    let used : list_at c.move_front.new.self 1 ≡ node ∷ without node (list_at l.links 1) =
    ap (λ (s : Lists). list_at s 1) moved.moved ∙ moved_used node l.links.lists c.self.invariant.two in
    let more = ap length used in
    let rest = ap length (same_used l.links.nodes (list_at l.links 0) (list_at l.links 1) l.entries.items l.table c.self.invariant.nodes c.set.new.self e node absent there c.self.invariant.long one c.set.ensures.numbers) in
    let count = ap (λ (v : LineView). v.count) c.self.view_is in
    omega (arith, more, rest, count)

pub returns-clause-uses : goal.returns-clause-uses
returns-clause-uses c =
    let l = c.self.inside in
    let node = c.in-Some.node in
    let e = c.args.entry in
    let is = c.self.invariant.nodes in
    let moved = c.move_front.ensures in
    let absent = none_of (number_of l.table e.key) (ap (λ (v : LineView). held v.table e.key) c.self.view_is ∙ c.requires.new) in
    let among = first-among node (list_at l.links 0) (sym c.in-Some.ensures.first) in
    let apart = is.apart node in
    let one : times node (list_at l.links 0) ≡ 1 = omega (arith, among, apart) in
    let there : node < length l.entries.items = omega (arith, c.in-Some.ensures.in_range, c.self.invariant.long) in
    let used : list_at c.move_front.new.self 1 ≡ node ∷ without node (list_at l.links 1) =
    ap (λ (s : Lists). list_at s 1) moved.moved ∙ moved_used node l.links.lists c.self.invariant.two in
    let slots = set l.entries.items node e in
    let more = ap (uses_at slots) used in
    let rest = ap (uses_at slots) (same_used l.links.nodes (list_at l.links 0) (list_at l.links 1) l.entries.items l.table c.self.invariant.nodes c.set.new.self e node absent there c.self.invariant.long one c.set.ensures.numbers) in
    let same = uses-set l.entries.items node e (list_at l.links 1) (none_used l.links.nodes (list_at l.links 0) (list_at l.links 1) l.entries.items l.table c.self.invariant.nodes c.set.new.self e node absent there c.self.invariant.long one c.set.ensures.numbers) in
    let here = ap (λ (x : Entry). x.uses) (filled_here l.links.nodes (list_at l.links 0) (list_at l.links 1) l.entries.items l.table c.self.invariant.nodes c.set.new.self e node absent there c.self.invariant.long one c.set.ensures.numbers) in
    let uses = ap (λ (v : LineView). v.uses) c.self.view_is in
    omega (arith, more, rest, same, here, uses)

pub returns-clause-others : goal.returns-clause-others
returns-clause-others c = λ k other.
    held-other c.set.new.self c.self.inside.table c.args.entry.key (Some c.in-Some.node) c.set.ensures.numbers k other
    ∙ ap (λ (v : LineView). held v.table k) c.self.view_is
