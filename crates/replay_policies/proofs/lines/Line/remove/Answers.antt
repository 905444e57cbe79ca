use Rattle.std.proofs.Common.{◌≡◌, ◌∷◌, length, Some, None, refl, sym, ap, ◌∙◌, arith}
use Rattle.bump_links.specs.Lists.{Lists, list_at, without}
use Rattle.replay_policies.specs.Lines.{LineView, entry_at, uses_at}
use Rattle.replay_policies.specs.Tables.{held, number_of, one_of}
use Rattle.replay_policies.proofs.LineLemmas.{moved_free, left_used, length-without, one_used, uses-without, IsNodes-same, IsNodes-less}
use Rattle.replay_policies.proofs.TableLemmas.{held-less, held-same}
use Rattle.replay_policies.proofs.lines.Line.remove.Goals as goal

pub returns-in_default-clause-count : goal.returns-in_default-clause-count
returns-in_default-clause-count c =
    let l = c.self.inside in
    let none : held l.table c.args.key ≡ 0 = ap one_of (sym c.get.ensures ∙ c.in_default.is) in
    let same = ap (λ (v : LineView). held v.table c.args.key) c.self.view_is in
    omega (arith, none, same)

pub returns-in_default-clause-uses : goal.returns-in_default-clause-uses
returns-in_default-clause-uses c = λ node some.
    let l = c.self.inside in
    let none : number_of l.table c.args.key ≡ None = sym c.get.ensures ∙ c.in_default.is in
    let same = ap (λ (v : LineView). number_of v.table c.args.key) c.self.view_is in
    absurd (let both : Some node ≡ None = sym some ∙ sym same ∙ none in cc)

pub returns-in_default-clause-gone : goal.returns-in_default-clause-gone
returns-in_default-clause-gone c =
    let l = c.self.inside in
    let none : held l.table c.args.key ≡ 0 = ap one_of (sym c.get.ensures ∙ c.in_default.is) in
    let same = ap (λ (v : LineView). held v.table c.args.key) c.self.view_is in
    omega (arith, none, same)

pub move_front-requires-clause-node : goal.move_front-requires-clause-node
move_front-requires-clause-node c =
    let l = c.self.inside in
    let some : number_of l.table c.args.key ≡ Some c.in-Some.node = sym c.get.ensures ∙ c.in-Some.is in
    let is = c.self.invariant.nodes in
    is.below c.in-Some.node (is.found c.args.key c.in-Some.node some)

pub invariant_of-self : goal.invariant_of-self
invariant_of-self c =
    let l = c.self.inside in
    let node = c.in-Some.node in
    let moved = c.move_front.ensures in
    let some : number_of l.table c.args.key ≡ Some node = sym c.get.ensures ∙ c.in-Some.is in
    let free : list_at c.move_front.new.self 0 ≡ node ∷ without node (list_at l.links 0) =
    ap (λ (s : Lists). list_at s 0) moved.moved ∙ moved_free node l.links.lists c.self.invariant.two in
    let used : list_at c.move_front.new.self 1 ≡ without node (list_at l.links 1) =
    ap (λ (s : Lists). list_at s 1) moved.moved ∙ left_used node l.links.lists c.self.invariant.two in
    record {
      two = moved.lists ∙ c.self.invariant.two;
      long = c.self.invariant.long ∙ sym moved.nodes;
      nodes = IsNodes-same l.links.nodes c.move_front.new.self.nodes (node ∷ without node (list_at l.links 0))
          (list_at c.move_front.new.self 0) (without node (list_at l.links 1)) (list_at c.move_front.new.self 1) l.entries.items
          c.set.new.self moved.nodes free used
          (IsNodes-less l.links.nodes (list_at l.links 0) (list_at l.links 1) l.entries.items l.table c.self.invariant.nodes c.set.new.self c.args.key node some c.set.ensures.numbers);
    }

pub returns-clause-count : goal.returns-clause-count
returns-clause-count c =
    let l = c.self.inside in
    let node = c.in-Some.node in
    let some : number_of l.table c.args.key ≡ Some node = sym c.get.ensures ∙ c.in-Some.is in
    let used : list_at c.move_front.new.self 1 ≡ without node (list_at l.links 1) =
    ap (λ (s : Lists). list_at s 1) c.move_front.ensures.moved ∙ left_used node l.links.lists c.self.invariant.two in
    let once = one_used l.links.nodes (list_at l.links 0) (list_at l.links 1) l.entries.items l.table c.self.invariant.nodes c.set.new.self c.args.key node some c.set.ensures.numbers in
    let short = length-without node (list_at l.links 1) once in
    let left = ap length used in
    let one : held l.table c.args.key ≡ 1 = ap one_of some in
    let was = ap (λ (v : LineView). held v.table c.args.key) c.self.view_is in
    let count = ap (λ (v : LineView). v.count) c.self.view_is in
    omega (arith, short, left, one, was, count)

pub returns-clause-uses : goal.returns-clause-uses
returns-clause-uses c = λ n at.
    let l = c.self.inside in
    let node = c.in-Some.node in
    let some : number_of l.table c.args.key ≡ Some node = sym c.get.ensures ∙ c.in-Some.is in
    let number = ap (λ (v : LineView). number_of v.table c.args.key) c.self.view_is in
    let same : node ≡ n = (let both : Some node ≡ Some n = sym some ∙ number ∙ at in cc) in
    let used : list_at c.move_front.new.self 1 ≡ without node (list_at l.links 1) =
    ap (λ (s : Lists). list_at s 1) c.move_front.ensures.moved ∙ left_used node l.links.lists c.self.invariant.two in
    let once = one_used l.links.nodes (list_at l.links 0) (list_at l.links 1) l.entries.items l.table c.self.invariant.nodes c.set.new.self c.args.key node some c.set.ensures.numbers in
    let less = uses-without l.entries.items node (list_at l.links 1) once in
    let left = ap (uses_at l.entries.items) used in
    let here = ap (λ m. (entry_at l.entries.items m).uses) same in
    let slot = ap (λ (v : LineView). (entry_at v.slots n).uses) c.self.view_is in
    let uses = ap (λ (v : LineView). v.uses) c.self.view_is in
    omega (arith, less, left, here, slot, uses)

pub returns-clause-gone : goal.returns-clause-gone
returns-clause-gone c = held-same c.set.new.self c.self.inside.table c.args.key None c.set.ensures.numbers

pub returns-clause-keys : goal.returns-clause-keys
returns-clause-keys c = λ k.
    let less = held-less c.set.new.self c.self.inside.table c.args.key None c.set.ensures.numbers refl k in
    let same = ap (λ (v : LineView). held v.table k) c.self.view_is in
    omega (arith, less, same)
