use Rattle.std.proofs.Common.{◌≡◌, ◌<◌, length, Some, sym, ap, subst, ◌∙◌, arith}
use Rattle.bump_links.specs.Lists.{list_at}
use Rattle.replay_policies.specs.declared.entries.Entry.{Entry}
use Rattle.replay_policies.specs.Lines.{IsKept, LineView, line_view}
use Rattle.replay_policies.specs.Tables.{number_of}
use Rattle.replay_policies.proofs.LineLemmas.{entry_there, last-among, last-none}
use Rattle.replay_policies.proofs.lines.Line.oldest.Goals as goal

pub returns-in-Some-clause-kept : goal.returns-in-Some-clause-kept
returns-in-Some-clause-kept c =
    let l = c.self.inside in
    let node = c.in-Some.node in
    let there : node < length l.entries.items = omega (arith, c.in-Some.ensures.in_range, c.self.invariant.long) in
    let same = entry_there l.entries.items node c.index.result.now there c.index.ensures in
    let led = c.self.invariant.nodes.led node (last-among node (list_at l.links 1) (sym c.in-Some.ensures.last)) in
    let at : number_of l.table c.index.result.now.key ≡ Some node =
    ap (λ (e : Entry). number_of l.table e.key) same ∙ led in
    let kept : IsKept (line_view l.links l.entries.items l.table) c.index.result.now = record { node = node; at = at; same = same } in
    subst (λ (v : LineView). IsKept v c.index.result.now) c.self.view_is kept

pub returns-in-None-clause-found : goal.returns-in-None-clause-found
returns-in-None-clause-found c =
    let l = c.self.inside in
    let none = last-none (list_at l.links 1) (sym c.in-None.ensures.last) in
    let view = ap (λ (v : LineView). v.count) c.self.view_is in
    ((λ some. absurd (cc)), (λ some. absurd (omega (arith, none, view, some))))
