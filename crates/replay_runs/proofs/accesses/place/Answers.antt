use Rattle.std.proofs.Common.{◌∙◌, ap, arith, subst, List, ℕ, vec_items}
use Rattle.replay_runs.specs.Writing.{IsBalance, Adds, most_behind}
use Rattle.replay_runs.proofs.WritingLemmas.{adds_none, adds_fewer}
use Rattle.replay_runs.proofs.accesses.place.Goals as goal

pub returns-then-not-count_put-clause-text : goal.returns-then-not-count_put-clause-text
returns-then-not-count_put-clause-text c =
    let linked = ap vec_items c.count_put.ensures ∙ c.in_ok-link.ensures.text in
    (c.make_room.new.scribe.text.items, c.in_ok-make_room.ensures.text, adds_none IsBalance most_behind _ _ linked)

pub returns-clause-text : goal.returns-clause-text
returns-clause-text c =
    let linked = ap vec_items c.count_put.ensures ∙ c.in_ok-link.ensures.text in
    let behind = adds_fewer most_behind (omega arith) c.in_ok-balance.ensures.text in (
      c.make_room.new.scribe.text.items,
      c.in_ok-make_room.ensures.text,
      subst (λ (t : List ℕ). Adds IsBalance most_behind t c.balance.new.scribe.text.items) linked behind,
    )
