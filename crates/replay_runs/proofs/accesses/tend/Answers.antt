use Rattle.std.proofs.Common.{◌≡◌, ◌++◌, ◌∙◌, List, ℕ, ap, arith, append_assoc, subst}
use Rattle.replay_runs.specs.Writing.{IsBalance, Adds, most_tending, drain_instruction, sweep_instruction, tend_instructions, with_end}
use Rattle.replay_runs.proofs.WritingLemmas.{adds_fewer}
use Rattle.replay_runs.proofs.accesses.tend.Goals as goal

pub returns-clause-text : goal.returns-clause-text
returns-clause-text c =
    let old = c.args.scribe.now.text.items in
    let first : c.sweep.new.self.text.items ≡ old ++ tend_instructions =
    c.in_ok-sweep.ensures.text ∙ ap (λ (t : List ℕ). t ++ with_end sweep_instruction) c.in_ok-drain.ensures.text
    ∙ append_assoc old (with_end drain_instruction) (with_end sweep_instruction) in
    subst (λ (t : List ℕ). Adds IsBalance most_tending t c.balance.new.scribe.text.items) first
    (adds_fewer most_tending (omega arith) c.in_ok-balance.ensures.text)
