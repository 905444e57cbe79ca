use Rattle.std.proofs.Common.{◌++◌, List, ℕ, inl, inr, subst}
use Rattle.bump_rules.specs.declared.places.Tail.TheVariants.{Warm}
use Rattle.replay_runs.specs.Writing.{with_end, pull_instruction, AddsEnd, EndsInHot}
use Rattle.replay_runs.proofs.WritingLemmas.{ends_in_hot}
use Rattle.replay_runs.proofs.accesses.evict.Goals as goal

pub returns-then-branch-clause-text : goal.returns-then-branch-clause-text
returns-then-branch-clause-text c =
    (c.rescue.new.scribe.text.items, c.in_ok-rescue.ensures.text, inl c.in_ok-end_last_of_cold.ensures.text)

pub returns-then-branch-2-clause-text : goal.returns-then-branch-2-clause-text
returns-then-branch-2-clause-text c =
    let ends = c.in_ok-end_last_of.ensures.ended c.if-branch-2.true in (
      c.rescue.new.scribe.text.items,
      c.in_ok-rescue.ensures.text,
      inr (inl (subst (λ (t : List ℕ). AddsEnd Warm t c.end_last_of.new.self.text.items) c.in_ok-end_last_of_cold.ensures.text ends)),
    )

pub returns-clause-text : goal.returns-clause-text
returns-clause-text c =
    let new = c.end_last_of-2.new.self.text.items in
    let none = c.in_ok-end_last_of.ensures.none c.if-branch-2.false in
    let hot = ends_in_hot _ _ new c.in_ok-end_last_of-2.ensures.ended c.in_ok-end_last_of-2.ensures.none in
    let behind = subst (λ (t : List ℕ). EndsInHot t new) none hot in (
      c.rescue.new.scribe.text.items,
      c.in_ok-rescue.ensures.text,
      inr (inr (subst (λ (t : List ℕ). EndsInHot (t ++ with_end (pull_instruction Warm)) new) c.in_ok-end_last_of_cold.ensures.text behind)),
    )
