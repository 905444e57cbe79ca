use Rattle.std.proofs.Common.{◌≡◌, ℕ, ◌≤◌, length, get_or, None}
use Rattle.replay_policies.proofs.tables.Page.grow.Given as goal

abbrev pub invariant-loop : goal.invariant-loop
invariant-loop l = record {
  numbers : (place : ℕ) → get_or l.self-inside.numbers.items place None ≡ get_or l.initial.self-inside.numbers.items place None;
  kept : length l.initial.self-inside.numbers.items ≤ length l.self-inside.numbers.items;
  count : length l.self-inside.numbers.items ≡ l.counter;
}
