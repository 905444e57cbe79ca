use Rattle.std.proofs.Common.{◌≡◌, ℕ, length}
use Rattle.replay_policies.specs.Tables.{page_at}
use Rattle.replay_policies.proofs.tables.KeyTable.add_pages.Given as goal

abbrev pub invariant-loop : goal.invariant-loop
invariant-loop l = record {
  pages : (page : ℕ) → page_at l.self-inside.pages.items page ≡ page_at l.initial.self-inside.pages.items page;
  count : length l.self-inside.pages.items ≡ l.counter;
}
