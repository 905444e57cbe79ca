-- What a sweep enters into the history of a class, by the heads of the chunks that it looks at.
use Rattle.std.specs.Prelude.{ℕ, List, map, filter}
use Rattle.bump_rules.specs.declared.items.Head.{Head}
use Rattle.bump_rules.specs.declared.history.Change.{Change}
use Rattle.bump_rules.specs.Lives.{life}
use Rattle.bump_rules.specs.History.{freed_change}
use Rattle.bump_rules.specs.Tables.{is_unheld}

-- the chunks of a list that nobody holds, by the heads of all chunks
abbrev pub unheld : (ℕ → Head) → List ℕ → List ℕ
unheld heads chunks = filter (λ chunk. is_unheld (heads chunk)) chunks

-- what the sweep of these chunks enters into the history
abbrev pub swept_changes : (ℕ → Head) → List ℕ → List Change
swept_changes heads chunks = map (λ chunk. freed_change (life chunk (heads chunk).generation)) chunks

-- what a sweep of this list enters: those that nobody holds, front to back as the list stands
abbrev pub swept_of : (ℕ → Head) → List ℕ → List Change
swept_of heads chunks = swept_changes heads (unheld heads chunks)
