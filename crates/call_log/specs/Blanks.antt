-- What contracts see of a log that has no name yet, and of the logs of values that have none yet.
use Rattle.std.specs.Prelude.{ℕ}
use Rattle.logbook.specs.Pages.{Book}

-- what the log's name has to say, and how many values there are
pub record BlankView : Type 0 where
  pub book : Book
  pub name : ℕ
  pub parts : ℕ
  pub values : ℕ

-- the number of the next value's log, and how many logs are left
pub record LogsView : Type 0 where
  pub next : ℕ
  pub left : ℕ
