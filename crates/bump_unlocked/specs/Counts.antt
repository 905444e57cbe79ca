-- What a touch counts, by its answer.
use Rattle.std.specs.Prelude.{None, Some}
use Rattle.bump_rules.specs.declared.bumps.Accounts.{Accounts}
use Rattle.bump_rules.specs.declared.commands.Touch.{Touch}
use Rattle.bump_rules.specs.declared.commands.Touch.TheVariants.{First, Already, Marked, Queued, Dropped, Exhausted}
use Rattle.bump_rules.specs.Accounts as accounts

-- how an attempt ended, which was counted when it began
abbrev pub counted_touch_end : Touch → Accounts → Accounts
counted_touch_end (Queued number) counts = accounts.counted_end None counts
counted_touch_end (Dropped why) counts = accounts.counted_end (Some why) counts
counted_touch_end First counts = counts
counted_touch_end Already counts = counts
counted_touch_end Marked counts = counts
counted_touch_end Exhausted counts = counts

-- an attempt is counted, and how it ended; a touch that attempts no bump counts nothing
abbrev pub counted_touch : Touch → Accounts → Accounts
counted_touch (Queued number) counts = accounts.counted None counts
counted_touch (Dropped why) counts = accounts.counted (Some why) counts
counted_touch First counts = counts
counted_touch Already counts = counts
counted_touch Marked counts = counts
counted_touch Exhausted counts = counts
