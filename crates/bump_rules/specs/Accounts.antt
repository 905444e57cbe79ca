-- How bumps are counted.
use Rattle.std.specs.Prelude.{◌+◌, Option, None, Some}
use Rattle.bump_rules.specs.declared.bumps.Accounts.{Accounts}
use Rattle.bump_rules.specs.declared.commands.Dropped.{Dropped}
use Rattle.bump_rules.specs.declared.commands.Dropped.TheVariants.{Full, Busy, RefsFull}

-- a drop is counted as one of its kind
abbrev pub counted_drop : Option Dropped → Accounts → Accounts
counted_drop None accounts = accounts
counted_drop (Some Full) accounts = record accounts { full = accounts.full + 1 }
counted_drop (Some Busy) accounts = record accounts { busy = accounts.busy + 1 }
counted_drop (Some RefsFull) accounts = record accounts { refs = accounts.refs + 1 }

-- how an attempt ended, which was counted when it began: its bump was accepted, or dropped
abbrev pub counted_end : Option Dropped → Accounts → Accounts
counted_end None accounts = record accounts { accepted = accounts.accepted + 1 }
counted_end (Some dropped) accounts = counted_drop (Some dropped) accounts

-- an attempt is counted, and how it ended
abbrev pub counted : Option Dropped → Accounts → Accounts
counted dropped accounts = counted_end dropped (record accounts { attempted = accounts.attempted + 1 })
