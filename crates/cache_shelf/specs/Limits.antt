-- The bounds of a put.
use Rattle.std.specs.Prelude.{ℕ}

-- a put whose turn it is applies at most so many bumps of each lane
abbrev pub put_bumps : ℕ
put_bumps = 16

-- each so manieth put has its turn: it applies bumps, and balances HOT and WARM, in so many rounds at most
abbrev pub put_rounds : ℕ
put_rounds = 8
