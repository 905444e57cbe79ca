use Rattle.packed_words.proofs.Spelled.{IsSpelledTo}
use Rattle.packed_words.proofs.spelling.spell.Given as goal

-- the words so far are the string's
abbrev pub invariant-words : goal.invariant-words
invariant-words l = IsSpelledTo l.bytes l.to l.at

-- and so are the zeros behind them
abbrev pub invariant-zeros : goal.invariant-zeros
invariant-zeros l = IsSpelledTo l.bytes l.to l.at
