use Rattle.std.proofs.Common.{rules}
use Rattle.bump_word.proofs.word.unpack.Goals as goal

pub returns-then-read-ne0-clause-every : goal.returns-then-read-ne0-clause-every
returns-then-read-ne0-clause-every c = search rules
