use Rattle.std.proofs.Common.{rules}
use Rattle.seen_words.proofs.Steps.{sees}
use Rattle.seen_words.proofs.words.SeenWords.load.Goals as goal

pub load-requires : goal.load-requires
load-requires g c = (search rules, search rules, sees g.L.Law.law _ _ _ _ (search rules))
