use Rattle.std.proofs.Common.{rules}
use Rattle.seen_words.proofs.Steps.{writes}
use Rattle.seen_words.proofs.words.SeenWords.write_by.Goals as goal

pub store-requires : goal.store-requires
store-requires g c = (search rules, search rules, writes g.L.Law.law _ _ _ _ _ _ (search rules) (search rules))
