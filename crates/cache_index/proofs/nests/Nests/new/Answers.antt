use Rattle.cache_index.proofs.HistoryLemmas.{first_law}
use Rattle.cache_index.proofs.nests.Nests.new.Goals as goal

pub new-requires : goal.new-requires
new-requires c = record { lawful = first_law _ }
