use Rattle.std.proofs.Common.{refl}
use Rattle.cache_readers.proofs.ReaderLemmas.{hit_behind, miss_behind}
use Rattle.cache_readers.proofs.readers.WordReader.get.Goals as goal

pub returns-in-Nothing-clause-nothing : goal.returns-in-Nothing-clause-nothing
returns-in-Nothing-clause-nothing g c = λ _. c.in-Nothing.ensures.nothing refl

pub returns-in-Unsure-clause-counted : goal.returns-in-Unsure-clause-counted
returns-in-Unsure-clause-counted g c = λ told.
    hit_behind c.in-Unsure.id c.args.self.now c.glance.new.self c.get_held.new.self c.in-Unsure.ensures.unsure
    (c.get_held.ensures.counted told)

pub returns-in-Unsure-clause-missed : goal.returns-in-Unsure-clause-missed
returns-in-Unsure-clause-missed g c = λ told.
    miss_behind c.in-Unsure.id c.args.self.now c.glance.new.self c.get_held.new.self c.in-Unsure.ensures.unsure
    (c.get_held.ensures.missed told)
