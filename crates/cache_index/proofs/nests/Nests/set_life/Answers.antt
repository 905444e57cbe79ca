use Rattle.std.proofs.Common.{List, ap, ◌∙◌, length-set}
use Rattle.seen_words.specs.declared.views.Moment.{Moment}
use Rattle.seen_words.specs.Past.{note_of}
use Rattle.cache_index.proofs.HistoryLemmas.{law_of, noted_are}
use Rattle.cache_index.proofs.nests.Nests.set_life.Goals as goal

pub write-requires-clause-lawful : goal.write-requires-clause-lawful
write-requires-clause-lawful c =
    law_of c.args.self.now.nests _ c.args.ways.now.items c.args.pen.now.past
    (length-set c.args.pen.now.words c.args.place c.args.life ∙ c.requires.size) c.requires.reached c.requires.keeps

pub returns-clause-noted : goal.returns-clause-noted
returns-clause-noted c = noted_are _ _ (ap (λ (p : List Moment). note_of p) c.write.ensures.past)
