use Rattle.std.proofs.Common.{List, sym, ap, subst, rules}
use Rattle.seen_words.specs.declared.views.Moment.{Moment}
use Rattle.seen_words.specs.Past.{PenView, note_of}
use Rattle.cache_index.specs.History.{KeepHashes, ways_of}
use Rattle.cache_index.proofs.HistoryLemmas.{noted_are, tag_law}
use Rattle.cache_index.proofs.nests.Nests.set_tag.Goals as goal

pub write-requires-clause-lawful : goal.write-requires-clause-lawful
write-requires-clause-lawful c =
    tag_law c.args.self.now.nests c.args.place c.args.tag c.with_tag-next.result c.read-tags.result _
    c.args.pen.now.words c.read-tags.new.pen.words c.args.ways.now.items c.read-tags.new.pen.past c.requires.size c.requires.place
    (search rules) (ap (λ (p : PenView). p.words) c.read-tags.ensures.pen) c.read-tags.ensures.read
    c.with_tag-next.ensures.here c.with_tag-next.ensures.elsewhere c.requires.reached
    (subst (λ (p : PenView). KeepHashes (ways_of (note_of p.past)) c.args.ways.now.items) (sym c.read-tags.ensures.pen)
    c.requires.keeps)

pub returns-clause-noted : goal.returns-clause-noted
returns-clause-noted c = noted_are _ _ (ap (λ (p : List Moment). note_of p) c.write.ensures.past)
