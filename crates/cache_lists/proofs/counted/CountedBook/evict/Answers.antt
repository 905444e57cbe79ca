use Rattle.std.proofs.Common.{Some, sym, ap, ◌∙◌, arith}
use Rattle.bump_rules.specs.declared.places.Place.TheVariants.{Cold, Warm}
use Rattle.cache_lists.specs.Items.{victim}
use Rattle.cache_lists.specs.Rescues.{most_rescues, noted_times}
use Rattle.cache_lists.proofs.RescueLemmas.{may_end, nothing_rescued, nothing_there, same_counted}
use Rattle.cache_lists.proofs.Standings.{kept_ends}
use Rattle.cache_lists.proofs.counted.CountedBook.evict.Goals as goal

pub returns-in-Some-clause-evicts : goal.returns-in-Some-clause-evicts
returns-in-Some-clause-evicts g c =
    let it = c.in-Some.ended in let turn = c.in-Some.ensures.ends in let up = c.rescue.ensures.rescued in record {
      rescued = c.rescue.result;
      few = up.few;
      between = up.between;
      rescues = up.rescues;
      left = c.rescue.new.self;
      may = may_end c.args.now c.rescue.result it c.args.self.now.book c.rescue.new.self.book up turn.next turn.told.list;
      flow = c.rescue.ensures.flow;
      evictions = c.rescue.ensures.evictions;
      turn = turn;
    }

pub returns-in-Some-clause-ends : goal.returns-in-Some-clause-ends
returns-in-Some-clause-ends g c = kept_ends c.args.self.now.book c.rescue.new.self.book c.end_victim.new.self.book
    c.in-Some.ended.chunk c.rescue.ensures.kept c.in-Some.ensures.ends.told.ends

pub returns-in-Some-clause-expires : goal.returns-in-Some-clause-expires
returns-in-Some-clause-expires g c =
    c.in-Some.ensures.ends.told.expires ∙ c.rescue.ensures.kept.words 0 c.in-Some.ended.chunk

pub returns-in-Some-clause-some : goal.returns-in-Some-clause-some
returns-in-Some-clause-some g c none = absurd (cc (sym (nothing_there c.args.now most_rescues c.rescue.result c.args.self.now.book
    c.rescue.new.self.book c.rescue.ensures.rescued none) ∙ c.in-Some.ensures.ends.next))

pub returns-in-None-clause-empty : goal.returns-in-None-clause-empty
returns-in-None-clause-empty g c =
    let nothing = nothing_rescued c.args.now most_rescues c.rescue.result c.args.self.now.book c.rescue.new.self.book (omega arith)
    c.rescue.ensures.rescued c.in-None.ensures.ends.0 in
    ap (λ b. victim b.lists) (sym nothing.1) ∙ c.in-None.ensures.ends.0

pub returns-in-None-clause-none : goal.returns-in-None-clause-none
returns-in-None-clause-none g c =
    let nothing = nothing_rescued c.args.now most_rescues c.rescue.result c.args.self.now.book c.rescue.new.self.book (omega arith)
    c.rescue.ensures.rescued c.in-None.ensures.ends.0 in
    c.in-None.ensures.ends.1 ∙ same_counted c.rescue.new.self c.args.self.now nothing.1
    (c.rescue.ensures.flow ∙ ap (λ n. noted_times n (Some (Cold, Warm)) c.args.self.now.flow) nothing.0)
    c.rescue.ensures.evictions
