use Rattle.std.proofs.Common.{refl, sym, ◌∙◌}
use Rattle.bump_rules.specs.Lists.{all_without}
use Rattle.cache_lists.proofs.LookLemmas.{looks_flow, looks_keep, looks_same}
use Rattle.cache_lists.proofs.Segments.{evict_others, same_then}
use Rattle.cache_lists.proofs.Standings.{ended_none, ends_kept, evict_told, owns_same}
use Rattle.cache_lists.proofs.Ways.{still, before_none, evicts_flow}
use Rattle.cache_lists.proofs.items.end_cold.Goals as goal

pub see_ended-expires-requires : goal.see_ended-expires-requires
see_ended-expires-requires g c =
    let ends = (evict_told c.args.book.now c.pull.new.self c.pull.result c.in-Some.id c.promise.ensures.stands _ refl
    c.pull.ensures (sym c.item.ensures ∙ c.in-Some.is)).1 in record {
      own = owns_same c.args.book.now c.pull.new.self ends.class c.in-Some.id.chunk ∙ ends.own;
      ended = ended_none c.args.book.now c.pull.new.self c.in-Some.id.chunk ends;
    }

pub returns-clause-ends : goal.returns-clause-ends
returns-clause-ends g c =
    let book = c.args.book.now in let pulled = c.pull.new.self in let seen = c.see_ended-expires.new.book in
    let looks = c.see_ended-expires.ensures.looks in let id = c.in-Some.id in
    let told = evict_told book pulled c.pull.result id c.promise.ensures.stands _ refl c.pull.ensures
    (sym c.item.ensures ∙ c.in-Some.is) in
    record {
      list = told.0;
      ends = ends_kept book pulled seen id.chunk told.1 (looks_keep pulled seen looks);
      others = same_then (all_without id.chunk book.lists) pulled.lists seen.lists
          (evict_others book pulled c.pull.result id _ c.pull.ensures told.0) (looks_same pulled seen looks);
      flows = record {
        between = book;
        one = still book book refl refl;
        other = before_none book pulled seen _
            (evicts_flow book pulled c.pull.result id c.promise.ensures.stands c.pull.ensures (sym c.item.ensures ∙ c.in-Some.is))
            (looks_flow pulled seen looks);
      };
      ways = tt;
      expires = c.see_ended-expires.ensures.expires ∙ told.1.words 0 id.chunk;
      marks = c.see_ended-expires.ensures.marks;
    }
