use Rattle.std.proofs.Common.{refl, sym, ◌∙◌}
use Rattle.cache_lists.proofs.LookLemmas.{looks_flow, looks_keep, looks_same}
use Rattle.cache_lists.proofs.Segments.{same_then}
use Rattle.cache_lists.proofs.Standings.{ended_none, ends_kept, owns_same}
use Rattle.cache_lists.proofs.Ways.{still, before_none}
use Rattle.bump_rules.specs.Lists.{all_without}
use Rattle.cache_lists.proofs.items.end_temp.Goals as goal

pub see_ended-expires-requires : goal.see_ended-expires-requires
see_ended-expires-requires g c =
    let ends = c.in-Some-end.ensures.ends.ends in record {
      own = owns_same c.args.book.now c.end.new.book ends.class c.in-Some.chunk ∙ ends.own;
      ended = ended_none c.args.book.now c.end.new.book c.in-Some.chunk ends;
    }

pub returns-clause-ends : goal.returns-clause-ends
returns-clause-ends g c =
    let book = c.args.book.now in let ended = c.end.new.book in let seen = c.see_ended-expires.new.book in
    let looks = c.see_ended-expires.ensures.looks in let chunk = c.in-Some.chunk in
    let did = c.in-Some-end.ensures in
    record {
      list = sym c.in-Some.ensures.back;
      ends = ends_kept book ended seen chunk did.ends.ends (looks_keep ended seen looks);
      others = same_then (all_without chunk book.lists) ended.lists seen.lists did.ends.others
          (looks_same ended seen looks);
      flows = record {
        between = book;
        one = still book book refl refl;
        other = before_none book ended seen _ did.flows (looks_flow ended seen looks);
      };
      ways = tt;
      expires = c.see_ended-expires.ensures.expires ∙ did.ends.ends.words 0 chunk;
      marks = c.see_ended-expires.ensures.marks;
    }
