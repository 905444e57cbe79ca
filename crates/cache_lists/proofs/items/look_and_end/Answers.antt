use Rattle.std.proofs.Common.{sym, ap, ap₂, ◌∙◌, subst, IfSome, option_map}
use Rattle.bump_links.specs.Lists.{last_of}
use Rattle.bump_rules.specs.declared.items.ItemId.{ItemId}
use Rattle.bump_rules.specs.Lists.{list_at, all_without}
use Rattle.bump_rules.specs.Places.{place_of}
use Rattle.cache_lists.specs.Flows.{Flows, way_to}
use Rattle.cache_lists.specs.Ours.{are_ours}
use Rattle.cache_lists.specs.Segments.{SameSegments}
use Rattle.cache_lists.proofs.Counting.{told_ours}
use Rattle.cache_lists.proofs.LookLemmas.{looks_flow, looks_keep, looks_same}
use Rattle.cache_lists.proofs.Segments.{same_then}
use Rattle.cache_lists.proofs.Standings.{ended_none, ends_kept, kept_ends, owns_same}
use Rattle.cache_lists.proofs.Ways.{before_none, told_way}
use Rattle.cache_lists.proofs.items.look_and_end.Goals as goal

pub see_ended-expires-requires : goal.see_ended-expires-requires
see_ended-expires-requires g c =
    let ends = c.in-Some-end.ensures.ends.ends in record {
      own = owns_same c.look_at-pulled.new.book c.end.new.book ends.class c.in-Some.id.chunk ∙ ends.own;
      ended = ended_none c.look_at-pulled.new.book c.end.new.book c.in-Some.id.chunk ends;
    }

pub returns-clause-ends : goal.returns-clause-ends
returns-clause-ends g c =
    let book = c.args.book.now in let pull = c.look_at-pulled in let looked = pull.new.book in let ended = c.end.new.book in
    let seen = c.see_ended-expires.new.book in let looks = c.see_ended-expires.ensures.looks in let chunk = c.in-Some.id.chunk in
    let gone = kept_ends book looked ended chunk pull.ensures.kept c.in-Some-end.ensures.ends.ends in
    record {
      list = ap (λ s. last_of (list_at book.lists (place_of s))) c.segment.ensures
          ∙ (sym pull.ensures.item ∙ ap (option_map (λ (id : ItemId). id.chunk)) (sym c.item.ensures ∙ c.in-Some.is));
      ends = ends_kept book ended seen chunk gone (looks_keep ended seen looks);
      others = same_then (all_without chunk book.lists) ended.lists seen.lists
          (same_then (all_without chunk book.lists) (all_without chunk looked.lists) ended.lists
          (subst (λ t. IfSome t (λ id. SameSegments (all_without id.chunk book.lists) (all_without id.chunk looked.lists)))
          (sym c.item.ensures ∙ c.in-Some.is) pull.ensures.others) c.in-Some-end.ensures.ends.others)
          (looks_same ended seen looks);
      flows = record {
        between = looked;
        one = subst (λ way. Flows way book looked)
            (told_way c.args.from pull.result c.requires pull.ensures.told
            ∙ ap₂ way_to (sym c.segment.ensures) (sym c.to.ensures)) pull.ensures.flows;
        other = before_none looked ended seen _ c.in-Some-end.ensures.flows (looks_flow ended seen looks);
      };
      ways = subst are_ours (ap₂ way_to (sym c.segment.ensures) (sym c.to.ensures))
          (told_ours c.args.from pull.result c.requires pull.ensures.told);
      expires = c.see_ended-expires.ensures.expires ∙ gone.words 0 chunk;
      marks = c.see_ended-expires.ensures.marks;
    }
