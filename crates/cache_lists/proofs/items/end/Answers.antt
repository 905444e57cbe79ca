use Rattle.std.proofs.Common.{sym, ap, ◌∙◌, subst}
use Rattle.bump_rules.specs.declared.items.ItemId.{ItemId}
use Rattle.bump_rules.specs.Lawful.{Shows}
use Rattle.bump_rules.specs.Lists.{all_without}
use Rattle.bump_steps.specs.Views.{owns, standing}
use Rattle.cache_lists.specs.Linked.{linked_at}
use Rattle.cache_lists.specs.Segments.{SameSegments}
use Rattle.cache_lists.proofs.LookLemmas.{head_looks, looks_keep, looks_same, looks_then, refused_looks}
use Rattle.cache_lists.proofs.Segments.{unlinks_others}
use Rattle.cache_lists.proofs.Standings.{unlinks_at, unlink_ok, unlink_err, see_keeps, kept_ends, unlinked_none}
use Rattle.cache_lists.proofs.Ways.{behind_none, seen_flows, unlinks_flow, refused_flow, found_segment}
use Rattle.cache_lists.proofs.items.end.Goals as goal

pub returns-in-Ok-clause-ends : goal.returns-in-Ok-clause-ends
returns-in-Ok-clause-ends g c =
    let book = c.args.book.now in let seen = c.load_head-head.new.self in let left = c.unlink.new.self in
    let chunk = c.args.chunk in
    let id : ItemId = record { chunk = chunk; generation = c.load_head-head.result.generation } in
    let looked = c.load_head-head.ensures.looked in let unlinked = c.in-Ok.ensures.unlinked in
    let own = ap (λ b. owns chunk b.sheet) looked ∙ c.requires.own in
    let linked = unlink_ok seen id c.promise.ensures.stands own c.in-Ok.ensures.refused in
    record {
      ends = kept_ends book seen left chunk (see_keeps book seen chunk c.load_head-head.result looked)
          (unlinks_at seen left id _ own linked unlinked);
      others = subst (λ b. SameSegments (all_without chunk b.lists) left.lists) looked (unlinks_others seen left id _ unlinked);
      not_linked = tt;
      kept = tt;
      same = tt;
      looks = tt;
    }

pub returns-in-Ok-clause-flows : goal.returns-in-Ok-clause-flows
returns-in-Ok-clause-flows g c =
    let own = ap (λ b. owns c.args.chunk b.sheet) c.load_head-head.ensures.looked ∙ c.requires.own in
    let id : ItemId = record { chunk = c.args.chunk; generation = c.load_head-head.result.generation } in
    let linked = unlink_ok c.load_head-head.new.self id c.promise.ensures.stands own c.in-Ok.ensures.refused in
    let stood = found_segment c.load_head-head.new.self id c.load_head-head.result linked
    (subst (Shows c.load_head-head.result) (ap (λ b. (standing b.sheet c.args.chunk).0) (sym c.load_head-head.ensures.looked)) c.load_head-head.ensures.agrees) in
    behind_none c.args.book.now c.load_head-head.new.self c.unlink.new.self _
    (seen_flows c.args.book.now c.load_head-head.new.self c.args.chunk c.load_head-head.result c.load_head-head.ensures.looked)
    (unlinks_flow c.load_head-head.new.self c.unlink.new.self id _ _ stood c.in-Ok.ensures.unlinked)

pub returns-in-Err-clause-ends : goal.returns-in-Err-clause-ends
returns-in-Err-clause-ends g c =
    let book = c.args.book.now in let seen = c.load_head-head.new.self in let left = c.unlink.new.self in
    let chunk = c.args.chunk in
    let id : ItemId = record { chunk = chunk; generation = c.load_head-head.result.generation } in
    let looked = c.load_head-head.ensures.looked in
    let own = ap (λ b. owns chunk b.sheet) looked ∙ c.requires.own in
    let looks = looks_then book seen left (head_looks book seen chunk c.load_head-head.result looked)
    (refused_looks seen left id _ c.in-Err.ensures.unlinked) in
    record {
      ends = tt;
      others = tt;
      not_linked = unlinked_none book chunk id.generation c.load_head-head.ensures.generation
          (λ linked. unlink_err seen id _ c.promise.ensures.stands own c.in-Err.ensures.refused
          (ap (λ b. linked_at b.sheet chunk) looked ∙ linked));
      kept = looks_keep book left looks;
      same = looks_same book left looks;
      looks = looks;
    }

pub returns-in-Err-clause-stays : goal.returns-in-Err-clause-stays
returns-in-Err-clause-stays g c = behind_none c.args.book.now c.load_head-head.new.self c.unlink.new.self _
    (seen_flows c.args.book.now c.load_head-head.new.self c.args.chunk c.load_head-head.result c.load_head-head.ensures.looked)
    (refused_flow c.load_head-head.new.self c.unlink.new.self
    (record { chunk = c.args.chunk; generation = c.load_head-head.result.generation }) _ c.in-Err.ensures.unlinked)
