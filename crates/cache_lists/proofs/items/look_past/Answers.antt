use Rattle.std.proofs.Common.{refl, sym, ap, ◌∙◌, subst}
use Rattle.bump_links.specs.Lists.{last_of}
use Rattle.bump_rules.specs.Lists.{list_at}
use Rattle.bump_rules.specs.Places.{place_of}
use Rattle.bump_class.specs.Pulls.{PullsBy, limits_of_call}
use Rattle.cache_lists.proofs.AgeLemmas.{pulled_past}
use Rattle.cache_lists.proofs.items.look_past.Goals as goal

pub returns-clause-looked : goal.returns-clause-looked
returns-clause-looked g c =
    let book = c.args.book.now in let seen = c.see-time.new.self in
    pulled_past c.args.from c.args.bound c.in-Some.chunk c.args.now c.pull_past.result book c.pull_past.new.book
    (ap (λ p. last_of (list_at book.lists p)) (sym (c.place.ensures ∙ ap place_of c.segment.ensures))
    ∙ sym c.in-Some.ensures.back)
    (record {
      idle = c.saturating_sub-idle.result;
      seen = seen;
      sees = record {
        head = c.see-time.result.0;
        time = c.see-time.result.1;
        seen = c.see-time.ensures.seen;
        age_is = c.saturating_sub-idle.ensures;
      };
      answer = c.pull_past.result;
      pulls = subst (λ n. PullsBy (limits_of_call n) seen c.args.from c.pull_past.result c.pull_past.new.book)
          c.most_at.ensures c.pull_past.ensures.pulls;
      told = refl;
    })
