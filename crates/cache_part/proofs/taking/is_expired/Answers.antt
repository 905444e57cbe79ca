use Rattle.std.proofs.Common.{◌≡◌, ◌≤◌, ℕ, None, true, IsSome, is_some, refl, sym, ap, ◌∙◌, subst}
use Rattle.cache_lists.specs.Expiring.{expired_at}
use Rattle.cache_index.specs.Views.{led_at}
use Rattle.bump_rules.specs.Expiry.{has_expired}
use Rattle.cache_part.proofs.ClearLemmas.{unled_empty}
use Rattle.cache_part.proofs.FindLemmas.{led_linked}
use Rattle.cache_part.proofs.LookLemmas.{label_looks, seen_rest}
use Rattle.cache_part.proofs.PartLemmas.{within_owned}
use Rattle.cache_part.proofs.taking.is_expired.Goals as goal

pub leads-requires : goal.leads-requires
leads-requires g c = record {
  first = subst (λ f. f ≤ c.args.chunk) (sym c.requires.first) c.requires.from;
  chunk = c.requires.within;
}

pub label-requires : goal.label-requires
label-requires g c = record {
  own = within_owned c.args.lists.now.book.sheet c.args.index.now.table c.requires.part.count c.args.chunk
      c.requires.from c.requires.within;
}

pub returns : goal.returns
returns g c =
    let before = c.args.lists.now in let seen = c.label.new.self in let now = c.args.now in let chunk = c.args.chunk in
    let is : c.has_expired.result ≡ expired_at now before.book.sheet chunk =
    c.has_expired.ensures ∙ ap (λ label. has_expired label now) c.label.ensures.stored in
    let led : is_some (led_at c.args.index.now.table chunk) ≡ true = sym c.leads.ensures ∙ c.if-not-leads.false in
    record {
      has = λ yes. record {
        linked = led_linked c.args._settings.seed c.args._settings.key_words before.book.sheet c.args.index.now.table
            c.requires.part chunk led;
        expired = sym is ∙ yes;
      };
      none = λ no some. sym is ∙ no;
      looks = label_looks before seen chunk c.label.result c.label.ensures.seen;
      rest = seen_rest before seen _ c.label.ensures.seen;
    }

pub returns-then-not-leads : goal.returns-then-not-leads
returns-then-not-leads g c =
    let empty = unled_empty c.args._settings.seed c.args._settings.key_words c.args.lists.now.book
    c.args.index.now.table c.requires.part c.args.chunk (sym c.leads.ensures ∙ c.if-not-leads.true) in
    record {
      has = λ yes. absurd (cc yes);
      none = λ no some. let none : IsSome {T = ℕ} None = subst IsSome empty some in absurd (cc none);
      looks = refl;
      rest = refl;
    }
