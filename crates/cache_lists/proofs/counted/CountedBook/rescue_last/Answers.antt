use Rattle.std.proofs.Common.{is_some, sym, ap, ◌∙◌, subst, inl}
use Rattle.bump_links.specs.Lists.{last_of}
use Rattle.cache_lists.specs.Counts.{noted}
use Rattle.cache_lists.specs.Rescues.{LooksAtCold, rescue_way}
use Rattle.cache_lists.proofs.RescueLemmas.{looked_at_cold, cold_way}
use Rattle.cache_lists.proofs.counted.CountedBook.rescue_last.Goals as goal

pub returns-then-has_expired-clause-looked : goal.returns-then-has_expired-clause-looked
returns-then-has_expired-clause-looked g c = inl (
  c.in-Some.chunk,
  record {
    expires = c.label-expires.result;
    sees = record {
      last = ap (λ v. last_of v.book.lists.cold) (sym c.self.view_is) ∙ sym c.in-Some.ensures.back;
      is = c.label-expires.ensures.stored;
      seen = ap (λ v. v.book) c.label-expires.ensures.seen;
    };
    expired = sym c.has_expired.ensures ∙ c.if-has_expired.true;
  },
)

pub returns-clause-looked : goal.returns-clause-looked
returns-clause-looked g c =
    let before = c.args.self.now.book in let after = c.look_at-pulled.new.self.book in
    subst (λ b. LooksAtCold c.args.now b before after) (sym (c.is_some.ensures ∙ ap is_some c.to.ensures))
    (looked_at_cold c.args.now before after c.look_at-pulled.result c.look_at-pulled.ensures.told (record {
      chunk = c.in-Some.chunk;
      expires = c.label-expires.result;
      between = c.label-expires.new.self.book;
      sees = record {
        last = ap (λ v. last_of v.book.lists.cold) (sym c.self.view_is) ∙ sym c.in-Some.ensures.back;
        is = c.label-expires.ensures.stored;
        seen = ap (λ v. v.book) c.label-expires.ensures.seen;
      };
      unexpired = sym c.has_expired.ensures ∙ c.if-has_expired.false;
      pulls = c.look_at-pulled.ensures.pulls;
    }))

pub returns-clause-flow : goal.returns-clause-flow
returns-clause-flow g c =
    let before = c.args.self.now.flow in let answer = c.look_at-pulled.result in
    c.look_at-pulled.ensures.flow
    ∙ (ap (λ way. noted way c.label-expires.new.self.flow) (cold_way answer c.look_at-pulled.ensures.told
    ∙ ap rescue_way (sym (c.is_some.ensures ∙ ap is_some c.to.ensures)))
    ∙ ap (λ v. noted (rescue_way c.is_some.result) v.flow) c.label-expires.ensures.seen)
