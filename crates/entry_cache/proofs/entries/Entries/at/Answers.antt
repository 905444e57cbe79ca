use Rattle.std.proofs.Common.{rules, ◌≡◌, true, false, subst}
use Rattle.bump_rules.specs.Expiry.{has_expired}
use Rattle.entry_cache.proofs.entries.Entries.at.Goals as goal

pub returns-then-not-asks-clause-lack : goal.returns-then-not-asks-clause-lack
returns-then-not-asks-clause-lack g c =
    let there : c.new-found.result.place ≡ c.args.place = search rules in
    let other : g.Q.Asks.asks c.args.asked.now c.kept-kept.result.now.key ≡ false = search rules in record {
      entry = c.kept-kept.result.now;
      law = subst (λ place. ∥ g.L.Keeps.holds place c.kept-kept.result.now ∥₁) there c.kept-kept.ensures.law;
      is = other;
    }

pub returns-then-has_expired-clause-lack : goal.returns-then-has_expired-clause-lack
returns-then-has_expired-clause-lack g c =
    let there : c.new-found.result.place ≡ c.args.place = search rules in
    let asked : g.Q.Asks.asks c.args.asked.now c.kept-kept.result.now.key ≡ true = search rules in
    let expired : has_expired c.kept-kept.result.now.expires c.args.now ≡ true = search rules in record {
      entry = c.kept-kept.result.now;
      law = subst (λ place. ∥ g.L.Keeps.holds place c.kept-kept.result.now ∥₁) there c.kept-kept.ensures.law;
      is = (asked, expired);
    }
