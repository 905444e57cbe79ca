use Rattle.std.proofs.Common.{◌≡◌, ◌≤◌, ℕ, None, true, false, inl, inr, IsSome, is_some, refl, sym, ap, ◌∙◌, subst}
use Rattle.bump_steps.specs.Views.{owns}
use Rattle.cache_lists.specs.Expiring.{expired_at, EndsFound}
use Rattle.cache_lists.proofs.Standings.{keeps_still}
use Rattle.cache_index.specs.Views.{led_at}
use Rattle.bump_rules.specs.Expiry.{has_expired}
use Rattle.cache_part.specs.Expiring.{LooksAt}
use Rattle.cache_part.specs.Parts.{IsPart}
use Rattle.cache_part.proofs.ClearLemmas.{ended_here, unled_empty}
use Rattle.cache_part.proofs.ExpiringLemmas.{kept_unexpired, unexpired_then, ended_unexpired, found_expired, none_kept}
use Rattle.cache_part.proofs.FindLemmas.{led_linked}
use Rattle.cache_part.proofs.LookLemmas.{looks_keep, label_looks, seen_rest}
use Rattle.cache_part.proofs.PartLemmas.{part_ended, part_kept, within_owned}
use Rattle.cache_part.proofs.expiring.end_where_expired.Goals as goal

pub leads-requires : goal.leads-requires
leads-requires g c = record {
  first = subst (λ f. f ≤ c.args.chunk) (sym c.requires.first) c.requires.from;
  chunk = c.requires.within;
}

pub label-requires : goal.label-requires
label-requires g c = record {
  own = within_owned c.args.lists.now.book.sheet c.args.index.now.table c.requires.part.count c.args.chunk
      c.requires.from c.requires.within;
}

pub clear-requires : goal.clear-requires
clear-requires g c = sym c.leads.ensures ∙ c.if-not-leads.false

pub end_expired-requires : goal.end_expired-requires
end_expired-requires g c =
    let before = c.args.lists.now in let seen = c.label.new.self in
    let looks = label_looks before seen c.args.chunk c.label.result c.label.ensures.seen in
    record {
      own = ap (λ b. owns c.args.chunk b.sheet) looks
          ∙ within_owned before.book.sheet c.args.index.now.table c.requires.part.count c.args.chunk c.requires.from
          c.requires.within;
    }

pub returns : goal.returns
returns g c =
    let seed = c.args._settings.seed in let kw = c.args._settings.key_words in let now = c.args.now in
    let chunk = c.args.chunk in let table = c.args.index.now.table in
    let before = c.args.lists.now in let seen = c.label.new.self in let left = c.end_expired.new.self in
    let looks = label_looks before seen chunk c.label.result c.label.ensures.seen in
    let keeps = looks_keep before.book seen.book looks in
    let expired : expired_at now before.book.sheet chunk ≡ true =
    sym (ap (λ label. has_expired label now) c.label.ensures.stored)
    ∙ (sym c.has_expired.ensures ∙ c.if-not-has_expired.false) in
    let still : expired_at now seen.book.sheet chunk ≡ true =
    ap (λ label. has_expired label now) (keeps.words 0 chunk) ∙ expired in
    let led : is_some (led_at table chunk) ≡ true = sym c.leads.ensures ∙ c.if-not-leads.false in
    let linked = led_linked seed kw before.book.sheet table c.requires.part chunk led in
    let found = found_expired chunk now c.end_expired.result seen left c.end_expired.ensures.ends
    (subst IsSome (sym (keeps.linked chunk)) linked) still in
    let ends = found.1.ends.ends in
    let rest = seen_rest before seen _ c.label.ensures.seen in
    let kept = unexpired_then now before.book seen.book left.book (kept_unexpired now before.book seen.book keeps)
    (ended_unexpired now chunk seen.book left.book ends still) in
    record {
      part = subst (IsPart seed kw left.book.sheet) (sym c.clear.ensures.table)
          (part_ended seed kw seen.book left.book table
          (part_kept seed kw before.book seen.book table c.requires.part keeps) chunk ends);
      first = c.clear.ensures.first;
      looks = subst (λ did. LooksAt chunk now did before left) (sym found.0) (record {
        seen = seen.book;
        looks = looks;
        ends = subst (λ v. EndsFound chunk now v left) rest found.1;
      });
      ended = λ some. let no : IsSome {T = ℕ} None = subst IsSome (ended_here chunk seen.book left.book ends) some in
          absurd (cc no);
      kept = kept;
    }

pub returns-then-not-leads : goal.returns-then-not-leads
returns-then-not-leads g c =
    let before = c.args.lists.now in
    let none = unled_empty c.args._settings.seed c.args._settings.key_words before.book c.args.index.now.table
    c.requires.part c.args.chunk (sym c.leads.ensures ∙ c.if-not-leads.true) in
    record {
      part = c.requires.part;
      first = refl;
      looks = record { none = inl none; looks = refl; rest = refl };
      ended = λ some. let no : IsSome {T = ℕ} None = subst IsSome none some in absurd (cc no);
      kept = kept_unexpired c.args.now before.book before.book (keeps_still before.book);
    }

pub returns-then-not-has_expired : goal.returns-then-not-has_expired
returns-then-not-has_expired g c =
    let before = c.args.lists.now in let seen = c.label.new.self in
    let looks = label_looks before seen c.args.chunk c.label.result c.label.ensures.seen in
    let keeps = looks_keep before.book seen.book looks in
    let unexpired : expired_at c.args.now before.book.sheet c.args.chunk ≡ false =
    sym (ap (λ label. has_expired label c.args.now) c.label.ensures.stored)
    ∙ (sym c.has_expired.ensures ∙ c.if-not-has_expired.true) in
    let kept = kept_unexpired c.args.now before.book seen.book keeps in
    record {
      part = part_kept c.args._settings.seed c.args._settings.key_words before.book seen.book c.args.index.now.table
          c.requires.part keeps;
      first = refl;
      looks = record {
        none = inr unexpired;
        looks = looks;
        rest = seen_rest before seen _ c.label.ensures.seen;
      };
      ended = none_kept c.args.now c.args.chunk before.book seen.book kept (λ some. unexpired);
      kept = kept;
    }
