use Rattle.std.proofs.Common.{◌≡◌, ◌≤◌, true, false, is_some, refl, sym, ap, ◌∙◌, subst}
use Rattle.bump_steps.specs.Views.{owns}
use Rattle.cache_lists.specs.Expiring.{expired_at}
use Rattle.cache_index.specs.Views.{led_at}
use Rattle.bump_rules.specs.Expiry.{has_expired}
use Rattle.cache_part.proofs.ClearLemmas.{unled_empty}
use Rattle.cache_part.proofs.FindLemmas.{led_linked}
use Rattle.cache_part.proofs.KeyLemmas.{row_same}
use Rattle.cache_part.proofs.LookLemmas.{looks_keep, looks_then, label_looks, rest_then, seen_rest}
use Rattle.cache_part.proofs.PartLemmas.{owned_from, owned_within}
use Rattle.cache_part.proofs.VisitLemmas.{linked_fresh, none_fresh, none_linked}
use Rattle.cache_part.proofs.visiting.read_unexpired.Goals as goal

pub leads-requires : goal.leads-requires
leads-requires g c = record {
  first = subst (λ f. f ≤ c.args.chunk) (sym c.requires.first)
      (owned_from c.args.lists.now.book.sheet c.args.chunk c.requires.own);
  chunk = owned_within c.args.lists.now.book.sheet c.args.index.now.table c.requires.part.count c.args.chunk
      c.requires.own;
}

pub read_row-requires-clause-own : goal.read_row-requires-clause-own
read_row-requires-clause-own g c =
    let before = c.args.lists.now in let seen = c.label.new.self in
    ap (λ b. owns c.args.chunk b.sheet) (label_looks before seen c.args.chunk c.label.result c.label.ensures.seen)
    ∙ c.requires.own

pub returns : goal.returns
returns g c =
    let before = c.args.lists.now in let seen = c.label.new.self in let left = c.read_row.new.lists in
    let chunk = c.args.chunk in let class = before.book.sheet in
    let looks = label_looks before seen chunk c.label.result c.label.ensures.seen in
    let keeps = looks_keep before.book seen.book looks in
    let led : is_some (led_at c.args.index.now.table chunk) ≡ true = sym c.leads.ensures ∙ c.if-not-leads.false in
    let linked = led_linked c.args._settings.seed c.args._settings.key_words class c.args.index.now.table
    c.requires.part chunk led in
    let fresh : expired_at c.args.now class chunk ≡ false =
    sym (ap (λ label. has_expired label c.args.now) c.label.ensures.stored)
    ∙ (sym c.has_expired.ensures ∙ c.if-has_expired.false) in
    record {
      told = sym (linked_fresh c.args.now class chunk linked fresh);
      read = λ told. c.read_row.ensures.read
          ∙ row_same class seen.book.sheet chunk _ (λ i. keeps.words i chunk);
      stays = λ not. absurd (cc not);
      looks = looks_then before.book seen.book left.book looks c.read_row.ensures.looks;
      rest = rest_then before seen left (seen_rest before seen _ c.label.ensures.seen) c.read_row.ensures.rest;
    }

pub returns-then-not-leads : goal.returns-then-not-leads
returns-then-not-leads g c =
    let none = unled_empty c.args._settings.seed c.args._settings.key_words c.args.lists.now.book
    c.args.index.now.table c.requires.part c.args.chunk (sym c.leads.ensures ∙ c.if-not-leads.true) in
    record {
      told = sym (none_linked c.args.now c.args.lists.now.book.sheet c.args.chunk none);
      read = λ told. absurd (cc told);
      stays = λ not. refl;
      looks = refl;
      rest = refl;
    }

pub returns-then-has_expired : goal.returns-then-has_expired
returns-then-has_expired g c =
    let before = c.args.lists.now in let seen = c.label.new.self in
    let expired : expired_at c.args.now before.book.sheet c.args.chunk ≡ true =
    sym (ap (λ label. has_expired label c.args.now) c.label.ensures.stored)
    ∙ (sym c.has_expired.ensures ∙ c.if-has_expired.true) in
    record {
      told = sym (none_fresh c.args.now before.book.sheet c.args.chunk expired);
      read = λ told. absurd (cc told);
      stays = λ not. refl;
      looks = label_looks before seen c.args.chunk c.label.result c.label.ensures.seen;
      rest = seen_rest before seen _ c.label.ensures.seen;
    }
