use Rattle.std.proofs.Common.{◌≡◌, ℕ, true, IsSome, IfSome, refl, sym, ap, ◌∙◌, subst}
use Rattle.bump_steps.specs.Views.{owns}
use Rattle.cache_index.specs.Views.{led_at, has_answered}
use Rattle.cache_part.proofs.FindLemmas.{some_and, led_owned, led_linked, none_more, unknown_all}
use Rattle.cache_part.proofs.LookLemmas.{looks_keep, looks_then, rest_then}
use Rattle.cache_part.proofs.KeyLemmas.{words_same}
use Rattle.cache_part.proofs.finding.find.Goals as goal

pub lanes-init : goal.lanes-init
lanes-init g c = record {
  index = refl;
  hash = c.search-search.ensures.hash;
  within = c.search-search.ensures.within;
  looks = refl;
  rest = refl;
  none = λ chunk so same. absurd (cc (sym (c.search-search.ensures.none chunk) ∙ so));
}

pub lanes-preserved : goal.lanes-preserved
lanes-preserved g c =
    let so_far = c.lanes.invariant in let next = c.in-Some.ensures in let had = c.if-has_key.ensures in record {
      index = next.index ∙ so_far.index;
      hash = next.hash ∙ so_far.hash;
      within = next.within;
      looks = looks_then c.args.lists.now.book c.lanes.lists.book c.has_key.new.lists.book so_far.looks had.looks;
      rest = rest_then c.args.lists.now c.lanes.lists c.has_key.new.lists so_far.rest had.rest;
      none = none_more c.args.lists.now.book.sheet c.args.key_words c.args.key.now
          (has_answered c.lanes.index c.lanes.search) (has_answered c.next_of.new.self c.next_of.new.search)
          c.in-Some.life.chunk next.answered so_far.none
          (λ same. had.other refl (words_same c.args.lists.now.book.sheet c.lanes.lists.book.sheet c.in-Some.life.chunk 0
          c.args.key_words
          (λ i. (looks_keep c.args.lists.now.book c.lanes.lists.book so_far.looks).words i c.in-Some.life.chunk) ∙ same));
    }

pub has_key-requires : goal.has_key-requires
has_key-requires g c =
    let so_far = c.lanes.invariant in let chunk = c.in-Some.life.chunk in
    let some : IsSome (led_at c.args.index.now.table chunk) =
    subst (λ i. IsSome (led_at i.table chunk)) so_far.index
    (some_and (led_at c.lanes.index.table chunk) _ c.in-Some.ensures.led) in
    record {
      own = ap (λ b. owns chunk b.sheet) so_far.looks
          ∙ led_owned c.args.seed c.args.key_words c.args.lists.now.book.sheet c.args.index.now.table c.requires.part chunk
          some;
      words = c.requires.words;
      few = c.requires.few;
    }

pub returns-then-has_key-clause-item : goal.returns-then-has_key-clause-item
returns-then-has_key-clause-item g c =
    let so_far = c.lanes.invariant in let chunk = c.in-Some.life.chunk in
    let some : IsSome (led_at c.args.index.now.table chunk) =
    subst (λ i. IsSome (led_at i.table chunk)) so_far.index
    (some_and (led_at c.lanes.index.table chunk) _ c.in-Some.ensures.led) in
    record {
      linked = led_linked c.args.seed c.args.key_words c.args.lists.now.book.sheet c.args.index.now.table c.requires.part
          chunk some;
      key = sym (words_same c.args.lists.now.book.sheet c.lanes.lists.book.sheet chunk 0 c.args.key_words
          (λ i. (looks_keep c.args.lists.now.book c.lanes.lists.book so_far.looks).words i chunk))
          ∙ c.if-has_key.ensures.same refl;
    }

pub returns-clause-item : goal.returns-clause-item
returns-clause-item g c =
    let so_far = c.lanes.invariant in
    unknown_all c.args.seed c.args.key_words c.args.lists.now.book.sheet c.args.index.now.table c.requires.part
    c.args.key.now c.lanes.search.hash (has_answered c.lanes.index c.lanes.search) (so_far.hash ∙ c.hash-hash.ensures)
    (subst (λ i. (chunk : ℕ) → IfSome (led_at i.table chunk)
    (λ led. led.hash ≡ c.lanes.search.hash → has_answered c.lanes.index c.lanes.search chunk ≡ true)) so_far.index
    c.in_default.ensures.all) so_far.none
