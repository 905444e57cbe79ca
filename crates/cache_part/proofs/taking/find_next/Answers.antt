use Rattle.std.proofs.Common.{◌≡◌, ◌+◌, ◌-◌, ◌<◌, ◌≤◌, min, refl, ap, ap₂, ◌∙◌, subst, arith}
use Rattle.cache_lists.proofs.Standings.{keeps_still}
use Rattle.cache_part.specs.Expiring.{HasNoneExpired, number_behind}
use Rattle.cache_part.specs.Taking.{NoneInTurn}
use Rattle.cache_part.proofs.ExpiringLemmas.{kept_unexpired, none_in_turn, none_of_class}
use Rattle.cache_part.proofs.LookLemmas.{looks_keep, looks_then, rest_then}
use Rattle.cache_part.proofs.PartLemmas.{first_kept, part_kept}
use Rattle.cache_part.proofs.TakingLemmas.{has_before, none_before}
use Rattle.cache_part.proofs.TurnLemmas.{behind_next, behind_none, behind_within, in_turn_none}
use Rattle.cache_part.proofs.taking.find_next.Goals as goal

pub overflow_sub-count : goal.overflow_sub-count
overflow_sub-count g c =
    omega (arith, c.range-chunks.ensures.start, c.range-chunks.ensures.end, c.requires.first, c.requires.part.count)

pub overflow_add-chunk : goal.overflow_add-chunk
overflow_add-chunk g c =
    let so_far = c.loop-look.invariant in let look = c.loop-look._look in
    let count = c.args.lists.now.book.sheet.count in
    let chunks : c.range-chunks.result.end - c.range-chunks.result.start ≡ count =
    omega (arith, c.range-chunks.ensures.start, c.range-chunks.ensures.end, c.requires.first, c.requires.part.count) in
    let few : look < count = grind (arith, c.loop-look-test.true, c.min-look-end.ensures, chunks) in
    let below = behind_within c.args.cursor look count c.requires.cursor (omega (arith, few)) in
    omega (
      arith,
      so_far.at,
      below,
      few,
      c.range-chunks.ensures.start,
      c.range-chunks.ensures.end,
      c.range-chunks.ensures.most,
      c.requires.first,
      c.requires.part.count,
    )

pub loop-look-init : goal.loop-look-init
loop-look-init g c = record {
  looks = refl;
  rest = refl;
  none = λ number turn. absurd
      (in_turn_none c.args.cursor c.args.lists.now.book.sheet.count number c.requires.cursor turn);
  at = behind_none c.args.cursor c.args.lists.now.book.sheet.count c.requires.cursor;
}

pub next_number-number-requires : goal.next_number-number-requires
next_number-number-requires g c =
    let so_far = c.loop-look.invariant in let look = c.loop-look._look in
    let count = c.args.lists.now.book.sheet.count in
    let chunks : c.range-chunks.result.end - c.range-chunks.result.start ≡ count =
    omega (arith, c.range-chunks.ensures.start, c.range-chunks.ensures.end, c.requires.first, c.requires.part.count) in
    let few : look < count = grind (arith, c.loop-look-test.true, c.min-look-end.ensures, chunks) in
    let below = behind_within c.args.cursor look count c.requires.cursor (omega (arith, few)) in
    omega (arith, so_far.at, below, few, chunks)

pub is_expired-requires : goal.is_expired-requires
is_expired-requires g c =
    let so_far = c.loop-look.invariant in let look = c.loop-look._look in
    let first = c.args.lists.now in let count = first.book.sheet.count in
    let keeps = looks_keep first.book c.loop-look.lists.book so_far.looks in
    let chunks : c.range-chunks.result.end - c.range-chunks.result.start ≡ count =
    omega (arith, c.range-chunks.ensures.start, c.range-chunks.ensures.end, c.requires.first, c.requires.part.count) in
    let few : look < count = grind (arith, c.loop-look-test.true, c.min-look-end.ensures, chunks) in
    let below = behind_within c.args.cursor look count c.requires.cursor (omega (arith, few)) in
    record {
      part = part_kept c.args.settings.seed c.args.settings.key_words first.book c.loop-look.lists.book
          c.args.index.now.table c.requires.part keeps;
      first = first_kept c.args.index.now.first first.book c.loop-look.lists.book keeps.class c.requires.first;
      from = omega (arith, keeps.class.first, c.range-chunks.ensures.start, c.requires.first);
      within = omega (
        arith,
        so_far.at,
        below,
        few,
        c.requires.part.count,
        c.range-chunks.ensures.start,
        c.requires.first,
      );
    }

pub loop-look-preserved : goal.loop-look-preserved
loop-look-preserved g c =
    let so_far = c.loop-look.invariant in let look = c.loop-look._look in let now = c.args.now in
    let first = c.args.lists.now in let count = first.book.sheet.count in let from = c.args.cursor in
    let between = c.loop-look.lists in let left = c.is_expired.new.lists in let did = c.is_expired.ensures in
    let chunks : c.range-chunks.result.end - c.range-chunks.result.start ≡ count =
    omega (arith, c.range-chunks.ensures.start, c.range-chunks.ensures.end, c.requires.first, c.requires.part.count) in
    let few : look < count = grind (arith, c.loop-look-test.true, c.min-look-end.ensures, chunks) in
    let within : from < count = omega (arith, few, c.requires.cursor) in
    let chunk : c.range-chunks.result.start + c.loop-look.number
    ≡ first.book.sheet.first + number_behind from look count =
    ap₂ (λ a b. a + b) (c.range-chunks.ensures.start ∙ c.requires.first) so_far.at in
    let here = none_before now _ first.book between.book so_far.looks (did.none c.if-is_expired.false) in
    record {
      looks = looks_then first.book between.book left.book so_far.looks did.looks;
      rest = rest_then first between left so_far.rest did.rest;
      none = none_in_turn from count now first refl look first.book first.book so_far.none
          (subst (λ n. HasNoneExpired now n first.book) chunk here)
          (kept_unexpired now first.book first.book (keeps_still first.book));
      at = c.next_number-number.ensures
          ∙ (ap (λ n. number_behind n 1 (c.range-chunks.result.end - c.range-chunks.result.start)) so_far.at
          ∙ (ap (number_behind (number_behind from look count) 1) chunks ∙ behind_next from look count within few));
    }

pub returns-then-is_expired : goal.returns-then-is_expired
returns-then-is_expired g c =
    let so_far = c.loop-look.invariant in let look = c.loop-look._look in let now = c.args.now in
    let first = c.args.lists.now in let count = first.book.sheet.count in let from = c.args.cursor in
    let between = c.loop-look.lists in let left = c.is_expired.new.lists in let did = c.is_expired.ensures in
    let chunks : c.range-chunks.result.end - c.range-chunks.result.start ≡ count =
    omega (arith, c.range-chunks.ensures.start, c.range-chunks.ensures.end, c.requires.first, c.requires.part.count) in
    let few : look < count = grind (arith, c.loop-look-test.true, c.min-look-end.ensures, chunks) in
    let within : from < count = omega (arith, few, c.requires.cursor) in
    let chunk : c.range-chunks.result.start + c.loop-look.number
    ≡ first.book.sheet.first + number_behind from look count =
    ap₂ (λ a b. a + b) (c.range-chunks.ensures.start ∙ c.requires.first) so_far.at in
    let next = c.next_number-number.ensures
    ∙ (ap (λ n. number_behind n 1 (c.range-chunks.result.end - c.range-chunks.result.start)) so_far.at
    ∙ (ap (number_behind (number_behind from look count) 1) chunks ∙ behind_next from look count within few)) in
    let most : c.min-look-end.result ≡ min c.args.most count =
    c.min-look-end.ensures ∙ ap (min c.args.most) chunks in
    let below = behind_within from (look + 1) count c.requires.cursor (omega (arith, few)) in
    record {
      finds = record {
        passed = look;
        few = omega (arith, c.loop-look-test.true, most);
        none = none_of_class now from look first.book first.book so_far.none;
        at = chunk;
        has = has_before now _ first.book between.book so_far.looks (did.has c.if-is_expired.true);
        behind = next;
      };
      looks = looks_then first.book between.book left.book so_far.looks did.looks;
      rest = rest_then first between left so_far.rest did.rest;
      within = omega (arith, next, below);
    }

pub returns : goal.returns
returns g c =
    let so_far = c.loop-look.invariant in let look = c.loop-look._look in let now = c.args.now in
    let first = c.args.lists.now in let count = first.book.sheet.count in let from = c.args.cursor in
    let chunks : c.range-chunks.result.end - c.range-chunks.result.start ≡ count =
    omega (arith, c.range-chunks.ensures.start, c.range-chunks.ensures.end, c.requires.first, c.requires.part.count) in
    let end : look ≡ c.min-look-end.result = omega (arith, c.loop-look-test.false, c.loop-look.auto._look-end) in
    let all : look ≡ min c.args.most count = end ∙ (c.min-look-end.ensures ∙ ap (min c.args.most) chunks) in
    let few : look ≤ count = grind (arith, all) in
    let below = behind_within from look count c.requires.cursor few in
    record {
      finds = record {
        none = subst (λ n. NoneInTurn from n now first.book) all
            (none_of_class now from look first.book first.book so_far.none);
        behind = subst (λ n. c.loop-look.number ≡ number_behind from n count) all so_far.at;
      };
      looks = so_far.looks;
      rest = so_far.rest;
      within = omega (arith, so_far.at, below);
    }
