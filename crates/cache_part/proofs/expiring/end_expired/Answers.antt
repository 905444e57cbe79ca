use Rattle.std.proofs.Common.{◌≡◌, ℕ, ◌+◌, ◌-◌, ◌<◌, ◌≤◌, min, refl, sym, ap, ap₂, ◌∙◌, subst, arith}
use Rattle.bump_rules.specs.Lawful.{bit}
use Rattle.cache_lists.proofs.Standings.{keeps_still}
use Rattle.cache_part.specs.Expiring.{HasNoneExpired, IsInTurn, LooksAround, LooksAt, number_behind}
use Rattle.cache_part.proofs.ExpiringLemmas.{around_more, kept_unexpired, none_in_turn, none_of_class, unexpired_then}
use Rattle.cache_part.proofs.TurnLemmas.{behind_next, behind_none, behind_within, in_turn_none}
use Rattle.cache_part.proofs.expiring.end_expired.Goals as goal
use Rattle.cache_part.proofs.expiring.end_expired.Goals.{then-end_where_expired, else-end_where_expired}

pub overflow_sub-count : goal.overflow_sub-count
overflow_sub-count g c =
    omega (arith, c.range-chunks.ensures.start, c.range-chunks.ensures.end, c.requires.first, c.requires.part.count)

pub overflow_add-chunks : goal.overflow_add-chunks
overflow_add-chunks g c =
    let so_far = c.loop-look.invariant in let look = c.loop-look._look in
    let count = c.args.lists.now.book.sheet.count in
    let chunks : c.range-chunks.result.end - c.range-chunks.result.start ≡ count =
    omega (arith, c.range-chunks.ensures.start, c.range-chunks.ensures.end, c.requires.first, c.requires.part.count) in
    let few : look < count = grind (arith, c.loop-look-test.true, c.min-look-end.ensures, chunks) in
    let below = behind_within c.args.cursor look count c.requires.cursor (omega (arith, few)) in
    omega (
      arith,
      so_far.at,
      below,
      few,
      c.range-chunks.ensures.start,
      c.range-chunks.ensures.end,
      c.range-chunks.ensures.most,
      c.requires.first,
      c.requires.part.count,
    )

pub loop-look-init : goal.loop-look-init
loop-look-init g c = record {
  part = c.requires.part;
  first = refl;
  looks = (refl, refl);
  none = λ number turn. absurd
      (in_turn_none c.args.cursor c.args.lists.now.book.sheet.count number c.requires.cursor turn);
  kept = kept_unexpired c.args.now c.args.lists.now.book c.args.lists.now.book (keeps_still c.args.lists.now.book);
  at = behind_none c.args.cursor c.args.lists.now.book.sheet.count c.requires.cursor;
  few = omega arith;
}

pub end_where_expired-requires : goal.end_where_expired-requires
end_where_expired-requires g c =
    let so_far = c.loop-look.invariant in let look = c.loop-look._look in
    let count = c.args.lists.now.book.sheet.count in
    let chunks : c.range-chunks.result.end - c.range-chunks.result.start ≡ count =
    omega (arith, c.range-chunks.ensures.start, c.range-chunks.ensures.end, c.requires.first, c.requires.part.count) in
    let few : look < count = grind (arith, c.loop-look-test.true, c.min-look-end.ensures, chunks) in
    let below = behind_within c.args.cursor look count c.requires.cursor (omega (arith, few)) in
    record {
      part = so_far.part;
      first = so_far.first ∙ (c.requires.first ∙ sym so_far.kept.class.first);
      from = omega (arith, so_far.kept.class.first, c.range-chunks.ensures.start, c.requires.first);
      within = omega (
        arith,
        so_far.at,
        below,
        few,
        so_far.part.count,
        so_far.kept.class.first,
        so_far.kept.class.count,
        c.range-chunks.ensures.start,
        c.requires.first,
      );
    }

pub next_number-number-requires : goal.next_number-number-requires
next_number-number-requires g c =
    let so_far = c.loop-look.invariant in let look = c.loop-look._look in
    let count = c.args.lists.now.book.sheet.count in
    let chunks : c.range-chunks.result.end - c.range-chunks.result.start ≡ count =
    omega (arith, c.range-chunks.ensures.start, c.range-chunks.ensures.end, c.requires.first, c.requires.part.count) in
    let few : look < count = grind (arith, c.loop-look-test.true, c.min-look-end.ensures, chunks) in
    let below = behind_within c.args.cursor look count c.requires.cursor (omega (arith, few)) in
    omega (arith, so_far.at, below, few, chunks)

pub loop-look-preserved : goal.loop-look-preserved
loop-look-preserved g c =
    let so_far = c.loop-look.invariant in let look = c.loop-look._look in let now = c.args.now in
    let first = c.args.lists.now in let count = first.book.sheet.count in let from = c.args.cursor in
    let between = c.loop-look.lists in let left = c.end_where_expired.new.lists in
    let result = c.end_where_expired.result in let did = c.end_where_expired.ensures in
    let chunks : c.range-chunks.result.end - c.range-chunks.result.start ≡ count =
    omega (arith, c.range-chunks.ensures.start, c.range-chunks.ensures.end, c.requires.first, c.requires.part.count) in
    let few : look < count = grind (arith, c.loop-look-test.true, c.min-look-end.ensures, chunks) in
    let within : from < count = omega (arith, few, c.requires.cursor) in
    let chunk : c.range-chunks.result.start + c.loop-look.number
    ≡ first.book.sheet.first + number_behind from look count =
    ap₂ (λ a b. a + b) (c.range-chunks.ensures.start ∙ c.requires.first) so_far.at in
    let ended = c.if-end_where_expired.ended in
    let sums : (ended ≡ c.loop-look.ended + bit result) × (ended ≤ look + 1) = elim c.if-end_where_expired.branch [
      | then-end_where_expired w ↦ (
        w.ended-is ∙ ap (λ b. c.loop-look.ended + bit b) (sym w.if-end_where_expired.true),
        omega (arith, w.ended-is, so_far.few),
      )
      | else-end_where_expired w ↦
          let none : c.loop-look.ended ≡ c.loop-look.ended + 0 = omega arith in (
            w.ended-is ∙ (none ∙ ap (λ b. c.loop-look.ended + bit b) (sym w.if-end_where_expired.false)),
            omega (arith, w.ended-is, so_far.few),
          )
    ] in
    record {
      part = did.part;
      first = did.first ∙ so_far.first;
      looks = around_more from count now first refl look ended c.loop-look.ended result between left so_far.looks
          (subst (λ n. LooksAt n now result between left) chunk did.looks) sums.0;
      none = none_in_turn from count now first refl look between.book left.book so_far.none
          (subst (λ n. HasNoneExpired now n left.book) chunk did.ended) did.kept;
      kept = unexpired_then now first.book between.book left.book so_far.kept did.kept;
      at = c.next_number-number.ensures
          ∙ (ap (λ n. number_behind n 1 (c.range-chunks.result.end - c.range-chunks.result.start)) so_far.at
          ∙ (ap (number_behind (number_behind from look count) 1) chunks ∙ behind_next from look count within few));
      few = sums.1;
    }

pub returns : goal.returns
returns g c =
    let so_far = c.loop-look.invariant in let look = c.loop-look._look in let now = c.args.now in
    let first = c.args.lists.now in let count = first.book.sheet.count in let from = c.args.cursor in
    let left = c.loop-look.lists in
    let chunks : c.range-chunks.result.end - c.range-chunks.result.start ≡ count =
    omega (arith, c.range-chunks.ensures.start, c.range-chunks.ensures.end, c.requires.first, c.requires.part.count) in
    let end : look ≡ c.min-look-end.result = omega (arith, c.loop-look-test.false, c.loop-look.auto._look-end) in
    let all : look ≡ min c.args.most count = end ∙ (c.min-look-end.ensures ∙ ap (min c.args.most) chunks) in
    let few : look ≤ count = grind (arith, all) in
    let below = behind_within from look count c.requires.cursor few in
    record {
      part = so_far.part;
      first = so_far.first;
      looks = subst (λ n. LooksAround n from now c.loop-look.ended first left) all so_far.looks;
      ended = subst (λ n. (chunk : ℕ) → IsInTurn from n first.book.sheet chunk → HasNoneExpired now chunk left.book) all
          (none_of_class now from look first.book left.book so_far.none);
      kept = so_far.kept;
      cursor = subst (λ n. c.loop-look.number ≡ number_behind from n count) all so_far.at;
      within = omega (arith, so_far.at, below, so_far.kept.class.count);
    }
