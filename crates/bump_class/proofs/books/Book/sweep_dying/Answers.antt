use Rattle.std.proofs.Common.{refl, arith}
use Rattle.bump_class.proofs.Sights.{none_swept, next_dying, moved_on, some_ahead}
use Rattle.bump_class.proofs.Freeing.{none_told, held_more, free_more, free_full}
use Rattle.bump_class.proofs.books.Book.sweep_dying.Goals as goal

pub loop-looked-init : goal.loop-looked-init
loop-looked-init g c =
    let b = c.args.self.now in
    let so = none_swept b in (
      so.0,
      so.1,
      moved_on b b b 0 0 0 _ c.first-next.result so.0 so.1 refl c.first-next.ensures.front refl so.2,
      λ some. none_told b.lists.dying c.args.freed.now so.0 some,
      refl,
    )

pub unreachable-requires : goal.unreachable-requires
unreachable-requires g c =
    let so = c.loop-looked.invariant in
    c.in_default.not-Some _ (some_ahead (omega (arith, c.loop-looked-test.true, c.size-looked-end.ensures)) so.2)

pub after-next-requires-clause-own : goal.after-next-requires-clause-own
after-next-requires-clause-own g c =
    let so = c.loop-looked.invariant in
    (next_dying c.in-Some.chunk c.first-next.ensures.book
    (omega (arith, c.loop-looked-test.true, c.size-looked-end.ensures)) c.in-Some.is so.2).0

pub after-next-requires-clause-stands : goal.after-next-requires-clause-stands
after-next-requires-clause-stands g c =
    let so = c.loop-looked.invariant in
    (next_dying c.in-Some.chunk c.first-next.ensures.book
    (omega (arith, c.loop-looked-test.true, c.size-looked-end.ensures)) c.in-Some.is so.2).1

pub seen_unheld-head-requires-clause-own : goal.seen_unheld-head-requires-clause-own
seen_unheld-head-requires-clause-own g c =
    let so = c.loop-looked.invariant in
    (next_dying c.in-Some.chunk c.first-next.ensures.book
    (omega (arith, c.loop-looked-test.true, c.size-looked-end.ensures)) c.in-Some.is so.2).0

pub seen_unheld-head-requires-clause-dying : goal.seen_unheld-head-requires-clause-dying
seen_unheld-head-requires-clause-dying g c =
    let so = c.loop-looked.invariant in
    (next_dying c.in-Some.chunk c.first-next.ensures.book
    (omega (arith, c.loop-looked-test.true, c.size-looked-end.ensures)) c.in-Some.is so.2).1

pub loop-looked-preserved-then-head-ne0 : goal.loop-looked-preserved-then-head-ne0
loop-looked-preserved-then-head-ne0 g c = held_more c.args.self.now c.loop-looked.self c.seen_unheld-head.new.self c.loop-looked.looked c.loop-looked.count
    c.loop-looked.next c.after-next.result c.args.freed.now c.loop-looked.freed c.in-Some.chunk c.seen_unheld-head.result
    c.first-next.ensures.book (omega (arith, c.loop-looked-test.true, c.size-looked-end.ensures)) c.in-Some.is
    c.loop-looked.invariant c.after-next.ensures.once c.seen_unheld-head.ensures.fits
    c.seen_unheld-head.ensures.unlinked c.seen_unheld-head.ensures.generation c.seen_unheld-head.ensures.seen
    c.after-next.ensures.next c.if-head-ne0.true

pub returns-then-count-freed : goal.returns-then-count-freed
returns-then-count-freed g c =
    let r = free_full c.args.self.now c.loop-looked.self c.seen_unheld-head.new.self c.loop-looked.looked c.loop-looked.count
    c.loop-looked.next c.after-next.result c.args.freed.now c.loop-looked.freed c.in-Some.chunk c.seen_unheld-head.result
    c.first-next.ensures.book (omega (arith, c.loop-looked-test.true, c.size-looked-end.ensures)) c.in-Some.is
    c.loop-looked.invariant c.after-next.ensures.once c.seen_unheld-head.ensures.fits
    c.seen_unheld-head.ensures.unlinked c.seen_unheld-head.ensures.generation c.seen_unheld-head.ensures.seen
    c.after-next.ensures.next
    c.tell.new.freed (omega (arith, c.if-head-ne0.false)) c.tell.ensures (omega (arith, c.tell.auto.freed))
    (omega (arith, c.if-count-freed.true)) in
    (r.0, r.1, r.2.0, r.2.1, r.2.2)

pub loop-looked-preserved : goal.loop-looked-preserved
loop-looked-preserved g c = free_more c.args.self.now c.loop-looked.self c.seen_unheld-head.new.self c.loop-looked.looked c.loop-looked.count
    c.loop-looked.next c.after-next.result c.args.freed.now c.loop-looked.freed c.in-Some.chunk c.seen_unheld-head.result
    c.first-next.ensures.book (omega (arith, c.loop-looked-test.true, c.size-looked-end.ensures)) c.in-Some.is
    c.loop-looked.invariant c.after-next.ensures.once c.seen_unheld-head.ensures.fits
    c.seen_unheld-head.ensures.unlinked c.seen_unheld-head.ensures.generation c.seen_unheld-head.ensures.seen
    c.after-next.ensures.next
    c.tell.new.freed (omega (arith, c.if-head-ne0.false)) c.tell.ensures (omega (arith, c.tell.auto.freed))
    (λ e. absurd (omega (arith, e, c.if-count-freed.false)))

pub head_at-requires : goal.head_at-requires
head_at-requires g c = let so = c.loop-looked.invariant in record {
  own = (next_dying c.in-Some.chunk c.first-next.ensures.book
      (omega (arith, c.loop-looked-test.true, c.size-looked-end.ensures)) c.in-Some.is so.2).0;
}
