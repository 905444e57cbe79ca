use Rattle.std.proofs.Common.{◌≡◌, true, sym, ap, ◌∙◌, subst, arith, length-set}
use Rattle.std.specs.Prelude.{IfSome}
use Rattle.bump_links.specs.Lists.{times, next_of}
use Rattle.bump_rules.specs.Lists.{list_at}
use Rattle.bump_steps.specs.Views.{owns}
use Rattle.bump_heads.specs.Linking.{place_of_chunk}
use Rattle.bump_handles.specs.Views.{TaggedBookView}
use Rattle.bump_handles.proofs.LookLemmas.{walks_more}
use Rattle.bump_handles.proofs.books.TaggedBook.walk_on.Goals as goal

pub loop-count-preserved : goal.loop-count-preserved
loop-count-preserved g c =
    let so = c.loop-count.invariant in
    let chunk = c.in-Some.chunk in
    let count = c.loop-count.count in
    let listed = ap (λ (b : TaggedBookView). list_at b.book.lists c.args.place) c.self.view_is in
    let room = c.if-count-chunks.false in
    let long = c.loop-count.auto.chunks in
    record {
      stands = subst (λ (b : TaggedBookView). IfSome c.after-next.result (λ d. (owns d b.book.sheet ≡ true)
          × (place_of_chunk b.book.sheet d ≡ c.args.place))) c.self.view_is c.after-next.ensures.stands;
      room = omega (arith, room, length-set c.loop-count.chunks count chunk);
      told = λ before row whole first.
          let these = so.told before row whole first in
          walks_more _ before row c.args.chunks.now c.loop-count.chunks count chunk c.after-next.result whole
          (these.0, these.1, these.2, these.3, sym c.in-Some.is ∙ these.4, these.5) (omega (arith, room, long))
          (c.after-next.ensures.next ∙ ap (next_of chunk) listed)
          (sym (ap (times chunk) listed) ∙ c.after-next.ensures.once);
    }
