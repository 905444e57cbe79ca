use Rattle.std.proofs.Common.{rules, ◌≡◌, ◌+◌, ◌*◌, ◌<◌, ◌++◌, [], ◌∷◌, drop, replicate, None, sym, ap₂, ◌∙◌, subst, arith}
use Rattle.std.specs.Vec.Iter.{into_iter_items}
use Rattle.cache_config.specs.Making.{AreMadeShelves}
use Rattle.cache_config.proofs.Places.{drop_first, drop_some}
use Rattle.cache_config.proofs.ShelfLemmas.{made_shelf, next_book, next_index, room_for, shelves_next, shelves_none, taken_next}
use Rattle.cache_config.proofs.making.make_shelves.Goals as goal

pub loop-part-init : goal.loop-part-init
loop-part-init g c =
    let none : c.in_ok-shelves.shelves.items ≡ [] = search rules in record {
      books = search rules;
      indexes = search rules;
      lanes = search rules;
      shelves = subst (AreMadeShelves c.args.config.now c.args.key_words c.args.value_words c.args.lanes.items 0)
          (sym none) (shelves_none c.args.config.now c.args.key_words c.args.value_words c.args.lanes.items);
    }

pub unreachable-requires : goal.unreachable-requires
unreachable-requires g c =
    let low : c.loop-part.part < c.args.config.now.parts = c.loop-part-test.true in
    let next = drop_some c.args.books.items c.loop-part.part (omega (arith, low, c.requires.books.count)) in
    let some : into_iter_items c.loop-part.books ≡ next.0 ∷ drop (c.loop-part.part + 1) c.args.books.items =
    c.loop-part.invariant.books ∙ next.2 in
    search (rules, some)

pub unreachable-requires-in_default-next : goal.unreachable-requires-in_default-next
unreachable-requires-in_default-next g c =
    let low : c.loop-part.part < c.args.config.now.parts = c.loop-part-test.true in
    let next = drop_some c.args.indexes.items c.loop-part.part (omega (arith, low, c.requires.indexes.count_is)) in
    let some : into_iter_items c.loop-part.indexes ≡ next.0 ∷ drop (c.loop-part.part + 1) c.args.indexes.items =
    c.loop-part.invariant.indexes ∙ next.2 in
    search (rules, some)

pub take_lanes-requires : goal.take_lanes-requires
take_lanes-requires g c = room_for c.args.config.now.parts c.args.config.now.readers c.loop-part.part
    c.args.lanes.items _ c.requires.lanes c.loop-part-test.true c.loop-part.invariant.lanes

pub make_shelf-shelf-requires-clause-first : goal.make_shelf-shelf-requires-clause-first
make_shelf-shelf-requires-clause-first g c =
    let so_far = c.loop-part.invariant in let low = c.loop-part-test.true in
    let books = drop_first c.args.books.items c.loop-part.part c.in-Some.book _
    (sym so_far.books ∙ c.in-Some.ensures.items) in
    let indexes = drop_first c.args.indexes.items c.loop-part.part c.in-Some-next.index _
    (sym so_far.indexes ∙ c.in-Some-next.ensures.items) in
    let book = next_book c.args.config.now c.args.books.items c.loop-part.part c.in-Some.book c.requires.books low
    books.0 in
    let index = next_index c.args.config.now c.args.config.now.parts c.args.indexes.items c.loop-part.part
    c.in-Some-next.index c.requires.indexes low indexes.0 in
    index.first ∙ sym book.first

pub make_shelf-shelf-requires-clause-history : goal.make_shelf-shelf-requires-clause-history
make_shelf-shelf-requires-clause-history g c =
    let so_far = c.loop-part.invariant in let low = c.loop-part-test.true in
    let books = drop_first c.args.books.items c.loop-part.part c.in-Some.book _
    (sym so_far.books ∙ c.in-Some.ensures.items) in
    let book = next_book c.args.config.now c.args.books.items c.loop-part.part c.in-Some.book c.requires.books low
    books.0 in
    book.unused

pub make_shelf-shelf-requires-clause-index : goal.make_shelf-shelf-requires-clause-index
make_shelf-shelf-requires-clause-index g c =
    let so_far = c.loop-part.invariant in let low = c.loop-part-test.true in
    let books = drop_first c.args.books.items c.loop-part.part c.in-Some.book _
    (sym so_far.books ∙ c.in-Some.ensures.items) in
    let indexes = drop_first c.args.indexes.items c.loop-part.part c.in-Some-next.index _
    (sym so_far.indexes ∙ c.in-Some-next.ensures.items) in
    let book = next_book c.args.config.now c.args.books.items c.loop-part.part c.in-Some.book c.requires.books low
    books.0 in
    let index = next_index c.args.config.now c.args.config.now.parts c.args.indexes.items c.loop-part.part
    c.in-Some-next.index c.requires.indexes low indexes.0 in
    index.table ∙ ap₂ (λ a b. replicate (a + b) None) (sym book.first) (sym book.chunks)

pub loop-part-preserved : goal.loop-part-preserved
loop-part-preserved g c =
    let so_far = c.loop-part.invariant in let low = c.loop-part-test.true in
    let books = drop_first c.args.books.items c.loop-part.part c.in-Some.book _
    (sym so_far.books ∙ c.in-Some.ensures.items) in
    let indexes = drop_first c.args.indexes.items c.loop-part.part c.in-Some-next.index _
    (sym so_far.indexes ∙ c.in-Some-next.ensures.items) in
    let book = next_book c.args.config.now c.args.books.items c.loop-part.part c.in-Some.book c.requires.books low
    books.0 in
    let index = next_index c.args.config.now c.args.config.now.parts c.args.indexes.items c.loop-part.part
    c.in-Some-next.index c.requires.indexes low indexes.0 in
    let taken : drop (c.loop-part.part * c.args.config.now.readers) c.args.lanes.items
    ≡ c.in_ok-own.own.items ++ into_iter_items c.take_lanes.new.left =
    sym so_far.lanes ∙ c.in_ok-own.ensures.taken in
    let items : c.push.new.self.items ≡ c.loop-part.shelves.items ++ c.make_shelf-shelf.result ∷ [] = search rules in
    record {
      books = sym books.1;
      indexes = sym indexes.1;
      lanes = taken_next c.args.config.now.readers c.loop-part.part c.args.lanes.items c.in_ok-own.own.items
          (into_iter_items c.take_lanes.new.left) c.in_ok-own.ensures.count taken;
      shelves = shelves_next c.args.config.now c.args.key_words c.args.value_words c.args.lanes.items c.loop-part.part
          c.loop-part.shelves.items c.push.new.self.items c.make_shelf-shelf.result so_far.shelves items
          (made_shelf c.args.config.now c.loop-part.part c.args.key_words c.args.value_words c.args.lanes.items
          c.in_ok-own.own.items (into_iter_items c.take_lanes.new.left) c.in-Some.book c.in-Some-next.index
          c.make_shelf-shelf.result book index c.in_ok-own.ensures.count taken c.make_shelf-shelf.ensures);
    }
