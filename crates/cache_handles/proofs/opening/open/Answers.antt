use Rattle.cache_config.proofs.Openings.{books_new}
use Rattle.cache_config.proofs.RowLemmas.{rows_counted}
use Rattle.cache_config.proofs.Soundness.{sound}
use Rattle.cache_handles.proofs.ConfigLemmas.{byte_sound}
use Rattle.cache_handles.proofs.OpeningLemmas.{readers_new, shelves_for, shelves_new}
use Rattle.cache_handles.proofs.opening.open.Goals as goal

pub make_shelves-requires-clause-books : goal.make_shelves-requires-clause-books
make_shelves-requires-clause-books g c =
    books_new _ c.args.store.now _ _ _ c.requires.store c.in_ok-heads.ensures.books

pub make_parts-requires-clause-shelves : goal.make_parts-requires-clause-shelves
make_parts-requires-clause-shelves g c =
    shelves_for c.args.config.now _ _ _ _ _ c.key_words-key_words.ensures c.value_words-value_words.ensures
    c.in_ok-shelves.ensures

pub make_readers-requires-clause-parts : goal.make_readers-requires-clause-parts
make_readers-requires-clause-parts g c =
    let is = sound c.args.config.now.cache (byte_sound c.args.config.now c.requires.sound).cache in
    rows_counted _ _ _ _ _ _ c.in_ok-rows.ensures.rows is.parts_least is.parts_most

pub returns : goal.returns
returns g c =
    let e = c.in_ok-heads.ensures in
    let made = c.in_ok-shelves.ensures in
    record {
      rows = c.in_ok-rows.rows.items;
      has_readers = c.in_ok-make_readers.ensures;
      reader_count = c.in_ok-rows.ensures.rows.count;
      new_readers = readers_new c.args.config.now.cache c.args.store.now _ c.in_ok-heads.field-0.workers.items _ c.requires.store
          e.heads c.in_ok-rows.ensures.rows e.workers e.capacity;
      shelves = c.in_ok-shelves.shelves.items;
      has_parts = c.in_ok-make_parts.ensures;
      part_count = made.count_is;
      new_shelves = shelves_new c.args.config.now.cache _ c.in_ok-heads.field-0.workers.items c.in_ok-heads.field-0.lanes.items _ _ _ _ _ _
          e.rings c.in_ok-rows.ensures.rows made c.key_words-key_words.ensures c.value_words-value_words.ensures;
    }
