use Rattle.std.proofs.Common.{rules}
use Rattle.bump_class.proofs.books.Book.pull_item.Goals as goal

pub change_segment-requires-clause-may : goal.change_segment-requires-clause-may
change_segment-requires-clause-may g c = search rules

pub returns-in-Some : goal.returns-in-Some
returns-in-Some g c =
    let found = c.clear_where_active-found in let left = c.change_segment in (
      found.result,
      left.result,
      record {
        cleared_fits = found.ensures.fits;
        moved_fits = left.ensures.fits;
        shows = search rules;
        generation = search rules;
        still = search rules;
        same = search rules;
        pulled = search rules;
        looked = found.new.self;
        clears = found.ensures.clears;
        after = search rules;
      },
    )
