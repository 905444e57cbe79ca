use Rattle.std.proofs.Common.{rules, ◌+◌, ap₂, ◌∙◌, refl, arith}
use Rattle.bump_rules.specs.Lists.{opening}
use Rattle.bump_class.proofs.Keeping.{new_kept, new_counts}
use Rattle.bump_class.proofs.books.Book.new.Goals as goal

pub invariant_of-result : goal.invariant_of-result
invariant_of-result g c =
    let r = c.requires in (
      r.fresh.alone,
      r.first,
      ap₂ (λ a b. a + b) r.first r.chunks,
      new_kept _ r.fresh.history r.fresh.idle (c.in_ok-lists.ensures ∙ ap₂ opening r.first r.chunks),
      new_counts c.args.workers _ c.args.seat.sheet.history (c.in_ok-moved.ensures.items_if_clones_equal (λ y e. e)) r.fresh.history,
      omega (arith, c.in_ok-moved.ensures.len, c.in_ok-moved.moved.ok.0),
    )

pub returns : goal.returns
returns g c = search rules
