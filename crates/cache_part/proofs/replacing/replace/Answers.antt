use Rattle.std.proofs.Common.{◌≢◌, None, IsSome, sym, ap, ◌∙◌, subst, slice_set, inl}
use Rattle.std.proofs.lemmas.List.{get_or-set_same, get_or-set_other}
use Rattle.bump_rules.specs.Lists.{all_without}
use Rattle.bump_steps.specs.Views.{owns}
use Rattle.cache_lists.specs.Linked.{linked_at}
use Rattle.cache_lists.specs.Segments.{SameSegments}
use Rattle.cache_lists.proofs.Standings.{kept_ends}
use Rattle.cache_index.specs.Views.{led_at, with_generation}
use Rattle.cache_part.proofs.Agreements.{led_some}
use Rattle.cache_part.proofs.LookLemmas.{looks_keep}
use Rattle.cache_part.proofs.replacing.replace.Goals as goal

pub lead-requires : goal.lead-requires
lead-requires g c = record {
  old = led_some (led_at c.args.index.now.table c.args.old) (linked_at c.args.lists.now.book.sheet c.args.old)
      c.requires.led c.requires.linked;
  first = c.requires.first;
  chunk = c.requires.chunk;
  anew = inl c.requires.anew;
}

pub end_unled-requires : goal.end_unled-requires
end_unled-requires g c =
    let table = c.args.index.now.table in
    let some = led_some (led_at table c.args.old) (linked_at c.args.lists.now.book.sheet c.args.old) c.requires.led
    c.requires.linked in
    let apart : c.args.old ≢ c.args.id.chunk = λ same. absurd (cc (subst IsSome (ap (led_at table) same ∙ c.requires.anew) some)) in
    record {
      unled = ap (λ t. led_at t c.args.old) c.lead.ensures.table
          ∙ get_or-set_other (slice_set table c.args.old None) c.args.id.chunk c.args.old
          (with_generation c.args.id.generation (led_at table c.args.old)) None apart
          ∙ get_or-set_same table c.args.old None None c.requires.within;
      own = ap (λ b. owns c.args.old b.sheet) c.read_value_where.ensures.looks ∙ c.requires.own;
      linked = subst IsSome (sym ((looks_keep c.args.lists.now.book c.read_value_where.new.lists.book
          c.read_value_where.ensures.looks).linked c.args.old)) c.requires.linked;
    }

pub returns-clause-table : goal.returns-clause-table
returns-clause-table g c hash = c.lead.ensures.table

pub returns-clause-ends : goal.returns-clause-ends
returns-clause-ends g c = kept_ends c.args.lists.now.book c.read_value_where.new.lists.book c.end_unled.new.lists.book c.args.old
    (looks_keep c.args.lists.now.book c.read_value_where.new.lists.book c.read_value_where.ensures.looks) c.end_unled.ensures.ends

pub returns-clause-others : goal.returns-clause-others
returns-clause-others g c = subst (λ b. SameSegments (all_without c.args.old b.lists) c.end_unled.new.lists.book.lists)
    c.read_value_where.ensures.looks c.end_unled.ensures.others

pub returns-clause-evictions : goal.returns-clause-evictions
returns-clause-evictions g c = c.end_unled.ensures.evictions ∙ ap (λ v. v.evictions) c.read_value_where.ensures.rest
