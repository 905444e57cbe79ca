use Rattle.std.proofs.Common.{◌≡◌, ◌+◌, ◌-◌, IsSome, length, refl, sym, ap, ◌∙◌, subst, arith}
use Rattle.cache_lists.specs.Linked.{linked_at}
use Rattle.cache_lists.proofs.Standings.{ends_kept, kept_ends, owns_same}
use Rattle.cache_index.specs.Views.{led_at}
use Rattle.cache_part.specs.Keys.{row_of}
use Rattle.cache_part.specs.Putting.{told_if}
use Rattle.cache_part.proofs.Agreements.{led_some}
use Rattle.cache_part.proofs.KeyLemmas.{row_same}
use Rattle.cache_part.proofs.LookLemmas.{looks_keep}
use Rattle.cache_part.proofs.evicting.evict.Goals as goal

pub clear-requires : goal.clear-requires
clear-requires g c =
    let table = c.args.index.now.table in let chunk = c.in-Some.victim.chunk in
    let was = c.in-Some.ensures.ends.was in
    led_some (led_at table chunk) (linked_at c.args.lists.now.book.sheet chunk) (c.requires.leads chunk)
    (subst IsSome (c.drain_where_held.ensures.kept.linked chunk) (subst IsSome (sym was.1) refl))

pub read_row_where-requires : goal.read_row_where-requires
read_row_where-requires g c =
    let ends = c.in-Some.ensures.ends in record {
      own = owns_same c.drain_where_held.new.lists.book c.evict.new.self.book ends.class c.in-Some.victim.chunk ∙ ends.own;
      some = omega (arith, c.requires.told);
      few = omega (arith, c.requires.told, c.requires.few);
    }

pub returns-clause-evicts : goal.returns-clause-evicts
returns-clause-evicts g c = record {
  drained = c.drain_where_held.new.lists;
  drains = c.drain_where_held.ensures.drains;
  between = c.evict.new.self;
  evicts = record {
    told = c.in-Some.victim;
    at = refl;
    evicts = c.in-Some.ensures.evicts;
    ends = c.in-Some.ensures.ends;
  };
  looks = c.read_row_where.ensures.looks;
  same = c.read_row_where.ensures.rest;
}

pub returns-clause-ends : goal.returns-clause-ends
returns-clause-ends g c =
    let chunk = c.in-Some.victim.chunk in
    kept_ends c.args.lists.now.book c.drain_where_held.new.lists.book c.read_row_where.new.lists.book chunk
    c.drain_where_held.ensures.kept
    (ends_kept c.drain_where_held.new.lists.book c.evict.new.self.book c.read_row_where.new.lists.book chunk
    c.in-Some.ensures.ends (looks_keep c.evict.new.self.book c.read_row_where.new.lists.book c.read_row_where.ensures.looks))

pub returns-clause-told : goal.returns-clause-told
returns-clause-told g c =
    let chunk = c.in-Some.victim.chunk in let left = c.evict.new.self.book.sheet in
    let words : length c.args.told.now - 1 ≡ c.args._settings.key_words + c.args._settings.value_words =
    omega (arith, c.requires.told) in
    c.read_row_where.ensures.read ∙ ap (λ row. told_if c.args.tells row c.args.told.now)
    (ap (λ n. row_of n left chunk) words
    ∙ row_same c.args.lists.now.book.sheet left chunk _
    (λ i. c.in-Some.ensures.ends.words i chunk ∙ c.drain_where_held.ensures.kept.words i chunk))
