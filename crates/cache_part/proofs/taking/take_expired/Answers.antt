use Rattle.std.proofs.Common.{◌≡◌, ◌+◌, ◌-◌, None, Some, IfNone, IfSome, length, sym, ap, ◌∙◌, subst, arith, true}
use Rattle.bump_steps.specs.Views.{owns}
use Rattle.cache_lists.specs.Expiring.{EndsFound}
use Rattle.cache_lists.specs.Linked.{linked_at}
use Rattle.cache_index.specs.Views.{led_at}
use Rattle.cache_part.specs.Expiring.{EndsBehindLook, looks_of}
use Rattle.cache_part.specs.Keys.{row_of}
use Rattle.cache_part.specs.Looks.{LooksOnly}
use Rattle.cache_part.specs.Parts.{IsPart}
use Rattle.cache_part.specs.Putting.{TellsWords}
use Rattle.cache_part.specs.Taking.{FindsNext}
use Rattle.cache_part.proofs.Agreements.{led_some}
use Rattle.cache_part.proofs.ExpiringLemmas.{found_expired}
use Rattle.cache_part.proofs.KeyLemmas.{row_same}
use Rattle.cache_part.proofs.LookLemmas.{looks_keep, looks_then, rest_then}
use Rattle.cache_part.proofs.PartLemmas.{cursor_kept, first_kept, part_ended, part_kept}
use Rattle.cache_part.proofs.TakingLemmas.{behind_ends, has_behind}
use Rattle.cache_part.proofs.taking.take_expired.Goals as goal

pub read_row-requires : goal.read_row-requires
read_row-requires g c =
    let before = c.args.lists.now.book in let chunk = c.in-Some.chunk in let next = c.find_next-next.result in
    let until = subst (λ item. FindsNext (looks_of c.args.most before) c.args.cursor c.args.now item next.cursor before)
    c.in-Some.is c.find_next-next.ensures.finds in
    record {
      own = ap (λ b. owns chunk b.sheet) c.find_next-next.ensures.looks ∙ c.requires.part.own chunk until.has.linked;
      some = omega (arith, c.requires.told);
      few = omega (arith, c.requires.told, c.requires.few);
    }

pub clear-requires : goal.clear-requires
clear-requires g c =
    let before = c.args.lists.now.book in let chunk = c.in-Some.chunk in let next = c.find_next-next.result in
    let until = subst (λ item. FindsNext (looks_of c.args.most before) c.args.cursor c.args.now item next.cursor before)
    c.in-Some.is c.find_next-next.ensures.finds in
    led_some (led_at c.args.index.now.table chunk) (linked_at before.sheet chunk) (c.requires.part.agrees.leads chunk)
    until.has.linked

pub end_expired-requires : goal.end_expired-requires
end_expired-requires g c =
    let before = c.args.lists.now.book in let chunk = c.in-Some.chunk in let next = c.find_next-next.result in
    let until = subst (λ item. FindsNext (looks_of c.args.most before) c.args.cursor c.args.now item next.cursor before)
    c.in-Some.is c.find_next-next.ensures.finds in
    record {
      own = ap (λ b. owns chunk b.sheet) c.read_row.ensures.looks
          ∙ (ap (λ b. owns chunk b.sheet) c.find_next-next.ensures.looks ∙ c.requires.part.own chunk until.has.linked);
    }

pub returns : goal.returns
returns g c =
    let seed = c.args.settings.seed in let kw = c.args.settings.key_words in let now = c.args.now in
    let before = c.args.lists.now in let found = c.find_next-next.new.lists in let seen = c.read_row.new.lists in
    let left = c.end_expired.new.self in let table = c.args.index.now.table in
    let chunk = c.in-Some.chunk in let next = c.find_next-next.result in let is = c.in-Some.is in
    let words = c.args.settings.key_words + c.args.settings.value_words in
    let until = subst (λ item. FindsNext (looks_of c.args.most before.book) c.args.cursor now item next.cursor before.book)
    is c.find_next-next.ensures.finds in
    let looks = looks_then before.book found.book seen.book c.find_next-next.ensures.looks c.read_row.ensures.looks in
    let rest = rest_then before found seen c.find_next-next.ensures.rest c.read_row.ensures.rest in
    let keeps = looks_keep before.book seen.book looks in
    let has = has_behind now chunk before.book seen.book looks until.has in
    let ended = found_expired chunk now c.end_expired.result seen left c.end_expired.ensures.ends has.linked has.expired in
    let did : EndsBehindLook chunk now before left = record {
      seen = seen.book;
      looks = looks;
      ends = subst (λ v. EndsFound chunk now v left) rest ended.1;
    } in
    let ends = behind_ends chunk now before left did in
    let long : length c.args.told.now - 1 ≡ words = omega (arith, c.requires.told) in
    let row : c.read_row.new.row ≡ row_of words before.book.sheet chunk =
    c.read_row.ensures.read ∙ (ap (λ n. row_of n found.book.sheet chunk) long
    ∙ row_same before.book.sheet found.book.sheet chunk words
    (λ i. (looks_keep before.book found.book c.find_next-next.ensures.looks).words i chunk)) in
    record {
      part = subst (IsPart seed kw left.book.sheet) (sym c.clear.ensures.table)
          (part_ended seed kw seen.book left.book table
          (part_kept seed kw before.book seen.book table c.requires.part keeps) chunk ended.1.ends.ends);
      first = c.clear.ensures.first
          ∙ first_kept c.args.index.now.first before.book left.book ends.class c.requires.first;
      finds = c.find_next-next.ensures.finds;
      ends = subst (λ item. IfSome item (λ chunk. EndsBehindLook chunk now before left)) (sym is) did;
      looks = subst (λ item. IfNone item (LooksOnly before.book left.book)) (sym is) tt;
      rest = subst (λ item. IfNone item (left ≡ record before { book = left.book })) (sym is) tt;
      index = subst (λ item. IfNone item (c.clear.new.self ≡ c.args.index.now)) (sym is) tt;
      told = subst (λ item. TellsWords true words item c.args.told.now c.read_row.new.row before.book.sheet) (sym is) row;
      within = cursor_kept next.cursor before.book left.book ends.class c.find_next-next.ensures.within;
    }

pub returns-in_default-clause-part : goal.returns-in_default-clause-part
returns-in_default-clause-part g c =
    part_kept c.args.settings.seed c.args.settings.key_words c.args.lists.now.book c.find_next-next.new.lists.book
    c.args.index.now.table c.requires.part
    (looks_keep c.args.lists.now.book c.find_next-next.new.lists.book c.find_next-next.ensures.looks)

pub returns-in_default-clause-first : goal.returns-in_default-clause-first
returns-in_default-clause-first g c =
    first_kept c.args.index.now.first c.args.lists.now.book c.find_next-next.new.lists.book
    (looks_keep c.args.lists.now.book c.find_next-next.new.lists.book c.find_next-next.ensures.looks).class
    c.requires.first

pub returns-in_default-clause-within : goal.returns-in_default-clause-within
returns-in_default-clause-within g c =
    cursor_kept c.find_next-next.result.cursor c.args.lists.now.book c.find_next-next.new.lists.book
    (looks_keep c.args.lists.now.book c.find_next-next.new.lists.book c.find_next-next.ensures.looks).class
    c.find_next-next.ensures.within
