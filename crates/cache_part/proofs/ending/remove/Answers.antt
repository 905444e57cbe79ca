use Rattle.std.proofs.Common.{Some, IsSome, true, sym, ap, ◌∙◌, subst, arith}
use Rattle.bump_rules.specs.Lists.{all_without}
use Rattle.bump_steps.specs.Views.{owns}
use Rattle.cache_lists.specs.Segments.{SameSegments}
use Rattle.cache_lists.proofs.Standings.{kept_ends}
use Rattle.cache_part.specs.Keys.{IsItemOf}
use Rattle.cache_part.specs.Parts.{IsPart}
use Rattle.cache_part.proofs.KeyLemmas.{old_told_same}
use Rattle.cache_part.proofs.LookLemmas.{looks_keep, looks_then}
use Rattle.cache_part.proofs.PartLemmas.{class_then, part_looked, part_ended, linked_within}
use Rattle.cache_part.proofs.ending.remove.Goals as goal

pub find-found-requires : goal.find-found-requires
find-found-requires g c = record {
  part = c.requires.part;
  words = c.requires.words;
  few = omega (arith, c.requires.few);
}

pub read_value-requires : goal.read_value-requires
read_value-requires g c =
    let has = subst (λ item. IsItemOf c.args.settings.key_words c.args.key.now item c.args.lists.now.book.sheet) c.in-Some.is
    c.find-found.ensures.item in
    record {
      own = ap (λ b. owns c.in-Some.chunk b.sheet) c.find-found.ensures.looks
          ∙ c.requires.part.own c.in-Some.chunk has.linked;
      told = c.requires.told;
      few = c.requires.few;
    }

pub end_led-requires : goal.end_led-requires
end_led-requires g c =
    let before = c.args.lists.now.book in let seen = c.read_value.new.lists.book in let index = c.find-found.new.index in
    let seed = c.args.settings.seed in let kw = c.args.settings.key_words in let chunk = c.in-Some.chunk in
    let looks = looks_then before c.find-found.new.lists.book seen c.find-found.ensures.looks c.read_value.ensures.looks in
    let has = subst (λ item. IsItemOf kw c.args.key.now item before.sheet) c.in-Some.is c.find-found.ensures.item in
    let is = part_looked seed kw before seen c.args.index.now index c.requires.part looks c.find-found.ensures.index in
    let linked = subst IsSome (sym ((looks_keep before seen looks).linked chunk)) has.linked in
    record {
      within = linked_within seed kw seen seen index.table is chunk linked;
      own = is.own chunk linked;
      linked = linked;
      led = is.agrees.leads chunk;
    }

pub returns : goal.returns
returns g c =
    let before = c.args.lists.now.book in let found = c.find-found.new.lists.book in
    let seen = c.read_value.new.lists.book in let left = c.end_led.new.lists.book in
    let index = c.find-found.new.index in let seed = c.args.settings.seed in let kw = c.args.settings.key_words in
    let vw = c.args.settings.value_words in let chunk = c.in-Some.chunk in
    let looks = looks_then before found seen c.find-found.ensures.looks c.read_value.ensures.looks in
    let keeps = looks_keep before seen looks in
    let is = part_looked seed kw before seen c.args.index.now index c.requires.part looks c.find-found.ensures.index in
    let has = subst (λ item. IsItemOf kw c.args.key.now item before.sheet) c.in-Some.is c.find-found.ensures.item in
    record {
      part = subst (IsPart seed kw left.sheet) (sym c.end_led.ensures.table)
          (part_ended seed kw seen left index.table is chunk c.end_led.ensures.ends);
      class = class_then before seen left keeps.class c.end_led.ensures.ends.class;
      found = has;
      ends = kept_ends before seen left chunk keeps c.end_led.ensures.ends;
      others = subst (λ b. SameSegments (all_without chunk b.lists) left.lists) looks c.end_led.ensures.others;
      evictions = c.end_led.ensures.evictions ∙ (ap (λ v. v.evictions) c.read_value.ensures.rest
          ∙ ap (λ v. v.evictions) c.find-found.ensures.rest);
      told = old_told_same true kw vw (Some chunk) c.args.told.now c.read_value.new.told before.sheet found.sheet
          (looks_keep before found c.find-found.ensures.looks).words c.read_value.ensures.told;
      none = tt;
      looks = tt;
      rest = tt;
      index = tt;
      first = c.end_led.ensures.first ∙ ap (λ i. i.first) c.find-found.ensures.index;
    }

pub returns-in_default-clause-part : goal.returns-in_default-clause-part
returns-in_default-clause-part g c =
    part_looked c.args.settings.seed c.args.settings.key_words c.args.lists.now.book c.find-found.new.lists.book
    c.args.index.now c.find-found.new.index c.requires.part c.find-found.ensures.looks c.find-found.ensures.index

pub returns-in_default-clause-class : goal.returns-in_default-clause-class
returns-in_default-clause-class g c =
    (looks_keep c.args.lists.now.book c.find-found.new.lists.book c.find-found.ensures.looks).class
