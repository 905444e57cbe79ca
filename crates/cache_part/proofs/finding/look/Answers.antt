use Rattle.std.proofs.Common.{arith, true}
use Rattle.cache_part.proofs.KeyLemmas.{old_told_same}
use Rattle.cache_part.proofs.LookLemmas.{looks_keep, looks_then, rest_then}
use Rattle.cache_part.proofs.PartLemmas.{item_owned}
use Rattle.cache_part.proofs.finding.look.Goals as goal

pub find-found-requires : goal.find-found-requires
find-found-requires g c = record {
  part = c.requires.part;
  words = c.requires.words;
  few = omega (arith, c.requires.few);
}

pub read_value-requires : goal.read_value-requires
read_value-requires g c = record {
  own = item_owned c.args.settings.key_words c.args.key.now c.find-found.result.chunk c.args.lists.now.book
      c.find-found.new.lists.book c.requires.part.own c.find-found.ensures.looks c.find-found.ensures.item;
  told = c.requires.told;
  few = c.requires.few;
}

pub returns-clause-told : goal.returns-clause-told
returns-clause-told g c =
    let before = c.args.lists.now.book in let seen = c.find-found.new.lists.book in
    old_told_same true c.args.settings.key_words c.args.settings.value_words c.find-found.result.chunk c.args.told.now
    c.read_value.new.told before.sheet seen.sheet (looks_keep before seen c.find-found.ensures.looks).words
    c.read_value.ensures.told

pub returns-clause-looks : goal.returns-clause-looks
returns-clause-looks g c = looks_then c.args.lists.now.book c.find-found.new.lists.book c.read_value.new.lists.book
    c.find-found.ensures.looks c.read_value.ensures.looks

pub returns-clause-rest : goal.returns-clause-rest
returns-clause-rest g c = rest_then c.args.lists.now c.find-found.new.lists c.read_value.new.lists
    c.find-found.ensures.rest c.read_value.ensures.rest
