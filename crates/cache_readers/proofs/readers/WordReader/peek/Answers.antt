use Rattle.std.proofs.Common.{rules, inl, inr}
use Rattle.cache_readers.proofs.LookLemmas.{found_glanced, found_held}
use Rattle.cache_readers.proofs.readers.WordReader.peek.Goals as goal

pub returns-in_default-sight-clause-found : goal.returns-in_default-sight-clause-found
returns-in_default-sight-clause-found g c = λ _. inr
    (found_glanced _ _ _ _ _ _ _ _ _ c.in-Some.sight c.in_default-sight.is c.in-Some.ensures.finds)

pub returns-clause-found : goal.returns-clause-found
returns-clause-found g c = λ _. inl (record {
  sees = record {
    hold = c.in-Some-sight.hold;
    found = c.in-Some-sight.field-0-1;
    takes = found_held _ _ _ _ _ _ _ _ _ c.in-Some.sight _ _ c.in-Some-sight.is c.in-Some.ensures.finds;
  };
  has_value = search rules;
})
