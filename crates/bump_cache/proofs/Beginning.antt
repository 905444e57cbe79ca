-- Each part's log begins with a new shelf.
use Rattle.std.proofs.Common.{◌≡◌, ℕ, ◌+◌, ◌<◌, List, [], Some, refl, sym, ap, ◌∙◌, subst, arith}
use native.Mathlib.Decide.{ℕ_discrete}
use Rattle.std.specs.List.{slice_get}
use mathlib.Core.List.{IsPrefix}
use Rattle.call_log.specs.Calls.{CallerView, MakesOne}
use Rattle.call_log.specs.Logs.{LogView, Notes, calls_of, state_of}
use Rattle.call_log.proofs.Beginnings.{prefix_self, prefix_trans}
use Rattle.cache_shelf.specs.Shelves.{ShelfView}
use Rattle.bump_cache.specs.Opening.{BeginsWith}
use Rattle.bump_cache.specs.States.{PartState, number_of}

-- before the first call there was none
none : (n : ℕ) → calls_of number_of n [] + 1 ≡ 1
unfolding calls_of
none n = refl

-- the part whose first call was noted begins with what that left
pub begins_new : (part : ℕ) (shelf : ShelfView) (log log' : LogView PartState) (me : CallerView PartState)
    → log.log ≡ [] → log.number ≡ part → Notes number_of (record { number = part; shelf = shelf }) log log'
    → me.first ≡ log'.first → me.log ≡ log'.log → BeginsWith part shelf me
begins_new part shelf log log' me empty number notes first all = record {
  seen = log'.log;
  prefix = subst (λ (ss : List PartState). IsPrefix log'.log ss) (sym all) (prefix_self log'.log);
  once = ap (λ n. calls_of number_of n log'.log) (sym number)
      ∙ (notes.once ∙ ap (λ ss. calls_of number_of log.number ss + 1) empty ∙ none log.number);
  left = ap (λ s. state_of number_of part s log'.log) first
      ∙ (ap (λ n. state_of number_of n log'.first log'.log) (sym (notes.number ∙ number)) ∙ notes.last);
}

-- and those that began before still do
pub begins_still : (part : ℕ) (shelf : ShelfView) (me me' : CallerView PartState) → MakesOne me me'
    → BeginsWith part shelf me → BeginsWith part shelf me'
begins_still part shelf me me' made begins = record {
  seen = begins.seen;
  prefix = prefix_trans begins.seen me.log me'.log begins.prefix made.seen;
  once = begins.once;
  left = ap (λ s. state_of number_of part s begins.seen) made.first ∙ begins.left;
}

-- one part more begins with its shelf
pub begins_more : (shelves : List ShelfView) (number : ℕ) (own : ShelfView) (me me' : CallerView PartState)
    → slice_get shelves number ≡ Some own → MakesOne me me' → BeginsWith number own me'
    → ((part : ℕ) (shelf : ShelfView) → part < number → slice_get shelves part ≡ Some shelf → BeginsWith part shelf me)
    → (part : ℕ) (shelf : ShelfView) → part < number + 1 → slice_get shelves part ≡ Some shelf
    → BeginsWith part shelf me'
begins_more shelves number own me me' at made begins before part shelf low had = by (ℕ_discrete part number)
  where
    by : Dec (part ≡ number) → BeginsWith part shelf me'
    by (yes same) =
        let both : Some own ≡ Some shelf = sym at ∙ (ap (slice_get shelves) (sym same) ∙ had) in
        let is : own ≡ shelf = cc both in
        subst (λ (n : ℕ). BeginsWith n shelf me') (sym same)
        (subst (λ (s : ShelfView). BeginsWith number s me') is begins)
    by (no unlike) =
        let under : part < number = omega (arith, low, unlike) in
        begins_still part shelf me me' made (before part shelf under had)
