-- What a shelf did with a row, told by whether another item was evicted.
use Rattle.std.proofs.Common.{◌≡◌, ℕ, Bool, List, take, drop, Option, None, Some, IfSome, is_some, option_map, refl, sym, ◌∙◌, subst}
use Rattle.std.proofs.lemmas.List.{take-append-drop}
use Rattle.bump_steps.specs.Rule.{RowPredicate}
use Rattle.bump_steps.specs.Views.{last_label}
use Rattle.cache_part.specs.Keys.{value_at}
use Rattle.cache_part.specs.Parts.{PartView}
use Rattle.cache_part.specs.declared.putting.NoChunk.{NoChunk}
use Rattle.cache_part.specs.declared.putting.PutItem.{PutItem}
use Rattle.cache_part.specs.Putting.{Puts, Told}
use Rattle.cache_shelf.specs.Entries.{EvictedIf, key_of_evicted}
use Rattle.cache_shelf.specs.Putting.{PutsEntry, RefusesEntry}
use Rattle.cache_shelf.specs.Shelves.{ShelfView}
use Rattle.cache_shelf.specs.Turns.{PutsInTurn}
use Rattle.bump_cache.specs.Setting.{LosesKey, PutsWords, RefusesWords}
use Rattle.bump_cache.proofs.Telling.{had_item}

-- what is made of something is something
some_mapped : {A B : Type 0} (f : A → B) (o : Option A) → is_some (option_map f o) ≡ is_some o
some_mapped f None = refl
some_mapped f (Some a) = refl

-- what was evicted was kept under its key, and nothing is there now
loses_key : (tells : Bool) (law : RowPredicate) (evicted : Option ℕ) (old row : List ℕ) (before after : PartView)
    → EvictedIf tells law evicted old row before after
    → IfSome (key_of_evicted evicted before) (λ it. LosesKey it before after)
loses_key tells law None old row before after is = tt
loses_key tells law (Some c) old row before after is = record {
  value = value_at before.key_words before.value_words before.book.sheet c;
  expires = last_label before.book.sheet c;
  kept = record { chunk = c; under = record { linked = is.linked; key = refl }; value = refl; label = refl };
  gone = is.unknown;
}

-- a row was put: its first words are the key, and the others the value
pub puts_words : (tells : Bool) (law : RowPredicate) (did : PutItem) (row : List ℕ) (expires now : ℕ) (was words : Told) (told : Bool)
    (before after : ShelfView) → PutsEntry tells law did row expires now was words before after
    → told ≡ is_some did.evicted
    → PutsWords (take before.part.key_words row) (drop before.part.key_words row) expires now told before after
puts_words tells law did row expires now was words told before after puts is = record {
  kept = puts.kept;
  lost = key_of_evicted did.evicted before.part;
  told = some_mapped _ did.evicted ∙ sym is;
  loses = loses_key tells law did.evicted was.evicted words.evicted before.part after.part puts.evicted;
  others = puts.others;
  puts = record {
    old = did.old;
    item = had_item tells law (take before.part.key_words row) did.old was.old words.old before.part puts.had;
    evicted = did.evicted;
    told_evicted = sym is;
    chunk = did.chunk;
    puts = subst (λ (r : List ℕ). PutsInTurn (Puts did.old did.evicted r expires now did.chunk) now before after)
        (sym (take-append-drop before.part.key_words row)) puts.puts;
  };
}

-- no room was found for it
pub refuses_words : (tells : Bool) (law : RowPredicate) (why : NoChunk) (row : List ℕ) (now : ℕ) (was words : Told) (told : Bool)
    (before after : ShelfView) → RefusesEntry tells law why row now was words before after → told ≡ is_some why.evicted
    → RefusesWords (take before.part.key_words row) now told before after
refuses_words tells law why row now was words told before after refuses is = record {
  lost = key_of_evicted why.evicted before.part;
  told = some_mapped _ why.evicted ∙ sym is;
  loses = loses_key tells law why.evicted was.evicted words.evicted before.part after.part refuses.evicted;
  stay = refuses.stay;
  refuses = record { evicted = why.evicted; told_evicted = sym is; refuses = refuses.refuses };
}
