-- A look and then a put, told of the state before the look; and what each call's answer tells.
use Rattle.std.proofs.Common.{◌≡◌, ◌≢◌, ℕ, Bool, false, List, Option, Some, None, IfSome, is_some, option_map, refl, sym, ap, ◌∙◌, subst}
use Rattle.bump_class.specs.Lanes.{LaneView}
use Rattle.cache_lists.specs.Counts.{CountedView}
use Rattle.cache_part.specs.Parts.{PartView, IsItem}
use Rattle.cache_part.specs.Putting.{EvictsWhereFull, FindsNoRoom}
use Rattle.cache_shelf.specs.Entries.{AllKept, Keeps, OthersKept, ReadsShelf}
use Rattle.cache_shelf.specs.Shelves.{ShelfView}
use Rattle.cache_shelf.specs.Turns.{PutsInTurn}
use Rattle.cache_shelf.proofs.Keeping.{moved_keeps, moved_kept}
use Rattle.cache_shelf.proofs.Moving.{Moves, all_before, only_move, others_before, reads_move}
use Rattle.bump_cache.specs.declared.answers.Evicted.{Evicted}
use Rattle.bump_cache.specs.declared.answers.NoRoom.{NoRoom}
use Rattle.bump_cache.specs.declared.answers.Put.{Put}
use Rattle.bump_cache.specs.Changing.{HadSome, PutsAnew, PutsNew, RefusesAnew, RefusesNew, Replaces}
use Rattle.bump_cache.specs.Putting.{HadValue, PutsRow, PutsValue, RefusesRow, RefusesValue, WasEvicted, evicted_key}

-- a chunk was evicted only where the key had no item
none_full : (items most now : ℕ) (old evicted : Option ℕ) (before : CountedView) (from : List LaneView)
    (after : CountedView) (to : List LaneView) → EvictsWhereFull items most now old evicted before from after to
    → old ≢ None → is_some evicted ≡ false
none_full items most now old None before from after to full there = refl
none_full items most now old (Some chunk) before from after to full there = absurd (there full.0)

-- the key has an item where it has something
has_item : (key : List ℕ) (now : ℕ) (part : PartView) (old : Option ℕ) → IsItem key old part → HadSome key now part
    → old ≢ None
has_item key now part old item had none = subst (λ o. IsItem key o part) none item had.1.2.chunk had.1.2.under

-- so a put there evicts none
pub none_put : (key value : List ℕ) (expires now : ℕ) (has_evicted : Bool) (before after : ShelfView)
    → PutsRow key value expires now has_evicted before after → HadSome key now before.part → has_evicted ≡ false
none_put key value expires now has_evicted before after puts had = sym puts.told_evicted
    ∙ none_full _ _ now puts.old puts.evicted _ _ _ _ puts.puts.does.room.evicts
    (has_item key now before.part puts.old puts.item had)

-- and so does one that is refused
pub none_refused : (key : List ℕ) (now : ℕ) (has_evicted : Bool) (before after : ShelfView)
    → RefusesRow key now has_evicted before after → HadSome key now before.part → has_evicted ≡ false
none_refused key now has_evicted before after row had = sym row.told_evicted
    ∙ none_full _ _ now refused.old row.evicted _ _ _ _ refused.none.room.evicts
    (has_item key now turn.drained refused.old refused.item (had.0, (had.1.0, had.1.1, kept)))
  where
    turn : PutsInTurn (FindsNoRoom key row.evicted now) now before after
    turn = row.refuses

    refused : FindsNoRoom key row.evicted now before.limits.most turn.drained turn.between turn.did after.lanes
    refused = turn.does

    kept : Keeps key had.0 had.1.0 turn.drained
    kept = let moves = only_move before.part turn.drained turn.moves in
        moved_keeps before.part turn.drained moves.alike moves.items key had.0 had.1.0 had.1.2

-- that nothing is told is that none is
pub none_told : {A : Type 0} (told : Option A) → is_some told ≡ false → told ≡ None
none_told None none = refl
none_told (Some it) none = absurd (cc none)

module _ {K V : Type 0} (key_words : K → List ℕ) (value_words : V → List ℕ) (key : K) (now : ℕ)
    (before between after : ShelfView) (looks : ReadsShelf before between) where
  moves : Moves before.part between.part
  moves = reads_move before.part between.part looks.part

  kept_back : (other value : List ℕ) (expires : ℕ) → Keeps other value expires between.part
      → Keeps other value expires before.part
  kept_back other value expires kept =
      moved_kept before.part between.part moves.alike moves.items other value expires kept

  kept_on : (other value : List ℕ) (expires : ℕ) → Keeps other value expires before.part
      → Keeps other value expires between.part
  kept_on other value expires kept =
      moved_keeps before.part between.part moves.alike moves.items other value expires kept

  -- what the key had
  had_back : (other : List ℕ) (told : Option (List ℕ)) → HadValue other told now between.part
      → HadValue other told now before.part
  had_back other None had = λ value expires kept. had value expires (kept_on other value expires kept)
  had_back other (Some value) had = (had.0, had.1, kept_back other value had.0 had.2)

  had_on : (other : List ℕ) (told : Option (List ℕ)) → HadValue other told now before.part
      → HadValue other told now between.part
  had_on other None had = λ value expires kept. had value expires (kept_back other value expires kept)
  had_on other (Some value) had = (had.0, had.1, kept_on other value had.0 had.2)

  some_on : HadSome (key_words key) now before.part → HadSome (key_words key) now between.part
  some_on had = (had.0, had_on (key_words key) (Some had.0) had.1)

  -- what was evicted
  was_back : (told : Option (Evicted K V))
      → IfSome told (λ it. WasEvicted key_words value_words it now between.part after.part)
      → IfSome told (λ it. WasEvicted key_words value_words it now before.part after.part)
  was_back None was = tt
  was_back (Some it) was = record {
    expires = was.expires;
    kept = kept_back (key_words it.key) (value_words it.value) was.expires was.kept;
    cause = was.cause;
    gone = was.gone;
  }

  -- a put where the key had nothing
  pub puts_new : (value : V) (expires : ℕ) (did : Put K V) → HadValue (key_words key) None now before.part
      → PutsValue key_words value_words key value expires now did between after
      → PutsNew key_words value_words (key_words key) (value_words value) expires now did.evicted before after
  puts_new value expires did free puts = record {
    free = free;
    kept = puts.kept;
    told = was_back did.evicted puts.evicted;
    others = others_before before.part between.part after.part moves (key_words key)
        (evicted_key key_words did.evicted) puts.others;
    puts = record { between = between; looks = looks; does = puts.puts };
  }

  -- one that was refused
  pub refuses_new : (why : NoRoom K V) → HadValue (key_words key) None now before.part
      → RefusesValue key_words value_words key now why between after
      → RefusesNew key_words value_words (key_words key) now why before after
  refuses_new why free refuses = record {
    free = free;
    told = was_back why.evicted refuses.evicted;
    stay = all_before before.part between.part after.part moves (evicted_key key_words why.evicted) refuses.stay;
    refuses = record { between = between; looks = looks; does = refuses.refuses };
  }

  -- a put where it had something
  pub puts_anew : (old : List ℕ) (value : V) (expires : ℕ) (did : Put K V)
      → HadValue (key_words key) (Some old) now before.part
      → PutsValue key_words value_words key value expires now did between after
      → PutsAnew (key_words key) old (value_words value) expires now before after
  puts_anew old value expires did had puts = record {
    had = had;
    kept = puts.kept;
    others = others_before before.part between.part after.part moves (key_words key) None
        (subst (λ told. OthersKept (key_words key) (evicted_key key_words told) between.part after.part) none puts.others);
    puts = record {
      between = between;
      looks = looks;
      does = subst (λ has. PutsRow (key_words key) (value_words value) expires now has between after)
          (ap is_some none) puts.puts;
    };
  }
    where
      none : did.evicted ≡ None
      none = none_told did.evicted (none_put (key_words key) (value_words value) expires now (is_some did.evicted)
          between after puts.puts (some_on (old, had)))

  -- nothing was evicted for it
  pub none_evicted : (old : List ℕ) (value : V) (expires : ℕ) (did : Put K V)
      → HadValue (key_words key) (Some old) now before.part
      → PutsValue key_words value_words key value expires now did between after → did.evicted ≡ None
  none_evicted old value expires did had puts = none_told did.evicted
      (none_put (key_words key) (value_words value) expires now (is_some did.evicted) between after puts.puts
      (some_on (old, had)))

  -- and what the key had is told
  pub replaces : (old : List ℕ) (value : V) (expires : ℕ) (did : Put K V)
      → HadValue (key_words key) (Some old) now before.part
      → PutsValue key_words value_words key value expires now did between after
      → Replaces value_words (key_words key) (value_words value) expires now did before after
  replaces old value expires did had puts = by did.old refl puts.old
    where
      by : (told : Option V) → did.old ≡ told
          → HadValue (key_words key) (option_map value_words told) now between.part
          → Replaces value_words (key_words key) (value_words value) expires now did before after
      by None is none =
          let on = had_on (key_words key) (Some old) had in absurd (cc (sym on.1 ∙ none old on.0 on.2))
      by (Some v) is some = record {
        old = v;
        told = is;
        none = none_evicted old value expires did had puts;
        puts = puts_anew (value_words v) value expires did
            (had_back (key_words key) (Some (value_words v)) some) puts;
      }

  -- one that was refused
  pub refuses_anew : (why : NoRoom K V) → HadSome (key_words key) now before.part
      → RefusesValue key_words value_words key now why between after
      → RefusesAnew (key_words key) now why before after
  refuses_anew why had refuses = record {
    had = had;
    none = none;
    stay = all_before before.part between.part after.part moves None
        (subst (λ told. AllKept (evicted_key key_words told) between.part after.part) none refuses.stay);
    refuses = record {
      between = between;
      looks = looks;
      does = subst (λ has. RefusesRow (key_words key) now has between after) (ap is_some none) refuses.refuses;
    };
  }
    where
      none : why.evicted ≡ None
      none = none_told why.evicted (none_refused (key_words key) now (is_some why.evicted) between after
          refuses.refuses (some_on had))
