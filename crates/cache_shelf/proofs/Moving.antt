-- What is said of a change of a part, where its items move from list to list before or behind it.
use Rattle.std.proofs.Common.{◌≡◌, ℕ, Bool, List, ◌++◌, length, take, drop, Option, Some, None, IsSome, refl, sym, ap, ◌∙◌, subst}
use Rattle.std.proofs.Math.Seq.{take-append_seam}
use Rattle.bump_class.specs.Lanes.{LaneView}
use Rattle.bump_steps.specs.Rule.{RowPredicate}
use Rattle.bump_steps.specs.Views.{last_word}
use Rattle.cache_lists.specs.Items.{KeepsItems}
use Rattle.cache_part.specs.Keys.{key_at}
use Rattle.cache_part.specs.declared.putting.NoChunk.{NoChunk}
use Rattle.cache_part.specs.declared.putting.PutItem.{PutItem}
use Rattle.cache_part.specs.Parts.{PartView, IsPart, IsUnknown, OnlyReads}
use Rattle.cache_part.specs.Putting.{FindsNoRoom, Puts, PutsItem, RefusesItem, Told, told_if}
use Rattle.cache_part.proofs.LookLemmas.{looks_keep, looks_then}
use Rattle.cache_shelf.specs.Entries.{Keeps, AllKept, EvictedIf, HadIf, OthersKept, key_of_evicted}
use Rattle.cache_shelf.specs.Putting.{PutsEntry, RefusesEntry}
use Rattle.cache_shelf.specs.Shelves.{IsLawful, ShelfView}
use Rattle.cache_shelf.specs.Turns.{DrainsInTurn, OnlyMoves, PutsInTurn, TakesTurn}
use Rattle.cache_shelf.proofs.Keeping.{IsAlike, alike_back, key_stays, moved_all, moved_keeps, moved_unknown, moved_under, obeys_stays, old_stays, row_stays, unknown_before}
use Rattle.cache_shelf.proofs.Putting.{puts_evicted, puts_had, puts_kept, puts_others, refuses_evicted, refuses_stay}

-- items stay linked with their words, and keys and values have as many words
pub record Moves (before after : PartView) : Type 0 where
  pub alike : IsAlike before after
  pub items : KeepsItems before.book after.book

-- loads do so
pub reads_move : (before after : PartView) → OnlyReads before after → Moves before after
reads_move before after reads = record {
  alike = record {
    key_words = ap (λ p. p.key_words) reads.rest;
    value_words = ap (λ p. p.value_words) reads.rest;
  };
  items = looks_keep before.book after.book reads.looks;
}

-- loads, and then more of them
pub reads_then : (before between after : PartView) → OnlyReads before between → OnlyReads between after
    → OnlyReads before after
reads_then before between after one other = record {
  looks = looks_then before.book between.book after.book one.looks other.looks;
  rest = other.rest ∙ ap (λ (p : PartView). record p { book = after.book }) one.rest;
}

-- and so do moves from list to list
pub only_move : (before after : PartView) → OnlyMoves before after → Moves before after
only_move before after moves = record {
  alike = record {
    key_words = ap (λ p. p.key_words) moves.rest;
    value_words = ap (λ p. p.value_words) moves.rest;
  };
  items = moves.items;
}

-- behind a change
module _ (before between after : PartView) (moves : Moves between after) where
  pub others_then : (key : List ℕ) (out : Option (List ℕ)) → OthersKept key out before between
      → OthersKept key out before after
  others_then key out others other value expires differs not_out =
      let one = others other value expires differs not_out in
      let two = moved_all between after moves.alike moves.items other value expires (λ e. absurd (cc e)) in
      (λ kept. two.0 (one.0 kept), λ kept. one.1 (two.1 kept))

  pub all_then : (out : Option (List ℕ)) → AllKept out before between → AllKept out before after
  all_then out all other value expires not_out =
      let one = all other value expires not_out in
      let two = moved_all between after moves.alike moves.items other value expires (λ e. absurd (cc e)) in
      (λ kept. two.0 (one.0 kept), λ kept. one.1 (two.1 kept))

  pub evicted_then : (tells : Bool) (law : RowPredicate) (evicted : Option ℕ) (from to : List ℕ)
      → EvictedIf tells law evicted from to before between → EvictedIf tells law evicted from to before after
  evicted_then tells law None from to same = same
  evicted_then tells law (Some c) from to did = record {
    linked = did.linked;
    obeys = did.obeys;
    told = did.told;
    unknown = moved_unknown between after moves.alike moves.items (key_at before.key_words before.book.sheet c) did.unknown;
  }

-- before a change
module _ (before between after : PartView) (moves : Moves before between) where
  back : (c i : ℕ) → last_word i before.book.sheet c ≡ last_word i between.book.sheet c
  back c i = sym (moves.items.words i c)

  key_of : (c : ℕ) → key_at between.key_words between.book.sheet c ≡ key_at before.key_words before.book.sheet c
  key_of c = key_stays before between c moves.alike (λ i. moves.items.words i c)

  -- the key of what is evicted
  pub out_before : (evicted : Option ℕ) → key_of_evicted evicted between ≡ key_of_evicted evicted before
  out_before None = refl
  out_before (Some c) = ap Some (key_of c)

  pub others_before : (key : List ℕ) (out : Option (List ℕ)) → OthersKept key out between after
      → OthersKept key out before after
  others_before key out others other value expires differs not_out =
      let one = moved_all before between moves.alike moves.items other value expires (λ e. absurd (cc e)) in
      let two = others other value expires differs not_out in
      (λ kept. two.0 (one.0 kept), λ kept. one.1 (two.1 kept))

  pub all_before : (out : Option (List ℕ)) → AllKept out between after → AllKept out before after
  all_before out all other value expires not_out =
      let one = moved_all before between moves.alike moves.items other value expires (λ e. absurd (cc e)) in
      let two = all other value expires not_out in
      (λ kept. two.0 (one.0 kept), λ kept. one.1 (two.1 kept))

  pub had_before : (tells : Bool) (law : RowPredicate) (key : List ℕ) (told : Option ℕ) (from to : List ℕ)
      → HadIf tells law key told from to between → HadIf tells law key told from to before
  had_before tells law key None from to (unknown, same) =
      (unknown_before before between moves.alike moves.items key unknown, same)
  had_before tells law key (Some c) from to had = record {
    under = moved_under between before (alike_back before between moves.alike) items_back key c had.under;
    obeys = obeys_stays law between before c (back c) had.obeys;
    told = had.told ∙ ap (λ words. told_if tells words from) (old_stays before between c moves.alike (λ i. moves.items.words i c));
  }
    where
      items_back : KeepsItems between.book before.book
      items_back = record {
        class = record { first = sym moves.items.class.first; count = sym moves.items.class.count };
        linked = λ d. sym (moves.items.linked d);
        words = λ i d. sym (moves.items.words i d);
      }

  pub evicted_before : (tells : Bool) (law : RowPredicate) (evicted : Option ℕ) (from to : List ℕ)
      → EvictedIf tells law evicted from to between after → EvictedIf tells law evicted from to before after
  evicted_before tells law None from to same = same
  evicted_before tells law (Some c) from to did = record {
    linked = subst IsSome (moves.items.linked c) did.linked;
    obeys = obeys_stays law between before c (back c) did.obeys;
    told = did.told ∙ ap (λ row. told_if tells row from) (row_stays before between c moves.alike (λ i. moves.items.words i c));
    unknown = subst (λ key. IsUnknown key after) (key_of c) did.unknown;
  }

-- what was done between bumps that were applied and the turn to balance, done to the shelf
module _ {before drained mid after : PartView} (moves : OnlyMoves before drained) (turn : OnlyMoves mid after) where
  early : Moves before drained
  early = only_move before drained moves

  late : Moves mid after
  late = only_move mid after turn

  pub kept_in_turn : (row : List ℕ) (expires : ℕ)
      → Keeps (take drained.key_words row) (drop drained.key_words row) expires mid
      → Keeps (take before.key_words row) (drop before.key_words row) expires after
  kept_in_turn row expires kept = subst (λ n. Keeps (take n row) (drop n row) expires after) early.alike.key_words
      (moved_keeps mid after late.alike late.items _ _ expires kept)

  pub had_in_turn : (tells : Bool) (law : RowPredicate) (row : List ℕ) (told : Option ℕ) (from to : List ℕ)
      → HadIf tells law (take drained.key_words row) told from to drained → HadIf tells law (take before.key_words row) told from to before
  had_in_turn tells law row told from to had = subst (λ n. HadIf tells law (take n row) told from to before) early.alike.key_words
      (had_before before drained mid early tells law _ told from to had)

  pub evicted_in_turn : (tells : Bool) (law : RowPredicate) (evicted : Option ℕ) (from to : List ℕ)
      → EvictedIf tells law evicted from to drained mid → EvictedIf tells law evicted from to before after
  evicted_in_turn tells law evicted from to told = evicted_before before drained after early tells law evicted from to
      (evicted_then drained mid after late tells law evicted from to told)

  pub others_in_turn : (row : List ℕ) (evicted : Option ℕ)
      → OthersKept (take drained.key_words row) (key_of_evicted evicted drained) drained mid
      → OthersKept (take before.key_words row) (key_of_evicted evicted before) before after
  others_in_turn row evicted others =
      subst (λ n. OthersKept (take n row) (key_of_evicted evicted before) before after) early.alike.key_words
      (subst (λ out. OthersKept (take drained.key_words row) out before after)
      (out_before before drained after early evicted)
      (others_before before drained after early _ _ (others_then drained mid after late _ _ others)))

  pub all_in_turn : (evicted : Option ℕ) → AllKept (key_of_evicted evicted drained) drained mid
      → AllKept (key_of_evicted evicted before) before after
  all_in_turn evicted all =
      subst (λ out. AllKept out before after) (out_before before drained after early evicted)
      (all_before before drained after early _ (all_then drained mid after late _ all))

-- The bumps, what was done then, and the turn, one after the other. The lanes are a slice of the vector that they lie in,
-- which they fill.
pub in_turn : (Does : ℕ → PartView → List LaneView → PartView → List LaneView → Type 0) (now : ℕ)
    (inside shelf : ShelfView) (drained mid : PartView) (from between to : List LaneView) (len : ℕ) (after : ShelfView)
    → inside ≡ shelf → from ≡ inside.lanes → length between ≡ length from → length to ≡ length between
    → length from ≡ len → after.lanes ≡ take len (to ++ drop (length to) inside.lanes)
    → DrainsInTurn inside.puts now inside.part from drained between → OnlyMoves shelf.part drained
    → Does inside.limits.most drained between mid to
    → TakesTurn inside.limits inside.puts now mid after.part after.puts → PutsInTurn Does now shelf after
in_turn Does now inside shelf drained mid from between to len after same all even again long left drains moves does turn =
    record {
      drained = drained;
      between = between;
      drains = subst (λ v. DrainsInTurn v.puts now v.part v.lanes drained between) same
          (subst (λ l. DrainsInTurn inside.puts now inside.part l drained between) all drains);
      moves = moves;
      did = mid;
      does = subst (λ v. Does v.limits.most drained between mid after.lanes) same
          (subst (λ l. Does inside.limits.most drained between mid l) (sym (left ∙ whole)) does);
      turn = subst (λ v. TakesTurn v.limits v.puts now mid after.part after.puts) same turn;
    }
  where
    whole : take len (to ++ drop (length to) inside.lanes) ≡ to
    whole = ap (λ n. take n (to ++ drop (length to) inside.lanes)) (sym (again ∙ (even ∙ long)))
        ∙ take-append_seam to (drop (length to) inside.lanes)

-- what a put of the part came to, between both, is what it came to for the shelf
module _ (tells : Bool) (law : RowPredicate) (row : List ℕ) (now most : ℕ) (was told : Told) (before after : ShelfView)
    (drained mid : PartView) (from to : List LaneView) (moves : OnlyMoves before.part drained)
    (turn : OnlyMoves mid after.part) (alike : IsAlike drained mid) (lawful : IsLawful law drained)
    (is : IsPart drained.seed drained.key_words drained.book.sheet drained.index) where
  pub puts_entry : (expires : ℕ) (did : PutItem) → PutsItem tells did row expires now most was told drained from mid to
      → PutsInTurn (Puts did.old did.evicted row expires now did.chunk) now before after
      → PutsEntry tells law did row expires now was told before after
  puts_entry expires did puts in_its_turn = record {
    kept = kept_in_turn moves turn row expires
        (puts_kept tells law row now most was told drained mid from to alike lawful is expires did puts);
    had = had_in_turn moves turn tells law row did.old was.old told.old
        (puts_had tells law row now most was told drained mid from to alike lawful is expires did puts);
    evicted = evicted_in_turn moves turn tells law did.evicted was.evicted told.evicted
        (puts_evicted tells law row now most was told drained mid from to alike lawful is expires did puts);
    others = others_in_turn moves turn row did.evicted
        (puts_others tells law row now most was told drained mid from to alike lawful is expires did puts);
    puts = in_its_turn;
  }

  pub refuses_entry : (why : NoChunk) → RefusesItem tells why row now most was told drained from mid to
      → PutsInTurn (FindsNoRoom (take before.part.key_words row) why.evicted now) now before after
      → RefusesEntry tells law why row now was told before after
  refuses_entry why refuses in_its_turn = record {
    had = refuses.had;
    evicted = evicted_in_turn moves turn tells law why.evicted was.evicted told.evicted
        (refuses_evicted tells law row now most was told drained mid from to alike lawful is why refuses);
    stay = all_in_turn moves turn why.evicted
        (refuses_stay tells law row now most was told drained mid from to alike lawful is why refuses);
    refuses = in_its_turn;
  }
