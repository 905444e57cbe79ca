-- What a put of a part leaves of what it keeps.
use Rattle.std.proofs.Common.{◌≡◌, ◌≢◌, ◌⊎◌, inl, inr, ℕ, Bool, true, false, ◌==◌, List, take, drop, Option, Some, None, IsSome, IfSome, Result, Ok, Err, IfOk, IfErr, refl, sym, ap, ap₂, ◌∙◌, subst, eqb-true, eq-eqb}
use Rattle.bump_class.specs.Lanes.{LaneView}
use Rattle.bump_class.specs.Links.{MayHave}
use Rattle.bump_steps.specs.Rule.{RowPredicate}
use Rattle.bump_steps.specs.Views.{last_word, last_words}
use Rattle.cache_lists.specs.Items.{HasRow}
use Rattle.cache_lists.specs.Linked.{linked_at}
use Rattle.cache_part.specs.declared.putting.NoChunk.{NoChunk}
use Rattle.cache_part.specs.declared.putting.PutItem.{PutItem}
use Rattle.cache_part.specs.Keys.{key_at, value_at}
use Rattle.cache_part.specs.Parts.{PartView, IsItem, IsPart, IsUnder, IsUnknown}
use Rattle.cache_part.specs.Putting.{IsFresh, OthersStay, PutsItem, RefusesItem, TellsOld, TellsRow, Told, WasAnother}
use Rattle.cache_shelf.specs.Entries.{Keeps, AllKept, EvictedIf, HadIf, OthersKept, key_of_evicted}
use Rattle.cache_shelf.specs.Shelves.{IsLawful, Obeys}
use Rattle.cache_shelf.proofs.Keeping.{IsAlike, alike_back, key_stays, keeps_stays, not_linked, obeys_stays}

-- whether it is this chunk
is_this : (told : Option ℕ) (c : ℕ) → (told ≡ Some c) ⊎ (told ≢ Some c)
is_this None c = inr (λ e. absurd (cc e))
is_this (Some chunk) c = by (chunk == c) refl
  where
    by : (b : Bool) → (chunk == c) ≡ b → (Some chunk ≡ Some c) ⊎ (Some chunk ≢ Some c)
    by true e = inl (ap Some (eqb-true chunk c e))
    by false e = inr (λ same. let one : chunk ≡ c = cc in absurd (cc (sym e ∙ eq-eqb chunk c one)))

-- an item is put at this chunk under its key, in place of that of `old`, behind which that of `evicted` is gone
module _ (key : List ℕ) (before after : PartView) (chunk : ℕ) (old evicted : Option ℕ) (alike : IsAlike before after)
    (others : OthersStay (Some chunk) old evicted before.book after.book) (under : IsUnder key chunk after)
    (was_old : IsItem key old before) (ended : IfSome old (λ c. linked_at after.book.sheet c ≡ None))
    (was : WasAnother old evicted before) (gone : IfSome evicted (λ c. c ≢ chunk → linked_at after.book.sheet c ≡ None))
    (fresh : IsFresh chunk evicted before) where
  -- the old one isn't linked behind it
  not_old : (c : ℕ) → IsSome (linked_at after.book.sheet c) → old ≢ Some c
  not_old c some same =
      not_linked (linked_at after.book.sheet c) (subst (λ o. IfSome o (λ d. linked_at after.book.sheet d ≡ None)) same ended) some

  -- and not the evicted one, but where the new one is at its chunk
  not_evicted : (c : ℕ) → Some chunk ≢ Some c → IsSome (linked_at after.book.sheet c) → evicted ≢ Some c
  not_evicted c new some same = not_linked (linked_at after.book.sheet c)
      (subst (λ e. IfSome e (λ d. d ≢ chunk → linked_at after.book.sheet d ≡ None)) same gone (λ e. new (ap Some (sym e)))) some

  -- each other one was linked before, with the same words
  was_linked : (c : ℕ) → Some chunk ≢ Some c → IsSome (linked_at after.book.sheet c)
      → linked_at after.book.sheet c ≡ linked_at before.book.sheet c
  was_linked c new some = others.linked c new (not_old c some) (not_evicted c new some)

  -- under each other key stays what was there
  pub put_others : OthersKept key (key_of_evicted evicted before) before after
  put_others other value expires differs not_out = (forth, back)
    where
      forth : Keeps other value expires before → Keeps other value expires after
      forth kept = keeps_stays other value expires before after alike kept (others.linked kept.chunk new old_one out)
          (λ i. others.words i kept.chunk new)
        where
          out : evicted ≢ Some kept.chunk
          out same = not_out (ap (λ e. key_of_evicted e before) same ∙ ap Some kept.under.key)

          old_one : old ≢ Some kept.chunk
          old_one same = differs (sym kept.under.key ∙ (subst (λ o. IsItem key o before) same was_old).key)

          new : Some chunk ≢ Some kept.chunk
          new same = not_linked (linked_at before.book.sheet kept.chunk)
              (subst (λ o. IfSome o (λ c. linked_at before.book.sheet c ≡ None)) same (fresh (λ e. out (e ∙ same))))
              kept.under.linked

      back : Keeps other value expires after → Keeps other value expires before
      back kept = keeps_stays other value expires after before (alike_back before after alike) kept
          (sym (was_linked kept.chunk new kept.under.linked)) (λ i. sym (others.words i kept.chunk new))
        where
          new : Some chunk ≢ Some kept.chunk
          new same = differs (sym kept.under.key
              ∙ subst (λ o. IfSome o (λ c. key_at after.key_words after.book.sheet c ≡ key)) same under.key)

  -- nothing is kept under the key of the evicted one
  unknown : (c : ℕ) → evicted ≡ Some c → IsPart before.seed before.key_words before.book.sheet before.index
      → IsUnknown (key_at before.key_words before.book.sheet c) after
  unknown c out is d has = by (is_this (Some chunk) d)
    where
      there : IsSome (linked_at before.book.sheet c) × (old ≡ None)
      there = subst (λ e. WasAnother old e before) out was

      by : (Some chunk ≡ Some d) ⊎ (Some chunk ≢ Some d) → ⊥
      by (inl same) = subst (λ o. IsItem key o before) there.1 was_old c (record {
        linked = there.0;
        key = sym has.key
            ∙ subst (λ o. IfSome o (λ e. key_at after.key_words after.book.sheet e ≡ key)) same under.key;
      })
      by (inr new) =
          let key_before : key_at before.key_words before.book.sheet d ≡ key_at before.key_words before.book.sheet c =
          sym (key_stays before after d alike (λ i. others.words i d new)) ∙ has.key in
          let linked : IsSome (linked_at before.book.sheet d) = subst IsSome (was_linked d new has.linked) has.linked in
          not_evicted d new has.linked (out ∙ ap Some (sym (is.agrees.once d c linked there.0 key_before)))

  -- what is told of the evicted one
  pub put_evicted : (tells : Bool) (law : RowPredicate) (from to : List ℕ) → IsLawful law before
      → IsPart before.seed before.key_words before.book.sheet before.index → TellsRow tells evicted from to before
      → EvictedIf tells law evicted from to before after
  put_evicted tells law from to lawful is told = by evicted refl told
    where
      by : (e : Option ℕ) → evicted ≡ e → TellsRow tells e from to before → EvictedIf tells law e from to before after
      by None out same = same
      by (Some c) out row =
          let there : IsSome (linked_at before.book.sheet c) × (old ≡ None) =
          subst (λ e. WasAnother old e before) out was in
          record {
            linked = there.0;
            obeys = lawful c there.0;
            told = row;
            unknown = unknown c out is;
          }

  -- the law holds of each item
  pub put_lawful : (law : RowPredicate) (row : List ℕ) (expires : ℕ) → IsLawful law before → MayHave law expires row
      → HasRow chunk expires row after.book → IsLawful law after
  put_lawful law row expires lawful may has c some = by (is_this (Some chunk) c)
    where
      by : (Some chunk ≡ Some c) ⊎ (Some chunk ≢ Some c) → Obeys law after c
      by (inl same) = subst (λ o. IfSome o (Obeys law after)) same (may (last_words after.book.sheet chunk) has)
      by (inr new) = obeys_stays law before after c (λ i. others.words i c new)
          (lawful c (subst IsSome (was_linked c new some) some))

-- no item is put, and that of `evicted` is gone
module _ (before after : PartView) (evicted : Option ℕ) (alike : IsAlike before after)
    (others : OthersStay None None evicted before.book after.book) (was : IfSome evicted (λ c. IsSome (linked_at before.book.sheet c)))
    (gone : IfSome evicted (λ c. linked_at after.book.sheet c ≡ None)) where
  -- the evicted one isn't linked
  out_of : (c : ℕ) → IsSome (linked_at after.book.sheet c) → evicted ≢ Some c
  out_of c some same = not_linked (linked_at after.book.sheet c) (subst (λ e. IfSome e (λ d. linked_at after.book.sheet d ≡ None)) same gone) some

  still : (c : ℕ) → evicted ≢ Some c → linked_at after.book.sheet c ≡ linked_at before.book.sheet c
  still c out = others.linked c (λ e. absurd (cc e)) (λ e. absurd (cc e)) out

  words : (c i : ℕ) → last_word i after.book.sheet c ≡ last_word i before.book.sheet c
  words c i = others.words i c (λ e. absurd (cc e))

  -- under each other key stays what was there
  pub refused_others : AllKept (key_of_evicted evicted before) before after
  refused_others other value expires not_out = (forth, back)
    where
      forth : Keeps other value expires before → Keeps other value expires after
      forth kept = keeps_stays other value expires before after alike kept (still kept.chunk (stays kept))
          (words kept.chunk)
        where
          stays : (kept : Keeps other value expires before) → evicted ≢ Some kept.chunk
          stays kept same = not_out (ap (λ e. key_of_evicted e before) same ∙ ap Some kept.under.key)

      back : Keeps other value expires after → Keeps other value expires before
      back kept = keeps_stays other value expires after before (alike_back before after alike) kept
          (sym (still kept.chunk (out_of kept.chunk kept.under.linked))) (λ i. sym (words kept.chunk i))

  -- what is told of the evicted one
  pub refused_evicted : (tells : Bool) (law : RowPredicate) (from to : List ℕ) → IsLawful law before
      → IsPart before.seed before.key_words before.book.sheet before.index → TellsRow tells evicted from to before
      → EvictedIf tells law evicted from to before after
  refused_evicted tells law from to lawful is told = by evicted refl told
    where
      by : (e : Option ℕ) → evicted ≡ e → TellsRow tells e from to before → EvictedIf tells law e from to before after
      by None out same = same
      by (Some c) out row =
          let linked : IsSome (linked_at before.book.sheet c) = subst (λ e. IfSome e (λ d. IsSome (linked_at before.book.sheet d))) out was in
          record {
            linked = linked;
            obeys = lawful c linked;
            told = row;
            unknown = λ d has. out_of d has.linked (out ∙ ap Some (sym (is.agrees.once d c
                (subst IsSome (still d (out_of d has.linked)) has.linked) linked
                (sym (key_stays before after d alike (words d)) ∙ has.key))));
          }

  -- the law holds of each item
  pub refused_lawful : (law : RowPredicate) → IsLawful law before → IsLawful law after
  refused_lawful law lawful c some = obeys_stays law before after c (words c)
      (lawful c (subst IsSome (still c (out_of c some)) some))

-- what the key had, by what was told of its item
pub had_told : (tells : Bool) (law : RowPredicate) (key : List ℕ) (chunk : Option ℕ) (from to : List ℕ) (part : PartView)
    → IsLawful law part → IsItem key chunk part → TellsOld tells chunk from to part → HadIf tells law key chunk from to part
had_told tells law key None from to part lawful item told = (item, told)
had_told tells law key (Some c) from to part lawful item told =
    record { under = item; obeys = lawful c item.linked; told = told }

-- a row is put into a part of which the law holds, or isn't
module _ (tells : Bool) (law : RowPredicate) (row : List ℕ) (now most : ℕ) (was told : Told) (before after : PartView)
    (from to : List LaneView) (alike : IsAlike before after) (lawful : IsLawful law before)
    (is : IsPart before.seed before.key_words before.book.sheet before.index) where
  module _ (expires : ℕ) (did : PutItem) (puts : PutsItem tells did row expires now most was told before from after to) where
    -- the key keeps the value
    pub puts_kept : Keeps (take before.key_words row) (drop before.key_words row) expires after
    puts_kept = record {
      chunk = did.chunk;
      under = puts.under;
      value = ap₂ (λ m n. value_at m n after.book.sheet did.chunk) alike.key_words alike.value_words ∙ puts.value;
      label = puts.has_row.0;
    }

    -- what it had is told
    pub puts_had : HadIf tells law (take before.key_words row) did.old was.old told.old before
    puts_had = had_told tells law (take before.key_words row) did.old was.old told.old before lawful puts.item puts.had

    -- and what was evicted
    pub puts_evicted : EvictedIf tells law did.evicted was.evicted told.evicted before after
    puts_evicted = put_evicted (take before.key_words row) before after did.chunk did.old did.evicted alike puts.others
        puts.under puts.item puts.ended puts.was_another puts.gone puts.fresh tells law was.evicted told.evicted lawful is
        puts.evicted

    -- under each other key stays what was there
    pub puts_others : OthersKept (take before.key_words row) (key_of_evicted did.evicted before) before after
    puts_others = put_others (take before.key_words row) before after did.chunk did.old did.evicted alike puts.others
        puts.under puts.item puts.ended puts.was_another puts.gone puts.fresh

  module _ (why : NoChunk) (refuses : RefusesItem tells why row now most was told before from after to) where
    -- what was evicted is told
    pub refuses_evicted : EvictedIf tells law why.evicted was.evicted told.evicted before after
    refuses_evicted = refused_evicted before after why.evicted alike refuses.others refuses.was_linked refuses.gone tells law
        was.evicted told.evicted lawful is refuses.evicted

    -- under each key but that one's stays what was there
    pub refuses_stay : AllKept (key_of_evicted why.evicted before) before after
    refuses_stay = refused_others before after why.evicted alike refuses.others refuses.was_linked refuses.gone

  -- the law holds of each item, whether it was put or not
  pub law_kept : (expires : ℕ) (result : Result PutItem NoChunk) → MayHave law expires row
      → IfOk result (λ did. PutsItem tells did row expires now most was told before from after to)
      → IfErr result (λ why. RefusesItem tells why row now most was told before from after to) → IsLawful law after
  law_kept expires (Ok did) may puts refuses = put_lawful (take before.key_words row) before after did.chunk did.old
      did.evicted alike puts.others puts.under puts.item puts.ended puts.was_another puts.gone puts.fresh law row expires
      lawful may puts.has_row
  law_kept expires (Err why) may puts refuses = refused_lawful before after why.evicted alike refuses.others
      refuses.was_linked refuses.gone law lawful
