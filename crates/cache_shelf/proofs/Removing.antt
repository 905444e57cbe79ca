-- What a removal leaves of what a part keeps.
use Rattle.std.proofs.Common.{◌≡◌, ◌≢◌, ℕ, List, Option, Some, None, IsSome, IfSome, IfNone, if◌then◌else◌, ◌==◌, refl, sym, ap, ◌∙◌, subst, eq-eqb, ne_eqb, true}
use Rattle.bump_steps.specs.Rule.{RowPredicate}
use Rattle.cache_lists.specs.Items.{EndsAt}
use Rattle.cache_lists.specs.Linked.{linked_at}
use Rattle.cache_part.specs.Keys.{key_at}
use Rattle.cache_part.specs.Looks.{LooksOnly}
use Rattle.cache_part.specs.Parts.{PartView, IsItem, IsPart, IsUnknown}
use Rattle.cache_part.specs.Putting.{OthersStay, Removes, TellsOld}
use Rattle.cache_part.proofs.Agreements.{some_without}
use Rattle.cache_part.proofs.LookLemmas.{looks_keep}
use Rattle.cache_shelf.specs.Entries.{OthersKept, key_of_evicted}
use Rattle.cache_shelf.specs.Putting.{RemovesEntry}
use Rattle.cache_shelf.specs.Shelves.{IsLawful}
use Rattle.cache_shelf.proofs.Keeping.{IsAlike, key_stays, moved_unknown}
use Rattle.cache_shelf.proofs.Putting.{had_told, refused_others, refused_lawful}

-- the key's item, or none
pub removed_item : (key : List ℕ) (before after : PartView) (told : Option ℕ) → Removes key told before after
    → IsItem key told before
removed_item key before after None removes = removes.0
removed_item key before after (Some c) removes = removes.under

-- it ended, where there was one
removed_ends : (key : List ℕ) (before after : PartView) (told : Option ℕ) → Removes key told before after
    → IfSome told (λ c. EndsAt c before.book after.book)
removed_ends key before after None removes = tt
removed_ends key before after (Some c) removes = removes.ends

-- and where there was none only loads were made
removed_looks : (key : List ℕ) (before after : PartView) (told : Option ℕ) → Removes key told before after
    → IfNone told (LooksOnly before.book after.book)
removed_looks key before after None removes = removes.1.looks
removed_looks key before after (Some c) removes = tt

-- where an item ends, or only loads are made
module _ (before after : PartView) where
  -- each other item stays
  pub stay : (told : Option ℕ) → IfSome told (λ c. EndsAt c before.book after.book)
      → IfNone told (LooksOnly before.book after.book) → OthersStay None None told before.book after.book
  stay None ends looks = record {
    linked = λ c new old out. (looks_keep before.book after.book looks).linked c;
    words = λ i c new. (looks_keep before.book after.book looks).words i c;
  }
  stay (Some chunk) ends looks = record {
    linked = λ c new old out. ends.linked c
        ∙ ap (λ b. if b then None else linked_at before.book.sheet c) (ne_eqb chunk c (λ same. out (ap Some same)));
    words = λ i c new. ends.words i c;
  }

  -- and the one that ends isn't linked any more
  pub gone : (told : Option ℕ) → IfSome told (λ c. EndsAt c before.book after.book)
      → IfSome told (λ c. linked_at after.book.sheet c ≡ None)
  gone None ends = tt
  gone (Some c) ends = ends.linked c ∙ ap (λ b. if b then None else linked_at before.book.sheet c) (eq-eqb c c refl)

module _ (key : List ℕ) (before after : PartView) (alike : IsAlike before after)
    (is : IsPart before.seed before.key_words before.book.sheet before.index) (told : Option ℕ)
    (removes : Removes key told before after) where
  ends : IfSome told (λ c. EndsAt c before.book after.book)
  ends = removed_ends key before after told removes

  others_stay : OthersStay None None told before.book after.book
  others_stay = stay before after told ends (removed_looks key before after told removes)

  -- it was linked
  was : IfSome told (λ c. IsSome (linked_at before.book.sheet c))
  was = by told removes
    where
      by : (it : Option ℕ) → Removes key it before after → IfSome it (λ c. IsSome (linked_at before.book.sheet c))
      by None none = tt
      by (Some c) found = found.under.linked

  -- the law holds of each item still
  pub removed_lawful : (law : RowPredicate) → IsLawful law before → IsLawful law after
  removed_lawful = refused_lawful before after told alike others_stay was (gone before after told ends)

  -- under each other key stays what was there
  removed_others : OthersKept key None before after
  removed_others other value expires differs not_out =
      refused_others before after told alike others_stay was (gone before after told ends) other value expires
      (is_other told removes)
    where
      is_other : (it : Option ℕ) → Removes key it before after → key_of_evicted it before ≢ Some other
      is_other None none same = absurd (cc same)
      is_other (Some c) found same =
          let one : key_at before.key_words before.book.sheet c ≡ other = cc in differs (sym one ∙ found.under.key)

  -- and nothing is under the key
  removed_unknown : IsUnknown key after
  removed_unknown d has = by told removes
    where
      by : (it : Option ℕ) → Removes key it before after → ⊥
      by None none =
          moved_unknown before after alike (looks_keep before.book after.book none.1.looks) key none.0 d has
      by (Some c) found =
          let linked : IsSome (if c == d then None else linked_at before.book.sheet d) =
          subst IsSome (found.ends.linked d) has.linked in
          let at : key_at before.key_words before.book.sheet d ≡ key_at before.key_words before.book.sheet c =
          sym (key_stays before after d alike (λ i. found.ends.words i d)) ∙ (has.key ∙ sym found.under.key) in
          let there : IsSome (linked_at before.book.sheet d) = some_without c d (linked_at before.book.sheet d) linked in
          let one : d ≡ c = is.agrees.once d c there found.under.linked at in
          absurd (cc (subst IsSome (ap (λ b. if b then None else linked_at before.book.sheet d) (eq-eqb c d (sym one)))
          linked))

  -- so it is as a table of keys and values
  pub removes_entry : (law : RowPredicate) (from to : List ℕ) → IsLawful law before → TellsOld true told from to before
      → RemovesEntry law key told from to before after
  removes_entry law from to lawful words = record {
    had = had_told true law key told from to before lawful (removed_item key before after told removes) words;
    gone = removed_unknown;
    others = removed_others;
    removes = removes;
  }
