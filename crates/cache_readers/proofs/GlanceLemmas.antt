-- Loads of a worker's glance, one after the other, and what they come to.
use Rattle.std.proofs.Common.{◌≡◌, ℕ, ◌+◌, ◌&&◌, ◌<◌, ◌≤◌, Bool, true, false, List, [], ◌∷◌, length, slice_index, get_or, set, refl, sym, ap, ◌∙◌, subst, arith, nat_lt, eqb-true, get_or-set_same, get_or-set_other}
use Rattle.std.proofs.lemmas.Bool.{and_parts, ltb-false, ltb-true}
use Rattle.std.proofs.lemmas.List.{append_assoc, append-nil}
use mathlib.Core.Logic.{dite}
use native.Mathlib.Decide.{ℕ_discrete}
use Rattle.bump_rules.specs.declared.items.Head.{Head}
use Rattle.bump_rules.specs.declared.items.ItemId.{ItemId}
use Rattle.bump_steps.specs.declared.views.GlanceSheet.{GlanceSheet}
use Rattle.bump_steps.specs.declared.views.OwnStep.{OwnStep}
use Rattle.bump_steps.specs.Glances.{glance_after_load, new_glance, worker_after_glance_load}
use Rattle.bump_steps.specs.Plays.{behind, on_first}
use Rattle.bump_steps.specs.References.{label_of_row, word_of_row}
use Rattle.bump_steps.specs.Rule.{RowPredicate}
use Rattle.bump_readers.specs.Glances.{IsGlancing, IsLinkedLife, looked_at}
use Rattle.bump_unlocked.specs.Glances.{FindsNoLife, Glances}
use Rattle.bump_unlocked.specs.Workers.{WorkerState}
use Rattle.bump_rules.specs.Expiry.{has_expired}
use Rattle.cache_readers.specs.Glances.{GlanceFinds, GlancesInVain, HasWords, Reads, glanced, head_loads}

-- the worker with this last glance
abbrev pub at : GlanceSheet → WorkerState → WorkerState
at glance worker = record worker { sheet = record worker.sheet { glances = glance ∷ behind worker.sheet.glances } }

-- two firsts of one list are one
one_first : (one other : GlanceSheet) (all more rest : List GlanceSheet) → all ≡ one ∷ more → all ≡ other ∷ rest
    → one ≡ other
one_first one other all more rest is too = let both : one ∷ more ≡ other ∷ rest = sym is ∙ too in cc both

-- the worker is as it was
pub reads_none : (Holds : List ℕ → Type 0) (item : ItemId) (before : WorkerState) → IsGlancing item before.sheet
    → ((row : List ℕ) → Holds row) → Reads Holds before before
reads_none Holds item before glancing each = record {
  glance = glancing.glance;
  agrees = glancing.glance.agrees;
  was = glancing.first;
  is = ap (λ (gs : List GlanceSheet). record before { sheet = record before.sheet { glances = gs } }) glancing.first;
  stricter = λ e. e;
  holds = λ _. each glancing.glance.row;
}

-- one load
pub reads_one : (i word : ℕ) (item : ItemId) (before after : WorkerState) → IsGlancing item before.sheet
    → after ≡ record before { sheet = worker_after_glance_load i word before.sheet }
    → Reads (λ (row : List ℕ). slice_index row i ≡ word) before after
reads_one i word item before after glancing loaded = record {
  glance = glancing.glance;
  agrees = (glance_after_load i word glancing.glance).agrees;
  was = glancing.first;
  is = loaded ∙ ap (λ (gs : List GlanceSheet). record before {
    sheet = record before.sheet { glances = on_first (glance_after_load i word) gs };
  }) glancing.first;
  stricter = λ e. (and_parts _ _ e).0;
  holds = λ e. eqb-true _ _ (and_parts _ _ e).1;
}

-- loads, and then loads
pub reads_then : (One Other : List ℕ → Type 0) (before between after : WorkerState) → Reads One before between
    → Reads Other between after → Reads (λ (row : List ℕ). One row × Other row) before after
reads_then One Other before between after one other = record {
  glance = one.glance;
  agrees = other.agrees;
  was = one.was;
  is = other.is ∙ ap (λ (g : GlanceSheet). at (record g { agrees = other.agrees }) between) same
      ∙ ap (λ (w : WorkerState). at (record one.glance { agrees = other.agrees }) w) one.is;
  stricter = λ e. one.stricter (agreed e);
  holds = λ e. (one.holds (agreed e), subst (λ (g : GlanceSheet). Other g.row) same (other.holds e));
}
  where
    same : other.glance ≡ record one.glance { agrees = one.agrees }
    same = one_first other.glance (record one.glance { agrees = one.agrees }) between.sheet.glances _ _ other.was
        (ap (λ (w : WorkerState). w.sheet.glances) one.is)

    agreed : other.agrees ≡ true → one.agrees ≡ true
    agreed e = ap (λ (g : GlanceSheet). g.agrees) (sym same) ∙ other.stricter e

-- what follows of the row holds too
pub reads_as : (One Other : List ℕ → Type 0) (before after : WorkerState) → ((row : List ℕ) → One row → Other row)
    → Reads One before after → Reads Other before after
reads_as One Other before after more reads = record {
  glance = reads.glance;
  agrees = reads.agrees;
  was = reads.was;
  is = reads.is;
  stricter = reads.stricter;
  holds = λ e. more reads.glance.row (reads.holds e);
}

-- the worker still glances at the life
pub still_glancing : (Holds : List ℕ → Type 0) (item : ItemId) (before after : WorkerState)
    → IsGlancing item before.sheet → Reads Holds before after → IsGlancing item after.sheet
still_glancing Holds item before after glancing reads = record {
  glance = record reads.glance { agrees = reads.agrees };
  first = now ∙ ap (λ (gs : List GlanceSheet). record reads.glance { agrees = reads.agrees } ∷ gs) (sym (ap behind now));
  of = ap (λ (g : GlanceSheet). g.life)
      (one_first reads.glance glancing.glance before.sheet.glances _ _ reads.was glancing.first) ∙ glancing.of;
}
  where
    now : after.sheet.glances ≡ record reads.glance { agrees = reads.agrees } ∷ behind before.sheet.glances
    now = ap (λ (w : WorkerState). w.sheet.glances) reads.is

-- it glances at this life, also behind one more load of the head
pub led_to : (item id : ItemId) (last : Head) (before after : WorkerState) → IsGlancing item before.sheet
    → after ≡ record before { sheet = looked_at item.chunk last before.sheet } → item.chunk ≡ id.chunk
    → item.generation ≡ id.generation → IsGlancing id after.sheet
led_to item id last before after glancing looked chunk generation =
    subst (λ (w : WorkerState). IsGlancing id w.sheet) (sym looked) (record {
      glance = glancing.glance;
      first = glancing.first;
      of = glancing.of ∙ same;
    })
  where
    same : item ≡ id
    same = ap (λ (k : ℕ). record item { chunk = k }) chunk
        ∙ ap (λ (n : ℕ). record id { generation = n }) generation

-- so many words of the row, from this further word on, are these
abbrev pub HasFirst : List ℕ → ℕ → ℕ → List ℕ → Type 0
HasFirst words from count row = (i : ℕ) → i < count → word_of_row row (from + i) ≡ slice_index words i

-- one more word that was compared
pub one_more_same : (words : List ℕ) (from place count : ℕ) (row : List ℕ) → place ≡ from + count
    → HasFirst words from count row → word_of_row row place ≡ slice_index words count
    → HasFirst words from (count + 1) row
one_more_same words from place count row there has same i low = dite (ℕ_discrete i count)
    (λ e. ap (λ (k : ℕ). word_of_row row (from + k)) e ∙ ap (word_of_row row) (sym there) ∙ same
    ∙ ap (slice_index words) (sym e))
    (λ ne. has i (omega (arith, low, ne)))

-- one more word that was stored
pub one_more_stored : (words : List ℕ) (from place count word : ℕ) (row : List ℕ) → place ≡ from + count
    → count < length words → HasFirst words from count row → word_of_row row place ≡ word
    → HasFirst (set words count word) from (count + 1) row
one_more_stored words from place count word row there near has same i low = dite (ℕ_discrete i count)
    (λ e. ap (λ (k : ℕ). word_of_row row (from + k)) e ∙ ap (word_of_row row) (sym there) ∙ same
    ∙ sym (get_or-set_same words count word 0 near) ∙ ap (λ (k : ℕ). get_or (set words count word) k 0) (sym e))
    (λ ne. has i (omega (arith, low, ne)) ∙ sym (get_or-set_other words count i word 0 ne))

-- ---- what a glance comes to

-- nothing was loaded
pub vain_none : (chunk : ℕ) (before after : WorkerState) → after ≡ before → GlancesInVain chunk before after
vain_none chunk before after same = record {
  heads = [];
  glances = [];
  few = omega arith;
  one = omega arith;
  is = same ∙ ap (λ (ss : List OwnStep). record before { sheet = record before.sheet { steps = ss } })
      (sym (append-nil before.sheet.steps));
}

-- no life was found, or there is no such chunk
pub vain_gone : (chunk all : ℕ) (None_is : Type 0) (before after : WorkerState)
    → (all ≤ chunk → None_is × (after ≡ before)) → (chunk < all → FindsNoLife chunk before after)
    → GlancesInVain chunk before after
vain_gone chunk all None_is before after missing gone = by (nat_lt chunk all) refl
  where
    by : (near : Bool) → nat_lt chunk all ≡ near → GlancesInVain chunk before after
    by true is = let found = gone (ltb-true chunk all is) in record {
      heads = found.found ∷ [];
      glances = [];
      few = omega arith;
      one = omega arith;
      is = found.looked;
    }
    by false is = let far = ltb-false chunk all is in
        vain_none chunk before after (missing (omega (arith, far))).1

module _ (law : RowPredicate) (slots : ℕ) (item : ItemId) (found : Head) (before between : WorkerState)
    (glances : Glances law slots item found before between) where
  -- a glance has begun
  pub begun : IsGlancing item between.sheet
  begun = record {
    glance = new_glance item glances.row;
    first = now ∙ ap (λ (gs : List GlanceSheet). new_glance item glances.row ∷ gs) (sym (ap behind now));
    of = refl;
  }
    where
      now : between.sheet.glances ≡ new_glance item glances.row ∷ before.sheet.glances
      now = ap (λ (w : WorkerState). w.sheet.glances) glances.glances

  -- and served no more
  pub vain_begun : (chunk : ℕ) → item.chunk ≡ chunk → GlancesInVain chunk before between
  vain_begun chunk there = subst (λ (k : ℕ). GlancesInVain k before between) there (record {
    heads = found ∷ [];
    glances = new_glance item glances.row ∷ [];
    few = omega arith;
    one = omega arith;
    is = glances.glances;
  })

  module _ (Holds : List ℕ → Type 0) (after : WorkerState) (reads : Reads Holds between after) where
    -- the glance, behind its loads
    abbrev read : GlanceSheet
    read = record (new_glance item glances.row) { agrees = reads.agrees }

    begun_same : reads.glance ≡ new_glance item glances.row
    begun_same = one_first reads.glance (new_glance item glances.row) between.sheet.glances _ _ reads.was
        (ap (λ (w : WorkerState). w.sheet.glances) glances.glances)

    read_is : after ≡ glanced item.chunk (found ∷ []) (read ∷ []) before
    read_is = reads.is ∙ ap (λ (g : GlanceSheet). at (record g { agrees = reads.agrees }) between) begun_same
        ∙ ap (λ (w : WorkerState). at read w) glances.glances

    pub vain_read : (chunk : ℕ) → item.chunk ≡ chunk → GlancesInVain chunk before after
    vain_read chunk there = subst (λ (k : ℕ). GlancesInVain k before after) there (record {
      heads = found ∷ [];
      glances = read ∷ [];
      few = omega arith;
      one = omega arith;
      is = read_is;
    })

    module _ (last : Head) (ended : WorkerState) (looked : ended ≡ record after { sheet = looked_at item.chunk last after.sheet })
      where
        ended_is : ended ≡ glanced item.chunk (found ∷ last ∷ []) (read ∷ []) before
        ended_is = looked ∙ ap (λ (w : WorkerState). record w { sheet = looked_at item.chunk last w.sheet }) read_is
            ∙ ap (λ (ss : List OwnStep). record before {
              sheet = record before.sheet { steps = ss; glances = read ∷ before.sheet.glances };
            }) (append_assoc before.sheet.steps (head_loads item.chunk (found ∷ [])) (head_loads item.chunk (last ∷ [])))

        pub vain_ended : (chunk : ℕ) → item.chunk ≡ chunk → GlancesInVain chunk before ended
        vain_ended chunk there = subst (λ (k : ℕ). GlancesInVain k before ended) there (record {
          heads = found ∷ last ∷ [];
          glances = read ∷ [];
          few = omega arith;
          one = omega arith;
          is = ended_is;
        })

        -- it lasted: so the row has what was read
        pub glance_finds : (key value : List ℕ) (label now : ℕ) → (found.fetched && found.active) ≡ true
            → ((row : List ℕ) → Holds row → HasWords key 0 row) → ((row : List ℕ) → Holds row → HasWords value (length key) row)
            → ((row : List ℕ) → Holds row → label ≡ label_of_row row) → has_expired label now ≡ false
            → IsLinkedLife item last
            → ((at_end : IsGlancing item after.sheet) → IsLinkedLife item last → at_end.glance.agrees ≡ true)
            → GlanceFinds law key value now before ended
        unfolding still_glancing
        glance_finds key value label now marked keyed valued labelled stays lasts faithful = record {
          glance = read;
          first = found;
          last = last;
          is = ended_is;
          begins = glances.linked;
          marked = marked;
          lasts = lasts;
          agrees = agreed;
          has_key = keyed glances.row has;
          has_value = valued glances.row has;
          stays = ap (λ (l : ℕ). has_expired l now) (sym (labelled glances.row has)) ∙ stays;
          lawful = glances.lawful;
        }
          where
            agreed : reads.agrees ≡ true
            agreed = faithful (still_glancing Holds item between after begun reads) lasts

            has : Holds glances.row
            has = subst (λ (g : GlanceSheet). Holds g.row) begun_same (reads.holds agreed)
