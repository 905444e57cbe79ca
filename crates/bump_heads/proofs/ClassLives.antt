-- What a class's sheet keeps, it keeps by each step that begins or ends a life.
use Rattle.std.proofs.Common.{◌≡◌, ℕ, ◌+◌, ◌==◌, ◌∙◌, eqb, Bool, true, false, List, [], ◌∷◌, ◌++◌, Some, if◌then◌else◌, refl, sym, ap, subst, arith, eq-eqb}
use Rattle.std.proofs.lemmas.Bool.{and_from}
use Rattle.bump_rules.specs.declared.items.ItemId.{ItemId}
use Rattle.bump_rules.specs.declared.places.Place.TheVariants.{Unused}
use Rattle.bump_rules.specs.declared.places.Start.{Start}
use Rattle.bump_rules.specs.declared.places.Start.TheVariants as start
use Rattle.bump_rules.specs.declared.history.Change.{Change}
use Rattle.bump_rules.specs.declared.history.Change.TheVariants as change
use Rattle.bump_rules.specs.declared.labels.LabelStep.{LabelStep}
use Rattle.bump_rules.specs.declared.labels.LabelStep.TheVariants.{Linked}
use Rattle.bump_steps.specs.declared.views.WordStep.TheVariants.{Begun}
use Rattle.bump_rules.specs.Entries.{is_stray}
use Rattle.bump_rules.specs.History.{subject, freed_change}
use Rattle.bump_rules.specs.Starts.{begun_change}
use Rattle.bump_rules.specs.Labels.{label_of_life}
use Rattle.bump_rules.specs.Lawful.{bit}
use Rattle.bump_rules.specs.Lives.{life}
use Rattle.bump_rules.proofs.Beginnings.{begun_subject, begun_quiet}
use Rattle.bump_rules.proofs.Replay.{are_between_push}
use Rattle.bump_rules.proofs.ToldMoves.{no_stray}
use Rattle.bump_rules.proofs.Updates.{total_push}
use Rattle.bump_steps.specs.declared.views.ClassSheet.{ClassSheet}
use Rattle.bump_steps.specs.Views.{owns, standing, labels_of, last_label, last_word}
use Rattle.bump_heads.specs.Seats.{IsClassSheet, is_barred}
use Rattle.bump_heads.proofs.ClassSheets.{noted_sheet, entered_sheet}
use Rattle.bump_steps.specs.Lives.{class_after_load, class_after_put_label, class_after_put_word, class_after_link, class_after_unlink, class_after_sweep, class_after_sweep_or_load, IsInSegment}
use Rattle.bump_steps.proofs.LabelLists.{life_linked, labels_begun}
use Rattle.bump_steps.proofs.LifeLabels.{put_label_labels, put_word_labels, link_labels}
use Rattle.bump_steps.proofs.Entering.{freed_quiet, freed_subject, freed_unused, used_in_place}

-- what is no move is none that a table hasn't
freed_allowed : (l : ItemId) → is_barred (freed_change l) ≡ false
freed_allowed l = by (l.generation == 4294967295)
  where
    by : (b : Bool) → is_barred (if b then change.Retired l else change.Swept l) ≡ false
    by true = refl
    by false = refl

begun_allowed : (a : Start) (l : ItemId) → is_barred (begun_change a l) ≡ false
begun_allowed start.Hot l = refl
begun_allowed start.Temp l = refl

module _ (words : ℕ) (k : ClassSheet) (o : IsClassSheet words k) where
  -- a label that is stored for a free chunk
  pub keeps_put_label : (c y : ℕ) → (standing k c).0 ≡ Unused → IsClassSheet words (class_after_put_label c y k)
  keeps_put_label c y unused =
      let have = put_label_labels c y k (record { labelled = o.labelled; unbegun = o.unbegun }) unused in record {
        within = o.within;
        between = o.between;
        causes = o.causes;
        allowed = o.allowed;
        labelled = have.labelled;
        unbegun = have.unbegun;
      }

  -- and so of a further word
  pub keeps_put_word : (c j y : ℕ) → (standing k c).0 ≡ Unused → IsClassSheet words (class_after_put_word c j y k)
  keeps_put_word c j y unused =
      let have = put_word_labels c j y k (record { labelled = o.labelled; unbegun = o.unbegun }) unused in record {
        within = o.within;
        between = o.between;
        causes = o.causes;
        allowed = o.allowed;
        labelled = have.labelled;
        unbegun = have.unbegun;
      }

  -- the chunk's life is unlinked
  pub keeps_unlink : (c n : ℕ) → owns c k ≡ true → IsInSegment (standing k c).0
      → IsClassSheet words (class_after_unlink c n k)
  keeps_unlink c n own in_it = entered_sheet words k (change.Unlinked (life c (standing k c).1)) _ o own refl refl refl
      (λ used. used_in_place (standing k c).0 in_it)

  -- the chunk is freed
  pub keeps_sweep : (c n : ℕ) → owns c k ≡ true → IsClassSheet words (class_after_sweep c n k)
  keeps_sweep c n own = let l : ItemId = life c (standing k c).1 in
      entered_sheet words k (freed_change l) _ o
      (subst (λ (j : ItemId). owns j.chunk k ≡ true) (sym (freed_subject l)) own)
      (subst (λ (j : ItemId). j.generation ≡ (standing k j.chunk).1) (sym (freed_subject l)) refl)
      (no_stray (freed_change l) (freed_quiet l)) (freed_allowed l) (λ used. absurd (freed_unused l used))

  -- or seen
  pub keeps_sweep_or_load : (c refs n : ℕ) → owns c k ≡ true
      → IsClassSheet words (class_after_sweep_or_load c refs n k)
  keeps_sweep_or_load c refs n own = by (refs == 0)
    where
      by : (b : Bool) → IsClassSheet words (if b then class_after_sweep c n k else class_after_load c n k)
      by true = keeps_sweep c n own
      by false = noted_sheet words k _ o

  -- a new life has the label and the words that were stored last for the chunk
  pub link_word : (i c : ℕ) → label_of_life (life c ((standing k c).1 + 1)) 0
      (labels_of i (k.labels ++ Linked (life c ((standing k c).1 + 1)) ∷ [])
      (k.words ++ Begun (life c ((standing k c).1 + 1)) ∷ [])) ≡ Some (last_word i k c)
  link_word i c = ap (λ (l : List LabelStep). label_of_life (life c ((standing k c).1 + 1)) 0 l)
      (labels_begun i k.labels k.words (life c ((standing k c).1 + 1)))
      ∙ life_linked (life c ((standing k c).1 + 1)) 0 (labels_of i k.labels k.words)
      (and_from (eqb c c) (eqb ((standing k c).1 + 1) ((standing k c).1 + 1)) (eq-eqb c c refl)
      (eq-eqb ((standing k c).1 + 1) ((standing k c).1 + 1) refl))
      (o.unbegun i c ((standing k c).1 + 1) (omega arith))

  pub link_label : (c : ℕ) → label_of_life (life c ((standing k c).1 + 1)) 0
      (k.labels ++ Linked (life c ((standing k c).1 + 1)) ∷ []) ≡ Some (last_label k c)
  link_label c = link_word 0 c

  -- and where one begins the class keeps what it keeps
  pub keeps_link : (a : Start) (c n : ℕ) → owns c k ≡ true
      → IsClassSheet words (class_after_link a c ((standing k c).1 + 1) n k)
  keeps_link a c n own =
      let l : ItemId = life c ((standing k c).1 + 1) in
      let e : Change = begun_change a l in
      let of : (subject e).chunk ≡ c = ap (λ (j : ItemId). j.chunk) (begun_subject a l) in
      let have = link_labels a c ((standing k c).1 + 1) n k (record { labelled = o.labelled; unbegun = o.unbegun }) refl
      in record {
        within = o.within;
        between = are_between_push k.first (k.first + k.count) k.history e o.between
            (subst (λ (d : ℕ). owns d k ≡ true) (sym of) own);
        causes = omega (
          arith,
          total_push (λ z. bit (is_stray z)) k.history e,
          o.causes,
          ap bit (no_stray e (begun_quiet a l)),
        );
        allowed = omega (
          arith,
          total_push (λ z. bit (is_barred z)) k.history e,
          o.allowed,
          ap bit (begun_allowed a l),
        );
        labelled = have.labelled;
        unbegun = have.unbegun;
      }

-- a look leaves the class's number
pub number_kept : (c refs n : ℕ) (k : ClassSheet) → (class_after_sweep_or_load c refs n k).class ≡ k.class
number_kept c refs n k = by (refs == 0)
  where
    by : (b : Bool) → (if b then class_after_sweep c n k else class_after_load c n k).class ≡ k.class
    by true = refl
    by false = refl

-- and the application that it names
pub naming_kept : (c refs n : ℕ) (k : ClassSheet) → (class_after_sweep_or_load c refs n k).applying ≡ k.applying
naming_kept c refs n k = by (refs == 0)
  where
    by : (b : Bool) → (if b then class_after_sweep c n k else class_after_load c n k).applying ≡ k.applying
    by true = refl
    by false = refl
