-- Entries that join the history of a class one after another join it at once.
use Rattle.std.proofs.Common.{◌≡◌, ℕ, ◌<◌, ◌==◌, List, [], ◌∷◌, length, slice_set, refl, ap, ◌∙◌, append_assoc}
use Rattle.std.specs.List.{list_any}
use Rattle.std.proofs.lemmas.List.{append-nil, get_or-set_same, set-get_or, set-set}
use Rattle.bump_rules.specs.declared.history.Change.{Change}
use Rattle.bump_rules.specs.History.{subject, target, replay}
use Rattle.bump_rules.specs.Lists.{to_front}
use Rattle.model_state.specs.State.{State, ClassState, class_at, no_class, with_class, with_change, with_changes, class_with_change, class_with_changes, class_of, some_and, is_under_application}
use Rattle.bump_rules.specs.Lanes.{applied_life}
use Rattle.model_state.proofs.Tiles.{class_kept}

module _ (s : State) (k : ℕ) (e : Change) where
  -- an entry leaves each chunk in its class
  pub class_of_kept : class_of (with_change s k e) ≡ class_of s
  class_of_kept = λ i c. class_kept s.classes k (class_with_change (class_at s k) e) c refl i

  -- and the classes under application as they were
  pub application_kept : (j : ℕ) → is_under_application (with_change s k e) j ≡ is_under_application s j
  application_kept j = ap (λ (f : ℕ → ℕ). list_any (λ w. some_and (λ l. f l.chunk == j)
      (applied_life w.lane)) s.workers) class_of_kept

-- no entries change nothing
pub no_changes : (s : State) (k : ℕ) → with_changes s k [] ≡ s
no_changes s k = ap (λ (h : List Change). with_class s k (record (class_at s k) { history = h }))
    (append-nil (class_at s k).history)
    ∙ ap (λ (ks : List ClassState). record s { classes = ks }) (set-get_or s.classes k no_class)

-- an entry, and then others
pub changes_more : (s : State) (k : ℕ) (e : Change) (es : List Change) → k < length s.classes
    → with_changes (with_change s k e) k es ≡ with_changes s k (e ∷ es)
changes_more s k e es within = ap (λ (ks : List ClassState). record s { classes = ks })
    (set-set s.classes k (class_with_change (class_at s k) e) (class_with_changes (class_at (with_change s k e) k) es)
    ∙ (ap (λ x. slice_set s.classes k (class_with_changes x es)) (get_or-set_same s.classes k (class_with_change
    (class_at s k) e) no_class within)
    ∙ ap (λ (h : List Change). slice_set s.classes k (record (class_at s k) {
      lists = replay (to_front (subject e).chunk (target e) (class_at s k).lists) es;
      history = h;
    }))
    (append_assoc (class_at s k).history (e ∷ []) es)))

-- two entries of a chunk's class
pub two_changes : (s : State) (c : ℕ) (e f : Change) → class_of s c < length s.classes
    → with_change (with_change s (class_of s c) e) (class_of (with_change s (class_of s c) e) c) f
    ≡ with_changes s (class_of s c) (e ∷ f ∷ [])
two_changes s c e f within = ap (λ (j : ℕ). with_change (with_change s (class_of s c) e) j f) (class_kept s.classes
    (class_of s c) (class_with_change (class_at s (class_of s c)) e) c refl)
    ∙ changes_more s (class_of s c) e (f ∷ []) within
