-- The command of a pull is its events.
use Rattle.std.proofs.Common.{rules, ◌≡◌, ℕ, ◌<◌, Bool, true, false, not, [], ◌∷◌, length, slice_set, Option, Some, None, refl, sym, ap, ap₂, ◌∙◌, eq-eqb}
use Rattle.std.proofs.lemmas.Bool.{and_from, lt-ltb, not-true}
use Rattle.std.proofs.lemmas.List.{get_or-set_same, set-get_or, set-set}
use Rattle.bump_rules.specs.declared.places.Limits.{Limits}
use Rattle.bump_rules.specs.declared.places.Segment.{Segment}
use Rattle.bump_rules.specs.declared.places.Tail.{Tail}
use Rattle.bump_rules.specs.declared.places.Tail.TheVariants as tail
use Rattle.bump_rules.specs.declared.items.Head.{Head}
use Rattle.bump_rules.specs.declared.items.ItemId.{ItemId}
use Rattle.bump_rules.specs.Lists.{Lists}
use Rattle.bump_rules.specs.declared.bumps.Ended.{Ended}
use Rattle.bump_rules.specs.declared.bumps.Ended.TheVariants.{Freed, Deferred}
use Rattle.bump_rules.specs.declared.history.Cause.TheVariants.{Pull}
use Rattle.bump_rules.specs.declared.history.Change.TheVariants as change
use Rattle.bump_rules.specs.declared.events.Event.TheVariants as event
use Rattle.bump_rules.specs.declared.commands.Command.TheVariants as command
use Rattle.bump_rules.specs.Heads.{cleared_head, moved_head}
use Rattle.bump_rules.specs.Lives.{life}
use Rattle.bump_rules.specs.Tables.{pulled_of, pulled_to, segment_of, may_move}
use Rattle.model_state.specs.State.{State, chunk_at, class_at, head_at, no_chunk, with_head, with_change, class_of, is_under_application}
use Rattle.model_state.specs.Worlds.{IsLawful}
use Rattle.model_state.specs.Events.{is_enabled, after}
use Rattle.bump_core.specs.Runs.{run_of}
use Rattle.bump_core.specs.Commands.{is_allowed, events_of, command_after, last_pulled_in, limits_in, pulled_at, pull_to, pull, move_events, pull_events, unlinked_as, unlink_item, unlink_events}
use Rattle.model_state.proofs.Fronts.{last_linked}
use Rattle.bump_core.proofs.events.Runs.{run_step}
use Rattle.bump_core.proofs.commands.EndsAsEvents.{end_made}
use Rattle.bump_core.proofs.commands.LinksAsEvents.{at_rest}

-- a pull moves its item as it may be moved
tail_moves : (t : Tail) (found : Head) (lists : Lists) (limits : Limits) (ended : Ended) (l : ItemId) (to : Segment)
    → pulled_to (pulled_of t found lists limits ended l) ≡ Some to → may_move (segment_of t) to ≡ true
tail_moves tail.Hot found lists limits ended l to is = search rules
tail_moves tail.Warm found lists limits ended l to is = search rules
tail_moves tail.Cold found lists limits ended l to is = search rules
tail_moves tail.Evict found lists limits Freed l to is = absurd (let u : ⊥ = cc in u)
tail_moves tail.Evict found lists limits Deferred l to is = absurd (let u : ⊥ = cc in u)

-- an evict ends its item, and the other pulls move theirs
abbrev MovesItem : Tail → Type 0
MovesItem tail.Evict = ⊥
MovesItem _ = Unit {0}

-- an item that stays has ACTIVE clear
tail_stays : (t : Tail) → MovesItem t → (found : Head) (lists : Lists) (limits : Limits) (ended : Ended) (l : ItemId)
    → pulled_to (pulled_of t found lists limits ended l) ≡ None → found.active ≡ false
tail_stays tail.Hot moving found lists limits ended l is = search rules
tail_stays tail.Warm moving found lists limits ended l is = search rules
tail_stays tail.Cold moving found lists limits ended l is = search rules
tail_stays tail.Evict moving found lists limits ended l is = absurd moving

-- ACTIVE is cleared where it is clear
cleared_again : (s : State) (c : ℕ) → (head_at s c).active ≡ false → with_head s c (cleared_head (head_at s c)) ≡ s
cleared_again s c clear = ap (λ (b : Bool). with_head s c (record (head_at s c) { active = b })) (sym clear)
    ∙ ap (λ cs. record s { chunks = cs }) (set-get_or s.chunks c no_chunk)

-- A pull that found an item.
module _ (s : State) (o : IsLawful s) (k : ℕ) (t : Tail) (c : ℕ) (is : last_pulled_in s k t
    ≡ Some c) (allowed : is_allowed s (command.Pull k t) ≡ true) where
  at : (c < length s.chunks) × (class_of s c ≡ k) × ((head_at s c).linked ≡ true) × ((head_at s c).segment
      ≡ segment_of t)
  at = last_linked s o k c (segment_of t) (at_rest s k c (last_pulled_in s k t) is allowed).0 is

  rest : not (is_under_application s (class_of s c)) ≡ true
  rest = ap (λ (j : ℕ). not (is_under_application s j)) at.1 ∙ (at_rest s k c (last_pulled_in s k t) is allowed).2

  enabled : is_enabled s (event.ClearActive c) ≡ true
  enabled = and_from _ _ at.2 rest

  -- it clears ACTIVE, and moves the item by the tail table
  moved_made : MovesItem t → run_of s (event.ClearActive c ∷ move_events c (pulled_to (pulled_at s k t c)))
      ≡ Some (pull_to s k t c (pulled_to (pulled_at s k t c)))
  moved_made moving = moves (pulled_to (pulled_at s k t c)) refl
    where
      l : ItemId
      l = life c (head_at s c).generation

      moves : (m : Option Segment) → pulled_to (pulled_at s k t c) ≡ m
          → run_of s (event.ClearActive c ∷ move_events c m) ≡ Some (pull_to s k t c m)
      moves None stays = run_step s s (event.ClearActive c) [] enabled (cleared_again s c (tail_stays t moving
          (head_at s c) (class_at s k).lists (limits_in (class_at s k)) (unlinked_as s l) l stays))
      moves (Some to) goes = run_step s (with_head s c (cleared_head (head_at s c))) (event.ClearActive c)
          (event.Move c to ∷ []) enabled refl
          ∙ run_step (with_head s c (cleared_head (head_at s c))) (pull_to s k t c (Some to))
          (event.Move c to) [] may moved
        where
          read : chunk_at (with_head s c (cleared_head (head_at s c))) c ≡ record (chunk_at s c) {
            head = cleared_head (head_at s c);
          }
          read = get_or-set_same s.chunks c (record (chunk_at s c) { head = cleared_head (head_at s c) }) no_chunk at.0

          may : is_enabled (with_head s c (cleared_head (head_at s c))) (event.Move c to) ≡ true
          may = and_from _ _ (ap (λ a. a.head.linked) read ∙ at.2)
              (and_from _ _ (ap (λ a. may_move a.head.segment to) read ∙ (ap (λ g. may_move g to) at.3
              ∙ tail_moves t (head_at s c) (class_at s k).lists (limits_in (class_at s k))
              (unlinked_as s l) l to goes)) rest)

          moved : after (with_head s c (cleared_head (head_at s c))) (event.Move c to) ≡ pull_to s k t c (Some to)
          moved = ap (λ cs. with_change (record s { chunks = cs }) (class_of s c)
              (change.Moved (life c (head_at (with_head s c (cleared_head (head_at s c))) c).generation)
              (head_at (with_head s c (cleared_head (head_at s c))) c).segment to Pull))
              (set-set s.chunks c (record (chunk_at s c) { head = cleared_head (head_at s c) }) _
              ∙ ap (λ a. slice_set s.chunks c (record a { head = moved_head to a.head })) read)
              ∙ (ap (λ a. with_change (with_head s c (record (head_at s c) { active = false; segment = to }))
              (class_of s c) (change.Moved (life c a.head.generation) a.head.segment to Pull)) read
              ∙ ap₂ (λ (j : ℕ) g. with_change (with_head s c (record (head_at s c) {
                active = false;
                segment = to;
              })) j
              (change.Moved (life c (head_at s c).generation) g to Pull)) at.1 at.3)

  -- an evict ends it
  ended_made : run_of s (unlink_events s (life c (head_at s c).generation))
      ≡ Some (unlink_item s (life c (head_at s c).generation))
  ended_made = end_made s o (life c (head_at s c).generation)
      (and_from _ _ (and_from _ _ (lt-ltb c (length s.chunks) at.0) (eq-eqb (head_at s c).generation
      (head_at s c).generation refl)) at.2)
      (not-true _ rest)

-- a pull that found an item is its events
found_made : (s : State) → IsLawful s → (k : ℕ) (t : Tail) (c : ℕ) → last_pulled_in s k t ≡ Some c
    → is_allowed s (command.Pull k t) ≡ true → run_of s (pull_events s k t c) ≡ Some (pull s k t c)
found_made s o k tail.Hot c is allowed = moved_made s o k tail.Hot c is allowed tt
found_made s o k tail.Warm c is allowed = moved_made s o k tail.Warm c is allowed tt
found_made s o k tail.Cold c is allowed = moved_made s o k tail.Cold c is allowed tt
found_made s o k tail.Evict c is allowed = ended_made s o k tail.Evict c is allowed

-- and one that found none has none
pub pull_made : (s : State) → IsLawful s → (k : ℕ) (t : Tail) → is_allowed s (command.Pull k t) ≡ true
    → run_of s (events_of s (command.Pull k t)) ≡ Some (command_after s (command.Pull k t))
pull_made s o k t allowed = search (rules, found_made s o k t)
