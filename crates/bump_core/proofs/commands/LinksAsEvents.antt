-- The command of a link is its events.
use Rattle.std.specs.Prelude.{is_some, is_none}
use Rattle.std.proofs.Common.{rules, ◌≡◌, ℕ, ◌+◌, ◌<◌, true, not, ◌&&◌, ◌||◌, [], ◌∷◌, length, Option, Some, refl, sym, ap, ◌∙◌}
use Rattle.std.proofs.lemmas.Bool.{and_parts, and_from, ltb-true}
use Rattle.std.specs.Option.{option_map_or}
use Rattle.std.proofs.lemmas.List.{get_or-set_same}
use Rattle.model_state.specs.declared.chunks.Chunk.{Chunk}
use Rattle.bump_rules.specs.declared.events.Event.TheVariants as event
use Rattle.bump_rules.specs.declared.places.Start.{Start}
use Rattle.bump_rules.specs.declared.places.Start.TheVariants as start
use Rattle.bump_rules.specs.Starts.{begun_change, link_event}
use Rattle.bump_rules.specs.Lives.{life}
use Rattle.model_state.specs.State.{State, chunk_at, no_chunk, is_class, with_chunk, with_change, is_under_application}
use Rattle.model_state.specs.Worlds.{IsLawful}
use Rattle.model_state.specs.Events.{is_enabled, after, is_class_at_rest, may_link, next_chunk, next_life, with_label, with_time, link, link_next}
use Rattle.bump_rules.specs.Heads.{linked_head}
use Rattle.bump_core.specs.Runs.{run_of}
use Rattle.bump_core.specs.Commands.{may_store, store_events, store_item, link_labelled}
use Rattle.model_state.proofs.Fronts.{next_front}
use Rattle.bump_core.proofs.events.Runs.{run_step}
use Rattle.bump_core.proofs.commands.ChangedState.{chunk_again}

-- a command that finds an item in its class finds the class at rest
pub at_rest : (s : State) (k c : ℕ) (m : Option ℕ) → m ≡ Some c
    → (is_class s k && (is_none m || not (is_under_application s k))) ≡ true
    → (k < length s.classes) × (is_class_at_rest s k ≡ true) × (not (is_under_application s k) ≡ true)
at_rest s k c m is allowed = let both = and_parts (is_class s k) (is_none m || not
    (is_under_application s k)) allowed in
    let rest : not (is_under_application s k) ≡ true = ap (λ (o : Option ℕ). is_none o || not
    (is_under_application s k)) (sym is) ∙ both.1 in
    (ltb-true k (length s.classes) both.0, and_from (is_class s k) (not (is_under_application s k)) both.0 rest, rest)

-- when the event of a link is enabled, and what it leaves
link_enabled : (s : State) (a : Start) (k : ℕ) → is_enabled s (link_event a k) ≡ may_link s k
link_enabled s start.Hot k = refl
link_enabled s start.Temp k = refl

link_left : (s : State) (a : Start) (k : ℕ) → after s (link_event a k) ≡ link_next s a k
link_left s start.Hot k = refl
link_left s start.Temp k = refl

-- a link stores the label and the time, and begins the life
pub link_made : (s : State) → IsLawful s → (a : Start) (k x now : ℕ) → may_store s k ≡ true
    → run_of s (store_events s a k x now) ≡ Some (store_item s a k x now)
link_made s o a k x now allowed = search (rules, linked)
  where
    linked : (c : ℕ) → next_chunk s k ≡ Some c
        → run_of s (event.PutLabel k x ∷ event.PutTime k now ∷ link_event a k ∷ [])
        ≡ Some (link_labelled s a k x now c)
    linked c is =
        let found = at_rest s k c (next_chunk s k) is allowed in
        let c_in = (next_front s o k c found.0 is).1 in
        let enabled : (is_class_at_rest s k && is_some (next_chunk s k))
        ≡ true = and_from _ _ found.1 (ap (λ (o : Option ℕ). is_some o) is) in
        let z = chunk_at s c in
        let y : Chunk = record z { label = x } in
        let t = with_label s c x in
        let v : Chunk = record z { label = x; time = now } in
        let u = with_chunk s c v in
        let read_too : chunk_at u c ≡ v = get_or-set_same s.chunks c v no_chunk c_in in
        let put : after s (event.PutLabel k x) ≡ t = ap (λ m. option_map_or (λ d. with_label s d x) m s) is in
        let put_too : after t (event.PutTime k now) ≡ u = ap (λ m. option_map_or (λ d. with_time t d now) m t) is
        ∙ chunk_again s c y (λ (a : Chunk). record a { time = now }) c_in in
        let done : link_next u a k ≡ link_labelled s a k x now c = ap (λ m. option_map_or (link u a k) m u) is
        ∙ (ap (λ (t : State). with_change t k (begun_change a (next_life u c))) (chunk_again s c v
        (λ (y : Chunk). record y { head = linked_head a (y.head.generation + 1) }) c_in)
        ∙ ap (λ y. with_change (with_chunk s c (record v { head = linked_head a (z.head.generation + 1) })) k
        (begun_change a (life c (y.head.generation + 1)))) read_too) in
        run_step s t (event.PutLabel k x) (event.PutTime k now ∷ link_event a k ∷ []) enabled put
        ∙ (run_step t u (event.PutTime k now) (link_event a k ∷ []) enabled put_too
        ∙ run_step u (link_labelled s a k x now c) (link_event a k) [] (link_enabled u a k ∙ enabled)
        (link_left u a k ∙ done))
