-- Texts to which lines are added.
use Rattle.std.proofs.Common.{ℕ, suc, Bool, true, false, ◌+◌, ◌%◌, ◌≡◌, ◌≤◌, ◌<◌, max, List, [], ◌∷◌, ◌++◌, length, take, refl, sym, ap, subst, inl, inr, ◌∙◌, arith, append_assoc, append-nil, length-append, length-take, get_or, codes, if◌then◌else◌}
use Rattle.std.proofs.lemmas.List.Elements.{All-nil, All-cons, All-append, All-weaker}
use Rattle.std.proofs.lemmas.Grind.{flat_map-append}
use Rattle.std.proofs.lemmas.List.{take_more}
use Rattle.bump_trace.specs.Runs.{most_bytes}
use Rattle.bump_rules.specs.declared.places.Tail.TheVariants.{Hot}
use Rattle.replay_runs.specs.Asked.{time_at}
use Rattle.replay_runs.specs.Tends.{is_due, is_tended, last_tend}
use Rattle.replay_runs.specs.declared.plans.Tending.{Tending}
use Rattle.replay_runs.specs.Writing.{with_end, text_of, pull_instruction, tend_instructions, most_tending, IsBalance, Adds, AddsEnd, EndsInHot, AddsAccess, AddsAccessAndTend, AddsRun, TellsFirst, HasTooLong}
use Rattle.replay_runs.specs.declared.plans.Plan.{Plan}

-- nothing was added
pub adds_none : (Kind : List ℕ → Type 0) (most : ℕ) (old new : List ℕ) → new ≡ old → Adds Kind most old new
adds_none Kind most old new same = record {
  lines = [];
  text = same ∙ sym (append-nil old);
  kind = All-nil Kind;
  few = omega arith;
}

-- a line was added
pub adds_one : (Kind : List ℕ → Type 0) (line old new : List ℕ) → Kind line → new ≡ old ++ with_end line → Adds Kind 1 old new
adds_one Kind line old new kind is = record {
  lines = line ∷ [];
  text = is ∙ ap (λ t. old ++ t) (sym (append-nil (with_end line)));
  kind = All-cons Kind line [] kind (All-nil Kind);
  few = omega arith;
}

-- lines were added, and then others
pub adds_both : {Kind : List ℕ → Type 0} {most more : ℕ} {old between new : List ℕ} → Adds Kind most old between
    → Adds Kind more between new → Adds Kind (most + more) old new
adds_both {Kind} {most} {more} {old} {between} {new} first last = record {
  lines = first.lines ++ last.lines;
  text = last.text ∙ ap (λ t. t ++ text_of last.lines) first.text ∙ append_assoc old (text_of first.lines) (text_of last.lines)
      ∙ ap (λ t. old ++ t) (sym (flat_map-append with_end first.lines last.lines));
  kind = All-append Kind first.lines last.lines first.kind last.kind;
  few = omega (arith, length-append first.lines last.lines, first.few, last.few);
}

-- at most so many are also at most more
pub adds_fewer : {Kind : List ℕ → Type 0} {most : ℕ} {old new : List ℕ} (more : ℕ) → most ≤ more → Adds Kind most old new
    → Adds Kind more old new
adds_fewer {Kind} {most} more few added = record {
  lines = added.lines;
  text = added.text;
  kind = added.kind;
  few = omega (arith, added.few, few);
}

-- lines of a kind are also of each kind that has all of these
pub adds_weaker : {Kind Other : List ℕ → Type 0} {most : ℕ} {old new : List ℕ} → ((line : List ℕ) → Kind line → Other line)
    → Adds Kind most old new → Adds Other most old new
adds_weaker {Kind} {Other} are added = record {
  lines = added.lines;
  text = added.text;
  kind = All-weaker Kind Other are added.lines added.kind;
  few = added.few;
}

-- behind a pull of HOT an item ended, or there was none
pub ends_in_hot : (ended : Bool) (old new : List ℕ) → (ended ≡ true → AddsEnd Hot old new)
    → (ended ≡ false → new ≡ old ++ with_end (pull_instruction Hot)) → EndsInHot old new
ends_in_hot true old new some none = inr (some refl)
ends_in_hot false old new some none = inl (none refl)

-- an access behind which the cache isn't tended
pub not_tended : (worker key : ℕ) (is_tended : Bool) (old new : List ℕ) → is_tended ≡ false → AddsAccess worker key old new
    → AddsAccessAndTend worker key is_tended old new
not_tended worker key true old new is access = absurd (let u : ⊥ = cc is in u)
not_tended worker key false old new is access = (new, access, refl)

-- an access behind which it is
pub tended : (worker key : ℕ) (is_tended : Bool) (old between new : List ℕ) → is_tended ≡ true
    → AddsAccess worker key old between → Adds IsBalance most_tending (between ++ tend_instructions) new
    → AddsAccessAndTend worker key is_tended old new
tended worker key true old between new is access behind = (between, access, behind)
tended worker key false old between new is access behind = absurd (let u : ⊥ = cc is in u)

-- when a tend is due is when the cache is tended, if the times are those of the access and of the last tend
pub due_is_tended : (tending : Tending) (times : List ℕ) (place now last : ℕ) → now ≡ time_at times place
    → last ≡ last_tend tending times place → is_due tending place now last ≡ is_tended tending times place
due_is_tended tending times place now last here before =
    ap (λ (t : ℕ). is_due tending place t last) here
    ∙ ap (λ (t : ℕ). is_due tending place (time_at times place) t) before

-- a tend is the last one then
pub last_if_tended : (tending : Tending) (times : List ℕ) (place : ℕ) → is_tended tending times place ≡ true
    → last_tend tending times (place + 1) ≡ time_at times place
last_if_tended tending times place is =
    let next : place + 1 ≡ suc place = omega arith in
    ap (last_tend tending times) next ∙ ap (λ (b : Bool). if b then time_at times place else last_tend tending times place) is

-- without one the last tend stays the last
pub last_if_not_tended : (tending : Tending) (times : List ℕ) (place : ℕ) → is_tended tending times place ≡ false
    → last_tend tending times (place + 1) ≡ last_tend tending times place
last_if_not_tended tending times place is =
    let next : place + 1 ≡ suc place = omega arith in
    ap (last_tend tending times) next ∙ ap (λ (b : Bool). if b then time_at times place else last_tend tending times place) is

-- the lines of the access with this place, and of the tend behind it, if there is one
abbrev pub AddsPlace : Plan → List ℕ → ℕ → List ℕ → List ℕ → ℕ → Type 0
AddsPlace plan times key old new place =
    AddsAccessAndTend (place % max plan.config.readers 1) key (is_tended plan.tending times place) old new

-- the lines of an access, if its tend is written when one is due at its time
pub place_is_told : (plan : Plan) (times : List ℕ) (place key : ℕ) (is_due : Bool) (old between new : List ℕ)
    → is_due ≡ is_tended plan.tending times place → between ≡ old
    → AddsAccessAndTend (place % max plan.config.readers 1) key is_due between new → AddsPlace plan times key old new place
place_is_told plan times place key is_due old between new due same access =
    let turn = place % max plan.config.readers 1 in
    subst (λ (b : Bool). AddsAccessAndTend turn key b old new) due
    (subst (λ (t : List ℕ). AddsAccessAndTend turn key is_due t new) same access)

-- one more access behind a run
run_and_access : (plan : Plan) (times : List ℕ) (place key : ℕ) (keys old between new : List ℕ)
    → AddsRun plan times place keys old between → AddsPlace plan times key between new (place + length keys)
    → AddsRun plan times place (keys ++ key ∷ []) old new
run_and_access plan times place key [] old between new run access =
    let here : place + 0 ≡ place = omega arith in (
      new,
      subst (λ (t : List ℕ). AddsPlace plan times key t new place) run
          (subst (AddsPlace plan times key between new) here access),
      refl,
    )
run_and_access plan times place key (first ∷ keys) old between new run access =
    let same : place + length (first ∷ keys) ≡ (place + 1) + length keys = omega arith in (
      run.0,
      run.1,
      run_and_access plan times (place + 1) key keys run.0 between new run.2
          (subst (AddsPlace plan times key between new) same access),
    )

-- one more of some accesses, behind the first ones
pub run_and_next : (plan : Plan) (times : List ℕ) (place : ℕ) (keys old between new : List ℕ) → place < length keys
    → AddsRun plan times 0 (take place keys) old between → AddsPlace plan times (get_or keys place 0) between new place
    → AddsRun plan times 0 (take (place + 1) keys) old new
run_and_next plan times place keys old between new lt run access =
    let here : place ≡ 0 + length (take place keys) = omega (arith, length-take place keys, lt) in
    subst (λ (ks : List ℕ). AddsRun plan times 0 ks old new) (sym (take_more keys place 0 lt))
    (run_and_access plan times 0 (get_or keys place 0) (take place keys) old between new run
    (subst (AddsPlace plan times (get_or keys place 0) between new) here access))

-- the first accesses have more bytes than a trace may have
pub too_long : (plan : Plan) (count : ℕ) (accesses times run : List ℕ) → TellsFirst plan count accesses times run
    → most_bytes < length run → HasTooLong plan accesses times
too_long plan count accesses times run told long =
    (count, run, told, omega (arith, long, length-append run (with_end (codes "show"))))

-- a line in three parts
pub line_of_parts : (old word number : List ℕ) → ((old ++ word) ++ number) ++ 10 ∷ [] ≡ old ++ with_end (word ++ number)
line_of_parts old word number =
    ap (λ (t : List ℕ). t ++ 10 ∷ []) (append_assoc old word number) ∙ append_assoc old (word ++ number) (10 ∷ [])
