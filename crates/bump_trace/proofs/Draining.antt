-- Draining one bump after another, and one worker after another.
use Rattle.std.proofs.Common.{◌≡◌, ℕ, suc, ◌+◌, ◌-◌, ◌<◌, ◌≤◌, refl, sym, ap, ap₂, ◌∙◌, List, ◌++◌, append_assoc, append-nil, add_assoc, add-zero, length, Ok, arith}
use Rattle.bump_rules.specs.declared.bumps.Entry.{Entry}
use Rattle.bump_rules.specs.declared.commands.Answer.{Answer}
use Rattle.bump_rules.specs.declared.commands.Answer.TheVariants as answer
use Rattle.bump_rules.specs.declared.commands.Command.TheVariants as command
use Rattle.bump_core.specs.Commands.{answer_of, command_after}
use Rattle.bump_rules.specs.Lists.{ascending}
use Rattle.model_state.specs.State.{State}
use Rattle.bump_trace.specs.OpenStore.{Drained, drained_none, drained_one, drained_both, drained_by, drained_of, drained_through, drain_by, drain_said}
use Rattle.bump_trace.specs.Stages.{StoreState, Open, say}
use Rattle.trace_lines.specs.Text.{drain_line}
use Rattle.bump_trace.proofs.AscendingLoops.{ascending_more, ascending_done}

-- what was drained until now
abbrev pub so_far : State → List ℕ → ℕ → Drained
so_far s text n = record { state = s; text = text; count = n }

-- three drains, one after another
both_assoc : (a b d : Drained) → drained_both (drained_both a b) d ≡ drained_both a (drained_both b d)
both_assoc a b d = ap₂ (λ text count. so_far d.state text count) (append_assoc a.text b.text d.text) (add_assoc a.count b.count d.count)

-- a drain with room for one more asks for the next bump
next_bump : (now w k m : ℕ) (s t : State) (a : Answer) → k ≡ suc m → a ≡ answer_of s (command.Next w now) → t ≡ command_after s (command.Next w now)
    → drained_of now w k s ≡ drained_by a t w (drained_of now w m)
next_bump now w k m s t a e p q =
    ap (λ i. drained_of now w i s) e ∙ ap₂ (λ x u. drained_by x u w (drained_of now w m)) (sym p) (sym q)

-- one more bump
pub bump_more : (now w k m n : ℕ) (s t : State) (text : List ℕ) (e : Entry) (all : Drained) → k ≡ suc m
    → answer.Bumped e ≡ answer_of s (command.Next w now) → t ≡ command_after s (command.Next w now)
    → drained_both (so_far s text n) (drained_of now w k s) ≡ all
    → drained_both (drained_both (so_far s text n) (drained_one t w e)) (drained_of now w m t) ≡ all
bump_more now w k m n s t text e all p q r h =
    both_assoc (so_far s text n) (drained_one t w e) (drained_of now w m t) ∙ ap (drained_both (so_far s text n)) (sym (next_bump now w k m s t (answer.Bumped e) p q r)) ∙ h

-- the parts of all that was drained
pub record IsAll (s : State) (text : List ℕ) (n : ℕ) (all : Drained) : Type 0 where
  pub same_state : s ≡ all.state
  pub same_text : text ≡ all.text
  pub same_count : n ≡ all.count

-- nothing more was drained
pub all_drained : (s t : State) (text : List ℕ) (n : ℕ) (all : Drained) → drained_both (so_far s text n) (drained_none t) ≡ all → IsAll t text n all
all_drained s t text n all h = record {
  same_state = ap (λ (d : Drained). d.state) h;
  same_text = sym (append-nil text) ∙ ap (λ (d : Drained). d.text) h;
  same_count = sym (add-zero n) ∙ ap (λ (d : Drained). d.count) h;
}

-- there is no more bump
pub bumps_none : (now w k m n : ℕ) (s t : State) (text : List ℕ) (a : Answer) (all : Drained) → k ≡ suc m
    → a ≡ answer_of s (command.Next w now) → t ≡ command_after s (command.Next w now)
    → drained_by a t w (drained_of now w m) ≡ drained_none t
    → drained_both (so_far s text n) (drained_of now w k s) ≡ all → IsAll t text n all
bumps_none now w k m n s t text a all p q r none h =
    all_drained s t text n all (ap (drained_both (so_far s text n)) (sym (next_bump now w k m s t a p q r ∙ none)) ∙ h)

-- any answer but a bump is the end
none_bumped : (a : Answer) (t : State) (w : ℕ) (others : State → Drained) → ((e : Entry) → a ≡ answer.Bumped e → ⊥) → drained_by a t w others ≡ drained_none t
none_bumped (answer.Bumped e) t w others h = absurd (h e refl)
none_bumped _ t w others h = refl

-- the answer was no bump
pub bumps_over : (now w k n : ℕ) (s t : State) (text : List ℕ) (a : Answer) (all : Drained) → 0 < k
    → a ≡ answer_of s (command.Next w now) → t ≡ command_after s (command.Next w now)
    → ((e : Entry) → a ≡ answer.Bumped e → ⊥)
    → drained_both (so_far s text n) (drained_of now w k s) ≡ all → IsAll t text n all
bumps_over now w k n s t text a all some p q none h =
    bumps_none now w k (k - 1) n s t text a all (omega arith) p q (none_bumped a t w (drained_of now w (k - 1)) none) h

-- one more worker
pub worker_more : (now w end n : ℕ) (s : State) (text : List ℕ) (d all : Drained) → w < end → d ≡ drained_of now w s.capacity s
    → drained_both (so_far s text n) (drained_through now (ascending w (end - w)) s) ≡ all
    → drained_both (drained_both (so_far s text n) d) (drained_through now (ascending (w + 1) (end - (w + 1))) d.state) ≡ all
worker_more now w end n s text d all below e h =
    let others = ascending (w + 1) (end - (w + 1)) in
    both_assoc (so_far s text n) d (drained_through now others d.state)
    ∙ ap (λ (x : Drained). drained_both (so_far s text n) (drained_both x (drained_through now others x.state))) e
    ∙ ap (λ ws. drained_both (so_far s text n) (drained_through now ws s)) (sym (ascending_more w end below)) ∙ h

-- there is no more worker
pub workers_done : (now w end n : ℕ) (s : State) (text : List ℕ) (all : Drained) → end ≤ w
    → drained_both (so_far s text n) (drained_through now (ascending w (end - w)) s) ≡ all → IsAll s text n all
workers_done now w end n s text all past h =
    all_drained s s text n all (ap (λ ws. drained_both (so_far s text n) (drained_through now ws s)) (sym (ascending_done w end past)) ∙ h)

-- one more worker, from what its drain did
pub worker_step : (now w end k n m : ℕ) (s t : State) (text out : List ℕ) (all : Drained) → w < end → s.capacity ≡ k
    → let d = drained_of now w k s in
    t ≡ d.state → out ≡ text ++ d.text → m ≡ d.count
    → drained_both (so_far s text n) (drained_through now (ascending w (end - w)) s) ≡ all
    → drained_both (so_far t out (n + m)) (drained_through now (ascending (w + 1) (end - (w + 1))) t) ≡ all
worker_step now w end k n m s t text out all below room p q r h =
    rw (p, q, r) (worker_more now w end n s text (drained_of now w k s) all below (ap (λ i. drained_of now w i s) (sym room)) h)

-- the whole line
pub drain_meant : (b c : StoreState) (now count n : ℕ) (text out : List ℕ) → length b.state.workers ≡ count
    → IsAll c.state text n (drained_through now (ascending 0 count) b.state) → c ≡ record b { state = c.state } → out ≡ text ++ drain_line n
    → drain_said b now ≡ Ok (say (Open c) out)
unfolding drain_said
drain_meant b c now count n text out len all same put =
    ap (λ w. Ok (drain_by b (drained_through now (ascending 0 w) b.state))) len
    ∙ ap₂ (λ x t. Ok (say (Open x) t)) (sym (same ∙ ap (λ s. let x : StoreState = record b { state = s } in x) all.same_state)) (sym (put ∙ ap₂ (λ t m. t ++ drain_line m) all.same_text all.same_count))
