use Rattle.std.proofs.Common.{◌≡◌, ℕ, List, ◌∷◌, [], Option, Some, Ok, Err, sym, refl, ap, ◌∙◌, subst, rules}
use Rattle.bump_rules.specs.Lives.{life}
use Rattle.bump_rules.specs.declared.configs.Config.{Config}
use Rattle.bump_rules.specs.declared.items.Head.{Head}
use Rattle.bump_rules.specs.declared.items.ItemId.{ItemId}
use Rattle.bump_word.proofs.Words.{one_head}
use Rattle.bump_word.specs.Words.{Fits}
use Rattle.bump_steps.specs.declared.refusals.TakeRefusal.{TakeRefusal}
use Rattle.bump_steps.specs.declared.views.View.{View}
use Rattle.bump_steps.specs.References.{new_hold}
use Rattle.bump_steps.specs.Tries.{of_any, last_found, asked_refusal, asked_life}
use Rattle.bump_steps.proofs.Tries.{last_is_one}
use Rattle.bump_readers.specs.declared.views.HoldView.{HoldView}
use Rattle.bump_readers.specs.Seats.{IsHoldOf, hold_views, hold_in_views, row_in, worker_in}
use Rattle.bump_readers.specs.Taking.{TookAny, IsTakenBy, take_any_answer, whole_hold}
use Rattle.bump_readers.proofs.Attempts.{held_seat, refused_seat, refused_view, held_view, new_views}
use Rattle.bump_readers.proofs.HeldHeads.{any_ok, any_err, taken_by}
use Rattle.bump_readers.proofs.heads.ReaderHeads.take_any.Goals as goal

pub invariant_of-worker : goal.invariant_of-worker
invariant_of-worker g c = let t = c.take_any.ensures.told in
    let limit = c.self.inside.limit in
    let why = any_err (asked_refusal limit of_any t.0 t.1) (last_found t.0 t.1) c.in-Err.refusal
    (sym c.in-Err.is ∙ t.6) in
    refused_seat g.N.Name.table c.worker.inside.worker c.worker.inside.seat.table_id c.take_any.new.seat.table_id
    c.worker.inside.seat.me
    c.take_any.new.seat.me c.args.worker.now c.worker.invariant (cc c.worker.view_is) c.take_any.ensures.same.0
    limit of_any c.args.chunk t.0 t.1 t.2 (asked_refusal limit of_any t.0 t.1) why.0 c.requires.alone t.5 refl why.1

pub returns-in-Err-clause-took : goal.returns-in-Err-clause-took
returns-in-Err-clause-took g c = let t = c.take_any.ensures.told in
    let limit = c.self.inside.limit in
    let same : limit ≡ c.args.self.now.refs_limit = c.self.invariant.2
    ∙ ap (λ (k : Config). k.refs_limit) c.self.view_is in
    let why = any_err (asked_refusal limit of_any t.0 t.1) (last_found t.0 t.1) c.in-Err.refusal
    (sym c.in-Err.is ∙ t.6) in (
      t.0,
      t.1,
      subst (λ (n : ℕ). TookAny n c.args.chunk c.args.worker.now (worker_in c.take_any.new.seat.me.0)
          (Err c.in-Err.refusal) t.0 t.1) same record {
            found = t.4;
            row = t.2;
            steps = refused_view g.N.Name.table c.worker.inside.worker c.worker.inside.seat.table_id
                c.take_any.new.seat.table_id c.worker.inside.seat.me
                c.take_any.new.seat.me c.args.worker.now c.worker.invariant (cc c.worker.view_is)
                c.take_any.ensures.same.0 limit of_any c.args.chunk t.0 t.1 t.2 why.0 c.requires.alone t.5 why.1;
            answer = ap Err why.2
                ∙ ap (λ (o : Option TakeRefusal). take_any_answer o (asked_life of_any c.args.chunk t.0 t.1) t.2
                (last_found t.0 t.1)) (sym why.1);
          },
    )

pub head_of-found-requires : goal.head_of-found-requires
head_of-found-requires g c = let t = c.take_any.ensures.told in
    let how = any_ok (asked_refusal c.self.inside.limit of_any t.0 t.1) (last_found t.0 t.1) c.in-Ok.word
    (sym c.in-Ok.is ∙ t.6) in
    (last_found t.0 t.1, (how.1, last_is_one Fits t.0 t.1 t.4.heads))

pub invariant_of-worker-2 : goal.invariant_of-worker-2
invariant_of-worker-2 g c = let t = c.take_any.ensures.told in
    held_seat g.N.Name.table c.worker.inside.worker c.worker.inside.seat.table_id c.part_holds-sheet.new.seat.table_id
    c.worker.inside.seat.me c.part_holds-sheet.new.seat.me c.args.worker.now c.worker.invariant (cc c.worker.view_is)
    (c.part_holds-sheet.ensures.same.0 ∙ c.take_any.ensures.same.0) c.self.inside.limit of_any
    c.args.chunk t.0 t.1 t.2
    c.take_any.new.seat.me t.5 c.part_holds-sheet.ensures.sheets.0

pub invariant_of-hold : goal.invariant_of-hold
invariant_of-hold g c = let t = c.take_any.ensures.told in
    let limit = c.self.inside.limit in
    let how = any_ok (asked_refusal limit of_any t.0 t.1) (last_found t.0 t.1) c.in-Ok.word
    (sym c.in-Ok.is ∙ t.6) in
    let l : ItemId = life c.args.chunk c.head_of-found.result.generation in
    let found : last_found t.0 t.1 ≡ c.head_of-found.result = one_head c.in-Ok.word (last_found t.0 t.1)
    c.head_of-found.result (how.1, last_is_one Fits t.0 t.1 t.4.heads) c.head_of-found.ensures in
    let views : c.into_badge.result.views ≡ hold_views (Some (new_hold l t.2)) = new_views g.N.Name.table
    c.worker.inside.worker c.worker.inside.seat.table_id c.part_holds-sheet.new.seat.table_id
    c.worker.inside.seat.me c.part_holds-sheet.new.seat.me c.args.worker.now c.worker.invariant (cc c.worker.view_is)
    (c.part_holds-sheet.ensures.same.0 ∙ c.take_any.ensures.same.0) limit of_any
    c.args.chunk t.0 t.1 t.2 c.take_any.new.seat.me c.into_badge.result.views c.requires.alone t.5
    (c.into_badge.ensures.2 ∙ ap (λ (x : View). x ∷ []) (ap (λ x. x.0) c.part_holds-sheet.ensures.sheets.1)) how.0
    ∙ ap (λ (k : Head). hold_views (Some (new_hold (life c.args.chunk k.generation) t.2))) found in (
      subst (λ (v : List View). v ≡ hold_views (hold_in_views v)) (sym views) refl,
      (λ some. c.into_badge.ensures.0 ∙ c.part_holds-sheet.ensures.same.2 ∙ c.take_any.ensures.same.0
          ∙ c.worker.invariant.1),
      subst (λ (v : List View). IsHoldOf l (hold_in_views v)) (sym views) refl,
      search rules,
      c.head_at-at.ensures.is ∙ search rules,
    )

pub returns-clause-took : goal.returns-clause-took
returns-clause-took g c = let t = c.take_any.ensures.told in
    let limit = c.self.inside.limit in
    let same : limit ≡ c.args.self.now.refs_limit = c.self.invariant.2
    ∙ ap (λ (k : Config). k.refs_limit) c.self.view_is in
    let how = any_ok (asked_refusal limit of_any t.0 t.1) (last_found t.0 t.1) c.in-Ok.word
    (sym c.in-Ok.is ∙ t.6) in
    let k : Head = c.head_of-found.result in
    let l : ItemId = life c.args.chunk k.generation in
    let found : last_found t.0 t.1 ≡ k = one_head c.in-Ok.word (last_found t.0 t.1)
    k (how.1, last_is_one Fits t.0 t.1 t.4.heads) c.head_of-found.ensures in
    let views : c.into_badge.result.views ≡ hold_views (Some (new_hold l t.2)) = new_views g.N.Name.table
    c.worker.inside.worker c.worker.inside.seat.table_id c.part_holds-sheet.new.seat.table_id
    c.worker.inside.seat.me c.part_holds-sheet.new.seat.me c.args.worker.now c.worker.invariant (cc c.worker.view_is)
    (c.part_holds-sheet.ensures.same.0 ∙ c.take_any.ensures.same.0) limit of_any
    c.args.chunk t.0 t.1 t.2 c.take_any.new.seat.me c.into_badge.result.views c.requires.alone t.5
    (c.into_badge.ensures.2 ∙ ap (λ (x : View). x ∷ []) (ap (λ x. x.0) c.part_holds-sheet.ensures.sheets.1)) how.0
    ∙ ap (λ (k : Head). hold_views (Some (new_hold (life c.args.chunk k.generation) t.2))) found in
    let answer : Ok (record { life = l; sheet = hold_in_views c.into_badge.result.views }, k)
    ≡ take_any_answer (asked_refusal limit of_any t.0 t.1) (asked_life of_any c.args.chunk t.0 t.1) t.2
    (last_found t.0 t.1) =
    ap (λ (v : List View). Ok (record { life = l; sheet = hold_in_views v }, k)) views
    ∙ ap (λ (j : Head). Ok (whole_hold (life c.args.chunk j.generation) t.2, j)) (sym found)
    ∙ ap (λ (o : Option TakeRefusal). take_any_answer o (asked_life of_any c.args.chunk t.0 t.1) t.2
    (last_found t.0 t.1)) (sym how.0) in (
      t.0,
      t.1,
      subst (λ (n : ℕ). TookAny n c.args.chunk c.args.worker.now (worker_in c.part_holds-sheet.new.seat.me.0)
          (Ok (record { life = l; sheet = hold_in_views c.into_badge.result.views }, k)) t.0 t.1) same record {
            found = t.4;
            row = t.2;
            steps = held_view g.N.Name.table c.worker.inside.worker c.worker.inside.seat.table_id
                c.part_holds-sheet.new.seat.table_id c.worker.inside.seat.me
                c.part_holds-sheet.new.seat.me c.args.worker.now c.worker.invariant (cc c.worker.view_is)
                (c.part_holds-sheet.ensures.same.0 ∙ c.take_any.ensures.same.0) limit of_any c.args.chunk t.0 t.1 t.2
                c.take_any.new.seat.me c.requires.alone t.5 c.part_holds-sheet.ensures.sheets.0;
            answer = answer;
          },
    )

pub returns-clause-found : goal.returns-clause-found
returns-clause-found g c = let t = c.take_any.ensures.told in
    let limit = c.self.inside.limit in
    let same : limit ≡ c.args.self.now.refs_limit = c.self.invariant.2
    ∙ ap (λ (k : Config). k.refs_limit) c.self.view_is in
    let how = any_ok (asked_refusal limit of_any t.0 t.1) (last_found t.0 t.1) c.in-Ok.word
    (sym c.in-Ok.is ∙ t.6) in
    let found : last_found t.0 t.1 ≡ c.head_of-found.result = one_head c.in-Ok.word (last_found t.0 t.1)
    c.head_of-found.result (how.1, last_is_one Fits t.0 t.1 t.4.heads) c.head_of-found.ensures in
    subst (λ (n : ℕ). IsTakenBy n (life c.args.chunk c.head_of-found.result.generation) c.head_of-found.result) same
    (subst (λ (k : Head). IsTakenBy limit (life c.args.chunk k.generation) k) found
    (taken_by limit c.args.chunk t.0 t.1 t.4 how.0))

pub returns-clause-hold : goal.returns-clause-hold
returns-clause-hold g c = let t = c.take_any.ensures.told in
    let limit = c.self.inside.limit in
    let how = any_ok (asked_refusal limit of_any t.0 t.1) (last_found t.0 t.1) c.in-Ok.word
    (sym c.in-Ok.is ∙ t.6) in
    let l : ItemId = life c.args.chunk c.head_of-found.result.generation in
    let found : last_found t.0 t.1 ≡ c.head_of-found.result = one_head c.in-Ok.word (last_found t.0 t.1)
    c.head_of-found.result (how.1, last_is_one Fits t.0 t.1 t.4.heads) c.head_of-found.ensures in
    let views : c.into_badge.result.views ≡ hold_views (Some (new_hold l t.2)) = new_views g.N.Name.table
    c.worker.inside.worker c.worker.inside.seat.table_id c.part_holds-sheet.new.seat.table_id
    c.worker.inside.seat.me c.part_holds-sheet.new.seat.me c.args.worker.now c.worker.invariant (cc c.worker.view_is)
    (c.part_holds-sheet.ensures.same.0 ∙ c.take_any.ensures.same.0) limit of_any
    c.args.chunk t.0 t.1 t.2 c.take_any.new.seat.me c.into_badge.result.views c.requires.alone t.5
    (c.into_badge.ensures.2 ∙ ap (λ (x : View). x ∷ []) (ap (λ x. x.0) c.part_holds-sheet.ensures.sheets.1)) how.0
    ∙ ap (λ (k : Head). hold_views (Some (new_hold (life c.args.chunk k.generation) t.2))) found in
    subst (λ (v : List View). ◌≡◌ {A = HoldView} record { life = l; sheet = hold_in_views v }
    (whole_hold l (row_in (hold_in_views v)))) (sym views) refl
