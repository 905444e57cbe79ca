use Rattle.std.proofs.Common.{rules, ◌≡◌, ◌-◌, ◌≤◌, All, length, refl, sym, ap, ◌∙◌, subst, vec_len, arith}
use Rattle.std.proofs.lemmas.List.{length-map}
use Rattle.std.proofs.lemmas.List.Elements.{All-map}
use Rattle.std.proofs.lemmas.Simd.{map-map}
use Rattle.std.specs.Arc.{arc_value}
use Rattle.bump_rules.specs.Configs.{most_workers}
use Rattle.bump_rules.specs.declared.configs.Config.{Config}
use Rattle.bump_rules.proofs.Bounds.{bounds}
use Rattle.bump_class.specs.Lanes.{LaneView}
use Rattle.bump_store.specs.Lanes.{LaneState, lane_rings, lane_sheets_of}
use Rattle.bump_store.specs.Stores.{IsStore}
use Rattle.bump_store.proofs.Starts.{count_of_books, new_lanes_idle, made_store}
use Rattle.bump_store.proofs.stores.Store.new.Goals as goal

pub make_lanes-requires : goal.make_lanes-requires
make_lanes-requires g c = record {
  idle = new_lanes_idle 0 c.args.config.now.workers c.in_ok-heads.field-0.lanes.items c.in_ok-heads.ensures.lanes;
}

pub invariant_of-store : goal.invariant_of-store
invariant_of-store g c =
    let key = c.args.config.now in
    let b = bounds key.workers key.capacity key.refs_limit key.first_generation key.classes key.valid in
    let sheets = c.in_ok-heads.ensures in
    let same : key.classes ≡ (arc_value c.in_ok-heads.field-0.heads).classes = sym (ap (λ (k : Config). k.classes) sheets.heads) in
    let copied : c.in_ok-configs.configs.items ≡ c.as_slice.result.now = search rules in
    let count : vec_len c.in_ok-locks.locks ≡ length key.classes =
    c.in_ok-locks.ensures ∙ ap length sheets.books
    ∙ count_of_books (key.first_generation - 1) 0 0 key.workers key.classes in (
      subst (λ ks. IsStore ks c.in_ok-heads.field-0.starts.items (vec_len c.in_ok-locks.locks)) same
          (made_store _ _ _ sheets.starts count (omega (arith, count, b.classes_least)) (omega (arith, count, b.classes_most))),
      copied ∙ c.as_slice.ensures ∙ same,
      sym (ap (λ (k : Config). k.workers) sheets.heads),
    )

pub returns-clause-count : goal.returns-clause-count
returns-clause-count g c =
    let sheets = c.in_ok-heads.ensures in (
      sheets.count.0,
      ap length c.in_ok-lanes.ensures
          ∙ length-map {B = LaneState} c.in_ok-heads.field-0.lanes.items (λ (x : LaneView). record { lane = x; capacity = c.args.config.now.capacity })
          ∙ sheets.count.1,
    )

pub returns-clause-rings : goal.returns-clause-rings
returns-clause-rings g c = c.in_ok-heads.ensures.rings
    ∙ sym (ap lane_rings c.in_ok-lanes.ensures
    ∙ map-map (λ (x : LaneState). x.lane.ring) (λ (x : LaneView). record { lane = x; capacity = c.args.config.now.capacity })
    c.in_ok-heads.field-0.lanes.items)

pub returns-clause-lanes : goal.returns-clause-lanes
returns-clause-lanes g c = ap lane_sheets_of c.in_ok-lanes.ensures
    ∙ map-map (λ (x : LaneState). x.lane.sheet) (λ (x : LaneView). record { lane = x; capacity = c.args.config.now.capacity })
    c.in_ok-heads.field-0.lanes.items
    ∙ c.in_ok-heads.ensures.lanes

pub returns-clause-capacity : goal.returns-clause-capacity
returns-clause-capacity g c =
    let room = c.args.config.now.capacity in (
      c.in_ok-heads.ensures.capacity,
      subst (All (λ (x : LaneState). x.capacity ≡ room)) (sym c.in_ok-lanes.ensures)
          (All-map (λ (x : LaneState). x.capacity ≡ room) (λ (x : LaneView). record { lane = x; capacity = room })
          c.in_ok-heads.field-0.lanes.items (λ k none low. refl)),
    )

pub invariant_of-result : goal.invariant_of-result
invariant_of-result g c =
    let key = c.args.config.now in
    let b = bounds key.workers key.capacity key.refs_limit key.first_generation key.classes key.valid in
    let few : length c.in_ok-lanes.lanes.items ≤ most_workers = omega (
      arith,
      ap length c.in_ok-lanes.ensures,
      length-map {B = LaneState} c.in_ok-heads.field-0.lanes.items
          (λ (x : LaneView). record { lane = x; capacity = key.capacity }),
      c.in_ok-heads.ensures.count.1,
      b.workers_most,
    ) in
    few
