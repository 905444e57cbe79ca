use Rattle.std.proofs.Common.{rules, ◌≡◌, ℕ, ◌<◌, None, length, vec_len, sym, subst}
use Rattle.std.proofs.lemmas.Map.Text.{hash_map_updates_str}
use Rattle.store_trace.proofs.NamedHolds.{take_is_kept, take_names, taken_inside, none_names}
use Rattle.store_trace.proofs.keeping.KeptHolds.take.Goals as goal

pub returns-in_err-place-clause-kept : goal.returns-in_err-place-clause-kept
returns-in_err-place-clause-kept g c =
    let old = c.args.self.now in
    none_names old.places c.remove.new.self old.holds.items old.each c.args.name.now
    (hash_map_updates_str c.args.name.now old.places c.remove.new.self None c.in_err-place.ensures.updates)

pub index_mut-requires : goal.index_mut-requires
index_mut-requires g c =
    let old = c.args.self.now in
    let long : vec_len old.holds ≡ length old.holds.items = search rules in
    subst (λ (n : ℕ). c.in_ok-place.place < n) (sym long)
    (taken_inside old.places c.remove.new.self old.holds.items old.each c.args.name.now c.in_ok-place.place (sym c.in_ok-place.ensures.value)
    (hash_map_updates_str c.args.name.now old.places c.remove.new.self None c.in_ok-place.ensures.updates))

pub invariant_of-self-2 : goal.invariant_of-self-2
invariant_of-self-2 g c =
    let old = c.args.self.now in
    record {
      each = rw c.take.ensures.after (take_is_kept old.places c.remove.new.self old.holds.items old.each c.args.name.now c.in_ok-place.place (sym c.in_ok-place.ensures.value)
          (hash_map_updates_str c.args.name.now old.places c.remove.new.self None c.in_ok-place.ensures.updates));
    }

pub returns-clause-kept : goal.returns-clause-kept
returns-clause-kept g c =
    let old = c.args.self.now in
    rw c.take.ensures.after (take_names old.places c.remove.new.self old.holds.items old.each c.args.name.now c.in_ok-place.place (sym c.in_ok-place.ensures.value)
    (hash_map_updates_str c.args.name.now old.places c.remove.new.self None c.in_ok-place.ensures.updates))
