use Rattle.std.proofs.Common.{rules, ◌≡◌, ℕ, List, Some, length, vec_len, ◌∙◌, subst}
use Rattle.std.specs.Map.{update}
use Rattle.std.specs.Str.{bytes_eq}
use Rattle.std.proofs.lemmas.Map.Text.{hash_map_updates_str}
use Rattle.store_trace.specs.NamedHolds.{place_of_name}
use Rattle.store_trace.proofs.NamedHolds.{put_is_kept, put_names}
use Rattle.store_trace.proofs.keeping.KeptHolds.keep.Goals as goal

pub invariant_of-self-in-Ok : goal.invariant_of-self-in-Ok
invariant_of-self-in-Ok g c =
    let old = c.args.self.now in
    let long : vec_len old.holds ≡ length old.holds.items = search rules in
    let updates = hash_map_updates_str c.args.name.now old.places c.insert.new.self (Some c.len-place.result) c.in-Ok.ensures.updates in
    let puts = λ (other : List ℕ). subst (λ (n : ℕ). place_of_name c.insert.new.self other ≡ update bytes_eq (place_of_name old.places) c.args.name.now (Some n) other) (c.len-place.ensures ∙ long) (updates other) in
    record { each = rw c.in_default.ensures.items (put_is_kept old.places c.insert.new.self old.holds.items old.each c.args.name.now c.args.hold puts) }

pub returns-in-Ok : goal.returns-in-Ok
returns-in-Ok g c =
    let old = c.args.self.now in
    let long : vec_len old.holds ≡ length old.holds.items = search rules in
    let updates = hash_map_updates_str c.args.name.now old.places c.insert.new.self (Some c.len-place.result) c.in-Ok.ensures.updates in
    let puts = λ (other : List ℕ). subst (λ (n : ℕ). place_of_name c.insert.new.self other ≡ update bytes_eq (place_of_name old.places) c.args.name.now (Some n) other) (c.len-place.ensures ∙ long) (updates other) in
    record { kept = rw c.in_default.ensures.items (put_names old.places c.insert.new.self old.holds.items old.each c.args.name.now c.args.hold puts) }
