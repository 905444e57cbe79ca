use Rattle.std.proofs.Common.{arith, ℕ, ◌≡◌, ◌-◌, List, subst, sym, ap, length, ◌∙◌}
use Rattle.bump_rules.proofs.Bounds.{bounds}
use Rattle.bump_steps.specs.Places.{head_place}
use Rattle.bump_steps.specs.Rule.{AreFresh, chunks}
use Rattle.bump_steps.proofs.Places.{rows_are, place_behind}
use Rattle.bump_steps.proofs.Starts.{starts}
use Rattle.bump_steps.proofs.words.Words.fresh.Goals as goal

pub new-requires : goal.new-requires
new-requires g c = let key = c.args.config.now in let b = bounds key.workers key.capacity key.refs_limit
    key.first_generation key.classes key.valid in
    let many : length c.resize.new.self.items ≡ c.args.further =
    omega (arith, c.in_ok-resize.ensures.len, c.resize.new.self.ok.0) in
    starts key c.deref.result.now c.resize.new.self.items
    (subst (λ (x : ℕ × ℕ × List ℕ). AreFresh x.0 x.1 (key.first_generation - 1) x.2)
    (λ i. (sym many i, c.chunks.ensures i, sym c.deref.ensures.value i)) c.in_ok-words.ensures.words)
    (omega (arith, b.limit_least), omega (arith, b.limit_most))
    (omega (arith, b.generation_least), c.fresh_words.ensures.fits)

pub invariant_of-result : goal.invariant_of-result
invariant_of-result g c = let ok = c.in-Ok.ensures.ok in let t = c.in-Ok.table.shared.table_id in
    let fresh : AreFresh c.args.further c.chunks.result (c.args.config.now.first_generation - 1) c.in_ok-words.words.items =
    c.in_ok-words.ensures.words in
    let few : t.slots ≡ c.args.further = ok.1 ∙ omega (arith, c.in_ok-resize.ensures.len, c.resize.new.self.ok.0) in
    let wide : t.words ≡ head_place t.slots (chunks c.args.config.now) = ok.0 ∙ ap length c.deref.ensures.value ∙ fresh.0
    ∙ (λ i. head_place (sym few i) (c.chunks.ensures i)) in
    record {
      row_is = omega (arith, few);
      few = omega (arith, few, c.ranges.further.fits);
      sized = rows_are t (chunks c.args.config.now) wide ∙ ap chunks (sym ok.5);
    }

pub returns-in-Ok-clause-chunks : goal.returns-in-Ok-clause-chunks
returns-in-Ok-clause-chunks g c = let ok = c.in-Ok.ensures.ok in
    let fresh : AreFresh c.args.further c.chunks.result (c.args.config.now.first_generation - 1) c.in_ok-words.words.items =
    c.in_ok-words.ensures.words in
    omega (
      arith,
      ok.0,
      ap length c.deref.ensures.value,
      fresh.0,
      place_behind c.args.further c.chunks.result,
    )
