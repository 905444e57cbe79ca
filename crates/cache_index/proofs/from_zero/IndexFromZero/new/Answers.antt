use Rattle.std.proofs.Common.{◌≡◌, ℕ, ◌*◌, List, map, replicate, sym, ap, ◌∙◌, subst}
use Rattle.std.proofs.Common.{arith}
use Rattle.std.specs.Arc.{arc_value}
use Rattle.cache_index.specs.declared.led.Way.{Way}
use Rattle.cache_index.specs.Leads.{no_way, AreLed, IsRoomy}
use Rattle.cache_index.specs.Places.{nests_for}
use Rattle.cache_index.specs.Views.{NestsView, led_by}
use Rattle.cache_index.proofs.HistoryLemmas.{noted_first}
use Rattle.cache_index.proofs.RoomLemmas.{new_is_led, new_is_roomy}
use Rattle.cache_index.proofs.WriterLemmas.{none_led}
use Rattle.cache_index.proofs.from_zero.IndexFromZero.new.Goals as goal

pub invariant_of-result : goal.invariant_of-result
invariant_of-result c =
    let chunks = c.args.chunks in
    let nests = (arc_value c.in_ok-nests-2.nests).nests in
    let count : nests ≡ nests_for chunks =
    ap (λ (v : NestsView). v.nests) c.in_ok-nests-2.ensures.ok ∙ (c.in_ok-nests.ensures.nests ∙ c.nests_for.ensures) in
    let ways : c.loop.ways.items ≡ replicate chunks no_way =
    c.loop.invariant ∙ (let e : c.loop.counter ≡ chunks = omega arith in ap (λ (n : ℕ). replicate n no_way) e) in
    let P : List ℕ → Type 0 = λ ws. AreLed nests ws c.loop.ways.items in
    let Q : List Way → Type 0 = λ vs. AreLed nests (replicate (8 * nests) 0) vs in
    let R : ℕ → Type 0 = λ n. IsRoomy n (replicate chunks no_way) in
    let S : List Way → Type 0 = λ vs. IsRoomy nests vs in
    let words : c.in_ok-nests.pen.words ≡ replicate (8 * nests) 0 =
    c.in_ok-nests.ensures.words ∙ ap (λ (n : ℕ). replicate (8 * n) 0) (sym (count ∙ sym c.nests_for.ensures)) in (
      c.in_ok-nests.ensures.table ∙ sym (ap (λ (v : NestsView). v.table) c.in_ok-nests-2.ensures.ok),
      subst P (sym words) (subst Q (sym ways) (new_is_led nests chunks)),
      subst S (sym ways) (subst R (sym count) (new_is_roomy chunks c.requires)),
      noted_first _ _ chunks c.in_ok-nests.ensures.noted ways,
    )

pub returns-clause-table : goal.returns-clause-table
returns-clause-table c =
    let ways : c.loop.ways.items ≡ replicate c.args.chunks no_way =
    c.loop.invariant ∙ (let e : c.loop.counter ≡ c.args.chunks = omega arith in ap (λ (n : ℕ). replicate n no_way) e) in
    ap (λ (vs : List Way). map (led_by c.in_ok-nests.pen.words) vs) ways ∙ none_led c.in_ok-nests.pen.words c.args.chunks
