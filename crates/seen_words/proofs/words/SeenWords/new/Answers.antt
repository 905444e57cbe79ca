use Rattle.std.proofs.Common.{◌≡◌, ℕ, ◌+◌, List, [], drop, replicate, sym, subst, arith}
use Rattle.atomic_table.specs.Table.{opening}
use Rattle.seen_words.specs.Past.{Kept, first_sight, moment}
use Rattle.seen_words.proofs.Steps.{starts, zeros_behind}
use Rattle.seen_words.proofs.words.SeenWords.new.Goals as goal

pub of_words-requires : goal.of_words-requires
of_words-requires g c =
    let zeros = c.loop.zeros.items in
    let full : c.loop.counter ≡ 6 + c.args.count = omega (arith, c.loop-test.false, c.loop.auto.counter-end) in
    let behind : drop 6 zeros ≡ replicate c.args.count 0 =
    zeros_behind zeros c.loop.counter c.args.count c.loop.invariant full in
    let lawful : g.L.Law.law [] (moment (drop 6 zeros) []) =
    subst (λ (ws : List ℕ). g.L.Law.law [] (moment ws [])) (sym behind) c.requires.lawful in
    subst (λ (ws : List ℕ). Kept g.L.Law.law (opening ws [] (first_sight zeros))) (sym c.as_slice.ensures.value)
    (starts g.L.Law.law zeros lawful)
