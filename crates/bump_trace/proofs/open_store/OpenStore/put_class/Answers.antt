use Rattle.std.proofs.Common.{◌≡◌, ◌++◌, ◌∙◌, refl, sym, ap, append-nil, drop, arith}
use Rattle.std.specs.List.{flat_map}
use Rattle.std.proofs.lemmas.List.{drop_more}
use Rattle.bump_rules.specs.Places.{all_places}
use Rattle.bump_rules.specs.declared.places.Place.TheVariants.{Hot}
use Rattle.bump_trace.specs.Shows.{list_line}
use Rattle.bump_trace.proofs.AscendingLoops.{printed_next}
use Rattle.bump_trace.proofs.open_store.OpenStore.put_class.Goals as goal

pub loop-place-init : goal.loop-place-init
loop-place-init c = refl

pub loop-place-preserved : goal.loop-place-preserved
loop-place-preserved c =
    printed_next (list_line c.args.self.now.world c.args.class) c.loop-place.out.items _ _ _ _ _
    (drop_more all_places c.loop-place.place-index Hot c.loop-place-test.true) c.in_ok-put_list.ensures c.loop-place.invariant

pub returns : goal.returns
returns c =
    let all : c.loop-place.place-index ≡ 7 = omega (arith, c.loop-place-test.false, c.loop-place.auto.place-index-end) in
    sym (append-nil c.loop-place.out.items)
    ∙ ap (λ i. c.loop-place.out.items ++ flat_map (list_line c.args.self.now.world c.args.class) (drop i all_places)) (sym all)
    ∙ c.loop-place.invariant
