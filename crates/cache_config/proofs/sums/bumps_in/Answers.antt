use Rattle.std.proofs.Common.{length, sym, ap, ◌∙◌, subst, arith}
use Rattle.std.proofs.lemmas.List.{take_all}
use Rattle.bump_rules.specs.declared.bumps.Accounts.{Accounts}
use Rattle.bump_rules.specs.declared.hands.Hand.TheVariants as hand
use Rattle.bump_rules.specs.Rings.{IsAccounts}
use Rattle.cache_config.specs.Sums.{AddsUp, bumps_of}
use Rattle.cache_config.proofs.PartSums.{bumps_next, each_next}
use Rattle.cache_config.proofs.sums.bumps_in.Goals as goal

pub loop-part-preserved : goal.loop-part-preserved
loop-part-preserved g c =
    let so_far = c.loop-part.invariant in
    let own = subst (λ (a : Accounts). IsAccounts a (length c.part-item.result.worker.sender.sent) hand.Idle)
    c.bumps.ensures.counts c.bumps.ensures.add_up in
    record {
      counts = c.both-bumps.ensures
          ∙ bumps_next c.args.parts.now c.loop-part.part-index c.part-item.result c.loop-part.bumps c.bumps.result
          c.loop-part-test.true (sym c.part-item.is) so_far.counts c.bumps.ensures.counts;
      add_up = each_next AddsUp c.args.parts.now c.loop-part.part-index c.part-item.result c.loop-part-test.true
          (sym c.part-item.is) so_far.add_up own;
    }

pub returns-clause-counts : goal.returns-clause-counts
returns-clause-counts g c = c.loop-part.invariant.counts
    ∙ ap bumps_of (take_all c.loop-part.part-index c.args.parts.now (omega (arith, c.loop-part-test.false)))

pub returns-clause-add_up : goal.returns-clause-add_up
returns-clause-add_up g c = λ k none low.
    c.loop-part.invariant.add_up k none (omega (arith, low, c.loop-part-test.false))
