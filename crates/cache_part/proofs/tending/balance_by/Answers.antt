use Rattle.std.proofs.Common.{◌≡◌, refl, arith, ◌∙◌, inl}
use Rattle.cache_lists.proofs.Standings.{keeps_still, keeps_then}
use Rattle.cache_part.proofs.TendingLemmas.{balances_more}
use Rattle.cache_part.proofs.tending.balance_by.Goals as goal

pub loop-round-init : goal.loop-round-init
loop-round-init g c = record {
  balances = refl;
  kept = keeps_still c.args.lists.now.book;
  evictions = refl;
}

pub loop-round-preserved : goal.loop-round-preserved
loop-round-preserved g c =
    let so_far = c.loop-round.invariant in let did = c.balance.ensures in record {
      balances = balances_more _ _ _ _ _ _ _ so_far.balances c.if-not-balance.ensures.looked;
      kept = keeps_then _ _ _ so_far.kept did.kept;
      evictions = did.evictions ∙ so_far.evictions;
    }

pub returns-clause-balances : goal.returns-clause-balances
returns-clause-balances g c =
    let all : c.loop-round._round ≡ c.args.most = omega (arith, c.loop-round-test.false, c.loop-round.auto._round-end) in
    record {
      rounds = c.loop-round._round;
      few = c.loop-round.auto._round-end;
      between = c.loop-round.lists.book;
      moved = c.loop-round.invariant.balances;
      ends = inl (all, refl);
    }
