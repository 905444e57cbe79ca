use Rattle.std.proofs.Common.{ap, ◌∙◌, inl, inr, refl}
use Rattle.cache_lists.proofs.LookLemmas.{looks_keep}
use Rattle.cache_lists.proofs.Standings.{keeps_then}
use Rattle.cache_part.proofs.tending.drain_where_held.Goals as goal

pub returns-then-is_cold_end_held-clause-drains : goal.returns-then-is_cold_end_held-clause-drains
returns-then-is_cold_end_held-clause-drains g c = let look = c.is_cold_end_held in record {
  held = look.result;
  looked = look.new.self.book;
  looks = look.ensures.looks_at;
  drains = inr (
    c.if-is_cold_end_held.true,
    c.drain.ensures.drains,
    c.drain.ensures.evictions ∙ ap (λ v. v.evictions) look.ensures.rest,
  );
}

pub returns-then-is_cold_end_held-clause-kept : goal.returns-then-is_cold_end_held-clause-kept
returns-then-is_cold_end_held-clause-kept g c = keeps_then _ _ _
    (looks_keep _ _ c.is_cold_end_held.ensures.looks) c.drain.ensures.kept

pub returns-else-is_cold_end_held-clause-drains : goal.returns-else-is_cold_end_held-clause-drains
returns-else-is_cold_end_held-clause-drains g c = let look = c.is_cold_end_held in record {
  held = look.result;
  looked = look.new.self.book;
  looks = look.ensures.looks_at;
  drains = inl (c.if-is_cold_end_held.false, look.ensures.rest, refl);
}

pub returns-else-is_cold_end_held-clause-kept : goal.returns-else-is_cold_end_held-clause-kept
returns-else-is_cold_end_held-clause-kept g c = looks_keep _ _ c.is_cold_end_held.ensures.looks
