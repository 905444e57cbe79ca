use Rattle.std.proofs.Common.{rules, refl, subst}
use Rattle.cache_index.proofs.ReaderLemmas.{looks_more, sees_looks}
use Rattle.cache_readers.specs.declared.vain.Vain.{Vain}
use Rattle.cache_readers.specs.Looks.{LooksInVain}
use Rattle.cache_readers.proofs.LookLemmas.{ends_behind, one_more_other, search_over}
use Rattle.cache_readers.proofs.MissLemmas.{another_holds, holds_same, holds_then, so_far_end, so_far_first, so_far_more}
use Rattle.cache_readers.proofs.looking.look_through.Goals as goal

pub returns-in-Ok-clause-finds : goal.returns-in-Ok-clause-finds
returns-in-Ok-clause-finds g c =
    ends_behind _ _ _ _ _ _ _ c.loop-id.invariant.0 c.in-Ok.ensures.finds

pub returns-in-Err-Ended-clause-vain : goal.returns-in-Err-Ended-clause-vain
returns-in-Err-Ended-clause-vain g c = record {
  between = c.loop-id.worker;
  others = c.loop-id.invariant.0;
  last = subst (λ (why : Vain). LooksInVain why c.args.heads.now c.args.key.now c.args.now c.loop-id.worker c.look.new.worker)
      c.in-Err-Ended.field-0-is c.in-Err-Ended.ensures.vain;
}

pub returns-in-Err-Over-clause-vain : goal.returns-in-Err-Over-clause-vain
returns-in-Err-Over-clause-vain g c = record {
  between = c.loop-id.worker;
  others = c.loop-id.invariant.0;
  last = subst (λ (why : Vain). LooksInVain why c.args.heads.now c.args.key.now c.args.now c.loop-id.worker c.look.new.worker)
      c.in-Err-Over.field-0-is c.in-Err-Over.ensures.vain;
}

pub returns-clause-vain : goal.returns-clause-vain
returns-clause-vain g c = search_over _ _ _ _ _ c.loop-id.invariant.0

pub loop-id-init : goal.loop-id-init
loop-id-init g c = (
  record { looks = 0; others = refl },
  c.search-search.ensures.nests,
  refl,
  refl,
  c.search-search.ensures.table,
  c.search-search.ensures.first,
  c.search-search.ensures.hash,
  sees_looks c.args.eye.now c.search-search.new.eye c.search-search.ensures.eye,
  holds_same c.args.worker.now c.args.worker.now refl,
  so_far_first c.args.hash c.args.key.now c.args.index.now c.search-search.result c.args.worker.now c.args.eye.now
      c.search-search.new.eye c.requires.eye c.search-search.ensures.begins,
)

pub loop-id-preserved : goal.loop-id-preserved
loop-id-preserved g c =
    let i = c.loop-id.invariant in
    let another = c.in-Err-Other.ensures.other c.in-Err-Other.field-0-is in (
      one_more_other _ _ _ _ c.loop-id.worker c.look.new.worker c.loop-id.invariant.0
          (subst (λ (why : Vain). LooksInVain why c.args.heads.now c.args.key.now c.args.now c.loop-id.worker c.look.new.worker)
          c.in-Err-Other.field-0-is c.in-Err-Other.ensures.vain),
      search rules,
      search rules,
      search rules,
      search rules,
      search rules,
      search rules,
      looks_more c.args.eye.now c.loop-id.eye c.next.new.eye i.7 c.in-Some.ensures.eye,
      holds_then c.args.worker.now c.loop-id.worker c.look.new.worker i.8
          (another_holds c.args.key.now c.in-Some.id c.loop-id.worker c.look.new.worker another),
      so_far_more c.args.hash c.args.key.now c.args.index.now c.in-Some.id c.loop-id.search c.next.new.self
          c.args.worker.now c.loop-id.worker c.look.new.worker c.args.eye.now c.loop-id.eye c.next.new.eye c.requires.eye i.7
          c.in-Some.ensures.eye i.5 i.1 i.6 i.9 c.in-Some.ensures.answers i.8 another,
    )

pub returns-clause-absent : goal.returns-clause-absent
returns-clause-absent g c = λ _.
    let i = c.loop-id.invariant in
    so_far_end c.args.hash c.args.key.now c.args.index.now c.loop-id.search c.args.worker.now c.loop-id.worker
    c.args.eye.now c.loop-id.eye c.next.new.eye c.requires.eye i.7 c.in_default.ensures.eye i.1 i.6 i.9
    c.in_default.ensures.ends

pub returns-in-Ok-clause-looks : goal.returns-in-Ok-clause-looks
returns-in-Ok-clause-looks g c =
    looks_more c.args.eye.now c.loop-id.eye c.next.new.eye c.loop-id.invariant.7 c.in-Some.ensures.eye

pub returns-in-Err-Ended-clause-looks : goal.returns-in-Err-Ended-clause-looks
returns-in-Err-Ended-clause-looks g c =
    looks_more c.args.eye.now c.loop-id.eye c.next.new.eye c.loop-id.invariant.7 c.in-Some.ensures.eye

pub returns-in-Err-Over-clause-looks : goal.returns-in-Err-Over-clause-looks
returns-in-Err-Over-clause-looks g c =
    looks_more c.args.eye.now c.loop-id.eye c.next.new.eye c.loop-id.invariant.7 c.in-Some.ensures.eye

pub returns-clause-looks : goal.returns-clause-looks
returns-clause-looks g c =
    looks_more c.args.eye.now c.loop-id.eye c.next.new.eye c.loop-id.invariant.7 c.in_default.ensures.eye
