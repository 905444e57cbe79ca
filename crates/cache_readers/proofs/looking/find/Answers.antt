use Rattle.std.proofs.Common.{refl}
use Rattle.bump_unlocked.specs.Workers.{WorkerState}
use Rattle.cache_index.proofs.ReaderLemmas.{looks_more}
use Rattle.cache_readers.specs.Looks.{FindsNothing}
use Rattle.cache_readers.proofs.LookLemmas.{found_at_once, nothing_behind}
use Rattle.cache_readers.proofs.MissLemmas.{missed_behind}
use Rattle.cache_readers.proofs.looking.find.Goals as goal

pub returns-in-Unsure-clause-vain : goal.returns-in-Unsure-clause-vain
returns-in-Unsure-clause-vain g c =
    nothing_behind c.find_from.result c.in-Unsure.id.chunk (λ (before : WorkerState). FindsNothing c.args.heads.now
    c.args.key.now c.args.now c.args.anew.now c.find_from.new.anew before c.find_from.new.worker) c.args.worker.now
    c.glance_first.new.worker c.in-Unsure.ensures.unsure c.find_from.ensures.vain

pub returns-in-Unsure-clause-missed : goal.returns-in-Unsure-clause-missed
returns-in-Unsure-clause-missed g c =
    missed_behind c.find_from.result c.in-Unsure.id.chunk c.args.hash c.args.key.now c.args.now c.args.heads.now
    c.args.index.now c.args.anew.now c.find_from.new.anew c.args.worker.now c.args.eye.now c.glance_first.new.worker
    c.glance_first.new.eye c.find_from.new.worker c.find_from.new.eye c.in-Unsure.ensures.unsure c.in-Unsure.ensures.looks
    c.find_from.ensures.missed

pub returns-in-Unsure-clause-looks : goal.returns-in-Unsure-clause-looks
returns-in-Unsure-clause-looks g c =
    looks_more c.args.eye.now c.glance_first.new.eye c.find_from.new.eye c.in-Unsure.ensures.looks c.find_from.ensures.looks

pub returns-in-Found-clause-finds : goal.returns-in-Found-clause-finds
returns-in-Found-clause-finds g c = found_at_once _ _ _ _ _ _ _ _ _ refl (c.in-Found.ensures.found refl)
