use Rattle.std.proofs.Common.{◌≡◌, ℕ, zero, suc, ◌<◌, List, [], ◌∷◌, ◌++◌, length, ap, ◌∙◌, arith}
use Rattle.std.specs.Prelude.{slice_index_or, slice_set}
use Rattle.std.specs.declared.vec.Vec.{Vec}
use Rattle.store_trace.specs.Tasks.{gets_of, with_task}
use Rattle.store_trace.specs.declared.tasks.GetTask.{GetTask}
use Rattle.store_trace.proofs.tasks.Tasks.add_get.Goals as goal

-- the lines of a worker have one more
one_more : {Z : Type 0} (gets : List (Vec GetTask Z)) (worker : ℕ) (old new : Vec GetTask Z) (task : GetTask) → worker < length gets
    → old ≡ slice_index_or gets worker old → new.items ≡ old.items ++ task ∷ [] → gets_of (slice_set gets worker new) ≡ with_task worker task (gets_of gets)
one_more [] worker old new task low is more = absurd (omega (arith, low))
one_more (lines ∷ gets) zero old new task low is more = ap (λ ls. ls ∷ gets_of gets) (more ∙ ap (λ v. v.items ++ task ∷ []) is)
one_more (lines ∷ gets) (suc worker) old new task low is more =
    ap (λ gs. lines.items ∷ gs) (one_more gets worker old new task (omega (arith, low)) is more)

pub returns-clause-gets : goal.returns-clause-gets
returns-clause-gets c =
    one_more c.args.self.now.gets.items c.args.worker c.index_mut.result.now c.push.new.self c.args.task c.requires c.index_mut.ensures.value
    c.in_ok-push.ensures.items
