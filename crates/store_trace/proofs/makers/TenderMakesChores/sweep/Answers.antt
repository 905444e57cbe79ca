use Rattle.std.proofs.Common.{length, refl}
use Rattle.bump_rules.specs.declared.commands.Answer.{Answer}
use Rattle.store_trace.specs.Commands.{OnClass, AnswersSweep}
use Rattle.store_trace.proofs.Answered.{answer_inside}
use Rattle.store_trace.proofs.makers.TenderMakesChores.sweep.Goals as goal

pub returns : goal.returns
returns g c =
    let class = c.args.class in
    let config = c.args.self.now.store.now in (
      refl,
      λ inside.
          answer_inside (λ (answer : Answer). OnClass class config (λ book left. AnswersSweep book answer left)) c.sweep-answer.result class
          (length config.classes) inside c.sweep-answer.ensures.none c.sweep-answer.ensures.swept,
    )
