use Rattle.std.proofs.Common.{◌++◌, ◌∷◌, [], ◌∙◌, List, ℕ, ap, codes, decimal, vec_items}
use Rattle.replay_runs.specs.Writing.{with_end, del_instruction}
use Rattle.replay_runs.proofs.WritingLemmas.{line_of_parts}
use Rattle.replay_runs.proofs.scribes.Scribe.end_last_of.Goals as goal

pub returns-clause-ended : goal.returns-clause-ended
returns-clause-ended c is =
    let key = c.from.result in
    let wrote = ap vec_items (c.forget.ensures ∙ c.make.ensures.text) ∙ c.in_ok-end_line.ensures.text
    ∙ ap (λ (t : List ℕ). t ++ 10 ∷ []) c.in_ok-put_word.ensures
    ∙ line_of_parts c.pull.new.self.text.items (codes "del k") (decimal key) in
    (key, wrote ∙ ap (λ (t : List ℕ). t ++ with_end (del_instruction key)) c.in_ok-pulled.ensures.text)
