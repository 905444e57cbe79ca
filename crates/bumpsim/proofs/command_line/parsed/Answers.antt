use Rattle.std.proofs.Common.{rules, ap, ap₂, subst, codes, map, string_bytes, ◌≡◌, ◌∙◌}
use Rattle.std.proofs.lemmas.Result.{IfOk-weaker}
use Rattle.clap.specs.Words.{App, FailsBy, app_of, fault_of, is_simple, is_simple_and_free, matches_of, rule_of, with_rule}
use Rattle.bumpsim.specs.Words.{app, word, more}
use Rattle.bumpsim.proofs.Commands.{free, simple}
use Rattle.bumpsim.proofs.command_line.parsed.Goals as goal

pub returns : goal.returns
returns c =
    let mode_is : rule_of c.action-mode.result ≡ word (codes "mode") = search rules in
    let file_is : rule_of c.action-file.result ≡ word (codes "file") = search rules in
    let drainers_is : rule_of c.action-drainers.result ≡ more (codes "drainers") = search rules in
    let app_is : app_of c.in_ok-command.command ≡ app = c.in_ok-command.ensures.shape (search rules)
    ∙ ap₂ with_rule (c.in_ok-second.ensures.shape (search rules)
    ∙ ap₂ with_rule (c.in_ok-first.ensures.shape (search rules) ∙ ap₂ with_rule c.new-4.ensures.app mode_is) file_is) drainers_is in
    let parse = c.try_get_matches_from in
    let texts = map string_bytes c.args.words.now in
    record {
      kinds = subst (λ (a : App). FailsBy (fault_of a texts) parse.result) app_is (parse.ensures.kinds (ap is_simple_and_free app_is ∙ free));
      values = IfOk-weaker parse.result _ _ (λ m h. (h (ap is_simple app_is ∙ simple)).0 ∙ ap (λ (a : App). matches_of a texts) app_is) parse.ensures.matches;
    }
