-- All nodes stand in the list of UNUSED.
use Rattle.std.proofs.Common.{◌∙◌, ap}
use Rattle.bump_links.specs.Lists.{all_in_first}
use Rattle.bump_rules.specs.ClassLists.{lists_from}
use Rattle.bump_rules.specs.Places.{place_count}
use Rattle.bump_rules.proofs.class_lists.Numbering.{new_from}
use Rattle.bump_rules.proofs.class_lists.ClassLists.new.Goals as goal

pub returns : goal.returns
returns c =
    ap (lists_from c.args.first) c.in_ok-links.ensures.made
    ∙ ap (λ k. lists_from c.args.first (all_in_first c.args.count place_count k)) c.number.ensures.number
    ∙ new_from c.args.first c.args.count
