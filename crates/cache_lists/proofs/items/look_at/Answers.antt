use Rattle.std.proofs.Common.{refl, ap, ◌∙◌, option_map}
use Rattle.bump_rules.specs.Tables.{last_pulled}
use Rattle.bump_rules.specs.Commands.{item_told}
use Rattle.bump_class.specs.Pulls.{limits_of_book}
use Rattle.cache_lists.proofs.Standings.{pulls_keep, pull_tells, told_chunk, told_linked, told_own, told_none}
use Rattle.cache_lists.proofs.Ways.{pulls_told, pulls_flow}
use Rattle.cache_lists.proofs.items.look_at.Goals as goal
use Rattle.cache_lists.proofs.Segments.{pulls_others, told_others}

pub returns-clause-kept : goal.returns-clause-kept
returns-clause-kept g c = pulls_keep (limits_of_book c.args.book.now) c.args.book.now c.pull.new.self c.args.from c.pull.result c.promise.ensures.stands c.requires _ refl c.pull.ensures

pub returns-clause-told : goal.returns-clause-told
returns-clause-told g c = pulls_told (limits_of_book c.args.book.now) c.args.book.now c.pull.new.self c.args.from c.pull.result _ c.pull.ensures

pub returns-clause-item : goal.returns-clause-item
returns-clause-item g c =
    let tells = pull_tells (limits_of_book c.args.book.now) c.args.book.now c.pull.new.self c.args.from c.pull.result c.promise.ensures.stands c.requires _ refl c.pull.ensures in
    ap (option_map (λ id. id.chunk)) tells.0 ∙ told_chunk c.args.book.now.sheet (last_pulled c.args.from c.args.book.now.lists)

pub returns-clause-linked : goal.returns-clause-linked
returns-clause-linked g c =
    let tells = pull_tells (limits_of_book c.args.book.now) c.args.book.now c.pull.new.self c.args.from c.pull.result c.promise.ensures.stands c.requires _ refl c.pull.ensures in
    told_linked c.args.book.now c.pull.new.self (last_pulled c.args.from c.args.book.now.lists) (item_told c.pull.result) tells.0 tells.1
    (pulls_keep (limits_of_book c.args.book.now) c.args.book.now c.pull.new.self c.args.from c.pull.result c.promise.ensures.stands c.requires _ refl c.pull.ensures)

pub returns-clause-own : goal.returns-clause-own
returns-clause-own g c =
    let tells = pull_tells (limits_of_book c.args.book.now) c.args.book.now c.pull.new.self c.args.from c.pull.result c.promise.ensures.stands c.requires _ refl c.pull.ensures in
    told_own c.args.book.now c.pull.new.self (last_pulled c.args.from c.args.book.now.lists) (item_told c.pull.result) tells.0 tells.1
    (pulls_keep (limits_of_book c.args.book.now) c.args.book.now c.pull.new.self c.args.from c.pull.result c.promise.ensures.stands c.requires _ refl c.pull.ensures)

pub returns-clause-none : goal.returns-clause-none
returns-clause-none g c =
    let tells = pull_tells (limits_of_book c.args.book.now) c.args.book.now c.pull.new.self c.args.from c.pull.result c.promise.ensures.stands c.requires _ refl c.pull.ensures in
    told_none (limits_of_book c.args.book.now) c.args.book.now c.pull.new.self c.args.from c.pull.result (last_pulled c.args.from c.args.book.now.lists) (item_told c.pull.result)
    tells.0 c.pull.ensures

pub returns-clause-flows : goal.returns-clause-flows
returns-clause-flows g c = pulls_flow (limits_of_book c.args.book.now) c.args.book.now c.pull.new.self c.args.from c.pull.result c.promise.ensures.stands _ refl c.pull.ensures

pub returns-clause-others : goal.returns-clause-others
returns-clause-others g c =
    let tells = pull_tells (limits_of_book c.args.book.now) c.args.book.now c.pull.new.self c.args.from c.pull.result c.promise.ensures.stands c.requires _ refl c.pull.ensures in
    told_others c.args.book.now c.pull.new.self (last_pulled c.args.from c.args.book.now.lists) (item_told c.pull.result) tells.0
    (pulls_others (limits_of_book c.args.book.now) c.args.book.now c.pull.new.self c.args.from c.pull.result c.requires _ c.pull.ensures)
