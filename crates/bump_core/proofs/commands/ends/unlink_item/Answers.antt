use Rattle.std.proofs.Common.{rules}
use Rattle.bump_rules.specs.declared.history.Change.TheVariants as change
use Rattle.bump_rules.specs.History.{freed_change}
use Rattle.bump_rules.specs.Heads.{unlinked_head}
use Rattle.model_state.specs.State.{head_at, with_head}
use Rattle.model_state.specs.Views.{state_of}
use Rattle.model_state.proofs.Tiles.{class_within}
use Rattle.bump_core.proofs.commands.FreedChunks.{linked_from, ending_listed, freed_listed}
use Rattle.bump_core.proofs.commands.ChangedLists.{two_changes}
use Rattle.bump_core.proofs.commands.ends.unlink_item.Goals as goal
use Rattle.bump_core.proofs.commands.ends.unlink_item.Goals.{in-Freed+in_ok-change_class_by-in-Freed, in-Deferred+in_ok-change_chunk-in-Deferred}

pub change_class_by-requires-clause-listed : goal.change_class_by-requires-clause-listed
change_class_by-requires-clause-listed c =
    let s = state_of c.args.inside.now in
    let in_range = (linked_from s c.args.life c.requires.linked).0 in (
      ending_listed s c.requires.lawful c.args.life c.class_of-class.result in_range c.class_of-class.ensures,
      (
        freed_listed s c.requires.lawful c.args.life c.class_of-class.result in_range c.class_of-class.ensures
            c.freed.result c.freed.ensures,
        tt,
      ),
    )

pub returns-clause-ok : goal.returns-clause-ok
returns-clause-ok c =
    let s = state_of c.args.inside.now in
    let l = c.args.life in
    let both = two_changes (with_head s l.chunk (unlinked_head (head_at s l.chunk))) l.chunk (change.Unlinked l)
    (freed_change l) (class_within s c.requires.lawful.tiles l.chunk (linked_from s l c.requires.linked).0) in
    elim c.match-ended.branch [
      | in-Freed+in_ok-change_class_by-in-Freed w ↦ search rules
      | in-Deferred+in_ok-change_chunk-in-Deferred w ↦ search rules
    ]
