use Rattle.std.proofs.Common.{◌≡◌, subst}
use Rattle.bump_rules.specs.Entries.{moves_of}
use Rattle.bump_heads.specs.Applying.{NamesNoBumpTwice}
use Rattle.bump_class.specs.Applications.{EachMoveIsTold, moved_in}
use Rattle.bump_class.specs.Books.{BookView}
use Rattle.bump_class.specs.Lanes.{LaneView, entries}
use Rattle.bump_class.proofs.LaneLemmas.{each_told}
use Rattle.bump_class.proofs.MoveLemmas.{all_told}
use Rattle.bump_class.proofs.books.Book.meet_lane.Goals as goal

pub returns-clause-once : goal.returns-clause-once
returns-clause-once g c = subst (λ (b : BookView). NamesNoBumpTwice b.sheet) c.self.view_is c.meet.ensures.once

pub returns-clause-told : goal.returns-clause-told
returns-clause-told g c =
    let i = c.self.inside in
    let y = c.lane.inside.carrier in
    subst (λ (x : BookView × LaneView). EachMoveIsTold x.0.sheet x.1.sheet) (λ j. (c.self.view_is j, c.lane.view_is j))
    (each_told i.seat.sheet y.sheet y.received c.meet.ensures.kept c.meet.ensures.moves)

pub returns-clause-moves : goal.returns-clause-moves
returns-clause-moves g c =
    let i = c.self.inside in
    let y = c.lane.inside.carrier in
    subst (λ (x : BookView × LaneView). moves_of x.1.sheet.worker x.0.sheet.history ≡ moved_in x.0.sheet (entries x.1))
    (λ j. (c.self.view_is j, c.lane.view_is j))
    (all_told i.seat.sheet y.sheet c.self.invariant.3.causes c.meet.ensures.kept.at_rest c.meet.ensures.moves)
