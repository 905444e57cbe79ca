use Rattle.std.proofs.Common.{◌≡◌, false, List, None, subst}
use Rattle.cache_handles.specs.Desks.{DeskView}
use Rattle.bump_cache.specs.Putting.{HadValue}
use Rattle.cache_handles.proofs.desks.Desk.find.Goals as goal

pub returns-clause-none : goal.returns-clause-none
returns-clause-none g c = subst (λ (desk : DeskView). c.find_words.result ≡ false
    → HadValue desk.key None c.args.now desk.shelf.part) c.self.view_is
    (subst (λ (key : List _). c.find_words.result ≡ false → HadValue key None c.args.now c.self.inside.shelf.part)
    c.deref.ensures.value c.find_words.ensures.none)
