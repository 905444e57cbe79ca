use Rattle.std.proofs.Common.{◌≡◌, ℕ, true, List, sym, subst, ◌∙◌}
use Rattle.std.specs.List.{All}
use Rattle.bump_rules.specs.History.{is_place}
use Rattle.bump_rules.specs.Lists.{list_at}
use Rattle.bump_heads.specs.Linking.{place_of_chunk}
use Rattle.bump_steps.specs.Views.{owns}
use Rattle.store_trace.proofs.ListedChunks.{listed_chunks}
use Rattle.store_trace.proofs.open_store.shows.put_list.Goals as goal

pub put_chunks-requires : goal.put_chunks-requires
put_chunks-requires g c =
    let book = c.args.book.now in
    let AllOwned : List ℕ → Type 0 = λ xs. All (λ n. owns n book.sheet ≡ true) xs in
    subst AllOwned (sym (c.deref.ensures.value ∙ c.in_ok-chunks.ensures))
    (listed_chunks book.sheet (λ n. is_place (place_of_chunk book.sheet n) c.args.place) (list_at book.lists c.args.place) (λ n. c.promise.ensures.stands n c.args.place))
