use Rattle.std.proofs.Common.{min, ap, ◌∙◌, subst}
use Rattle.cache_lists.proofs.Standings.{keeps_then}
use Rattle.cache_part.specs.Expiring.{LooksAround, number_behind}
use Rattle.cache_part.proofs.ExpiringLemmas.{in_turn_same, kept_unexpired, none_kept, unexpired_then}
use Rattle.cache_part.proofs.PartLemmas.{cursor_kept, first_kept, part_kept}
use Rattle.cache_part.proofs.tending.tend.Goals as goal

pub end_expired-turn-requires : goal.end_expired-turn-requires
end_expired-turn-requires g c =
    let before = c.args.lists.now.book in let drained = c.drain.new.lists.book in let kept = c.drain.ensures.kept in record {
      part = part_kept c.args.settings.seed c.args.settings.key_words before drained c.args.index.now.table c.requires.part kept;
      first = first_kept c.args.index.now.first before drained kept.class c.requires.first;
      cursor = cursor_kept c.args.cursor before drained kept.class c.requires.cursor;
    }

pub returns : goal.returns
returns g c =
    let seed = c.args.settings.seed in let kw = c.args.settings.key_words in let now = c.args.now in
    let before = c.args.lists.now in let drained = c.drain.new.lists in let left = c.end_expired-turn.new.lists in
    let swept = c.sweep.new.self in let after = c.balance_often.new.lists in
    let turn = c.end_expired-turn.ensures in let result = c.end_expired-turn.result in
    let moves = keeps_then left.book swept.book after.book c.sweep.ensures.kept c.balance_often.ensures.kept in
    let still = kept_unexpired now left.book after.book moves in
    let count = c.drain.ensures.kept.class.count in record {
      part = part_kept seed kw left.book after.book c.end_expired-turn.new.index.table turn.part moves;
      first = turn.first;
      tends = record {
        drained = drained;
        drains = c.drain.ensures.drains;
        no_eviction = c.drain.ensures.evictions;
        left = left;
        expires = (
          result.ended,
          subst (λ n. LooksAround (min c.args.looks n) c.args.cursor now result.ended drained left) count turn.looks,
        );
        swept = swept.book;
        sweeps = (c.sweep.result, c.sweep.ensures.swept.0, c.sweep.ensures.swept.1);
        balances = c.balance_often.ensures.balances;
        evictions = c.balance_often.ensures.evictions ∙ c.sweep.ensures.counts.1;
      };
      ended = λ chunk in_turn. none_kept now chunk left.book after.book still (turn.ended chunk
          (in_turn_same c.args.cursor c.args.looks before.book drained.book c.drain.ensures.kept.class chunk in_turn));
      kept = unexpired_then now before.book drained.book after.book
          (kept_unexpired now before.book drained.book c.drain.ensures.kept)
          (unexpired_then now drained.book left.book after.book turn.kept still);
      cursor = turn.cursor ∙ ap (λ n. number_behind c.args.cursor (min c.args.looks n) n) count;
      within = cursor_kept result.cursor left.book after.book moves.class turn.within;
    }
