use Rattle.std.proofs.Common.{refl}
use Rattle.bump_class.proofs.Widening.{putting_starts}
use Rattle.bump_class.proofs.linking.put_words.Goals as goal

pub loop-index-init : goal.loop-index-init
loop-index-init g c = record {
  putting = putting_starts c.args.chunk c.args.words.now c.args.seat.now.sheet;
  lane = refl;
}
