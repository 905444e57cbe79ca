use Rattle.std.proofs.Common.{ap, length, arith}
use Rattle.packed_words.proofs.bytes.BytesDebug.fmt.Goals as goal

pub as_bytes-requires : goal.as_bytes-requires
as_bytes-requires g c = (
  omega (arith, c.self.invariant.held.0.0),
  omega (arith, ap length c.self.view_is, c.self.invariant.held.0.0, c.self.invariant.held.0.1),
)
