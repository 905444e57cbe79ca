use Rattle.std.proofs.Common.{rules}
use Rattle.cache_readers.proofs.readers.WordReader.hold.Goals as goal

pub returns-in-Err-clause-missed : goal.returns-in-Err-clause-missed
returns-in-Err-clause-missed g c = record {
  nothing = search rules;
  missed = record { is = search rules; sees = search rules };
  ring = search rules;
}
