use Rattle.std.proofs.Common.{rules}
use Rattle.part_lies.proofs.parts.end_expired.Goals as goal

pub returns-clause-looks : goal.returns-clause-looks
returns-clause-looks g c = search rules

pub returns-clause-looked : goal.returns-clause-looked
returns-clause-looked g c = search rules

pub returns-clause-unexpired : goal.returns-clause-unexpired
returns-clause-unexpired g c = search rules
