-- The table of words, as it is named outside: which table it is, and of which configuration.
use Rattle.atomic_table.specs.Seated.{TableId}
use Rattle.bump_rules.specs.declared.configs.Config.{Config}
use Rattle.bump_steps.specs.declared.words.Words.{Words}

-- which table it is
abbrev pub words_id : {L : Type 0} → Words L → TableId
words_id words = words.table.shared.table_id

-- the configuration with which it was made
abbrev pub config_of : {L : Type 0} → Words L → Config
config_of words = words.table.shared.key
