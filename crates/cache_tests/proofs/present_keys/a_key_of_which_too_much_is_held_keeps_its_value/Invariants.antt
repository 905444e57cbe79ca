use Rattle.cache_tests.proofs.present_keys.a_key_of_which_too_much_is_held_keeps_its_value.Given as goal

-- the names say what the blank has
abbrev pub ghosts-hold_too_much-N-Name : goal.ghosts-hold_too_much-N-Name
ghosts-hold_too_much-N-Name g a = record { table = a.blank.table }

abbrev pub ghosts-hold_too_much-N-LogName : goal.ghosts-hold_too_much-N-LogName
ghosts-hold_too_much-N-LogName g a = record { book = a.blank.log.book }

abbrev pub ghosts-hold_too_much-N-Ledger : goal.ghosts-hold_too_much-N-Ledger
ghosts-hold_too_much-N-Ledger g a = record { name = a.blank.log.name; parts = a.blank.log.parts }
