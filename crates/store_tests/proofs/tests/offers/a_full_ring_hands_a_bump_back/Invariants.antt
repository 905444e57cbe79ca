use Rattle.store_tests.proofs.tests.offers.a_full_ring_hands_a_bump_back.Given as goal

abbrev pub ghosts-offer_in : goal.ghosts-offer_in
ghosts-offer_in a b = record { table = b.blank.table }
