-- The ledger is that of the blank.
use Rattle.uses.proofs.counts.is_in.Given as goal

abbrev pub ghosts-is_found : goal.ghosts-is_found
ghosts-is_found g a = record { name = a.blank.name; parts = a.blank.parts }
