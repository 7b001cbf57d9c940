use Rattle.crew.proofs.lent.lend.Given as goal

abbrev pub ghosts-lend_known : goal.ghosts-lend_known
ghosts-lend_known g a = record { problem = a.layer.now.level }
