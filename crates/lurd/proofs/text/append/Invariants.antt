use Rattle.std.proofs.Common.{◌≡◌, ◌++◌, replicate}
use Rattle.lurd.proofs.text.append.Given as goal

-- the letter is appended once for each turn
abbrev pub invariant-loop : goal.invariant-loop
invariant-loop l = l.moves ≡ l.initial.moves ++ replicate l.counter l.letter
