use Rattle.std.proofs.Common.{◌≡◌, ◌++◌, take}
use Rattle.lurd.specs.Text.{bytes_of}
use Rattle.lurd.proofs.text.write.Given as goal

-- the letters so far are appended
abbrev pub invariant-loop-letter : goal.invariant-loop-letter
invariant-loop-letter l = l.out.items ≡ l.initial.out.items ++ bytes_of (take l.letter-index l.letter-items)
