-- Each byte so far is written.
use Rattle.std.proofs.Common.{◌≡◌, ◌++◌, ◌∷◌, [], ◌==◌, cond, codes, take}
use Rattle.std.specs.List.{flat_map}
use Rattle.sokopar.proofs.showing.put_joined.Given as goal

abbrev pub invariant-loop-byte : goal.invariant-loop-byte
invariant-loop-byte l = l.text ≡ l.fn.text ++ flat_map (λ b. cond (b == 10) (codes " |") (b ∷ [])) (take l.byte-index l.rows)
