-- The next cell has its byte too.
use Rattle.std.proofs.Common.{rules, ◌≡◌, ℕ, List, [], ◌∷◌, ◌++◌, get_or, sym, subst}
use Rattle.grid.specs.declared.cell.Cell.TheVariants.{Wall}
use Rattle.sokopar.specs.Explaining.{IsShown}
use Rattle.sokopar.proofs.Maps.{HaveBytes, bytes_grow}
use Rattle.sokopar.proofs.Pictures.{all_shown}
use Rattle.sokopar.proofs.picture.bytes_by.Goals as goal

pub loop-place-preserved : goal.loop-place-preserved
loop-place-preserved c =
    let level = c.args.level.now in
    let cells = c.args.cells.now in
    let bytes = c.loop-place.bytes.items in
    let IsByte : ℕ → ℕ → Type 0 = λ q b. IsShown level q (get_or cells q Wall) b in
    let P : ℕ → Type 0 = λ q. IsByte q c.byte_on.result in
    let next = subst P (sym c.loop-place.invariant.count) c.byte_on.ensures in
    let grown : c.push.new.self.items ≡ bytes ++ c.byte_on.result ∷ [] = search rules in
    let Q : List ℕ → Type 0 = λ all. HaveBytes IsByte all in
    record {
      count = search rules;
      bytes = subst Q (sym grown) (bytes_grow IsByte bytes c.byte_on.result c.loop-place.invariant.bytes next);
    }

pub returns : goal.returns
returns c = all_shown c.args.level.now c.args.cells.now c.loop-place.bytes.items (search rules) c.requires.cells c.loop-place.invariant.bytes
