-- The answer is Limit exactly if more positions are needed.
use Rattle.std.proofs.Common.{◌≡◌, ℕ, suc, ◌-◌, ◌<◌, ◌≤◌, ◌↔◌, List, [], length, take, get_or, sym, ap, subst, arith}
use Rattle.std.proofs.lemmas.List.{length-take-le}
use Rattle.std.proofs.lemmas.Option.{slice_get_within}
use Rattle.grid.specs.declared.dir.Dir.{Dir}
use Rattle.grid.specs.declared.square.Push.{Push}
use Rattle.grid.specs.Board.{Scene}
use Rattle.successors.specs.Problems.{Problem}
use Rattle.grid.specs.Lawful.{IsLevel}
use Rattle.successors.specs.Reaching.{IsLayerOf, AreLayersOf, total}
use Rattle.successors.specs.Distances.{IsAtDistance}
use Rattle.layers.proofs.lemmas.Layers.{place_unique}
use Rattle.successors.proofs.lemmas.Lists.{take_at, take_short}
use Rattle.layers.proofs.lemmas.Books.{level_laws, read_at, total-take_more}
use Rattle.solo.specs.Answers.{HaveTotal, HasInAll, IsSolutionOf, PassesLimit}
use Rattle.solo.specs.Fewest.{IsFewest, HasNoneWithin}
use Rattle.solo.proofs.Solving.{layer_distance}
use Rattle.solo.proofs.Uniqueness.{solved_passes, unsolvable_passes}

-- the limit is passed by the positions of the first layers and of the next one, where no solution has fewer pushes
passed_by : (problem : Problem) → IsLevel problem.board → (limit pushes : ℕ) (layers : List (List Scene)) →
    AreLayersOf problem layers → length layers ≡ suc pushes → limit < total layers →
    ((ds : List Dir) (ps : List Push) → IsSolutionOf problem ds ps → pushes ≤ length ps) → PassesLimit problem limit
passed_by problem level limit pushes layers are long passed unsolved = record {
  layers = take pushes layers;
  are = λ j xs at. are j xs (take_at layers pushes j xs at).0;
  more = last;
  distinct = place_unique (level_laws problem level) pushes last layer;
  next = λ n i. subst (λ k. IsAtDistance problem n k) (sym short) (layer_distance problem level pushes last layer n i);
  passed =
      omega (arith, passed, total-take_more layers pushes (omega (arith, long)), ap total (take_short layers (suc pushes) (omega (arith, long))));
  unsolved = λ ds ps solution. omega (arith, short, unsolved ds ps solution);
}
  where
    last : List Scene
    last = get_or layers pushes []

    layer : IsLayerOf problem pushes last
    layer = are pushes last (read_at layers pushes (omega (arith, long)))

    short : length (take pushes layers) ≡ pushes
    short = length-take-le pushes layers (omega (arith, long))

-- a level that is solved
pub limit_solved : (problem : Problem) (limit pushes positions : ℕ) → IsLevel problem.board → IsFewest problem pushes →
    HaveTotal problem (suc pushes) positions → PassesLimit problem limit ↔ (limit < positions)
limit_solved problem limit pushes positions level (some, fewest) have = (
  λ p. solved_passes problem level limit pushes positions some.0 some.1 some.2 some.3 have p,
  λ passed. passed_by problem level limit pushes have.0 have.1 have.2 (omega (arith, passed, have.3)) fewest,
)

-- a level that is not
pub limit_unsolvable : (problem : Problem) (limit positions : ℕ) → IsLevel problem.board → HasNoneWithin problem →
    HasInAll problem positions → PassesLimit problem limit ↔ (limit < positions)
limit_unsolvable problem limit positions level none all = (
  λ p. unsolvable_passes problem level limit positions all p,
  λ passed. passed_by problem level limit (length all.layers - 1) all.layers all.are
      (omega (arith, slice_get_within all.layers (length all.layers - 1) [] all.last)) (omega (arith, passed, all.total))
      (λ ds ps solution. absurd (none ds ps solution)),
)
