-- An iteration of a search with workers.
use Rattle.std.proofs.Common.{◌≡◌, ℕ, ◌+◌, true, false, List, Some}
use Rattle.std.specs.Prelude.{slice_get}
use Rattle.layers.specs.LayerView.{LayerView}
use Rattle.layers.specs.BookView.{BookView}
use Rattle.layers.specs.Books.{AreAllShares, IsJoinOf, MayBegin}
use Rattle.solo.specs.Answers.{IsAnswer}
use Rattle.solo.specs.inside.Searched.{IsNextLayer, IsExamined, SearchView, with_layer}
use Rattle.solo.specs.declared.answer.Answer.TheVariants.{Limit}
use Rattle.solo.proofs.lemmas.Iterations as Solo
use Rattle.solo.proofs.lemmas.Together.{still_dealt, still_working, together_limit}
use Rattle.crew.specs.Configured.{IsWithinLimits}
use Rattle.crew.specs.declared.config.Config.{Config}
use Rattle.crew.specs.inside.Iterations.{ArePausedBy, AreWorkedBy}

module _ (config : Config) (s : SearchView) (books : List BookView) (limits : IsWithinLimits config) (paused : ArePausedBy config s books) where
  -- the books can be joined
  pub joinable : AreAllShares books
  joinable = Solo.all_shares s (config.workers + 1) config.locks books limits.locks.0 paused

  -- their last closed layer comes next
  pub next_layer : (layer : LayerView) → IsJoinOf books layer → IsNextLayer s layer
  next_layer layer join = Solo.next_of s (config.workers + 1) config.locks books layer limits.locks.0 paused join

  -- each of them may begin it
  pub begins : (layer : LayerView) → IsJoinOf books layer → (i : ℕ) (v : BookView) → slice_get books i ≡ Some v → MayBegin v layer
  begins layer join = Solo.may_begin s (config.workers + 1) config.locks books layer paused (next_layer layer join)

-- once a layer was examined, and its ranks are done in books that came back, these are between two iterations again
pub goes_on : (config : Config) (s : SearchView) (layer : LayerView) (after : List BookView) → IsNextLayer s layer → AreWorkedBy config s layer true after →
    ArePausedBy config (with_layer s layer) after
goes_on config s layer after next (before, dealt, working, (done, still, closed)) =
    Solo.goes_on s (config.workers + 1) config.locks done after layer next
    (still_dealt s.problem s.limit (config.workers + 1) config.locks layer before done dealt still) (still_working layer before done working still) closed

-- or they pass the limit together, and the answer is the limit
pub ends_over : (config : Config) (s : SearchView) (layer : LayerView) (after : List BookView) → IsWithinLimits config → IsNextLayer s layer →
    IsExamined s layer → AreWorkedBy config s layer false after → IsAnswer s.problem s.limit Limit
ends_over config s layer after limits next examined (before, dealt, working, (still, passed)) =
    together_limit s (config.workers + 1) config.locks after layer limits.locks.0 next examined
    (still_dealt s.problem s.limit (config.workers + 1) config.locks layer before after dealt still) (still_working layer before after working still) passed
