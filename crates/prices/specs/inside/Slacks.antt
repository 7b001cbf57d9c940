-- The pushes that are left above the needs of the boxes.
use Rattle.std.specs.Prelude.{◌≡◌, ℕ, List, drop, length, take}
use Rattle.grid.specs.States.{IsScene}
use Rattle.prices.specs.Helping.{SlackView}
use Rattle.prices.specs.Prices.{AreFar, goals_of, sum_over}
use Rattle.prices.specs.inside.Sums.{need_seen, sum_all}
use Rattle.prices.specs.inside.Tables.{far_in}
use Rattle.prices.specs.declared.slack.Slack.TheInside.{Inside}

abbrev pub slack_view : Inside → SlackView
slack_view a = record { board = a.level.now; scene = a.position.now; left = a.left }

-- the tolls of the goals of the table
abbrev pub tolls_of : Inside → List ℕ
tolls_of a = take (length a.table.now.goals.items) (drop 0 a.tolls)

-- the table is the level's, the price is the sum of the tolls, and the needs are those of the boxes with these tolls
pub record IsSlack (a : Inside) : Type 0 where
  pub scene : IsScene a.level.now a.position.now
  pub far : AreFar a.level.now (far_in a.table.now)
  pub goals : a.table.now.goals.items ≡ goals_of a.level.now
  pub price : a.price ≡ sum_all (tolls_of a)
  pub needs : length (tolls_of a) ≡ length a.table.now.goals.items →
      a.needs ≡ sum_over (λ b. need_seen a.table.now (tolls_of a) b a.position.now.player) a.position.now.boxes
