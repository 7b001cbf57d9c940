-- The limits of a configuration.
use Rattle.std.specs.Prelude.{◌≤◌}
use Rattle.successors.specs.declared.limits.TheConstants.{MAX_SHARES}
use Rattle.layers.specs.declared.limits.TheConstants.{MAX_WORKERS}
use Rattle.crew.specs.declared.config.Config.{Config}

-- each number is within its limits
pub record IsWithinLimits (config : Config) : Type 0 where
  pub workers : (1 ≤ config.workers) × (config.workers ≤ MAX_WORKERS)
  pub locks : (1 ≤ config.locks) × (config.locks ≤ MAX_SHARES)
  pub limit : 1 ≤ config.limit
