-- How many workers a command has.
use Rattle.std.specs.Prelude.{ℕ, ◌<◌, ◌≤◌}
use Rattle.noc_commands.specs.declared.command.Command.{Command}
use Rattle.noc_commands.specs.declared.command.Command.TheVariants.{Run}
use Rattle.noc_commands.specs.declared.command.TheConstants.{MAX_WORKERS}

-- how many workers a command has
abbrev pub workers_of : Command → ℕ
workers_of (Run workers report drain) = workers
workers_of _ = 1

-- 1 to 16 workers
abbrev pub HasWorkers : Command → Type 0
HasWorkers x = (0 < workers_of x) × (workers_of x ≤ MAX_WORKERS)
