-- The channels that leave switches of a level: up to switches farther from hosts, across to others as far, or down to nearer ones.
use Rattle.std.specs.Prelude.{ℕ, ◌==◌, ◌&&◌, nat_lt, Bool, List, filter}
use Rattle.std.specs.Option.{option_map_or}
use Rattle.fabric_parts.specs.Cable.{far_end}
use Rattle.audit_net.specs.Net.{NetState}
use Rattle.audit_plan.specs.declared.levels.TheConstants.{LEVELS}
use Rattle.audit_plan.specs.Levels.{level_of}
use Rattle.audit_loads.specs.declared.levels.Way.{Way}
use Rattle.audit_loads.specs.declared.levels.Way.TheVariants.{Across, Down, Up}
use Rattle.audit_loads.specs.declared.loaded.Loaded.{Loaded}

abbrev pub level_behind : (ℕ → ℕ) → NetState → Loaded → ℕ
level_behind level net one = option_map_or (λ there. level there.node) (far_end net.plan.cables one.at) LEVELS

abbrev pub leads : Way → (level behind : ℕ) → Bool
leads Up level behind = nat_lt level behind
leads Across level behind = level == behind
leads Down level behind = nat_lt behind level

abbrev pub goes : (ℕ → ℕ) → NetState → ℕ → Way → Loaded → Bool
goes level_at net level way one = (level_at one.at.node == level) && leads way level (level_behind level_at net one)

abbrev pub of_level : NetState → List Loaded → ℕ → Way → List Loaded
of_level net all level way = filter (goes (level_of net.plan) net level way) all
