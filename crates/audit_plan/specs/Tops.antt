-- The top switches: those that are farthest from hosts. Of a fat tree they are its spines.
use Rattle.std.specs.Prelude.{ℕ, ◌==◌, ◌&&◌, nat_lt, Bool, not, List, filter, if◌then◌else◌}
use Rattle.std.specs.List.{fold}
use Rattle.topo_file.specs.Connectivity.{switches}
use Rattle.audit_plan.specs.declared.levels.TheConstants.{LEVELS}
use Rattle.audit_plan.specs.Levels.{level_of}
use Rattle.audit_plan.specs.Plan.{PlanState}

-- ---- by the level of each switch
-- the greater of the two, if a switch of this level has one
abbrev pub higher : (level : ℕ → ℕ) → (most place : ℕ) → ℕ
higher level most place = if nat_lt most (level place) && nat_lt (level place) LEVELS then level place else most

-- the greatest level
abbrev pub top_of : (level : ℕ → ℕ) → List ℕ → ℕ
top_of level places = fold (higher level) 0 places

-- a switch of this level is a top, unless that is 0: then a host is attached to each switch
abbrev pub is_top : (level : ℕ → ℕ) → (top place : ℕ) → Bool
is_top level top place = (level place == top) && not (top == 0)

abbrev pub tops_by : (level : ℕ → ℕ) → List ℕ → List ℕ
tops_by level places = filter (is_top level (top_of level places)) places

-- ---- of a fabric, in the order of its nodes
abbrev pub top_switches : PlanState → List ℕ
top_switches plan = tops_by (level_of plan) (switches plan.nodes)
