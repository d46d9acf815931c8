-- The level of a switch: how many links lead from it to the nearest switch to which a host is attached. A leaf of a fat tree has
-- the level 0, and a switch of the next row the level 1.
use Rattle.std.specs.Prelude.{ℕ, zero, suc, ◌+◌, ◌&&◌, ◌||◌, Bool, false, not, List, count_by, get_or, length, map}
use Rattle.std.specs.List.{list_any, range_with_len}
use Rattle.std.specs.Option.{option_map_or}
use Rattle.fabric_parts.specs.Cable.{far_end, port}
use Rattle.topo_file.specs.Node.{is_switch_at, ports_at}
use Rattle.topo_file.specs.Rounds.{is_marked}
use Rattle.audit_plan.specs.declared.levels.TheConstants.{LEVELS}
use Rattle.audit_plan.specs.Attached.{carries_host}
use Rattle.audit_plan.specs.Plan.{PlanState}

-- the link at the port behind this number leads to a switch that passes the test
abbrev pub leads_near : PlanState → (ℕ → Bool) → (place before : ℕ) → Bool
leads_near plan near place before =
    option_map_or (λ there. is_switch_at plan.nodes there.node && near there.node) (far_end plan.cables (port place (before + 1))) false

abbrev pub some_lead : PlanState → (ℕ → Bool) → ℕ → Bool
some_lead plan near place = list_any (leads_near plan near place) (range_with_len 0 (ports_at plan.nodes place))

-- over at most so many links packets come to a switch that carries a host
abbrev pub is_near : PlanState → (count place : ℕ) → Bool
is_near plan zero place = carries_host plan place
is_near plan (suc count) place = is_near plan count place || some_lead plan (is_near plan count) place

-- the least number of links over which they do, or `LEVELS` if that is as many or more: all lesser numbers are too few
abbrev pub level_of : PlanState → ℕ → ℕ
level_of plan place = count_by (λ count. not (is_near plan count place)) (range_with_len 0 LEVELS)

-- ---- steps of the code: for each node whether it is near
abbrev pub marks_of : PlanState → ℕ → List Bool
marks_of plan count = map (is_near plan count) (range_with_len 0 (length plan.nodes))

abbrev pub is_next : PlanState → List Bool → ℕ → Bool
is_next plan marks place = is_marked marks place || some_lead plan (is_marked marks) place

abbrev pub rounds_of : PlanState → List (List Bool)
rounds_of plan = map (marks_of plan) (range_with_len 0 LEVELS)

abbrev pub level_by : List (List Bool) → ℕ → ℕ
level_by rounds place = count_by (λ marks. not (is_marked marks place)) rounds

abbrev pub levels_of : PlanState → List ℕ
levels_of plan = map (level_of plan) (range_with_len 0 (length plan.nodes))

abbrev pub level_at : List ℕ → ℕ → ℕ
level_at levels place = get_or levels place LEVELS
