-- Channels by the level of their switch.
use Rattle.std.proofs.Common.{ℕ, ◌≡◌, ◌∙◌, ◌==◌, ◌&&◌, ap, refl, List, filter, Option, Some, None}
use Rattle.std.specs.Option.{option_map_or}
use Rattle.fabric_parts.specs.Cable.{far_end}
use Rattle.fabric_parts.specs.declared.cable.PortRef.{PortRef}
use Rattle.audit_net.specs.Net.{NetState}
use Rattle.audit_plan.specs.declared.levels.TheConstants.{LEVELS}
use Rattle.audit_plan.specs.Levels.{level_at, level_of, levels_of}
use Rattle.audit_plan.proofs.LevelLemmas.{levels_say}
use Rattle.audit_plan.proofs.PlaceLemmas.{filter_alike}
use Rattle.audit_loads.specs.declared.levels.Way.{Way}
use Rattle.audit_loads.specs.declared.loaded.Loaded.{Loaded}
use Rattle.audit_loads.specs.Levels.{goes, leads, level_behind, of_level}

goes_same : (net : NetState) (level : ℕ) (way : Way) (one : Loaded) → goes (level_at (levels_of net.plan)) net level way one ≡ goes (level_of net.plan) net level way one
goes_same net level way one =
    ap (λ (n : ℕ). (n == level) && leads way level (level_behind (level_at (levels_of net.plan)) net one)) (levels_say net.plan one.at.node)
    ∙ ap (λ (n : ℕ). (level_of net.plan one.at.node == level) && leads way level n) (behind_same (far_end net.plan.cables one.at))
  where
    behind_same : (there : Option PortRef) → option_map_or (λ at. level_at (levels_of net.plan) at.node) there LEVELS ≡ option_map_or (λ at. level_of net.plan at.node) there LEVELS
    behind_same (Some at) = levels_say net.plan at.node
    behind_same None = refl

pub levels_are : (net : NetState) (levels : List ℕ) (all some : List Loaded) (level : ℕ) (way : Way) → levels ≡ levels_of net.plan
    → some ≡ filter (goes (level_at levels) net level way) all → some ≡ of_level net all level way
levels_are net levels all some level way is some_is =
    some_is ∙ ap (λ (l : List ℕ). filter (goes (level_at l) net level way) all) is
    ∙ filter_alike (goes (level_at (levels_of net.plan)) net level way) (goes (level_of net.plan) net level way) (goes_same net level way) all
