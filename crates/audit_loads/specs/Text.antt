-- What is printed of the loads of a fabric.
use Rattle.std.specs.Prelude.{ℕ, ◌/◌, ◌%◌, Bool, List, [], ◌∷◌, ◌++◌, codes, decimal, flat_map, Option, Some, None}
use Rattle.std.specs.List.{range_with_len}
use Rattle.dump_file.specs.Dump.{DumpState}
use Rattle.fabric_parts.specs.Cable.{far_end}
use Rattle.fabric_parts.specs.declared.cable.PortRef.{PortRef}
use Rattle.netdiscover_file.specs.Discovery.{DiscoveryState}
use Rattle.topo_file.specs.Topology.{TopologyState}
use Rattle.audit_net.specs.Lids.{aims}
use Rattle.audit_routes.specs.Lines.{port_text}
use Rattle.audit_net.specs.Net.{NetState}
use Rattle.audit_plan.specs.Plan.{PlanState, plan_found, plan_of}
use Rattle.audit_loads.specs.declared.loaded.Loaded.{Loaded}
use Rattle.audit_loads.specs.declared.counting.Counts.{Counts}
use Rattle.audit_loads.specs.Counts.{counts_of}
use Rattle.audit_plan.specs.declared.levels.TheConstants.{LEVELS}
use Rattle.audit_loads.specs.declared.levels.Way.{Way}
use Rattle.audit_loads.specs.declared.levels.Way.TheVariants.{Across, Down, Up}
use Rattle.audit_loads.specs.Levels.{of_level}
use Rattle.audit_loads.specs.Loads.{least_of, loads, mean_of, most_of, ratio_of}
use Rattle.audit_loads.specs.Order.{ordered}
use Rattle.audit_loads.specs.Sources.{Pair, pairs_by}
use Rattle.audit_loads.specs.Talk.{may_talk}

-- ---- `load A/3 B/3 12`: the channel's port, the port at the other end of its cable, and how many pairs go over it
abbrev pub end_text : NetState → Option PortRef → List ℕ
end_text net (Some at) = port_text net at
end_text net None = []

unfoldable pub load_line : NetState → Loaded → List ℕ
load_line net one =
    codes "load " ++ port_text net one.at ++ codes " " ++ end_text net (far_end net.plan.cables one.at) ++ codes " " ++ decimal one.load ++ 10 ∷ []

-- ---- of all channels, if there is one: `most 12`, `least 4`, `mean 7.33`
abbrev pub hundredths : ℕ → List ℕ
hundredths n = decimal (n / 100) ++ codes "." ++ decimal (n % 100 / 10) ++ decimal (n % 10)

unfoldable pub most_line : List Loaded → List ℕ
most_line all = codes "most " ++ decimal (most_of all) ++ 10 ∷ []

unfoldable pub least_line : List Loaded → List ℕ
least_line all = codes "least " ++ decimal (least_of all) ++ 10 ∷ []

unfoldable pub mean_line : List Loaded → List ℕ
mean_line all = codes "mean " ++ hundredths (mean_of all) ++ 10 ∷ []

abbrev pub summary : List Loaded → List ℕ
summary [] = []
summary (one ∷ rest) = most_line (one ∷ rest) ++ least_line (one ∷ rest) ++ mean_line (one ∷ rest)

-- ---- of the channels that leave switches of each level, each way, if there is one: `level 1 down most 12 mean 7.33 ratio 1.63`
abbrev pub way_word : Way → List ℕ
way_word Up = codes " up"
way_word Across = codes " across"
way_word Down = codes " down"

unfoldable pub level_words : ℕ → Way → List Loaded → List ℕ
level_words level way all = codes "level " ++ decimal level ++ way_word way ++ codes " most " ++ decimal (most_of all)

unfoldable pub level_means : List Loaded → List ℕ
level_means all = codes " mean " ++ hundredths (mean_of all) ++ codes " ratio " ++ hundredths (ratio_of all) ++ 10 ∷ []

unfoldable pub level_line : ℕ → Way → List Loaded → List ℕ
level_line level way [] = []
level_line level way (one ∷ rest) = level_words level way (one ∷ rest) ++ level_means (one ∷ rest)

abbrev pub way_text : NetState → List Loaded → ℕ → Way → List ℕ
way_text net all level way = level_line level way (of_level net all level way)

unfoldable pub level_text : NetState → List Loaded → ℕ → List ℕ
level_text net all level = way_text net all level Up ++ way_text net all level Across ++ way_text net all level Down

abbrev pub levels_text : NetState → List Loaded → List ℕ
levels_text net all = flat_map (level_text net all) (range_with_len 0 LEVELS)

-- ---- `pairs 12, lost 0, unknown 0`: lost are those that do not reach the end port of their LID, unknown those that come to an
-- entry that is not reported
unfoldable pub pairs_line : Counts → List ℕ
pairs_line counts =
    codes "pairs " ++ decimal counts.pairs ++ codes ", lost " ++ decimal counts.lost ++ codes ", unknown " ++ decimal counts.unknown ++ 10 ∷ []

-- ---- the whole
unfoldable pub text_of : NetState → List Loaded → Counts → List ℕ
text_of net all counts = flat_map (load_line net) (ordered all) ++ summary all ++ levels_text net all ++ pairs_line counts

unfoldable pub text_by : NetState → List Pair → List ℕ
text_by net pairs = text_of net (loads net pairs) (counts_of net pairs)

unfoldable pub load_text_of : NetState → (talk : PortRef → PortRef → Bool) → List ℕ
load_text_of net talk = text_by net (pairs_by net talk (aims net))

-- what the lines of channels are of
unfoldable pub loads_of : NetState → (talk : PortRef → PortRef → Bool) → List Loaded
loads_of net talk = loads net (pairs_by net talk (aims net))

abbrev pub loads_of_plan : PlanState → DumpState → (talk : PortRef → PortRef → Bool) → List Loaded
loads_of_plan plan dump talk = loads_of (record { plan = plan; dump = dump }) talk

abbrev pub load_of_plan : PlanState → DumpState → (talk : PortRef → PortRef → Bool) → List ℕ
load_of_plan plan dump talk = load_text_of (record { plan = plan; dump = dump }) talk

-- with no partition file it is unknown who may talk to whom: all pairs count
abbrev pub load_text : TopologyState → DumpState → List ℕ
load_text topology dump = load_of_plan (plan_of topology) dump (may_talk None)

abbrev pub load_text_found : DiscoveryState → DumpState → List ℕ
load_text_found found dump = load_of_plan (plan_found found) dump (may_talk None)
