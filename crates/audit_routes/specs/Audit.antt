-- The audit of a dump over a topology or a discovery: what is printed, and whether the routes are safe.
use Rattle.std.specs.Prelude.{ℕ, ◌==◌, ◌||◌, Bool, true, false, List, [], ◌∷◌, ◌++◌, codes, decimal, filter, flat_map, length, is_some, if◌then◌else◌, Option, Some, None}
use Rattle.std.specs.List.{range_with_len}
use Rattle.dump_file.specs.Dump.{DumpState}
use Rattle.fabric_parts.specs.declared.cable.PortRef.{PortRef}
use Rattle.netdiscover_file.specs.Discovery.{DiscoveryState}
use Rattle.topo_file.specs.Topology.{TopologyState}
use Rattle.audit_net.specs.declared.following.Fate.TheVariants as fates
use Rattle.audit_net.specs.declared.lids.Aim.{Aim}
use Rattle.audit_routes.specs.declared.pairs.Pair.{Pair}
use Rattle.audit_routes.specs.declared.verdict.Verdict.{Verdict}
use Rattle.audit_routes.specs.Loops.{LoopsState, closing, loops_of}
use Rattle.audit_net.specs.Lids.{aims}
use Rattle.audit_routes.specs.Verdict.{is_others, verdict_by, verdict_is_safe, verdict_line}
use Rattle.audit_routes.specs.Asks.{asks_by}
use Rattle.audit_routes.specs.Deciding.{by_switch, unknown_lines, unreached_lines}
use Rattle.audit_routes.specs.Lines.{files_by, lid_text, port_text}
use Rattle.audit_net.specs.Net.{NetState}
use Rattle.audit_plan.specs.Plan.{plan_found, plan_of}
use Rattle.audit_routes.specs.Pairs.{between_hosts, count_of, in_transit, pairs_by, to_aggregation, to_switches}

-- what is found: the lines, and whether the routes are safe
pub record AuditState : Type 0 where
  pub text : List ℕ
  pub is_safe : Bool

-- what is found before the verdict: the lines, and what the verdict rests on
pub record FindingsState : Type 0 where
  pub text : List ℕ
  pub verdict : Verdict

-- ---- the line of a credit loop
-- `deadlock s6/3 s8/2 by LIDs 5 (h2/1) 3 (h1/1)`, `deadlock aggregation-lids s2/3 s3/3 by LIDs 4 (a2/1) 7 (a1/1)`,
-- `deadlock switch-lids s2/3 s3/3 by LIDs 8 (s4/0) 9 (s1/0)`
abbrev pub port_word : NetState → PortRef → List ℕ
port_word net port = codes " " ++ port_text net port

abbrev pub lid_word : NetState → Option Aim → List ℕ
lid_word net (Some aim) = codes " " ++ lid_text net aim.lid aim.end
lid_word net None = []

abbrev pub closing_word : NetState → (decides : Bool) → List Aim → List PortRef → ℕ → List ℕ
closing_word net decides all ring index = lid_word net (closing net decides all ring index)

abbrev pub closing_words : NetState → (decides : Bool) → List Aim → List PortRef → List ℕ
closing_words net decides all ring = flat_map (closing_word net decides all ring) (range_with_len 0 (length ring))

abbrev pub ring_line : NetState → List ℕ → (decides : Bool) → List Aim → Option (List PortRef) → List ℕ
ring_line net words decides all (Some ring) =
    words ++ flat_map (port_word net) ring ++ codes " by LIDs" ++ closing_words net decides all ring ++ 10 ∷ []
ring_line net words decides all None = []

-- of LIDs that are not the switches' own the two first lines
unfoldable pub ring_lines : NetState → List Aim → LoopsState → List ℕ
ring_lines net all loops =
    ring_line net (codes "deadlock") true (filter (is_others net) all) loops.deciding
    ++ ring_line net (codes "deadlock aggregation-lids") false (filter (is_others net) all) loops.aggregation
    ++ ring_line net (codes "deadlock switch-lids") false all loops.switches

-- ---- counts
-- `adapters: 196 pairs, 196 reached, 0 holes, 0 nowhere, 0 wrong, 0 loops, 0 unknown, no deadlock`
abbrev pub deadlock_words : Bool → List ℕ
deadlock_words true = codes ", deadlock"
deadlock_words false = codes ", no deadlock"

unfoldable pub reached_part : List Pair → List ℕ
reached_part pairs = decimal (length pairs) ++ codes " pairs, " ++ decimal (count_of fates.Reached pairs) ++ codes " reached, "

unfoldable pub lost_part : List Pair → List ℕ
lost_part pairs =
    decimal (count_of fates.Hole pairs) ++ codes " holes, " ++ decimal (count_of fates.Nowhere pairs) ++ codes " nowhere, "
    ++ decimal (count_of fates.Wrong pairs) ++ codes " wrong, "

unfoldable pub other_part : List Pair → List ℕ
other_part pairs = decimal (count_of fates.Loop pairs) ++ codes " loops, " ++ decimal (count_of fates.Unknown pairs) ++ codes " unknown"

unfoldable pub count_line : List ℕ → List Pair → List ℕ → List ℕ
count_line title pairs words = title ++ reached_part pairs ++ lost_part pairs ++ other_part pairs ++ words ++ 10 ∷ []

-- of aggregation nodes there is a line if some LID is theirs
unfoldable pub aggregation_line : List Pair → List ℕ
aggregation_line pairs = if length pairs == 0 then [] else count_line (codes "aggregation: ") pairs []

unfoldable pub counts_by : List Pair → (deciding further : Bool) → List ℕ
counts_by pairs deciding further =
    count_line (codes "adapters: ") (between_hosts pairs) (deadlock_words deciding) ++ count_line (codes "transit: ") (in_transit pairs) []
    ++ aggregation_line (to_aggregation pairs)
    ++ count_line (codes "switches: ") (to_switches pairs) [] ++ count_line (codes "audit: ") pairs (deadlock_words (deciding || further))

-- ---- the whole, with all lines by switch and LID or with their number
-- the lines of what decides
unfoldable pub lines_by : NetState → List Aim → LoopsState → List ℕ
lines_by net all loops = files_by net all ++ unreached_lines net all ++ unknown_lines net all ++ asks_by net all ++ ring_lines net all loops

-- all before the verdict
abbrev pub decides_nothing : LoopsState → Bool
decides_nothing loops = is_some loops.aggregation || is_some loops.switches

unfoldable pub body_by : Bool → NetState → List Aim → LoopsState → List ℕ
body_by whole net all loops =
    lines_by net all loops ++ by_switch whole net all ++ counts_by (pairs_by net all) (is_some loops.deciding) (decides_nothing loops)

unfoldable pub text_by : Bool → NetState → List Aim → LoopsState → List ℕ
text_by whole net all loops = body_by whole net all loops ++ verdict_line (verdict_by net all loops.deciding)

-- by the cycles that were found
abbrev pub findings_by : Bool → NetState → List Aim → LoopsState → FindingsState
findings_by whole net all loops = record { text = body_by whole net all loops; verdict = verdict_by net all loops.deciding }

abbrev pub audit_by : Bool → NetState → List Aim → LoopsState → AuditState
audit_by whole net all loops = record {
  text = text_by whole net all loops;
  is_safe = verdict_is_safe (verdict_by net all loops.deciding);
}

unfoldable pub findings_of : Bool → NetState → FindingsState
findings_of whole net = findings_by whole net (aims net) (loops_of net (aims net))

unfoldable pub audit_of : Bool → NetState → AuditState
audit_of whole net = audit_by whole net (aims net) (loops_of net (aims net))

abbrev pub audit : Bool → TopologyState → DumpState → AuditState
audit whole topology dump = audit_of whole (record { plan = plan_of topology; dump = dump })

abbrev pub audit_discovery : Bool → DiscoveryState → DumpState → AuditState
audit_discovery whole found dump = audit_of whole (record { plan = plan_found found; dump = dump })
