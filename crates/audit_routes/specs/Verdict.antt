-- The verdict of an audit: what safe routes are, and the last line.
use Rattle.std.specs.Prelude.{ℕ, ◌==◌, ◌&&◌, ◌||◌, Bool, true, false, not, List, [], ◌∷◌, ◌++◌, codes, filter, length, map, if◌then◌else◌, is_none, Option}
use Rattle.std.specs.List.{list_all, list_any}
use Rattle.dump_file.specs.declared.table.Table.{Table}
use Rattle.fabric_parts.specs.declared.cable.PortRef.{PortRef}
use Rattle.topo_file.specs.Connectivity.{switches}
use Rattle.audit_net.specs.declared.lids.Aim.{Aim}
use Rattle.audit_routes.specs.declared.verdict.Verdict.{Verdict}
use Rattle.audit_net.specs.Lids.{have_lids, is_lacking}
use Rattle.audit_net.specs.declared.following.Turn.{Turn}
use Rattle.audit_net.specs.declared.following.Turn.TheVariants as turns
use Rattle.audit_net.specs.Following.{turn}
use Rattle.audit_routes.specs.Lines.{has_switch}
use Rattle.audit_net.specs.Net.{NetState, has_table}
use Rattle.audit_plan.specs.Plan.{is_host}
use Rattle.audit_net.specs.declared.following.Fate.{Fate}
use Rattle.audit_net.specs.declared.following.Fate.TheVariants as fates
use Rattle.audit_routes.specs.declared.pairs.Pair.{Pair}
use Rattle.audit_routes.specs.Pairs.{all_reached, between_hosts, is_fate, pairs_by}
use Rattle.std.specs.Option.{option_map_or}
use Rattle.topo_file.specs.Node.{is_switch_at}

-- ---- the dump and the fabric name the same switches and ports of adapters
-- each switch has a table, and there is one
abbrev pub have_tables : NetState → Bool
have_tables net = list_all (has_table net) (switches net.plan.nodes) && not (length net.dump.tables == 0)

-- each table is of a switch of the fabric
abbrev pub is_known : NetState → Table → Bool
is_known net table = has_switch table.guid net.plan.nodes

-- and each LID that a row gives to an adapter or a switch is that of such a port of the fabric
abbrev pub name_the_same : NetState → List Aim → Bool
name_the_same net all = have_tables net && (list_all (is_known net) net.dump.tables && not (list_any (is_lacking net) all))

-- ---- wherever a switch sends these LIDs to another, the entry there is known
abbrev pub is_unknown : Turn → Bool
is_unknown turns.Unknown = true
is_unknown _ = false

abbrev pub goes_on_known : NetState → ℕ → Turn → Bool
goes_on_known net lid (turns.Goes next) = not (is_unknown (turn net lid next))
goes_on_known net lid _ = true

abbrev pub knows_next : NetState → (place lid : ℕ) → Bool
knows_next net place lid = goes_on_known net lid (turn net lid place)

abbrev pub knows_all : NetState → List ℕ → (place : ℕ) → Bool
knows_all net lids place = list_all (knows_next net place) lids

abbrev pub knows_entries : NetState → List ℕ → Bool
knows_entries net lids = list_all (knows_all net lids) (switches net.plan.nodes)

-- ---- a pair that is not reached is lost, unless an entry is unknown
abbrev pub is_lost_by : Fate → Bool
is_lost_by fate = not (is_fate fates.Reached fate || is_fate fates.Unknown fate)

abbrev pub is_lost : Pair → Bool
is_lost pair = is_lost_by pair.fate

abbrev pub some_lost : List Pair → Bool
some_lost pairs = list_any is_lost pairs

abbrev pub some_unknown : List Pair → Bool
some_unknown pairs = list_any (λ pair. is_fate fates.Unknown pair.fate) pairs

-- its end port is a switch's
abbrev pub is_switchs : NetState → Aim → Bool
is_switchs net aim = option_map_or (λ end. is_switch_at net.plan.nodes end.node) aim.end false

-- it is another LID: of an adapter's port, of a port that the fabric lacks, or of nobody
abbrev pub is_others : NetState → Aim → Bool
is_others net aim = not (is_switchs net aim)

-- its end port is an aggregation node's: neither a switch's nor a host's
abbrev pub is_reducing : NetState → PortRef → Bool
is_reducing net end = not (is_switch_at net.plan.nodes end.node) && not (is_host net.plan end.node)

abbrev pub is_aggregations : NetState → Aim → Bool
is_aggregations net aim = option_map_or (is_reducing net) aim.end false

-- ---- the verdict, by the credit loop that was found
abbrev pub verdict_by : NetState → List Aim → Option (List PortRef) → Verdict
verdict_by net all ring = record {
  has_lids = list_all (have_lids net all) net.plan.cables;
  is_reached = all_reached (between_hosts (pairs_by net all));
  is_free = is_none ring;
  is_same = name_the_same net all;
  is_known = knows_entries net (map (λ aim. aim.lid) (filter (is_others net) all));
  loses = some_lost (between_hosts (pairs_by net all));
  lacks_entries = some_unknown (between_hosts (pairs_by net all));
}

abbrev pub verdict_is_safe : Verdict → Bool
verdict_is_safe verdict = verdict.has_lids && (verdict.is_reached && (verdict.is_free && (verdict.is_same && verdict.is_known)))

-- the same, credit loops aside
abbrev pub leads : Verdict → Bool
leads verdict = verdict_is_safe (record verdict { is_free = true })

-- ---- the last line
-- `verdict: safe, as if ..`, or `verdict: not safe (no-lid, deadlock), as if ..`, with each reason: of a pair that is not reached
-- that it is lost, or that an entry is unknown
abbrev pub with_reason : Bool → List ℕ → List ℕ → List ℕ
with_reason true word reasons = reasons
with_reason false word [] = word
with_reason false word (byte ∷ reasons) = (byte ∷ reasons) ++ codes ", " ++ word

unfoldable pub reasons : Verdict → List ℕ
reasons verdict =
    with_reason (verdict.is_known && not verdict.lacks_entries) (codes "unknown")
    (with_reason verdict.is_same (codes "mismatch")
    (with_reason verdict.is_free (codes "deadlock")
    (with_reason (not verdict.loses) (codes "unreached")
    (with_reason verdict.has_lids (codes "no-lid") []))))

-- `safe`, or `not safe (deadlock, unknown)`
abbrev pub outcome : (is_safe : Bool) → (reasons : List ℕ) → List ℕ
outcome is_safe reasons = if is_safe then codes "safe" else codes "not safe (" ++ reasons ++ codes ")"

unfoldable pub safe_words : Verdict → List ℕ
safe_words verdict = outcome (verdict_is_safe verdict) (reasons verdict)

unfoldable pub verdict_line : Verdict → List ℕ
verdict_line verdict = codes "verdict: " ++ safe_words verdict ++ codes ", as if all packets used one virtual lane; multicast is not judged\n"
