-- What is so of all fabrics and dumps: the statements of the laws of `src/laws.rt`.
use Rattle.std.specs.Prelude.{ℕ, suc, ◌≡◌, ◌⊎◌, ◌<◌, ◌≤◌, ◌+◌, ◌-◌, ◌==◌, Bool, true, false, not, ◌&&◌, nat_eq, List, [], ◌∷◌, ◌++◌, codes, count_by, decimal, drop, filter, flat_map, get_or, length, slice_get, take, Option, Some, None, is_some}
use Rattle.std.specs.List.{list_any, range_with_len, starts_with}
use Rattle.std.specs.Str.Iter.{HasSubslice}
use Rattle.dump_file.specs.declared.destination.Destination.{Destination}
use Rattle.dump_file.specs.declared.destination.Destination.TheVariants.{ChannelAdapter, Switch, Router, FurtherLid, Nobody, NotReported}
use Rattle.dump_file.specs.declared.row.Row.{Row}
use Rattle.dump_file.specs.declared.table.Table.{Table}
use Rattle.fabric_parts.specs.Cable.{far_end, is_cabled, port}
use Rattle.fabric_parts.specs.declared.cable.Cable.{Cable}
use Rattle.fabric_parts.specs.declared.cable.PortRef.{PortRef}
use Rattle.topo_file.specs.Connectivity.{switches}
use Rattle.topo_file.specs.Node.{is_switch_at, ports_at}
use Rattle.audit_net.specs.declared.following.Fate.{Fate}
use Rattle.audit_net.specs.declared.following.Fate.TheVariants as fates
use Rattle.audit_net.specs.declared.following.Turn.TheVariants as turns
use Rattle.audit_net.specs.declared.lids.Aim.{Aim}
use Rattle.audit_routes.specs.declared.pairs.Pair.{Pair}
use Rattle.audit_routes.specs.declared.verdict.Verdict.{Verdict}
use Rattle.audit_routes.specs.Audit.{audit_of, findings_of, port_word}
use Rattle.audit_routes.specs.Loops.{behind, closing, courses_of, credit_loop, lids_of}
use Rattle.audit_loops.specs.Channels.{deadlock, deadlock_on, depends, leads_to, leaves_by}
use Rattle.audit_net.specs.Following.{fate}
use Rattle.audit_net.specs.Lids.{aim_of, aims, is_known_lid, owner_of}
use Rattle.audit_routes.specs.Verdict.{is_aggregations, is_others, leads, reasons, verdict_by, verdict_is_safe, verdict_line}
use Rattle.audit_routes.specs.Lines.{apart_line, has_switch, no_lid_lines, no_port_line, no_switch_line, no_table_line, trouble_line, lid_text, name_text, name_word, port_text}
use Rattle.audit_routes.specs.Deciding.{unknown_line, unreached_line}
use Rattle.text_words.specs.Parts.{guid_text}
use Rattle.audit_net.specs.Net.{NetState, row_at, table_at}
use Rattle.audit_routes.specs.Pairs.{count_of}
use Rattle.audit_plan.specs.Plan.{is_host}
use Rattle.audit_net.specs.Laws.{GoesTo, HostsCome, IsUnknownAt, NeverEnds, EndsBy, ComesBy}
use Rattle.audit_loops.specs.Laws.{are_channels}
use Rattle.audit_net.specs.OwnerLaws.{end_port_of}

-- ---- counts
-- each pair is counted in one part of a line
abbrev pub AddUp : (Fate → List Pair → ℕ) → Type 0
AddUp count =
    (pairs : List Pair) → count fates.Reached pairs + (count fates.Hole pairs + (count fates.Nowhere pairs
    + (count fates.Wrong pairs + (count fates.Loop pairs + count fates.Unknown pairs)))) ≡ length pairs

abbrev pub CountsAddUp : Type 0
CountsAddUp = AddUp count_of

-- a line of the LID stands at a switch to which packets come from here
pub record HasItsLine (line : NetState → ℕ → Aim → List ℕ) (net : NetState) (lid place : ℕ) : Type 0 where
  pub there : ℕ
  pub of_switch : is_switch_at net.plan.nodes there ≡ true
  pub way : List ℕ
  pub comes : ComesBy net lid place way there
  pub reported : line net there (aim_of net lid) ≡ [] → ⊥

pub record ReportsTroubles (line : NetState → ℕ → Aim → List ℕ) : Type 0 where
  -- so it is with each switch and each LID of an end port, unless packets from there come to that port, or to an entry of which
  -- nothing is known
  pub lost : (net : NetState) (lid place : ℕ) (end : PortRef) → is_switch_at net.plan.nodes place ≡ true → end_port_of net lid ≡ Some end
      → (fate net lid end place ≡ fates.Reached → ⊥) → (fate net lid end place ≡ fates.Unknown → ⊥) → HasItsLine line net lid place
  -- with each LID of a port that the fabric lacks, if packets come to a switch that has no entry
  pub ended : (net : NetState) (lid place guid : ℕ) → is_switch_at net.plan.nodes place ≡ true → (aim_of net lid).guid ≡ Some guid
      → EndsBy net lid place turns.Hole → HasItsLine line net lid place
  -- with each LID of a port that is known, if packets come to an entry that is not, and to switches that have a table
  pub unknown : (net : NetState) (lid place guid : ℕ) → is_switch_at net.plan.nodes place ≡ true → (aim_of net lid).guid ≡ Some guid
      → ((there : ℕ) (way : List ℕ) → ComesBy net lid place way there → is_some (table_at net there) ≡ true) → EndsBy net lid place turns.Unknown
      → HasItsLine line net lid place
  -- with whichever LID, if a switch sends it to another that has a table, and the entry there is not known
  pub fed : (net : NetState) (lid place next : ℕ) → is_switch_at net.plan.nodes place ≡ true → GoesTo net lid place next → IsUnknownAt net lid next
      → is_some (table_at net next) ≡ true → line net next (aim_of net lid) ≡ [] → ⊥
  -- and with whichever LID, if packets never end
  pub endless : (net : NetState) (lid place : ℕ) → is_switch_at net.plan.nodes place ≡ true → NeverEnds net lid place → HasItsLine line net lid place

abbrev pub EachTroubleHasALine : Type 0
EachTroubleHasALine = ReportsTroubles trouble_line

-- the LID that is printed for a channel of the cycle is one of these, and the channel waits by it for the one behind it
pub record ClosesTheStep (net : NetState) (decides : Bool) (all : List Aim) (a b : PortRef) (found : Option Aim) : Type 0 where
  pub aim : Aim
  pub is : found ≡ Some aim
  pub among : list_any (λ lid. lid == aim.lid) (lids_of all) ≡ true
  pub waits : depends net (aim.lid ∷ []) a b ≡ true
  -- if the cycle decides, and the LID is an aggregation node's, packets of hosts come there
  pub comes : decides ≡ true → is_aggregations net aim ≡ true → HostsCome net aim.lid a.node

-- along these LIDs: the cycle that decides, or that along the same LIDs of which each counts everywhere
abbrev pub loop_along : NetState → (decides : Bool) → List Aim → Option (List PortRef)
loop_along net true all = deadlock_on net (courses_of net all)
loop_along net false all = deadlock net (lids_of all)

abbrev pub ReportsClosing : (NetState → (decides : Bool) → List Aim → List PortRef → ℕ → Option Aim) → Type 0
ReportsClosing reports =
    (net : NetState) (decides : Bool) (all : List Aim) (ring : List PortRef) (index : ℕ) → loop_along net decides all ≡ Some ring → index < length ring
    → ClosesTheStep net decides all (get_or ring index (port 0 0)) (behind ring index) (reports net decides all ring index)

abbrev pub LoopsAreClosedByTheirLids : Type 0
LoopsAreClosedByTheirLids = ReportsClosing closing

-- ---- what is safe
-- the port of an adapter that has a cable
abbrev pub IsAdaptersEnd : NetState → PortRef → Type 0
IsAdaptersEnd net end = (is_switch_at net.plan.nodes end.node ≡ false) × (is_cabled net.plan.cables end ≡ true)

-- a cable joins a port of the switch there and a port of a host
pub record CarriesAHost (net : NetState) (place : ℕ) : Type 0 where
  pub switch : is_switch_at net.plan.nodes place ≡ true
  pub number : ℕ
  pub low : 1 ≤ number
  pub high : number ≤ ports_at net.plan.nodes place
  pub at : PortRef
  pub cable : far_end net.plan.cables (port place number) ≡ Some at
  pub host : is_host net.plan at.node ≡ true

-- all LIDs that rows name but the switches' own: those of adapters, of ports that the fabric lacks, and of nobody
abbrev pub other_lids : NetState → List ℕ
other_lids net = lids_of (filter (is_others net) (aims net))

-- the LID is that of a port of the fabric, of the kind that the row says: an adapter's or a switch's
abbrev pub IsOfKind : NetState → ℕ → Destination → Type 0
IsOfKind net lid (ChannelAdapter guid) = (end : PortRef) × (end_port_of net lid ≡ Some end) × (is_switch_at net.plan.nodes end.node ≡ false)
IsOfKind net lid (Switch guid) = (end : PortRef) × (end_port_of net lid ≡ Some end) × (is_switch_at net.plan.nodes end.node ≡ true)
IsOfKind net lid (Router guid) = Unit {0}
IsOfKind net lid (FurtherLid guid) = Unit {0}
IsOfKind net lid Nobody = Unit {0}
IsOfKind net lid NotReported = Unit {0}

-- the dump and the fabric name the same switches and ports of adapters
pub record NameTheSame (net : NetState) : Type 0 where
  -- there is a table, and each switch has one
  pub some : net.dump.tables ≡ [] → ⊥
  pub tables : (place : ℕ) → is_switch_at net.plan.nodes place ≡ true → is_some (table_at net place) ≡ true
  -- each table is of a switch
  pub switches : (k : ℕ) (table : Table) → slice_get net.dump.tables k ≡ Some table → has_switch table.guid net.plan.nodes ≡ true
  -- and each LID that a row gives to an adapter or a switch is that of such a port
  pub ends : (place lid : ℕ) (row : Row) → is_switch_at net.plan.nodes place ≡ true → lid < 65536 → row_at net lid place ≡ Some row
      → IsOfKind net lid row.destination

-- credit loops aside
pub record LeadThere (net : NetState) : Type 0 where
  -- each port of an adapter that has a cable has a LID
  pub named : (end : PortRef) → IsAdaptersEnd net end → (lid : ℕ) × (lid < 65536) × (end_port_of net lid ≡ Some end)
  -- from each switch to which a host is attached a way leads to the host's port of each LID
  pub reached : (place lid : ℕ) (end : PortRef) → CarriesAHost net place → lid < 65536 → end_port_of net lid ≡ Some end
      → is_host net.plan end.node ≡ true → EndsBy net lid place (turns.Arrives end)
  -- the dump is of this fabric
  pub same : NameTheSame net
  -- and if a switch sends one of these LIDs to another, the entry there is known
  pub known : (place lid next : ℕ) → is_switch_at net.plan.nodes place ≡ true → list_any (λ n. n == lid) (other_lids net) ≡ true
      → GoesTo net lid place next → IsUnknownAt net lid next → ⊥

-- ---- credit loops
-- the LID is an aggregation node's: that of an end port of the fabric that is neither a switch's nor a host's
pub record IsAggregations (net : NetState) (lid : ℕ) : Type 0 where
  pub end : PortRef
  pub is : end_port_of net lid ≡ Some end
  pub adapter : is_switch_at net.plan.nodes end.node ≡ false
  pub reduces : is_host net.plan end.node ≡ false

-- packets to the LID come there, over however many switches, from one to which a host is attached
pub record ComesFromAHost (net : NetState) (lid there : ℕ) : Type 0 where
  pub from : ℕ
  pub carries : CarriesAHost net from
  pub over : List ℕ
  pub comes : ComesBy net lid from over there

-- a channel waits for another, behind it: the two switches forward some LID by the one, and then by the other. It is no switch's,
-- and if it is an aggregation node's, packets of hosts come there
pub record WaitsFor (net : NetState) (a b : PortRef) : Type 0 where
  pub lid : ℕ
  pub among : list_any (λ n. n == lid) (other_lids net) ≡ true
  pub leads : leads_to net a b.node ≡ true
  pub first : leaves_by net a lid ≡ true
  pub second : leaves_by net b lid ≡ true
  pub comes : IsAggregations net lid → ComesFromAHost net lid a.node

-- each waits for the next, and the last for the first
abbrev pub WaitRound : NetState → (first : PortRef) → List PortRef → Type 0
WaitRound net first [] = ⊥
WaitRound net first (a ∷ []) = WaitsFor net a first
WaitRound net first (a ∷ b ∷ rest) = WaitsFor net a b × WaitRound net first (b ∷ rest)

abbrev pub IsCreditLoop : NetState → List PortRef → Type 0
IsCreditLoop net [] = ⊥
IsCreditLoop net (a ∷ rest) = WaitRound net a (a ∷ rest)

pub record AreSafe (net : NetState) : Type 0 where
  pub lead : LeadThere net
  -- no channels wait for one another in a cycle, however long
  pub free : (ring : List PortRef) → are_channels net ring ≡ true → IsCreditLoop net ring → ⊥

-- this says so if and only if routes are safe
pub record ReportsSafe (says : NetState → Bool) : Type 0 where
  pub safe : (net : NetState) → says net ≡ true → AreSafe net
  pub reported : (net : NetState) → AreSafe net → says net ≡ true

abbrev pub says_safe : NetState → Bool
says_safe net = (audit_of false net).is_safe

abbrev pub SafeRoutesAreReported : Type 0
SafeRoutesAreReported = ReportsSafe says_safe

-- and this, credit loops aside
pub record ReportsLeading (says : NetState → Bool) : Type 0 where
  pub lead : (net : NetState) → says net ≡ true → LeadThere net
  pub reported : (net : NetState) → LeadThere net → says net ≡ true

abbrev pub says_lead : NetState → Bool
says_lead net = leads (verdict_by net (aims net) None)

abbrev pub LeadingRoutesAreReported : Type 0
LeadingRoutesAreReported = ReportsLeading says_lead

-- ---- the text: each line stands in it
pub record PrintsLines (text : NetState → List ℕ) : Type 0 where
  -- what the files lack
  pub passed_over : (net : NetState) (index : ℕ) (cable : Cable) → slice_get net.plan.apart index ≡ Some cable → HasSubslice (text net) (apart_line net cable)
  pub no_tables : (net : NetState) (index place : ℕ) → slice_get (switches net.plan.nodes) index ≡ Some place → HasSubslice (text net) (no_table_line net place)
  pub no_switches : (net : NetState) (index : ℕ) (table : Table) → slice_get net.dump.tables index ≡ Some table
      → HasSubslice (text net) (no_switch_line net table)
  pub no_ports : (net : NetState) (index : ℕ) (aim : Aim) → slice_get (aims net) index ≡ Some aim → HasSubslice (text net) (no_port_line aim)
  pub no_lids : (net : NetState) (index : ℕ) (cable : Cable) → slice_get net.plan.cables index ≡ Some cable
      → HasSubslice (text net) (no_lid_lines net (aims net) cable)
  -- what a switch does with a LID of which something is known
  pub troubles : (net : NetState) (index other place : ℕ) (aim : Aim) → slice_get (switches net.plan.nodes) index ≡ Some place
      → slice_get (aims net) other ≡ Some aim → HasSubslice (text net) (trouble_line net place aim)

-- what has all lines by switch and LID has each line; the other text has in their place a comment that says how many they are, if
-- there are any
pub record CountsTheRest (brief whole : NetState → List ℕ) : Type 0 where
  pub before : NetState → List ℕ
  pub behind : NetState → List ℕ
  pub lines : NetState → List ℕ
  pub comment : NetState → List ℕ
  pub all : (net : NetState) → whole net ≡ before net ++ lines net ++ behind net
  pub rest : (net : NetState) → brief net ≡ before net ++ comment net ++ behind net
  -- those of one switch behind those of the one before it, and at each switch as LIDs rise
  pub each : (net : NetState) → lines net ≡ flat_map (λ place. flat_map (trouble_line net place) (aims net)) (switches net.plan.nodes)
  pub none : (net : NetState) → lines net ≡ [] → comment net ≡ []
  pub some : (net : NetState) (count : ℕ) → count_by (λ byte. byte == 10) (lines net) ≡ suc count
      → comment net ≡ codes "# " ++ decimal (suc count) ++ codes " lines by switch and LID: --all prints them\n"

-- the text before the verdict, with all lines by switch and LID, and without
abbrev pub whole_text : NetState → List ℕ
whole_text net = (findings_of true net).text

abbrev pub brief_text : NetState → List ℕ
brief_text net = (findings_of false net).text

abbrev pub verdict_of : NetState → Verdict
verdict_of net = verdict_by net (aims net) (credit_loop net (aims net))

-- so it is with what stands before the verdict, which ends the text
pub record AllLinesArePrinted : Type 0 where
  pub lines : PrintsLines whole_text
  pub counted : CountsTheRest brief_text whole_text
  pub verdict : (whole : Bool) (net : NetState) → (audit_of whole net).text ≡ (findings_of whole net).text ++ verdict_line (verdict_of net)
  pub is_safe : (whole : Bool) (net : NetState) → (audit_of whole net).is_safe ≡ says_safe net

-- ---- the LIDs that packets of hosts do not come to
-- packets from the switch there, to which a host is attached, end elsewhere than at the host's port that has the LID, or nowhere;
-- unless they come to an entry that is unknown
pub record IsLostFrom (net : NetState) (lid place : ℕ) : Type 0 where
  pub carries : CarriesAHost net place
  pub end : PortRef
  pub named : end_port_of net lid ≡ Some end
  pub host : is_host net.plan end.node ≡ true
  pub arrives : EndsBy net lid place (turns.Arrives end) → ⊥
  pub known : EndsBy net lid place turns.Unknown → ⊥

-- these are the switches that have the property, each once, in the order of the fabric
pub record AreThose (net : NetState) (Has : ℕ → Type 0) (places : List ℕ) : Type 0 where
  pub test : ℕ → Bool
  pub order : places ≡ filter test (switches net.plan.nodes)
  pub all : (place : ℕ) → Has place → list_any (λ n. n == place) places ≡ true
  pub only : (place : ℕ) → list_any (λ n. n == place) places ≡ true → Has place

-- no line of no switch; else it says how many they are, and names the first eight, or all
pub record SaysWhich (net : NetState) (words : List ℕ) (places line : List ℕ) : Type 0 where
  pub none : length places ≡ 0 → line ≡ []
  pub few : 0 < length places → length places ≤ 8
      → line ≡ words ++ decimal (length places) ++ codes " switches:" ++ flat_map (name_word net) places ++ 10 ∷ []
  pub many : 8 < length places
      → line ≡ words ++ decimal (length places) ++ codes " switches:" ++ flat_map (name_word net) (take 8 places) ++ codes " and "
      ++ decimal (length places - 8) ++ codes " more\n"

-- a LID has a line if and only if packets to it are lost from some switch, and the line is of these switches
abbrev pub NamesLost : (NetState → Aim → List ℕ) → Type 0
NamesLost line =
    (net : NetState) (lid : ℕ) → (places : List ℕ) × AreThose net (IsLostFrom net lid) places
    × SaysWhich net (codes "unreached " ++ lid_text net lid (end_port_of net lid) ++ codes " from ") places (line net (aim_of net lid))

-- and it stands in the text
abbrev pub PrintsLost : (NetState → List ℕ) → Type 0
PrintsLost text = (net : NetState) (lid place : ℕ) → lid < 65536 → IsLostFrom net lid place → HasSubslice (text net) (unreached_line net (aim_of net lid))

pub record LostPairsAreNamed : Type 0 where
  pub lines : NamesLost unreached_line
  pub brief : PrintsLost brief_text
  pub whole : PrintsLost whole_text

-- ---- entries that are unknown, and matter
-- a host of the switch sends them to a host's port, or another switch sends them
abbrev pub IsSentByAHost : NetState → (lid place : ℕ) → Type 0
IsSentByAHost net lid place = CarriesAHost net place × ((end : PortRef) × (end_port_of net lid ≡ Some end) × (is_host net.plan end.node ≡ true))

abbrev pub IsSentByASwitch : NetState → (lid place : ℕ) → Type 0
IsSentByASwitch net lid place = (from : ℕ) × (is_switch_at net.plan.nodes from ≡ true) × GoesTo net lid from place

-- the LID is no switch's, the switch there has a table whose entry of the LID is unknown, and packets come to it
pub record LacksTheEntry (net : NetState) (lid place : ℕ) : Type 0 where
  pub other : (end : PortRef) → end_port_of net lid ≡ Some end → is_switch_at net.plan.nodes end.node ≡ false
  pub switch : is_switch_at net.plan.nodes place ≡ true
  pub table : is_some (table_at net place) ≡ true
  pub unknown : IsUnknownAt net lid place
  pub comes : IsSentByAHost net lid place ⊎ IsSentByASwitch net lid place

-- a LID has a line if and only if a switch lacks its entry, and the line is of these switches
abbrev pub NamesUnknown : (NetState → Aim → List ℕ) → Type 0
NamesUnknown line =
    (net : NetState) (lid : ℕ) → (places : List ℕ) × AreThose net (LacksTheEntry net lid) places
    × SaysWhich net (codes "unknown " ++ lid_text net lid (end_port_of net lid) ++ codes " at ") places (line net (aim_of net lid))

-- and it stands in the text, if the LID is known: an end port has it, or a row or a discovery names it
abbrev pub PrintsUnknown : (NetState → List ℕ) → Type 0
PrintsUnknown text =
    (net : NetState) (lid place : ℕ) → lid < 65536 → is_known_lid net lid ≡ true → LacksTheEntry net lid place
    → HasSubslice (text net) (unknown_line net (aim_of net lid))

pub record UnknownEntriesAreNamed : Type 0 where
  pub lines : NamesUnknown unknown_line
  pub brief : PrintsUnknown brief_text
  pub whole : PrintsUnknown whole_text

-- ---- each reason of the verdict has a line that says where
-- `no-table A`: the dump has no table of this switch
pub record HasNoTableLine (net : NetState) (text : List ℕ) : Type 0 where
  pub place : ℕ
  pub switch : is_switch_at net.plan.nodes place ≡ true
  pub none : table_at net place ≡ None
  pub line : HasSubslice text (codes "no-table " ++ name_text net place ++ 10 ∷ [])

-- `no-switch 0x0000000000000020`: the fabric has no switch of this table
pub record HasNoSwitchLine (net : NetState) (text : List ℕ) : Type 0 where
  pub index : ℕ
  pub table : Table
  pub there : slice_get net.dump.tables index ≡ Some table
  pub none : has_switch table.guid net.plan.nodes ≡ false
  pub line : HasSubslice text (codes "no-switch " ++ guid_text table.guid ++ 10 ∷ [])

-- `no-port 3 0x7cfe9003009f0a11`: rows give the LID to an end port that the fabric lacks
pub record HasNoPortLine (net : NetState) (text : List ℕ) : Type 0 where
  pub lid : ℕ
  pub guid : ℕ
  pub said : owner_of net lid ≡ Some guid
  pub none : end_port_of net lid ≡ None
  pub line : HasSubslice text (codes "no-port " ++ decimal lid ++ codes " " ++ guid_text guid ++ 10 ∷ [])

-- the fabric has no switch at all, and the text says so
abbrev pub HasNoSwitchesLine : NetState → List ℕ → Type 0
HasNoSwitchesLine net text = (switches net.plan.nodes ≡ []) × HasSubslice text (codes "# no switches\n")

-- the entry of a switch that has a table is unknown, and packets come to it: a host is attached to it, or another switch sends them
pub record IsUnknownTo (net : NetState) (lid place : ℕ) : Type 0 where
  pub switch : is_switch_at net.plan.nodes place ≡ true
  pub table : is_some (table_at net place) ≡ true
  pub unknown : IsUnknownAt net lid place
  pub comes : CarriesAHost net place ⊎ ((from : ℕ) × (is_switch_at net.plan.nodes from ≡ true) × GoesTo net lid from place)

-- `unknown 5 (h5/1) at 1 switches: ..`
pub record HasUnknownLine (net : NetState) (text : List ℕ) : Type 0 where
  pub lid : ℕ
  pub place : ℕ
  pub count : ℕ
  pub unknown : IsUnknownTo net lid place
  pub some : 0 < count
  pub line : HasSubslice text (codes "unknown " ++ lid_text net lid (end_port_of net lid) ++ codes " at " ++ decimal count ++ codes " switches:")

-- `unreached 5 (h5/1) from 3 switches: ..`
pub record HasUnreachedLine (net : NetState) (text : List ℕ) : Type 0 where
  pub lid : ℕ
  pub place : ℕ
  pub count : ℕ
  pub lost : IsLostFrom net lid place
  pub some : 0 < count
  pub line : HasSubslice text (codes "unreached " ++ lid_text net lid (end_port_of net lid) ++ codes " from " ++ decimal count ++ codes " switches:")

-- `no-lid h1/1`: no LID is that of this port of an adapter, which has a cable
pub record HasNoLidLine (net : NetState) (text : List ℕ) : Type 0 where
  pub end : PortRef
  pub adapters : IsAdaptersEnd net end
  pub none : (lid : ℕ) → lid < 65536 → end_port_of net lid ≡ Some end → ⊥
  pub line : HasSubslice text (codes "no-lid " ++ port_text net end ++ 10 ∷ [])

pub record EachReasonHasItsLine (text : NetState → List ℕ) : Type 0 where
  pub lids : (net : NetState) → (verdict_of net).has_lids ≡ false → HasNoLidLine net (text net)
  pub pairs : (net : NetState) → (verdict_of net).loses ≡ true → HasUnreachedLine net (text net)
  -- the credit loop stands in the text
  pub loops : (net : NetState) → (verdict_of net).is_free ≡ false
      → (ring : List PortRef) × (credit_loop net (aims net) ≡ Some ring) × HasSubslice (text net) (codes "deadlock" ++ flat_map (port_word net) ring)
  pub names : (net : NetState) → (verdict_of net).is_same ≡ false
      → HasNoTableLine net (text net) ⊎ (HasNoSwitchesLine net (text net) ⊎ (HasNoSwitchLine net (text net) ⊎ HasNoPortLine net (text net)))
  pub entries : (net : NetState) → ((verdict_of net).is_known && not (verdict_of net).lacks_entries) ≡ false
      → HasNoTableLine net (text net) ⊎ HasUnknownLine net (text net)

pub record ReasonsHaveLines : Type 0 where
  pub brief : EachReasonHasItsLine brief_text
  pub whole : EachReasonHasItsLine whole_text

-- ---- a verdict that is not safe has a reason, and each reason is named if and only if it holds
-- the word stands somewhere in the text
abbrev pub has_word : (word text : List ℕ) → Bool
has_word word text = list_any (λ k. starts_with nat_eq (drop k text) word) (range_with_len 0 (length text))

pub record NamesReasons (words : Verdict → List ℕ) : Type 0 where
  pub some : (net : NetState) (all : List Aim) (ring : Option (List PortRef)) → verdict_is_safe (verdict_by net all ring) ≡ false
      → words (verdict_by net all ring) ≡ [] → ⊥
  pub lids : (verdict : Verdict) → has_word (codes "no-lid") (words verdict) ≡ not verdict.has_lids
  pub pairs : (verdict : Verdict) → has_word (codes "unreached") (words verdict) ≡ verdict.loses
  pub loops : (verdict : Verdict) → has_word (codes "deadlock") (words verdict) ≡ not verdict.is_free
  pub names : (verdict : Verdict) → has_word (codes "mismatch") (words verdict) ≡ not verdict.is_same
  pub entries : (verdict : Verdict) → has_word (codes "unknown") (words verdict) ≡ not (verdict.is_known && not verdict.lacks_entries)

abbrev pub UnsafeRoutesHaveAReason : Type 0
UnsafeRoutesHaveAReason = NamesReasons reasons
