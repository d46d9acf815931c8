-- What is so of all fabrics and masks: the statements of the laws of `src/laws.rt`.
use Rattle.std.specs.Prelude.{ℕ, ◌≡◌, ◌==◌, ◌&&◌, nat_le, Bool, true, false, not, List, [], ◌∷◌, ◌++◌, codes, slice_get, Option, Some, None, is_some}
use Rattle.std.specs.List.{list_all, list_any}
use Rattle.std.specs.Str.Iter.{HasSubslice}
use Rattle.fabric_parts.specs.Cable.{far_end}
use Rattle.fabric_parts.specs.declared.cable.PortRef.{PortRef}
use Rattle.mft_file.specs.declared.table.MaskTable.{MaskTable}
use Rattle.topo_file.specs.Connectivity.{switches}
use Rattle.topo_file.specs.Node.{is_switch_at, ports_at}
use Rattle.audit_loops.specs.Channels.{leads_to}
use Rattle.audit_routes.specs.Audit.{findings_of}
use Rattle.audit_routes.specs.Laws.{AreSafe, has_word}
use Rattle.audit_routes.specs.Lines.{has_switch}
use Rattle.audit_loops.specs.Laws.{is_cycle}
use Rattle.audit_net.specs.Net.{NetState}
use Rattle.audit_routes.specs.Verdict.{verdict_by}
use Rattle.audit_net.specs.declared.lids.Aim.{Aim}
use Rattle.audit_routes.specs.declared.verdict.Verdict.{Verdict}
use Rattle.audit_multicast.specs.declared.copies.SecondCopy.{SecondCopy}
use Rattle.audit_multicast.specs.declared.cuts.Cut.{Cut}
use Rattle.audit_multicast.specs.declared.verdict.MulticastVerdict.{MulticastVerdict}
use Rattle.audit_multicast.specs.Audit.{audit_with, found_of}
use Rattle.audit_multicast.specs.Copies.{copy_of, takes_packets}
use Rattle.audit_multicast.specs.Cuts.{cut_of}
use Rattle.audit_multicast.specs.Lines.{found_lines, mask_port_line, mft_at, no_mft_line, strange_mft_line}
use Rattle.audit_multicast.specs.Masks.{masks_of, mlids_of}
use Rattle.audit_multicast.specs.Loops.{loop_of}
use Rattle.audit_multicast.specs.Verdict.{all_are_safe, all_reasons}
use Rattle.audit_multicast.specs.Ways.{goes_on, is_set, leaves}

-- the port is one that its switch has
abbrev pub is_own_port : NetState → PortRef → Bool
is_own_port net at = nat_le 1 at.port && nat_le at.port (ports_at net.plan.nodes at.node)

-- ---- loops
-- what is reported is a loop: packets leave by each port and then by the next, and after the last one by the first
abbrev pub ReportsMaskLoops : (NetState → List (List ℕ) → Option (List PortRef)) → Type 0
ReportsMaskLoops reports =
    (net : NetState) (masks : List (List ℕ)) (ring : List PortRef) → reports net masks ≡ Some ring → is_cycle (goes_on net masks) ring ≡ true

abbrev pub MaskLoopsGoRound : Type 0
MaskLoopsGoRound = ReportsMaskLoops loop_of

-- if none is reported there is none, however long
abbrev pub MissesNoMaskLoop : (NetState → List (List ℕ) → Option (List PortRef)) → Type 0
MissesNoMaskLoop reports =
    (net : NetState) (masks : List (List ℕ)) → reports net masks ≡ None → (ring : List PortRef) → list_all (is_own_port net) ring ≡ true
    → is_cycle (goes_on net masks) ring ≡ false

abbrev pub NoMaskLoopIsMissed : Type 0
NoMaskLoopIsMissed = MissesNoMaskLoop loop_of

-- ---- second copies
-- a packet from an end port at the switch `place` comes to the switch `there`. It left switches by these ports, the last one first
abbrev pub came_by : NetState → List (List ℕ) → (place : ℕ) → List PortRef → (there : ℕ) → Bool
came_by net masks place [] there = place == there
came_by net masks place (last ∷ []) there = (last.node == place) && (is_own_port net last && (leaves net masks last && leads_to net last there))
came_by net masks place (last ∷ before ∷ back) there =
    goes_on net masks before last && (is_own_port net last && (leads_to net last there && came_by net masks place (before ∷ back) last.node))

-- by two different paths
pub record ComesTwice (net : NetState) (masks : List (List ℕ)) (place there : ℕ) : Type 0 where
  pub one : List PortRef
  pub other : List PortRef
  pub differ : one ≡ other → ⊥
  pub by_one : came_by net masks place one there ≡ true
  pub by_other : came_by net masks place other there ≡ true

-- a copy that is reported comes so, from a switch to which an end port is attached
abbrev pub ReportsCopies : (NetState → List (List ℕ) → Option SecondCopy) → Type 0
ReportsCopies reports =
    (net : NetState) (masks : List (List ℕ)) (copy : SecondCopy) → reports net masks ≡ Some copy
    → (takes_packets net copy.from ≡ true) × ComesTwice net masks copy.from copy.at

abbrev pub CopiesComeTwice : Type 0
CopiesComeTwice = ReportsCopies copy_of

-- if none is reported each switch is reached by one path at most
abbrev pub MissesNoCopy : (NetState → List (List ℕ) → Option SecondCopy) → Type 0
MissesNoCopy reports =
    (net : NetState) (masks : List (List ℕ)) → reports net masks ≡ None → (place there : ℕ) → is_switch_at net.plan.nodes place ≡ true
    → takes_packets net place ≡ true → ComesTwice net masks place there → ⊥

abbrev pub NoCopyIsMissed : Type 0
NoCopyIsMissed = MissesNoCopy copy_of

-- ---- groups that are cut
-- an end port to which a mask leads, by the switch port to which it is attached
pub record IsMember (net : NetState) (masks : List (List ℕ)) (at : PortRef) : Type 0 where
  pub switch : is_switch_at net.plan.nodes at.node ≡ true
  pub own : is_own_port net at ≡ true
  pub set : is_set masks at ≡ true
  pub end : PortRef
  pub cable : far_end net.plan.cables at ≡ Some end
  pub end_port : is_switch_at net.plan.nodes end.node ≡ false

-- a packet from an end port at the one switch comes to the other
abbrev pub ComesTo : NetState → List (List ℕ) → (place there : ℕ) → Type 0
ComesTo net masks place there = (path : List PortRef) × (came_by net masks place path there ≡ true)

-- a cut that is reported is of two members, and what the one sends does not come to the switch of the other
abbrev pub ReportsCuts : (NetState → List (List ℕ) → Option Cut) → Type 0
ReportsCuts reports =
    (net : NetState) (masks : List (List ℕ)) (cut : Cut) → reports net masks ≡ Some cut
    → IsMember net masks cut.from × IsMember net masks cut.at × (ComesTo net masks cut.from.node cut.at.node → ⊥)

abbrev pub CutMembersAreApart : Type 0
CutMembersAreApart = ReportsCuts cut_of

-- if none is reported, what each member sends comes to each
abbrev pub MissesNoCut : (NetState → List (List ℕ) → Option Cut) → Type 0
MissesNoCut reports =
    (net : NetState) (masks : List (List ℕ)) → reports net masks ≡ None → (from at : PortRef) → IsMember net masks from → IsMember net masks at
    → ComesTo net masks from.node at.node

abbrev pub NoCutIsMissed : Type 0
NoCutIsMissed = MissesNoCut cut_of

-- ---- what is safe
-- the MLID is one that a row of an MFT names
abbrev pub IsNamed : List MaskTable → ℕ → Type 0
IsNamed tables mlid = list_any (λ other. other == mlid) (mlids_of tables) ≡ true

pub record AreAllSafe (net : NetState) (tables : List MaskTable) : Type 0 where
  pub routes : AreSafe net
  -- each switch has an MFT, and each MFT is of a switch
  pub mfts : (place : ℕ) → is_switch_at net.plan.nodes place ≡ true → is_some (mft_at net tables place) ≡ true
  pub switches : (index : ℕ) (table : MaskTable) → slice_get tables index ≡ Some table → has_switch table.guid net.plan.nodes ≡ true
  -- no packet to one of these MLIDs goes round, none comes to a switch by two paths, and what each member sends comes to each
  pub loops : (mlid : ℕ) → IsNamed tables mlid → (ring : List PortRef) → list_all (is_own_port net) ring ≡ true
      → is_cycle (goes_on net (masks_of net tables mlid)) ring ≡ false
  pub copies : (mlid : ℕ) → IsNamed tables mlid → (place there : ℕ) → is_switch_at net.plan.nodes place ≡ true → takes_packets net place ≡ true
      → ComesTwice net (masks_of net tables mlid) place there → ⊥
  pub cuts : (mlid : ℕ) → IsNamed tables mlid → (from at : PortRef) → IsMember net (masks_of net tables mlid) from
      → IsMember net (masks_of net tables mlid) at → ComesTo net (masks_of net tables mlid) from.node at.node

-- this says so if and only if routes and multicast are safe
pub record ReportsAllSafe (says : NetState → List MaskTable → Bool) : Type 0 where
  pub safe : (net : NetState) (tables : List MaskTable) → says net tables ≡ true → AreAllSafe net tables
  pub reported : (net : NetState) (tables : List MaskTable) → AreAllSafe net tables → says net tables ≡ true

abbrev pub says_all_safe : NetState → List MaskTable → Bool
says_all_safe net tables = (audit_with false net tables).is_safe

abbrev pub SafeMulticastIsReported : Type 0
SafeMulticastIsReported = ReportsAllSafe says_all_safe

-- ---- the text
-- a switch has this MFT, and a row of it this port
pub record HasMaskPort (net : NetState) (tables : List MaskTable) (place mlid number : ℕ) : Type 0 where
  pub index : ℕ
  pub switch : slice_get (switches net.plan.nodes) index ≡ Some place
  pub table : MaskTable
  pub own : mft_at net tables place ≡ Some table
  pub row : ℕ
  pub ports : List ℕ
  pub there : slice_get table.rows row ≡ Some (record { mlid = mlid; ports = ports })
  pub within : ℕ
  pub port : slice_get ports within ≡ Some number

-- the text has each line: what the files lack, each port of a mask by which packets go nowhere, and what is found of each MLID
pub record PrintsMulticast (whole : Bool) (text : NetState → List MaskTable → List ℕ) : Type 0 where
  pub no_tables : (net : NetState) (tables : List MaskTable) (index place : ℕ) → slice_get (switches net.plan.nodes) index ≡ Some place
      → HasSubslice (text net tables) (no_mft_line net tables place)
  pub no_switches : (net : NetState) (tables : List MaskTable) (index : ℕ) (table : MaskTable) → slice_get tables index ≡ Some table
      → HasSubslice (text net tables) (strange_mft_line net table)
  pub ports : (net : NetState) (tables : List MaskTable) (place mlid number : ℕ) → HasMaskPort net tables place mlid number
      → HasSubslice (text net tables) (mask_port_line net place mlid number)
  pub mlids : (net : NetState) (tables : List MaskTable) (index mlid : ℕ) → slice_get (mlids_of tables) index ≡ Some mlid
      → HasSubslice (text net tables) (found_lines net (found_of net tables mlid))
  -- it begins with what an audit without MFTs prints before its verdict
  pub routes : (net : NetState) (tables : List MaskTable) → (rest : List ℕ) × (text net tables ≡ (findings_of whole net).text ++ rest)

abbrev pub MulticastIsPrinted : Type 0
MulticastIsPrinted = (whole : Bool) → PrintsMulticast whole (λ net tables. (audit_with whole net tables).text)

-- ---- a verdict that is not safe has a reason, and each reason is named if and only if it holds
pub record NamesAllReasons (words : Verdict → MulticastVerdict → List ℕ) : Type 0 where
  pub some : (net : NetState) (all : List Aim) (ring : Option (List PortRef)) (multicast : MulticastVerdict)
      → all_are_safe (verdict_by net all ring) multicast ≡ false → words (verdict_by net all ring) multicast ≡ [] → ⊥
  pub lids : (routes : Verdict) (multicast : MulticastVerdict) → has_word (codes "no-lid") (words routes multicast) ≡ not routes.has_lids
  pub pairs : (routes : Verdict) (multicast : MulticastVerdict) → has_word (codes "unreached") (words routes multicast) ≡ routes.loses
  pub waits : (routes : Verdict) (multicast : MulticastVerdict) → has_word (codes "deadlock") (words routes multicast) ≡ not routes.is_free
  pub names : (routes : Verdict) (multicast : MulticastVerdict)
      → has_word (codes "mismatch") (words routes multicast) ≡ not (routes.is_same && multicast.is_same)
  pub entries : (routes : Verdict) (multicast : MulticastVerdict)
      → has_word (codes "unknown") (words routes multicast) ≡ not ((routes.is_known && multicast.is_known) && not routes.lacks_entries)
  pub loops : (routes : Verdict) (multicast : MulticastVerdict) → has_word (codes "multicast-loop") (words routes multicast) ≡ multicast.has_loops
  pub copies : (routes : Verdict) (multicast : MulticastVerdict) → has_word (codes "multicast-copies") (words routes multicast) ≡ multicast.has_copies
  pub cuts : (routes : Verdict) (multicast : MulticastVerdict) → has_word (codes "multicast-cut") (words routes multicast) ≡ multicast.has_cuts

abbrev pub AllReasonsAreNamed : Type 0
AllReasonsAreNamed = NamesAllReasons all_reasons
