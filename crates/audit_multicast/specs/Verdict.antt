-- The verdict of an audit that judges multicast too.
use Rattle.std.specs.Prelude.{◌&&◌, Bool, not, List, ◌++◌, codes, is_some, ℕ}
use Rattle.std.specs.List.{list_all, list_any}
use Rattle.mft_file.specs.declared.table.MaskTable.{MaskTable}
use Rattle.topo_file.specs.Connectivity.{switches}
use Rattle.audit_routes.specs.Lines.{has_switch}
use Rattle.audit_net.specs.Net.{NetState}
use Rattle.audit_routes.specs.Verdict.{outcome, reasons, verdict_is_safe, with_reason}
use Rattle.audit_routes.specs.declared.verdict.Verdict.{Verdict}
use Rattle.audit_multicast.specs.declared.found.Found.{Found}
use Rattle.audit_multicast.specs.declared.verdict.MulticastVerdict.{MulticastVerdict}
use Rattle.audit_multicast.specs.Lines.{has_copy, has_cut, has_ring, mft_at}

-- ---- what it rests on: each MFT is of a switch of the fabric, each switch has one, and no MLID has a loop, copies or a cut
abbrev pub is_of_fabric : NetState → MaskTable → Bool
is_of_fabric net table = has_switch table.guid net.plan.nodes

abbrev pub has_mft : NetState → List MaskTable → ℕ → Bool
has_mft net tables place = is_some (mft_at net tables place)

abbrev pub multicast_verdict : NetState → List MaskTable → List Found → MulticastVerdict
multicast_verdict net tables all = record {
  is_same = list_all (is_of_fabric net) tables;
  is_known = list_all (has_mft net tables) (switches net.plan.nodes);
  has_loops = list_any has_ring all;
  has_copies = list_any has_copy all;
  has_cuts = list_any has_cut all;
}

-- ---- with that of the routes: both dumps name the same switches, and nothing is unknown by either
abbrev pub joined : Verdict → MulticastVerdict → Verdict
joined routes multicast = record routes { is_same = routes.is_same && multicast.is_same; is_known = routes.is_known && multicast.is_known }

abbrev pub all_are_safe : Verdict → MulticastVerdict → Bool
all_are_safe routes multicast = verdict_is_safe (joined routes multicast) && (not multicast.has_loops && (not multicast.has_copies && not multicast.has_cuts))

-- `verdict: not safe (deadlock, multicast-loop, multicast-copies, multicast-cut), as if ..`
unfoldable pub all_reasons : Verdict → MulticastVerdict → List ℕ
all_reasons routes multicast =
    with_reason (not multicast.has_cuts) (codes "multicast-cut")
    (with_reason (not multicast.has_copies) (codes "multicast-copies")
    (with_reason (not multicast.has_loops) (codes "multicast-loop") (reasons (joined routes multicast))))

unfoldable pub all_words : Verdict → MulticastVerdict → List ℕ
all_words routes multicast = outcome (all_are_safe routes multicast) (all_reasons routes multicast)

unfoldable pub all_verdict_line : Verdict → MulticastVerdict → List ℕ
all_verdict_line routes multicast =
    codes "verdict: " ++ all_words routes multicast ++ codes ", as if all packets used one virtual lane; credit loops of multicast are not judged\n"
