-- Routes and multicast are reported to be safe if and only if they are.
use Rattle.std.proofs.Common.{◌≡◌, ◌∙◌, inl, inr, ap, refl, subst, sym, ℕ, Bool, true, false, not, ◌==◌, ◌&&◌, List, [], ◌∷◌, length, map, slice_get, suc, Option, Some, None, is_some}
use Rattle.std.specs.List.{list_all, list_any, range_with_len}
use Rattle.std.proofs.lemmas.Bool.{and_from, and_parts, cases_Bool, eq-eqb, eqb-true, false≢true, or_left, or_right}
use Rattle.fabric_parts.specs.Cable.{is_same_port}
use Rattle.fabric_parts.specs.declared.cable.PortRef.{PortRef}
use Rattle.mft_file.specs.declared.table.MaskTable.{MaskTable}
use Rattle.step_results.proofs.ListLemmas.{all_there}
use Rattle.step_results.proofs.BoolLemmas.{none_of as none_found, not_true}
use Rattle.topo_file.specs.Connectivity.{switches}
use Rattle.topo_file.specs.Node.{is_switch_at}
use Rattle.audit_net.specs.Net.{NetState}
use Rattle.audit_plan.proofs.PlaceLemmas.{is_listed}
use Rattle.audit_loops.proofs.CycleLawLemmas.{are_among, rings_wait}
use Rattle.audit_net.specs.Lids.{aims}
use Rattle.audit_routes.specs.Audit.{audit_of, findings_of}
use Rattle.audit_routes.specs.Loops.{credit_loop}
use Rattle.audit_routes.specs.Laws.{AreSafe}
use Rattle.audit_routes.specs.Lines.{has_switch}
use Rattle.audit_routes.specs.Verdict.{verdict_by, verdict_is_safe}
use Rattle.audit_routes.specs.declared.verdict.Verdict.{Verdict}
use Rattle.audit_routes.proofs.ReportedLemmas.{all_kept, safe_routes_are_reported}
use Rattle.audit_routes.proofs.SafeLemmas.{each_listed}
use Rattle.audit_multicast.specs.declared.copies.SecondCopy.{SecondCopy}
use Rattle.audit_multicast.specs.declared.cuts.Cut.{Cut}
use Rattle.audit_multicast.specs.declared.found.Found.{Found}
use Rattle.audit_multicast.specs.declared.verdict.MulticastVerdict.{MulticastVerdict}
use Rattle.audit_multicast.specs.Audit.{all_found, audit_with, found_of}
use Rattle.audit_multicast.specs.Copies.{copy_of, entrances, takes_packets}
use Rattle.audit_multicast.specs.Cuts.{cut_of}
use Rattle.audit_multicast.specs.Laws.{AreAllSafe, IsNamed, SafeMulticastIsReported, is_own_port, says_all_safe}
use Rattle.audit_multicast.specs.Lines.{has_copy, has_cut, has_ring}
use Rattle.audit_multicast.specs.Loops.{all_outs, loop_of}
use Rattle.audit_multicast.specs.Masks.{masks_of, mlids_of}
use Rattle.audit_multicast.specs.Verdict.{all_are_safe, has_mft, is_of_fabric, joined, multicast_verdict}
use Rattle.audit_multicast.specs.Ways.{comes_to}
use Rattle.audit_multicast.proofs.CopyFoundLemmas.{copies_come_twice, first_is}
use Rattle.audit_multicast.proofs.CopyLawLemmas.{no_copy_is_missed}
use Rattle.audit_multicast.proofs.CutLawLemmas.{among_is, cut_members_are_apart, kept_both, no_cut_is_missed}
use Rattle.audit_multicast.proofs.LoopLawLemmas.{mask_loops_go_round, no_mask_loop_is_missed}

-- ---- what the verdict rests on
pub record AreBoth (routes : Verdict) (multicast : MulticastVerdict) : Type 0 where
  safe : verdict_is_safe routes ≡ true
  same : multicast.is_same ≡ true
  known : multicast.is_known ≡ true
  loops : multicast.has_loops ≡ false
  copies : multicast.has_copies ≡ false
  cuts : multicast.has_cuts ≡ false

parts_of : (routes : Verdict) (multicast : MulticastVerdict) → all_are_safe routes multicast ≡ true → AreBoth routes multicast
parts_of routes multicast safe =
    let both = and_parts (verdict_is_safe (joined routes multicast)) _ safe in
    let lids = and_parts routes.has_lids _ both.0 in
    let reached = and_parts routes.is_reached _ lids.1 in
    let free = and_parts routes.is_free _ reached.1 in
    let files = and_parts (routes.is_same && multicast.is_same) _ free.1 in
    let same = and_parts routes.is_same _ files.0 in
    let known = and_parts routes.is_known _ files.1 in
    let loops = and_parts (not multicast.has_loops) _ both.1 in
    let copies = and_parts (not multicast.has_copies) _ loops.1 in
    record {
      safe = and_from routes.has_lids _ lids.0 (and_from routes.is_reached _ reached.0 (and_from routes.is_free _ free.0 (and_from routes.is_same _ same.0 known.0)));
      same = same.1;
      known = known.1;
      loops = not_true multicast.has_loops loops.0;
      copies = not_true multicast.has_copies copies.0;
      cuts = not_true multicast.has_cuts copies.1;
    }

of_parts : (routes : Verdict) (multicast : MulticastVerdict) → AreBoth routes multicast → all_are_safe routes multicast ≡ true
of_parts routes multicast both =
    let lids = and_parts routes.has_lids _ both.safe in
    let reached = and_parts routes.is_reached _ lids.1 in
    let free = and_parts routes.is_free _ reached.1 in
    let files = and_parts routes.is_same _ free.1 in
    and_from (verdict_is_safe (joined routes multicast)) _
    (and_from routes.has_lids _ lids.0 (and_from routes.is_reached _ reached.0 (and_from routes.is_free _ free.0
    (and_from (routes.is_same && multicast.is_same) _ (and_from routes.is_same _ files.0 both.same) (and_from routes.is_known _ files.1 both.known)))))
    (and_from (not multicast.has_loops) _ (ap not both.loops) (and_from (not multicast.has_copies) _ (ap not both.copies) (ap not both.cuts)))

-- ---- what is found of each MLID
none_of : (p : Found → Bool) (f : ℕ → Found) (mlids : List ℕ) (mlid : ℕ) → list_any p (map f mlids) ≡ false → list_any (λ n. n == mlid) mlids ≡ true → p (f mlid) ≡ false
none_of p f [] mlid none there = absurd (false≢true there)
none_of p f (x ∷ mlids) mlid none there = elim (cases_Bool (p (f x))) [
  | inl some ↦ let found : true ≡ false = rw some at none in absurd (false≢true (sym found))
  | inr fails ↦ elim (cases_Bool (x == mlid)) [
    | inl here ↦ let same : x ≡ mlid = eqb-true x mlid here in subst (λ (n : ℕ). p (f n) ≡ false) same fails
    | inr other ↦ none_of p f mlids mlid (rw fails at none) (rw other at there)
  ]
]

all_none : (p : Found → Bool) (f : ℕ → Found) (mlids : List ℕ) → ((mlid : ℕ) → list_any (λ n. n == mlid) mlids ≡ true → p (f mlid) ≡ false) → list_any p (map f mlids) ≡ false
all_none p f [] each = refl
all_none p f (x ∷ mlids) each =
    let first = each x (or_left (x == x) _ (eq-eqb x x refl)) in
    rw first (all_none p f mlids (λ mlid there. each mlid (or_right (x == mlid) _ there)))

-- the ports of a loop that is found are their switches'
ring_own : (net : NetState) (masks : List (List ℕ)) (ring : List PortRef) → are_among (all_outs net masks) ring ≡ true → list_all (is_own_port net) ring ≡ true
ring_own net masks [] among = refl
ring_own net masks (at ∷ ring) among =
    let parts = and_parts (list_any (is_same_port at) (all_outs net masks)) _ among in
    and_from (is_own_port net at) _ (among_is net masks at (switches net.plan.nodes) parts.0).0 (ring_own net masks ring parts.1)

loop_own : (net : NetState) (masks : List (List ℕ)) (ring : List PortRef) → loop_of net masks ≡ Some ring → list_all (is_own_port net) ring ≡ true
unfolding loop_of
loop_own net masks ring found = ring_own net masks ring (rings_wait (comes_to net) (all_outs net masks) ring found).0

-- the switch at which a packet enters that comes twice is one
copy_switch : (net : NetState) (masks : List (List ℕ)) (copy : SecondCopy) → copy_of net masks ≡ Some copy → is_switch_at net.plan.nodes copy.from ≡ true
unfolding copy_of
copy_switch net masks copy found =
    (kept_both (takes_packets net) (is_switch_at net.plan.nodes) copy.from (range_with_len 0 (length net.plan.nodes)) (first_is net masks (entrances net) copy found).among).1

-- ---- what is said of the routes alone
routes_safe : (net : NetState) → verdict_is_safe (verdict_by net (aims net) (credit_loop net (aims net))) ≡ true → AreSafe net
unfolding audit_of
routes_safe net safe = safe_routes_are_reported.safe net safe

routes_reported : (net : NetState) → AreSafe net → verdict_is_safe (verdict_by net (aims net) (credit_loop net (aims net))) ≡ true
unfolding audit_of
routes_reported net safe = safe_routes_are_reported.reported net safe

-- ---- what is reported to be safe is
reported_are : (net : NetState) (tables : List MaskTable) → says_all_safe net tables ≡ true → AreAllSafe net tables
unfolding audit_with findings_of all_found
reported_are net tables says =
    let verdict = verdict_by net (aims net) (credit_loop net (aims net)) in
    let both = parts_of verdict (multicast_verdict net tables (map (found_of net tables) (mlids_of tables))) says in
    record {
      routes = routes_safe net both.safe;
      mfts = λ place switch. each_listed (has_mft net tables) (switches net.plan.nodes) place (is_listed net.plan.nodes place switch) both.known;
      switches = λ index table there. all_there (is_of_fabric net) tables index table both.same there;
      loops = λ mlid named ring own. no_mask_loop_is_missed net (masks_of net tables mlid)
          (none_found (loop_of net (masks_of net tables mlid)) (none_of has_ring (found_of net tables) (mlids_of tables) mlid both.loops named)) ring own;
      copies = λ mlid named place there switch takes twice. no_copy_is_missed net (masks_of net tables mlid)
          (none_found (copy_of net (masks_of net tables mlid)) (none_of has_copy (found_of net tables) (mlids_of tables) mlid both.copies named)) place there switch takes twice;
      cuts = λ mlid named from at sender receiver. no_cut_is_missed net (masks_of net tables mlid)
          (none_found (cut_of net (masks_of net tables mlid)) (none_of has_cut (found_of net tables) (mlids_of tables) mlid both.cuts named)) from at sender receiver;
    }

-- ---- and what is safe is reported to be
no_loop : (net : NetState) (tables : List MaskTable) → AreAllSafe net tables → (mlid : ℕ) → IsNamed tables mlid → has_ring (found_of net tables mlid) ≡ false
no_loop net tables safe mlid named = by (loop_of net (masks_of net tables mlid)) refl
  where
    by : (o : Option (List PortRef)) → loop_of net (masks_of net tables mlid) ≡ o → is_some o ≡ false
    by None is = refl
    by (Some ring) is =
        let masks = masks_of net tables mlid in
        absurd (false≢true (sym (safe.loops mlid named ring (loop_own net masks ring is)) ∙ mask_loops_go_round net masks ring is))

no_copy : (net : NetState) (tables : List MaskTable) → AreAllSafe net tables → (mlid : ℕ) → IsNamed tables mlid → has_copy (found_of net tables mlid) ≡ false
no_copy net tables safe mlid named = by (copy_of net (masks_of net tables mlid)) refl
  where
    by : (o : Option SecondCopy) → copy_of net (masks_of net tables mlid) ≡ o → is_some o ≡ false
    by None is = refl
    by (Some copy) is =
        let masks = masks_of net tables mlid in
        let found = copies_come_twice net masks copy is in
        absurd (safe.copies mlid named copy.from copy.at (copy_switch net masks copy is) found.0 found.1)

no_cut : (net : NetState) (tables : List MaskTable) → AreAllSafe net tables → (mlid : ℕ) → IsNamed tables mlid → has_cut (found_of net tables mlid) ≡ false
no_cut net tables safe mlid named = by (cut_of net (masks_of net tables mlid)) refl
  where
    by : (o : Option Cut) → cut_of net (masks_of net tables mlid) ≡ o → is_some o ≡ false
    by None is = refl
    by (Some cut) is =
        let masks = masks_of net tables mlid in
        let found = cut_members_are_apart net masks cut is in
        absurd (found.2 (safe.cuts mlid named cut.from cut.at found.0 found.1))

all_tables : (net : NetState) (rest : List MaskTable) → ((table : MaskTable) → (index : ℕ) → slice_get rest index ≡ Some table → has_switch table.guid net.plan.nodes ≡ true)
    → list_all (is_of_fabric net) rest ≡ true
all_tables net [] each = refl
all_tables net (table ∷ rest) each = and_from (is_of_fabric net table) _ (each table 0 refl) (all_tables net rest (λ other index there. each other (suc index) there))

are_reported : (net : NetState) (tables : List MaskTable) → AreAllSafe net tables → says_all_safe net tables ≡ true
unfolding audit_with findings_of all_found
are_reported net tables safe =
    of_parts (verdict_by net (aims net) (credit_loop net (aims net))) (multicast_verdict net tables (map (found_of net tables) (mlids_of tables)))
    (record {
      safe = routes_reported net safe.routes;
      same = all_tables net tables (λ table index there. safe.switches index table there);
      known = all_kept (has_mft net tables) (is_switch_at net.plan.nodes) (range_with_len 0 (length net.plan.nodes)) safe.mfts;
      loops = all_none has_ring (found_of net tables) (mlids_of tables) (λ mlid named. no_loop net tables safe mlid named);
      copies = all_none has_copy (found_of net tables) (mlids_of tables) (λ mlid named. no_copy net tables safe mlid named);
      cuts = all_none has_cut (found_of net tables) (mlids_of tables) (λ mlid named. no_cut net tables safe mlid named);
    })

pub safe_multicast_is_reported : SafeMulticastIsReported
safe_multicast_is_reported = record { safe = reported_are; reported = are_reported }
