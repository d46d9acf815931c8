-- What is reported to be safe by virtual lanes is, and what is safe is reported to be.
use Rattle.std.proofs.Common.{◌≡◌, ◌∙◌, inl, inr, ap, refl, subst, sym, ℕ, zero, suc, ◌==◌, ◌&&◌, ◌||◌, Bool, true, false, not, List, [], ◌∷◌, filter, flat_map, map, slice_get, arith, Option, Some, None, is_none}
use Rattle.std.specs.List.{list_all, list_any}
use Rattle.std.proofs.lemmas.Bool.{and_from, and_parts, cases_Bool, false≢true, not-true, or_cases}
use Rattle.std.proofs.lemmas.Bool.Decides.{nat_tests}
use Rattle.std.proofs.lemmas.List.Folds.{list_all-append}
use Rattle.std.proofs.lemmas.Map.Keys.{any_passes_from_place}
use Rattle.step_results.proofs.ListLemmas.{all_there, any_map}
use Rattle.fabric_parts.specs.Cable.{far_end, is_same_port}
use Rattle.fabric_parts.specs.declared.cable.PortRef.{PortRef}
use Rattle.sl2vl_file.specs.declared.path.PathSl.{PathSl}
use Rattle.topo_file.specs.Node.{is_switch_at}
use Rattle.audit_net.specs.Net.{NetState}
use Rattle.audit_net.specs.declared.lids.Aim.{Aim}
use Rattle.audit_routes.specs.Verdict.{leads, verdict_is_safe}
use Rattle.audit_routes.specs.declared.verdict.Verdict.{Verdict}
use Rattle.audit_lanes.specs.declared.hop.Hop.{Hop}
use Rattle.audit_lanes.specs.declared.lane.Lane.{Lane}
use Rattle.audit_lanes.specs.declared.owned.OwnedLid.{OwnedLid}
use Rattle.audit_lanes.specs.Deadlock.{lane_deadlock}
use Rattle.audit_lanes.specs.Hops.{enough_hops, hops_from, hops_of, hops_within, is_dropped, lacks_row, some_hop, traces}
use Rattle.audit_lanes.specs.Laws.{AreSafeLanes, HasRecord, IsOwned, SafeLanesAreReported, TakeNoHop, are_lanes, is_cycle, says_of_lanes, waits_by_records}
use Rattle.audit_lanes.specs.Records.{has_record, is_pair, is_record_of, lids, owned, owned_by, owned_of, records, records_from}
use Rattle.audit_lanes.specs.Tables.{TablesState, others_end}
use Rattle.audit_lanes.specs.Verdict.{all_are_safe, joined}
use Rattle.audit_lanes.proofs.EnoughLemmas.{no_hop_is_missed}
use Rattle.audit_lanes.proofs.LaneLawLemmas.{lane_cycles_wait, no_lane_cycle_is_missed}

-- ---- all of lists joined, and all that a filter keeps
all_joined : {X Y : Type 0} (p : Y → Bool) (f : X → List Y) (xs : List X) → list_all p (flat_map f xs) ≡ list_all (λ x. list_all p (f x)) xs
all_joined p f [] = refl
all_joined p f (x ∷ xs) = list_all-append p (f x) (flat_map f xs) ∙ ap (λ (rest : Bool). list_all p (f x) && rest) (all_joined p f xs)

all_kept : {X : Type 0} (kept test : X → Bool) (xs : List X) → list_all (λ is. is) (map test (filter kept xs)) ≡ list_all (λ x. not (kept x) || test x) xs
all_kept kept test [] = refl
all_kept kept test (x ∷ xs) = elim (cases_Bool (kept x)) [
  | inl here ↦ rw here (ap (λ (rest : Bool). test x && rest) (all_kept kept test xs))
  | inr left ↦ rw left (all_kept kept test xs)
]

-- ---- what all LIDs of end ports that are not switches' pass, each passes
each_owned : (net : NetState) (test : OwnedLid → Bool) (aims : List Aim) (one : OwnedLid) → list_all test (owned net aims) ≡ true → IsOwned net aims one → test one ≡ true
each_owned net test aims one all is =
    let own = all_there (λ aim. list_all test (owned_of net aim)) aims is.place is.aim (sym (all_joined test (owned_of net) aims) ∙ all) is.there in
    let parts = and_parts (test (record { lid = is.aim.lid; end = one.end })) true (rw (is.end, is.others) at own) in
    subst (λ (n : ℕ). test (record { lid = n; end = one.end }) ≡ true) is.lid parts.0

-- and the other way round
all_owned : (net : NetState) (test : OwnedLid → Bool) (aims : List Aim)
    → ((k : ℕ) (aim : Aim) (end : PortRef) → slice_get aims k ≡ Some aim → aim.end ≡ Some end → is_switch_at net.plan.nodes end.node ≡ false → test (record { lid = aim.lid; end = end }) ≡ true)
    → list_all test (owned net aims) ≡ true
all_owned net test [] each = refl
all_owned net test (aim ∷ aims) each =
    list_all-append test (owned_of net aim) (owned net aims)
    ∙ and_from (list_all test (owned_of net aim)) _ (first aim.end refl) (all_owned net test aims (λ k other end there is others. each (suc k) other end there is others))
  where
    first : (end : Option PortRef) → aim.end ≡ end → list_all test (owned_by net aim.lid end) ≡ true
    first None is = refl
    first (Some end) is = elim (cases_Bool (is_switch_at net.plan.nodes end.node)) [
      | inl switch ↦ rw switch refl
      | inr others ↦ rw others (and_from (test (record { lid = aim.lid; end = end })) true (each zero aim end refl is others) refl)
    ]

-- ---- records
found_record : (paths : List PathSl) (a b : OwnedLid) → has_record paths a b ≡ true → HasRecord paths a.lid b.lid
found_record [] a b has = absurd (false≢true has)
found_record (path ∷ paths) a b has = elim (or_cases (is_record_of (lids a.lid b.lid) path) _ has) [
  | inl here ↦
      let parts = and_parts (a.lid == path.source) _ here in
      let from : path.source ≡ a.lid = grind (arith, nat_tests, parts.0) in
      let to : path.destination ≡ b.lid = grind (arith, nat_tests, parts.1) in
      record { place = zero; path = path; there = refl; from = from; to = to }
  | inr later ↦
      let found = found_record paths a b later in
      record { place = suc found.place; path = found.path; there = found.there; from = found.from; to = found.to }
]

record_found : (paths : List PathSl) (a b : OwnedLid) → HasRecord paths a.lid b.lid → has_record paths a b ≡ true
record_found paths a b found =
    let from : (a.lid == found.path.source) ≡ true = let is = found.from in grind (arith, nat_tests, is) in
    let to : (b.lid == found.path.destination) ≡ true = let is = found.to in grind (arith, nat_tests, is) in
    any_passes_from_place (is_record_of (lids a.lid b.lid)) paths found.place found.path found.there (and_from (a.lid == found.path.source) _ from to)

abbrev each_is : List PathSl → List OwnedLid → OwnedLid → Bool
each_is paths all a = list_all (λ is. is) (records_from paths all a)

pair_named : (net : NetState) (aims : List Aim) (paths : List PathSl) → list_all (λ is. is) (records paths (owned net aims)) ≡ true
    → (a b : OwnedLid) → IsOwned net aims a → IsOwned net aims b → is_same_port a.end b.end ≡ false → HasRecord paths a.lid b.lid
pair_named net aims paths all a b first second apart =
    let of_a = each_owned net (each_is paths (owned net aims)) aims a (sym (all_joined (λ is. is) (records_from paths (owned net aims)) (owned net aims)) ∙ all) first in
    let of_b = each_owned net (λ other. not (is_pair a other) || has_record paths a other) aims b (sym (all_kept (is_pair a) (has_record paths a) (owned net aims)) ∙ of_a) second in
    found_record paths a b (rw apart at of_b)

all_named : (net : NetState) (aims : List Aim) (paths : List PathSl)
    → ((a b : OwnedLid) → IsOwned net aims a → IsOwned net aims b → is_same_port a.end b.end ≡ false → HasRecord paths a.lid b.lid)
    → list_all (λ is. is) (records paths (owned net aims)) ≡ true
all_named net aims paths named =
    all_joined (λ is. is) (records_from paths (owned net aims)) (owned net aims)
    ∙ all_owned net (each_is paths (owned net aims)) aims (λ k aim end there is others. from (record { lid = aim.lid; end = end }) (record { place = k; aim = aim; there = there; lid = refl; end = is; others = others }))
  where
    passes : (a b : OwnedLid) → IsOwned net aims a → IsOwned net aims b → (not (is_pair a b) || has_record paths a b) ≡ true
    passes a b first second = elim (cases_Bool (is_same_port a.end b.end)) [
      | inl same ↦ rw same refl
      | inr apart ↦ rw apart (record_found paths a b (named a b first second apart))
    ]

    from : (a : OwnedLid) → IsOwned net aims a → each_is paths (owned net aims) a ≡ true
    from a first =
        all_kept (is_pair a) (has_record paths a) (owned net aims)
        ∙ all_owned net (λ other. not (is_pair a other) || has_record paths a other) aims
        (λ k aim end there is others. passes a (record { lid = aim.lid; end = end }) first (record { place = k; aim = aim; there = there; lid = refl; end = is; others = others }))

-- ---- hops
-- none, if so many find none
none_farther : (net : NetState) (tables : TablesState) (path : PathSl) (at : PortRef) (test : Hop → Bool) (count : ℕ) → is_switch_at net.plan.nodes at.node ≡ true
    → list_any test (hops_within net tables path (enough_hops net) at) ≡ false → list_any test (hops_within net tables path count at) ≡ false
none_farther net tables path at test count switch none = elim (cases_Bool (list_any test (hops_within net tables path count at))) [
  | inl some ↦ absurd (false≢true (sym none ∙ no_hop_is_missed.hops net tables path at test count switch some))
  | inr none ↦ none
]

none_at : {X : Type 0} (test : X → Bool) (xs : List X) (k : ℕ) (x : X) → list_any test xs ≡ false → slice_get xs k ≡ Some x → test x ≡ false
none_at test xs k x none there = elim (cases_Bool (test x)) [
  | inl some ↦ absurd (false≢true (sym none ∙ any_passes_from_place test xs k x there some))
  | inr not_there ↦ not_there
]

none_taken : (net : NetState) (tables : TablesState) (paths : List PathSl) (test : Hop → Bool) → some_hop test (traces net tables paths) ≡ false → TakeNoHop net tables paths test
none_taken net tables paths test none place count path from to at there source destination cable switch =
    let own = none_at (λ path. list_any test (hops_of net tables path)) paths place path (sym (any_map (list_any test) (hops_of net tables) paths) ∙ none) there in
    none_farther net tables path at test count switch (rw (source, destination, cable, switch) at own)

none_of : (net : NetState) (tables : TablesState) (paths : List PathSl) (test : Hop → Bool) (place : ℕ) (path : PathSl) → TakeNoHop net tables paths test
    → slice_get paths place ≡ Some path → list_any test (hops_of net tables path) ≡ false
none_of net tables paths test place path take there = by (others_end net tables.aims path.source) refl (others_end net tables.aims path.destination) refl
  where
    from_cable : (from to : PortRef) (far : Option PortRef) → others_end net tables.aims path.source ≡ Some from → others_end net tables.aims path.destination ≡ Some to
        → far_end net.plan.cables from ≡ far → list_any test (hops_from net tables path far) ≡ false
    from_cable from to None source destination cable = refl
    from_cable from to (Some at) source destination cable = elim (cases_Bool (is_switch_at net.plan.nodes at.node)) [
      | inl switch ↦ rw switch (take place (enough_hops net) path from to at there source destination cable switch)
      | inr other ↦ rw other refl
    ]

    by : (from : Option PortRef) → others_end net tables.aims path.source ≡ from → (to : Option PortRef) → others_end net tables.aims path.destination ≡ to
        → list_any test (hops_of net tables path) ≡ false
    by None source to destination = rw source refl
    by (Some from) source None destination = rw (source, destination) refl
    by (Some from) source (Some to) destination = rw (source, destination) (from_cable from to (far_end net.plan.cables from) source destination refl)

no_hop : (net : NetState) (tables : TablesState) (paths : List PathSl) (test : Hop → Bool) → TakeNoHop net tables paths test → some_hop test (traces net tables paths) ≡ false
no_hop net tables paths test take = any_map (list_any test) (hops_of net tables) paths ∙ by paths (λ k path there. none_of net tables paths test k path take there)
  where
    by : (xs : List PathSl) → ((k : ℕ) (path : PathSl) → slice_get xs k ≡ Some path → list_any test (hops_of net tables path) ≡ false)
        → list_any (λ path. list_any test (hops_of net tables path)) xs ≡ false
    by [] each = refl
    by (path ∷ xs) each = rw (each zero path refl) (by xs (λ k other there. each (suc k) other there))

-- ---- cycles
none_waits : (net : NetState) (tables : TablesState) (paths : List PathSl) → ((ring : List Lane) → are_lanes net ring ≡ true → is_cycle (waits_by_records net tables paths) ring ≡ false)
    → is_none (lane_deadlock net tables.aims (traces net tables paths)) ≡ true
none_waits net tables paths free = by (lane_deadlock net tables.aims (traces net tables paths)) refl
  where
    by : (found : Option (List Lane)) → lane_deadlock net tables.aims (traces net tables paths) ≡ found → is_none found ≡ true
    by None is = refl
    by (Some ring) is =
        let wait = lane_cycles_wait net tables.aims (traces net tables paths) ring is in
        absurd (false≢true (sym (free ring wait.0) ∙ wait.1))

is_of_none : (found : Option (List Lane)) → is_none found ≡ true → found ≡ None
is_of_none None is = refl
is_of_none (Some ring) is = absurd (false≢true is)

-- ---- the verdict
safe : (net : NetState) (tables : TablesState) (paths : List PathSl) (routes : Verdict) → all_are_safe routes (says_of_lanes net tables paths) ≡ true
    → (leads routes ≡ true) × AreSafeLanes net tables paths
safe net tables paths routes is =
    let lanes = says_of_lanes net tables paths in
    let whole = and_parts (verdict_is_safe (joined routes lanes)) _ is in
    let lids = and_parts routes.has_lids _ whole.0 in
    let reached = and_parts routes.is_reached _ lids.1 in
    let free = and_parts lanes.is_free _ reached.1 in
    let same = and_parts routes.is_same _ free.1 in
    let known = and_parts routes.is_known _ same.1 in
    let named = and_parts lanes.has_paths _ known.1 in (
      and_from routes.has_lids _ lids.0 (and_from routes.is_reached _ reached.0 (and_from routes.is_same _ same.0 known.0)),
      record {
        free = λ ring are. no_lane_cycle_is_missed net tables.aims (traces net tables paths) (is_of_none (lane_deadlock net tables.aims (traces net tables paths)) free.0) ring are;
        named = pair_named net tables.aims paths named.0;
        known = none_taken net tables paths lacks_row (not-true (some_hop lacks_row (traces net tables paths)) named.1);
        kept = none_taken net tables paths is_dropped (not-true (some_hop is_dropped (traces net tables paths)) whole.1);
      },
    )

reported : (net : NetState) (tables : TablesState) (paths : List PathSl) (routes : Verdict) → leads routes ≡ true → AreSafeLanes net tables paths
    → all_are_safe routes (says_of_lanes net tables paths) ≡ true
reported net tables paths routes right are =
    let lids = and_parts routes.has_lids _ right in
    let reached = and_parts routes.is_reached _ lids.1 in
    let same = and_parts routes.is_same _ reached.1 in
    let free = none_waits net tables paths are.free in
    let named = all_named net tables.aims paths are.named in
    let known = no_hop net tables paths lacks_row are.known in
    let kept = no_hop net tables paths is_dropped are.kept in
    rw (lids.0, reached.0, same.0, same.1, free, named, known, kept) refl

pub safe_lanes_are_reported : SafeLanesAreReported
safe_lanes_are_reported = record { safe = safe; reported = reported }
