-- What is safe is reported to be.
use Rattle.std.proofs.Common.{◌≡◌, ◌∙◌, inl, inr, ap, refl, sym, ℕ, zero, suc, ◌+◌, ◌<◌, Bool, true, false, not, ◌==◌, List, [], ◌∷◌, ◌++◌, length, filter, map, flat_map, slice_get, arith, Option, Some, None, is_none}
use Rattle.std.specs.List.{list_all, list_any, range_with_len}
use Rattle.std.specs.Option.{option_map_or}
use Rattle.std.proofs.lemmas.Bool.{and_from, cases_Bool, eq-eqb, false≢true, or_left, or_right}
use Rattle.std.proofs.lemmas.Bool.Decides.{nat_tests}
use Rattle.std.proofs.lemmas.Option.{none-some}
use Rattle.dump_file.specs.declared.destination.Destination.{Destination}
use Rattle.dump_file.specs.declared.destination.Destination.TheVariants.{ChannelAdapter, Switch, Router, FurtherLid, Nobody, NotReported}
use Rattle.dump_file.specs.declared.row.Row.{Row}
use Rattle.dump_file.specs.declared.table.Table.{Table}
use Rattle.fabric_parts.specs.Cable.{ends_at, is_cabled, is_same_port}
use Rattle.fabric_parts.specs.declared.cable.Cable.{Cable}
use Rattle.fabric_parts.specs.declared.cable.PortRef.{PortRef}
use Rattle.topo_file.specs.Connectivity.{switches}
use Rattle.topo_file.specs.Node.{is_switch_at}
use Rattle.audit_net.specs.declared.following.Fate.TheVariants as fates
use Rattle.audit_net.specs.declared.following.Turn.{Turn}
use Rattle.audit_net.specs.declared.following.Turn.TheVariants as turns
use Rattle.audit_net.specs.declared.lids.Aim.{Aim}
use Rattle.audit_routes.specs.declared.pairs.Pair.{Pair}
use Rattle.audit_plan.specs.Attached.{carries_host}
use Rattle.audit_routes.specs.Audit.{audit_of}
use Rattle.audit_routes.specs.Loops.{courses_of, credit_loop}
use Rattle.audit_net.specs.Following.{end_from, fate_by, turn}
use Rattle.audit_routes.specs.Laws.{AreSafe, IsOfKind, LeadThere, LeadingRoutesAreReported, NameTheSame, SafeRoutesAreReported, other_lids, says_lead, says_safe}
use Rattle.audit_net.specs.OwnerLaws.{end_port_of}
use Rattle.audit_net.specs.Lids.{aim_of, aims, all_lids, has_lid, have_lids, is_known_lid, is_lacking, is_of, is_of_fabric, known_lids, says_of_fabric}
use Rattle.audit_net.specs.Net.{NetState, has_table, row_at}
use Rattle.audit_plan.specs.Plan.{is_host}
use Rattle.audit_routes.specs.Pairs.{all_reached, between_hosts, is_between_hosts, is_fate, pair_at, pair_to, pairs_at, pairs_by}
use Rattle.audit_routes.specs.Verdict.{goes_on_known, have_tables, is_known, is_others, is_unknown, knows_all, knows_entries, knows_next, name_the_same}
use Rattle.audit_loops.proofs.CycleLawLemmas.{reported_loops_wait_on_courses}
use Rattle.audit_net.proofs.EndlessLemmas.{ways_are_followed}
use Rattle.audit_plan.proofs.PlaceLemmas.{in_kept}
use Rattle.audit_routes.proofs.SafeLemmas.{flat_mapped, has_end, reported_is_safe, reported_leads}
use Rattle.audit_net.proofs.LidLemmas.{in_lids}
use Rattle.audit_routes.proofs.CarriesLemmas.{carried}
use Rattle.audit_routes.proofs.LoopLemmas.{cycle_is_loop}

pub itself : (at : PortRef) → is_same_port at at ≡ true
itself at =
    let node : (at.node == at.node) ≡ true = eq-eqb at.node at.node refl in
    let number : (at.port == at.port) ≡ true = eq-eqb at.port at.port refl in
    rw (node, number) refl

-- ---- the dump and the topology name the same
pub all_kept : (p test : ℕ → Bool) (xs : List ℕ) → ((x : ℕ) → test x ≡ true → p x ≡ true) → list_all p (filter test xs) ≡ true
all_kept p test [] each = refl
all_kept p test (x ∷ xs) each = elim (cases_Bool (test x)) [
  | inl kept ↦ rw kept (and_from (p x) _ (each x kept) (all_kept p test xs each))
  | inr left ↦ rw left (all_kept p test xs each)
]

some_table : (tables : List Table) → (tables ≡ [] → ⊥) → not (length tables == 0) ≡ true
some_table [] some = absurd (some refl)
some_table (table ∷ tables) some =
    let more : (suc (length tables) == 0) ≡ false = grind (arith, nat_tests) in
    ap not more

all_tables : (net : NetState) → NameTheSame net → list_all (has_table net) (switches net.plan.nodes) ≡ true
all_tables net same = all_kept (has_table net) (is_switch_at net.plan.nodes) (range_with_len 0 (length net.plan.nodes)) same.tables

each_table : (p : Table → Bool) (tables : List Table) → ((k : ℕ) (table : Table) → slice_get tables k ≡ Some table → p table ≡ true) → list_all p tables ≡ true
each_table p [] each = refl
each_table p (table ∷ tables) each = and_from (p table) _ (each 0 table refl) (each_table p tables (λ k one there. each (suc k) one there))

none_kept : (p : Aim → Bool) (f : ℕ → Aim) (test : ℕ → Bool) (first count : ℕ) → ((x : ℕ) → x < first + count → p (f x) ≡ false)
    → list_any p (map f (filter test (range_with_len first count))) ≡ false
none_kept p f test first zero each = refl
none_kept p f test first (suc count) each =
    let rest = none_kept p f test (first + 1) count (λ x below. each x (omega (arith, below))) in
    elim (cases_Bool (test first)) [
      | inl kept ↦ rw (kept, each first (omega arith)) rest
      | inr left ↦ rw left rest
    ]

none_says : (p test : ℕ → Bool) (xs : List ℕ) → ((x : ℕ) → test x ≡ true → p x ≡ false) → list_any p (filter test xs) ≡ false
none_says p test [] each = refl
none_says p test (x ∷ xs) each = elim (cases_Bool (test x)) [
  | inl kept ↦ rw (kept, each x kept) (none_says p test xs each)
  | inr left ↦ rw left (none_says p test xs each)
]

has_no_end : (net : NetState) (lid : ℕ) (end : PortRef) → end_port_of net lid ≡ None → end_port_of net lid ≡ Some end → ⊥
has_no_end net lid end none some = none-some end (sym none ∙ some)

kind_lacks : (net : NetState) (lid : ℕ) (destination : Destination) → end_port_of net lid ≡ None → IsOfKind net lid destination → is_of_fabric destination ≡ false
kind_lacks net lid (ChannelAdapter guid) none kind = absurd (has_no_end net lid kind.0 none kind.1)
kind_lacks net lid (Switch guid) none kind = absurd (has_no_end net lid kind.0 none kind.1)
kind_lacks net lid (Router guid) none kind = refl
kind_lacks net lid (FurtherLid guid) none kind = refl
kind_lacks net lid Nobody none kind = refl
kind_lacks net lid NotReported none kind = refl

not_said : (net : NetState) (lid : ℕ) → lid < 65536 → NameTheSame net → end_port_of net lid ≡ None → (place : ℕ) → is_switch_at net.plan.nodes place ≡ true
    → says_of_fabric net lid place ≡ false
not_said net lid below same none place switch = by (row_at net lid place) refl
  where
    by : (o : Option Row) → row_at net lid place ≡ o → option_map_or (λ row. is_of_fabric row.destination) o false ≡ false
    by None is = refl
    by (Some row) is = kind_lacks net lid row.destination none (same.ends place lid row switch below is)

not_lacking : (net : NetState) (lid : ℕ) → lid < 65536 → NameTheSame net → is_lacking net (aim_of net lid) ≡ false
not_lacking net lid below same = by (end_port_of net lid) refl
  where
    by : (o : Option PortRef) → end_port_of net lid ≡ o → is_lacking net (aim_of net lid) ≡ false
    by (Some end) is = rw is refl
    by None is =
        rw is
        (none_says (says_of_fabric net lid) (is_switch_at net.plan.nodes) (range_with_len 0 (length net.plan.nodes)) (not_said net lid below same is))

none_lacks : (net : NetState) → NameTheSame net → not (list_any (is_lacking net) (aims net)) ≡ true
unfolding all_lids
none_lacks net same =
    ap not (none_kept (is_lacking net) (aim_of net) (is_known_lid net) 0 65536 (λ lid below. not_lacking net lid below same))

all_same : (net : NetState) → NameTheSame net → name_the_same net (aims net) ≡ true
all_same net same =
    and_from (have_tables net) _ (and_from (list_all (has_table net) (switches net.plan.nodes)) _ (all_tables net same) (some_table net.dump.tables same.some))
    (and_from (list_all (is_known net) net.dump.tables) _ (each_table (is_known net) net.dump.tables same.switches) (none_lacks net same))

-- ---- each port of an adapter that has a cable has a LID
pub in_mapped : (net : NetState) (end : PortRef) (lid : ℕ) (lids : List ℕ) → list_any (λ n. n == lid) lids ≡ true → is_of end (aim_of net lid) ≡ true
    → list_any (is_of end) (map (aim_of net) lids) ≡ true
in_mapped net end lid [] there is = absurd (false≢true there)
in_mapped net end lid (n ∷ lids) there is = elim (cases_Bool (n == lid)) [
  | inl here ↦ let same : n ≡ lid = grind (arith, nat_tests, here) in let found : is_of end (aim_of net n) ≡ true = rw same is in rw found refl
  | inr other ↦ or_right (is_of end (aim_of net n)) _ (in_mapped net end lid lids (rw other at there) is)
]

port_has : (net : NetState) (at : PortRef) → LeadThere net → is_cabled net.plan.cables at ≡ true → has_lid net (aims net) at ≡ true
port_has net at safe cabled = elim (cases_Bool (is_switch_at net.plan.nodes at.node)) [
  | inl switch ↦ rw switch refl
  | inr adapter ↦
      let named = safe.named at (adapter, cabled) in
      let has : is_of at (aim_of net named.0) ≡ true =
      ap (λ (o : Option PortRef). option_map_or (λ end. is_same_port end at) o false) named.2 ∙ itself at in
      let listed : list_any (λ n. n == named.0) (known_lids net) ≡ true =
      in_kept (is_known_lid net) named.0 all_lids (has_end net named.0 at named.2) (in_lids named.0 named.1) in
      rw adapter (in_mapped net at named.0 (known_lids net) listed has)
]

all_cables : (p : Cable → Bool) (whole cables : List Cable) → ((at : PortRef) → is_cabled cables at ≡ true → is_cabled whole at ≡ true)
    → ((cable : Cable) → ((at : PortRef) → ends_at at cable ≡ true → is_cabled whole at ≡ true) → p cable ≡ true) → list_all p cables ≡ true
all_cables p whole [] among each = refl
all_cables p whole (cable ∷ cables) among each =
    and_from (p cable) _ (each cable (λ at ends. among at (rw ends refl)))
    (all_cables p whole cables (λ at is. among at (or_right (ends_at at cable) _ is)) each)

cables_have : (net : NetState) → LeadThere net → list_all (have_lids net (aims net)) net.plan.cables ≡ true
cables_have net safe =
    all_cables (have_lids net (aims net)) net.plan.cables net.plan.cables (λ at is. is)
    (λ cable ends. and_from (has_lid net (aims net) cable.first) _
    (port_has net cable.first safe (ends cable.first (rw (itself cable.first) refl)))
    (port_has net cable.second safe (ends cable.second (or_right (is_same_port cable.first cable.second) _ (itself cable.second)))))

-- ---- all pairs between adapters are reached
both_reached : (one other : List Pair) → all_reached (between_hosts one) ≡ true → all_reached (between_hosts other) ≡ true
    → all_reached (between_hosts (one ++ other)) ≡ true
both_reached [] other is also = also
both_reached (pair ∷ one) other is also = elim (cases_Bool (is_between_hosts pair)) [
  | inr left ↦ rw left (both_reached one other (rw left at is) also)
  | inl kept ↦ elim (cases_Bool (is_fate fates.Reached pair.fate)) [
    | inl reached ↦ rw (kept, reached) (both_reached one other (rw (kept, reached) at is) also)
    | inr lost ↦ absurd (false≢true (rw (kept, lost) at is))
  ]
]

each_in_range : (f : ℕ → List Pair) (test : ℕ → Bool) (first count : ℕ)
    → ((x : ℕ) → x < first + count → test x ≡ true → all_reached (between_hosts (f x)) ≡ true)
    → all_reached (between_hosts (flat_map f (filter test (range_with_len first count)))) ≡ true
each_in_range f test first zero each = refl
each_in_range f test first (suc count) each =
    let rest = each_in_range f test (first + 1) count (λ x below is. each x (omega (arith, below)) is) in
    elim (cases_Bool (test first)) [
      | inl kept ↦ rw kept (both_reached (f first) _ (each first (omega arith) kept) rest)
      | inr left ↦ rw left rest
    ]

pair_fine : (net : NetState) (place lid : ℕ) (o : Option PortRef)
    → ((end : PortRef) → o ≡ Some end → is_host net.plan end.node ≡ true → carries_host net.plan place ≡ true
    → end_from net lid place ≡ Some (turns.Arrives end))
    → all_reached (between_hosts (pair_to net place lid o)) ≡ true
pair_fine net place lid None ends = refl
pair_fine net place lid (Some end) ends = elim (cases_Bool (is_host net.plan end.node)) [
  | inr other ↦ rw other refl
  | inl host ↦ elim (cases_Bool (carries_host net.plan place)) [
    | inr none ↦ rw (host, none) refl
    | inl carrying ↦
        let reached : is_fate fates.Reached (fate_by end (end_from net lid place)) ≡ true = rw (ends end refl host carrying, itself end) refl in
        rw (host, carrying, reached) refl
  ]
]

all_pairs : (net : NetState) → LeadThere net → all_reached (between_hosts (pairs_by net (aims net))) ≡ true
unfolding all_lids
all_pairs net safe =
    each_in_range (pairs_at net (aims net)) (is_switch_at net.plan.nodes) 0 (length net.plan.nodes)
    (λ place within switch.
    ap (λ (pairs : List Pair). all_reached (between_hosts pairs)) (flat_mapped (pair_at net place) (aim_of net) (known_lids net))
    ∙ each_in_range (λ n. pair_at net place (aim_of net n)) (is_known_lid net) 0 65536
    (λ lid below named. pair_fine net place lid (aim_of net lid).end
    (λ end is host carrying. ways_are_followed.reported net lid place (turns.Arrives end) switch
    (safe.reached place lid end (carried net place switch carrying) below is host))))

-- ---- and no cycle is reported
no_ring : (net : NetState) → AreSafe net → is_none (credit_loop net (aims net)) ≡ true
no_ring net safe = by (credit_loop net (aims net)) refl
  where
    by : (o : Option (List PortRef)) → credit_loop net (aims net) ≡ o → is_none o ≡ true
    by None is = refl
    by (Some ring) is =
        let cycle = reported_loops_wait_on_courses net (courses_of net (filter (is_others net) (aims net))) ring is in
        absurd (safe.free ring cycle.0 (cycle_is_loop net ring cycle.1))

-- ---- and where a switch sends a LID to another, the entry there is known
pub unknown_is : (turned : Turn) → is_unknown turned ≡ true → turned ≡ turns.Unknown
unknown_is turns.Unknown is = refl
unknown_is (turns.Goes next) is = absurd (false≢true is)
unknown_is (turns.Arrives there) is = absurd (false≢true is)
unknown_is turns.Hole is = absurd (false≢true is)
unknown_is (turns.Nowhere number) is = absurd (false≢true is)

knows_one : (net : NetState) → LeadThere net → (place lid : ℕ) → is_switch_at net.plan.nodes place ≡ true → list_any (λ n. n == lid) (other_lids net) ≡ true
    → knows_next net place lid ≡ true
knows_one net safe place lid switch there = by (turn net lid place) refl
  where
    by : (turned : Turn) → turn net lid place ≡ turned → goes_on_known net lid turned ≡ true
    by (turns.Goes next) goes = elim (cases_Bool (is_unknown (turn net lid next))) [
      | inl unknown ↦ absurd (safe.known place lid next switch there goes (unknown_is (turn net lid next) unknown))
      | inr known ↦ ap not known
    ]
    by (turns.Arrives end) is = refl
    by turns.Hole is = refl
    by (turns.Nowhere number) is = refl
    by turns.Unknown is = refl

all_listed : (p : ℕ → Bool) (whole xs : List ℕ) → ((x : ℕ) → list_any (λ n. n == x) xs ≡ true → list_any (λ n. n == x) whole ≡ true)
    → ((x : ℕ) → list_any (λ n. n == x) whole ≡ true → p x ≡ true) → list_all p xs ≡ true
all_listed p whole [] among each = refl
all_listed p whole (x ∷ xs) among each =
    and_from (p x) _ (each x (among x (or_left (x == x) _ (eq-eqb x x refl)))) (all_listed p whole xs (λ y is. among y (or_right (x == y) _ is)) each)

knows_each : (net : NetState) → LeadThere net → knows_entries net (other_lids net) ≡ true
knows_each net safe =
    all_kept (knows_all net (other_lids net)) (is_switch_at net.plan.nodes) (range_with_len 0 (length net.plan.nodes))
    (λ place switch.
    all_listed (knows_next net place) (other_lids net) (other_lids net) (λ lid there. there) (λ lid there. knows_one net safe place lid switch there))

safe_is_reported : (net : NetState) → AreSafe net → says_safe net ≡ true
unfolding audit_of
safe_is_reported net safe =
    and_from (list_all (have_lids net (aims net)) net.plan.cables) _ (cables_have net safe.lead)
    (and_from (all_reached (between_hosts (pairs_by net (aims net)))) _ (all_pairs net safe.lead)
    (and_from (is_none (credit_loop net (aims net))) _ (no_ring net safe)
    (and_from (name_the_same net (aims net)) _ (all_same net safe.lead.same) (knows_each net safe.lead))))

leading_is_reported : (net : NetState) → LeadThere net → says_lead net ≡ true
leading_is_reported net lead =
    and_from (list_all (have_lids net (aims net)) net.plan.cables) _ (cables_have net lead)
    (and_from (all_reached (between_hosts (pairs_by net (aims net)))) _ (all_pairs net lead)
    (and_from (name_the_same net (aims net)) _ (all_same net lead.same) (knows_each net lead)))

pub leading_routes_are_reported : LeadingRoutesAreReported
leading_routes_are_reported = record { lead = reported_leads; reported = leading_is_reported }

pub safe_routes_are_reported : SafeRoutesAreReported
safe_routes_are_reported = record { safe = reported_is_safe; reported = safe_is_reported }
