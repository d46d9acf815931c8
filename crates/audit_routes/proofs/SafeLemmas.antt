-- What is reported to be safe is.
use Rattle.std.proofs.Common.{◌≡◌, ◌∙◌, inl, inr, ap, ap₂, refl, subst, sym, ℕ, zero, suc, ◌+◌, ◌<◌, ◌≤◌, nat_lt, Bool, true, false, not, ◌==◌, if◌then◌else◌, List, [], ◌∷◌, ◌++◌, filter, length, map, flat_map, slice_get, arith, Option, Some, None, is_none, is_some}
use Rattle.std.specs.List.{list_all, list_any, range_with_len}
use Rattle.std.specs.Option.{option_and_then, option_map_or, option_or}
use Rattle.std.proofs.lemmas.Bool.{and_from, and_parts, cases_Bool, eqb-true, false≢true, not-true, or_left, or_right}
use Rattle.std.proofs.lemmas.Bool.Decides.{nat_tests}
use Rattle.std.proofs.lemmas.List.Folds.{list_any-append}
use Rattle.std.proofs.lemmas.Option.{none-some, same_Some}
use Rattle.dump_file.specs.declared.destination.Destination.{Destination}
use Rattle.dump_file.specs.declared.destination.Destination.TheVariants.{ChannelAdapter, Switch, Router, FurtherLid, Nobody, NotReported}
use Rattle.dump_file.specs.declared.row.Row.{Row}
use Rattle.dump_file.specs.declared.table.Table.{Table}
use Rattle.dump_file.specs.Row.{end_of}
use Rattle.dump_file.specs.Table.{place_of, rows_of}
use Rattle.fabric_parts.specs.Cable.{ends_at, is_cabled, is_same_port, port}
use Rattle.fabric_parts.specs.declared.cable.Cable.{Cable}
use Rattle.fabric_parts.specs.declared.cable.PortRef.{PortRef}
use Rattle.step_results.proofs.ListLemmas.{all_there, list_any_weaker}
use Rattle.topo_file.specs.Connectivity.{switches}
use Rattle.topo_file.specs.Node.{is_switch_at}
use Rattle.topo_file.specs.declared.node.Node.{Node}
use Rattle.audit_net.specs.declared.following.Fate.TheVariants as fates
use Rattle.audit_net.specs.declared.following.Turn.{Turn}
use Rattle.audit_net.specs.declared.following.Turn.TheVariants as turns
use Rattle.audit_net.specs.declared.lids.Aim.{Aim}
use Rattle.audit_routes.specs.declared.pairs.Pair.{Pair}
use Rattle.audit_plan.specs.Attached.{carries_host}
use Rattle.audit_routes.specs.Audit.{audit_of}
use Rattle.audit_routes.specs.Loops.{courses_of, credit_loop}
use Rattle.audit_net.specs.Following.{end_from, fate_by, switch_total, turn}
use Rattle.audit_routes.specs.Laws.{AreSafe, CarriesAHost, IsAdaptersEnd, IsOfKind, LeadThere, NameTheSame, other_lids, says_lead, says_safe}
use Rattle.audit_net.specs.Laws.{EndsBy}
use Rattle.audit_net.specs.OwnerLaws.{end_port_of}
use Rattle.audit_net.specs.Lids.{aim_of, aims, all_lids, end_by, has_lid, have_lids, if_of_kind, is_known_lid, is_lacking, is_named, is_of, is_of_fabric, is_of_kind, known_lids, owner_of, reported_end, says_kind, says_of_fabric}
use Rattle.audit_plan.specs.Plan.{is_host, port_of}
use Rattle.audit_net.specs.Net.{NetState, has_table, row_at, row_of, table_of}
use Rattle.audit_routes.specs.Pairs.{all_reached, between_hosts, is_between_hosts, is_fate, pair_at, pair_to, pairs_at, pairs_by}
use Rattle.audit_routes.specs.Verdict.{goes_on_known, have_tables, is_known, is_others, is_unknown, knows_all, knows_entries, knows_next, name_the_same}
use Rattle.audit_loops.proofs.CycleLawLemmas.{no_cycle_is_missed_on_courses}
use Rattle.audit_net.proofs.EndlessLemmas.{way_there}
use Rattle.audit_plan.proofs.PlaceLemmas.{in_kept, is_listed}
use Rattle.audit_net.proofs.LidLemmas.{in_lids}
use Rattle.audit_routes.proofs.CarriesLemmas.{carries}
use Rattle.audit_routes.proofs.LoopLemmas.{loop_is_cycle}

abbrev is_reached : Pair → Bool
is_reached pair = is_fate fates.Reached pair.fate

-- ---- parts of a list all of which are reached
left_reached : (one other : List Pair) → all_reached (between_hosts (one ++ other)) ≡ true → all_reached (between_hosts one) ≡ true
left_reached [] other all = refl
left_reached (pair ∷ one) other all = elim (cases_Bool (is_between_hosts pair)) [
  | inl kept ↦ let parts = and_parts (is_reached pair) _ (rw kept at all) in rw (kept, parts.0) (left_reached one other parts.1)
  | inr left ↦ rw left (left_reached one other (rw left at all))
]

right_reached : (one other : List Pair) → all_reached (between_hosts (one ++ other)) ≡ true → all_reached (between_hosts other) ≡ true
right_reached [] other all = all
right_reached (pair ∷ one) other all = elim (cases_Bool (is_between_hosts pair)) [
  | inl kept ↦ let parts = and_parts (is_reached pair) _ (rw kept at all) in right_reached one other parts.1
  | inr left ↦ right_reached one other (rw left at all)
]

each_reached : (f : ℕ → List Pair) (xs : List ℕ) (x : ℕ) → list_any (λ y. y == x) xs ≡ true → all_reached (between_hosts (flat_map f xs)) ≡ true → all_reached (between_hosts (f x)) ≡ true
each_reached f [] x there all = absurd (false≢true there)
each_reached f (y ∷ ys) x there all = elim (cases_Bool (y == x)) [
  | inl here ↦ let same : y ≡ x = grind (arith, nat_tests, here) in subst (λ (n : ℕ). all_reached (between_hosts (f n)) ≡ true) same (left_reached (f y) (flat_map f ys) all)
  | inr other ↦ each_reached f ys x (rw other at there) (right_reached (f y) (flat_map f ys) all)
]

pub flat_mapped : (f : Aim → List Pair) (g : ℕ → Aim) (xs : List ℕ) → flat_map f (map g xs) ≡ flat_map (λ x. f (g x)) xs
flat_mapped f g [] = refl
flat_mapped f g (x ∷ xs) = ap (λ (rest : List Pair). f (g x) ++ rest) (flat_mapped f g xs)

-- ---- a LID that has an end port is named or reported
said_named : (lid : ℕ) (rows : List Row) (guid : ℕ) → end_of lid rows ≡ Some guid → is_named rows lid ≡ true
said_named lid [] guid said = cc
said_named lid (row ∷ rows) guid said = elim (cases_Bool (row.lid == lid)) [
  | inl here ↦ rw here refl
  | inr other ↦ let later : end_of lid rows ≡ Some guid = rw other at said in or_right (row.lid == lid) _ (said_named lid rows guid later)
]

owner_known : (net : NetState) (lid guid : ℕ) → owner_of net lid ≡ Some guid → is_known_lid net lid ≡ true
owner_known net lid guid is = by (end_of lid (rows_of net.dump.tables)) refl is
  where
    by : (o : Option ℕ) → end_of lid (rows_of net.dump.tables) ≡ o → option_or o (reported_end net lid) ≡ Some guid → is_known_lid net lid ≡ true
    by (Some other) said found = or_left (is_named (rows_of net.dump.tables) lid) _ (said_named lid (rows_of net.dump.tables) other said)
    by None said found = or_right (is_named (rows_of net.dump.tables) lid) _ (ap (λ (o : Option ℕ). is_some o) found)

pub has_end : (net : NetState) (lid : ℕ) (end : PortRef) → (aim_of net lid).end ≡ Some end → is_known_lid net lid ≡ true
has_end net lid end is = by (owner_of net lid) refl is
  where
    by : (o : Option ℕ) → owner_of net lid ≡ o → end_by net lid o ≡ Some end → is_known_lid net lid ≡ true
    by (Some guid) owner found = owner_known net lid guid owner
    by None owner found = cc

-- ---- what is reached ends there
pub same_port : (a b : PortRef) → is_same_port a b ≡ true → a ≡ b
same_port a b same =
    let parts = and_parts (a.node == b.node) _ same in
    let node : a.node ≡ b.node = grind (arith, nat_tests, parts.0) in
    let number : a.port ≡ b.port = grind (arith, nat_tests, parts.1) in
    ap₂ (λ (n p : ℕ). port n p) node number

reached_by : (end : PortRef) (o : Option Turn) → is_fate fates.Reached (fate_by end o) ≡ true → o ≡ Some (turns.Arrives end)
reached_by end None is = absurd (false≢true is)
reached_by end (Some (turns.Goes next)) is = absurd (false≢true is)
reached_by end (Some turns.Hole) is = absurd (false≢true is)
reached_by end (Some (turns.Nowhere number)) is = absurd (false≢true is)
reached_by end (Some turns.Unknown) is = absurd (false≢true is)
reached_by end (Some (turns.Arrives there)) is = elim (cases_Bool (is_same_port there end)) [
  | inl same ↦ ap (λ (at : PortRef). Some (turns.Arrives at)) (same_port there end same)
  | inr apart ↦ absurd (false≢true (rw apart at is))
]

-- packets that reach the end port of a LID end there
pub comes_there : (net : NetState) (place lid : ℕ) (end : PortRef) → all_reached (pair_to net place lid (Some end)) ≡ true → EndsBy net lid place (turns.Arrives end)
comes_there net place lid end all =
    way_there net lid (switch_total net) place (turns.Arrives end)
    (reached_by end (end_from net lid place) (and_parts (is_fate fates.Reached (fate_by end (end_from net lid place))) true all).0)

pair_reached : (net : NetState) (place lid : ℕ) (o : Option PortRef) (end : PortRef) → o ≡ Some end → is_host net.plan end.node ≡ true
    → carries_host net.plan place ≡ true → all_reached (between_hosts (pair_to net place lid o)) ≡ true → end_from net lid place ≡ Some (turns.Arrives end)
pair_reached net place lid None end is host carries all = cc
pair_reached net place lid (Some there) end is host carries all =
    let same : there ≡ end = same_Some there end is in
    let at_host : is_host net.plan there.node ≡ true = ap (λ (at : PortRef). is_host net.plan at.node) same ∙ host in
    let parts = and_parts (is_fate fates.Reached (fate_by there (end_from net lid place))) _ (rw (at_host, carries) at all) in
    reached_by there (end_from net lid place) parts.0 ∙ ap (λ (at : PortRef). Some (turns.Arrives at)) same

-- ---- what has a LID is named by a row
of_same : (net : NetState) (end : PortRef) (o : Option PortRef) → option_map_or (λ at. is_same_port at end) o false ≡ true → o ≡ Some end
of_same net end (Some at) is = ap (λ (p : PortRef). Some p) (same_port at end is)
of_same net end None is = absurd (false≢true is)

-- one of these LIDs is the port's
lid_of_port : (net : NetState) (end : PortRef) (lids : List ℕ) → list_all (λ n. nat_lt n 65536) lids ≡ true → list_any (is_of end) (map (aim_of net) lids) ≡ true
    → (lid : ℕ) × (lid < 65536) × (end_port_of net lid ≡ Some end)
lid_of_port net end [] below some = absurd (false≢true some)
lid_of_port net end (lid ∷ lids) below some =
    let parts = and_parts (nat_lt lid 65536) _ below in
    elim (cases_Bool (is_of end (aim_of net lid))) [
      | inl here ↦ (lid, grind (arith, nat_tests, parts.0), of_same net end (aim_of net lid).end here)
      | inr other ↦ lid_of_port net end lids parts.1 (rw other at some)
    ]

kept_below : (test : ℕ → Bool) (first count : ℕ) → first + count ≤ 65536 → list_all (λ n. nat_lt n 65536) (filter test (range_with_len first count)) ≡ true
kept_below test first zero most = refl
kept_below test first (suc count) most = elim (cases_Bool (test first)) [
  | inl kept ↦ let less : nat_lt first 65536 ≡ true = grind (arith, nat_tests, most) in rw (kept, less) (kept_below test (first + 1) count (omega (arith, most)))
  | inr left ↦ rw left (kept_below test (first + 1) count (omega (arith, most)))
]

names_below : (net : NetState) → list_all (λ n. nat_lt n 65536) (known_lids net) ≡ true
unfolding all_lids
names_below net = kept_below (is_known_lid net) 0 65536 (omega arith)

-- the ends of a cable have LIDs, and so has the port at which one of these cables ends
of_cable : (net : NetState) (all : List Aim) (end : PortRef) (cable : Cable) → ends_at end cable ≡ true → have_lids net all cable ≡ true → has_lid net all end ≡ true
of_cable net all end cable ends have =
    let parts = and_parts (has_lid net all cable.first) _ have in
    elim (cases_Bool (is_same_port cable.first end)) [
      | inl first ↦ subst (λ (at : PortRef). has_lid net all at ≡ true) (same_port cable.first end first) parts.0
      | inr other ↦ subst (λ (at : PortRef). has_lid net all at ≡ true) (same_port cable.second end (rw other at ends)) parts.1
    ]

of_cables : (net : NetState) (all : List Aim) (end : PortRef) (cables : List Cable) → is_cabled cables end ≡ true → list_all (have_lids net all) cables ≡ true → has_lid net all end ≡ true
of_cables net all end [] is have = absurd (false≢true is)
of_cables net all end (cable ∷ cables) is have =
    let parts = and_parts (have_lids net all cable) _ have in
    elim (cases_Bool (ends_at end cable)) [
      | inl here ↦ of_cable net all end cable here parts.0
      | inr other ↦ of_cables net all end cables (rw other at is) parts.1
    ]

names : (net : NetState) (end : PortRef) → list_all (have_lids net (aims net)) net.plan.cables ≡ true → IsAdaptersEnd net end → (lid : ℕ) × (lid < 65536) × (end_port_of net lid ≡ Some end)
names net end have is =
    let has = of_cables net (aims net) end net.plan.cables is.1 have in
    lid_of_port net end (known_lids net) (names_below net) (rw is.0 at has)

-- ---- the dump and the topology name the same
pub each_listed : (p : ℕ → Bool) (xs : List ℕ) (x : ℕ) → list_any (λ n. n == x) xs ≡ true → list_all p xs ≡ true → p x ≡ true
each_listed p [] x there all = absurd (false≢true there)
each_listed p (y ∷ ys) x there all =
    let parts = and_parts (p y) _ all in
    elim (cases_Bool (y == x)) [
      | inl here ↦ let same : x ≡ y = grind (arith, nat_tests, here) in ap p same ∙ parts.0
      | inr other ↦ each_listed p ys x (rw other at there) parts.1
    ]

-- a row that is found is one of those
found_row : (lid : ℕ) (rows : List Row) (row : Row) → row_of lid rows ≡ Some row → is_named rows lid ≡ true
found_row lid [] row is = cc
found_row lid (first ∷ rows) row is = elim (cases_Bool (first.lid == lid)) [
  | inl here ↦ rw here refl
  | inr other ↦ or_right (first.lid == lid) _ (found_row lid rows row (rw other at is))
]

in_tables : (lid k : ℕ) (tables : List Table) (table : Table) → slice_get tables k ≡ Some table → is_named table.rows lid ≡ true → is_named (rows_of tables) lid ≡ true
in_tables lid k [] table there named = absurd (none-some table there)
in_tables lid zero (first ∷ tables) table there named =
    let same : first ≡ table = same_Some first table there in
    list_any-append (λ (row : Row). row.lid == lid) first.rows (rows_of tables)
    ∙ or_left (is_named first.rows lid) _ (ap (λ (one : Table). is_named one.rows lid) same ∙ named)
in_tables lid (suc k) (first ∷ tables) table there named =
    list_any-append (λ (row : Row). row.lid == lid) first.rows (rows_of tables)
    ∙ or_right (is_named first.rows lid) _ (in_tables lid k tables table there named)

table_named : (lid : ℕ) (row : Row) (tables : List Table) (o : Option ℕ) → option_and_then (λ table. row_of lid table.rows) (option_and_then (λ k. slice_get tables k) o) ≡ Some row
    → is_named (rows_of tables) lid ≡ true
table_named lid row tables None is = cc
table_named lid row tables (Some k) is = by (slice_get tables k) refl is
  where
    by : (o : Option Table) → slice_get tables k ≡ o → option_and_then (λ table. row_of lid table.rows) o ≡ Some row → is_named (rows_of tables) lid ≡ true
    by None there found = cc
    by (Some table) there found = in_tables lid k tables table there (found_row lid table.rows row found)

-- a LID of which a switch has a row is named
row_named : (net : NetState) (place lid : ℕ) (row : Row) → row_at net lid place ≡ Some row → is_named (rows_of net.dump.tables) lid ≡ true
row_named net place lid row is = by (slice_get net.plan.nodes place) is
  where
    by : (o : Option Node) → option_and_then (λ table. row_of lid table.rows) (option_and_then (λ (node : Node). table_of node.guid net.dump.tables) o) ≡ Some row
        → is_named (rows_of net.dump.tables) lid ≡ true
    by None found = cc
    by (Some node) found = table_named lid row net.dump.tables (place_of node.guid net.dump.tables) found

pub is_listed_lid : (net : NetState) (lid : ℕ) → lid < 65536 → is_known_lid net lid ≡ true → list_any (λ n. n == lid) (known_lids net) ≡ true
is_listed_lid net lid below known = in_kept (is_known_lid net) lid all_lids known (in_lids lid below)

-- the end port that a LID has is of the kind that each row says
kept_end : (b : Bool) (end other : PortRef) → (if b then Some end else None) ≡ Some other → (b ≡ true) × (end ≡ other)
kept_end true end other is = (refl, same_Some end other is)
kept_end false end other is = cc

pub end_kind : (net : NetState) (lid : ℕ) (guid : Option ℕ) (end : PortRef) → end_by net lid guid ≡ Some end
    → (option_and_then (port_of net.plan.ends) guid ≡ Some end) × (list_all (says_kind net lid (is_switch_at net.plan.nodes end.node)) (switches net.plan.nodes) ≡ true)
end_kind net lid guid end is = by (option_and_then (port_of net.plan.ends) guid) is
  where
    by : (o : Option PortRef) → option_and_then (if_of_kind net lid) o ≡ Some end
        → (o ≡ Some end) × (list_all (says_kind net lid (is_switch_at net.plan.nodes end.node)) (switches net.plan.nodes) ≡ true)
    by None found = cc
    by (Some at) found =
        let kept = kept_end (list_all (says_kind net lid (is_switch_at net.plan.nodes at.node)) (switches net.plan.nodes)) at end found in (
          ap (λ (p : PortRef). Some p) kept.1,
          subst (λ (p : PortRef). list_all (says_kind net lid (is_switch_at net.plan.nodes p.node)) (switches net.plan.nodes) ≡ true) kept.1 kept.0,
        )

of_kind : (net : NetState) (lid : ℕ) (end : PortRef) (destination : Destination) → end_port_of net lid ≡ Some end
    → is_of_kind (is_switch_at net.plan.nodes end.node) destination ≡ true → IsOfKind net lid destination
of_kind net lid end (ChannelAdapter guid) is kind = (end, is, not-true (is_switch_at net.plan.nodes end.node) kind)
of_kind net lid end (Switch guid) is kind = (end, is, kind)
of_kind net lid end (Router guid) is kind = tt
of_kind net lid end (FurtherLid guid) is kind = tt
of_kind net lid end Nobody is kind = tt
of_kind net lid end NotReported is kind = tt

of_no_kind : (net : NetState) (lid : ℕ) (destination : Destination) → is_of_fabric destination ≡ false → IsOfKind net lid destination
of_no_kind net lid (ChannelAdapter guid) is = absurd (false≢true (sym is))
of_no_kind net lid (Switch guid) is = absurd (false≢true (sym is))
of_no_kind net lid (Router guid) is = tt
of_no_kind net lid (FurtherLid guid) is = tt
of_no_kind net lid Nobody is = tt
of_no_kind net lid NotReported is = tt

not_lacking : (p : Aim → Bool) (f : ℕ → Aim) (xs : List ℕ) (x : ℕ) → list_any (λ n. n == x) xs ≡ true → not (list_any p (map f xs)) ≡ true → p (f x) ≡ false
not_lacking p f [] x there none = absurd (false≢true there)
not_lacking p f (y ∷ ys) x there none = elim (cases_Bool (p (f y))) [
  | inl one ↦ absurd (false≢true (rw one at none))
  | inr fails ↦ elim (cases_Bool (y == x)) [
    | inl here ↦ let same : x ≡ y = grind (arith, nat_tests, here) in ap (λ (n : ℕ). p (f n)) same ∙ fails
    | inr other ↦ not_lacking p f ys x (rw other at there) (rw fails at none)
  ]
]

ends_are : (net : NetState) → not (list_any (is_lacking net) (aims net)) ≡ true → (place lid : ℕ) (row : Row) → is_switch_at net.plan.nodes place ≡ true → lid < 65536
    → row_at net lid place ≡ Some row → IsOfKind net lid row.destination
ends_are net none place lid row switch below is = by (end_port_of net lid) refl
  where
    lacks : is_lacking net (aim_of net lid) ≡ false
    lacks = not_lacking (is_lacking net) (aim_of net) (known_lids net) lid (is_listed_lid net lid below (or_left (is_named (rows_of net.dump.tables) lid) _ (row_named net place lid row is))) none

    by : (o : Option PortRef) → end_port_of net lid ≡ o → IsOfKind net lid row.destination
    by (Some end) has =
        let kinds = (end_kind net lid (aim_of net lid).guid end has).1 in
        let kind = each_listed (says_kind net lid (is_switch_at net.plan.nodes end.node)) (switches net.plan.nodes) place (is_listed net.plan.nodes place switch) kinds in
        of_kind net lid end row.destination has (rw is at kind)
    by None has = elim (cases_Bool (is_of_fabric row.destination)) [
      | inr other ↦ of_no_kind net lid row.destination other
      | inl named ↦
          let says : says_of_fabric net lid place ≡ true = rw is named in
          let some : list_any (says_of_fabric net lid) (switches net.plan.nodes) ≡ true =
          list_any_weaker (λ n. n == place) (says_of_fabric net lid) (λ n same. ap (says_of_fabric net lid) (eqb-true n place same) ∙ says) (switches net.plan.nodes)
          (is_listed net.plan.nodes place switch) in
          let lacking : is_lacking net (aim_of net lid) ≡ true = and_from (is_none (end_port_of net lid)) _ (ap (λ (o : Option PortRef). is_none o) has) some in
          absurd (false≢true (sym lacks ∙ lacking))
    ]

no_tables : (tables : List Table) → tables ≡ [] → not (length tables == 0) ≡ true → ⊥
no_tables tables none some = false≢true (sym (ap (λ (all : List Table). not (length all == 0)) none) ∙ some)

names_same : (net : NetState) → name_the_same net (aims net) ≡ true → NameTheSame net
names_same net same =
    let parts = and_parts (have_tables net) _ same in
    let tables = and_parts (list_all (has_table net) (switches net.plan.nodes)) _ parts.0 in
    let known = and_parts (list_all (is_known net) net.dump.tables) _ parts.1 in
    record {
      some = λ none. no_tables net.dump.tables none tables.1;
      tables = λ place switch. each_listed (has_table net) (switches net.plan.nodes) place (is_listed net.plan.nodes place switch) tables.0;
      switches = λ k table there. all_there (is_known net) net.dump.tables k table known.0 there;
      ends = ends_are net known.1;
    }

-- ---- what is reported to be safe is
reaches : (net : NetState) → all_reached (between_hosts (pairs_by net (aims net))) ≡ true → (place lid : ℕ) (end : PortRef) → CarriesAHost net place → lid < 65536
    → end_port_of net lid ≡ Some end → is_host net.plan end.node ≡ true → EndsBy net lid place (turns.Arrives end)
reaches net all place lid end carrying below has_port host =
    let here = each_reached (pairs_at net (aims net)) (switches net.plan.nodes) place (is_listed net.plan.nodes place carrying.switch) all in
    let named = is_listed_lid net lid below (has_end net lid end has_port) in
    let pair = each_reached (λ n. pair_at net place (aim_of net n)) (known_lids net) lid named
    (ap (λ (pairs : List Pair). all_reached (between_hosts pairs)) (sym (flat_mapped (pair_at net place) (aim_of net) (known_lids net))) ∙ here) in
    way_there net lid (switch_total net) place (turns.Arrives end)
    (pair_reached net place lid (aim_of net lid).end end has_port host (carries net place carrying) pair)

no_ring : (o : Option (List PortRef)) → is_none o ≡ true → o ≡ None
no_ring None is = refl
no_ring (Some ring) is = absurd (false≢true is)

-- ---- where a switch sends a LID to another, the entry there is known
entries_known : (net : NetState) → knows_entries net (other_lids net) ≡ true → (place lid next : ℕ) → is_switch_at net.plan.nodes place ≡ true
    → list_any (λ n. n == lid) (other_lids net) ≡ true → turn net lid place ≡ turns.Goes next → turn net lid next ≡ turns.Unknown → ⊥
entries_known net all place lid next switch there goes unknown =
    let here = each_listed (knows_all net (other_lids net)) (switches net.plan.nodes) place (is_listed net.plan.nodes place switch) all in
    let one : knows_next net place lid ≡ true = each_listed (knows_next net place) (other_lids net) lid there here in
    let none : knows_next net place lid ≡ false = ap (goes_on_known net lid) goes ∙ ap (λ (turned : Turn). not (is_unknown turned)) unknown in
    false≢true (sym none ∙ one)

pub reported_leads : (net : NetState) → says_lead net ≡ true → LeadThere net
reported_leads net says =
    let lids = and_parts (list_all (have_lids net (aims net)) net.plan.cables) _ says in
    let all = and_parts (all_reached (between_hosts (pairs_by net (aims net)))) _ lids.1 in
    let same = and_parts (name_the_same net (aims net)) _ all.1 in
    record {
      named = λ end is. names net end lids.0 is;
      reached = reaches net all.0;
      same = names_same net same.0;
      known = entries_known net same.1;
    }

pub reported_is_safe : (net : NetState) → says_safe net ≡ true → AreSafe net
unfolding audit_of
reported_is_safe net safe =
    let lids = and_parts (list_all (have_lids net (aims net)) net.plan.cables) _ safe in
    let all = and_parts (all_reached (between_hosts (pairs_by net (aims net)))) _ lids.1 in
    let free = and_parts (is_none (credit_loop net (aims net))) _ all.1 in
    record {
      lead = reported_leads net (and_from (list_all (have_lids net (aims net)) net.plan.cables) _ lids.0
          (and_from (all_reached (between_hosts (pairs_by net (aims net)))) _ all.0 free.1));
      free = λ ring are loop.
          let none = no_cycle_is_missed_on_courses net (courses_of net (filter (is_others net) (aims net))) (no_ring (credit_loop net (aims net)) free.0) ring are in
          false≢true (sym none ∙ loop_is_cycle net ring loop);
    }
