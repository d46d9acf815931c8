-- Which pairs there are: a plan and the end ports of LIDs decide it.
use Rattle.std.proofs.Common.{ℕ, zero, suc, ◌≡◌, ◌+◌, ◌<◌, ◌≤◌, ◌∙◌, ap, refl, sym, subst, Bool, true, false, if◌then◌else◌, List, [], ◌∷◌, ◌++◌, filter, flat_map, length, map, Option, Some, None, arith}
use Rattle.std.specs.List.{AllByRecursion, count_by, range_with_len}
use Rattle.std.proofs.lemmas.Bool.{false≢true}
use Rattle.std.proofs.lemmas.List.Sums.{sum_by-cons}
use Rattle.dump_file.specs.Dump.{DumpState}
use Rattle.fabric_parts.specs.Cable.{far_end, port}
use Rattle.fabric_parts.specs.declared.cable.PortRef.{PortRef}
use Rattle.step_results.proofs.ElementLemmas.{each_joined}
use Rattle.topo_file.specs.Node.{is_switch_at, ports_at}
use Rattle.audit_routes.proofs.SafeLemmas.{has_end}
use Rattle.audit_routes.specs.Laws.{CarriesAHost}
use Rattle.audit_net.specs.OwnerLaws.{end_port_of}
use Rattle.audit_net.specs.Lids.{aim_of, aims, all_lids, is_known_lid}
use Rattle.audit_net.specs.Net.{NetState}
use Rattle.audit_plan.specs.Plan.{PlanState, is_host}
use Rattle.audit_loads.specs.Sources.{Pair, attached, entrance, entrances, host_behind, pair_from, pairs_by, pairs_in, pairs_to_end, sends}
use Rattle.joint_laws.specs.Alike.{net_of}

-- ---- one test counts as another of elements of which both say the same
pub count_same : {X : Type 0} (P : X → Type 0) (p q : X → Bool) → ((x : X) → P x → p x ≡ q x) → (xs : List X) → AllByRecursion P xs
    → count_by p xs ≡ count_by q xs
count_same P p q same [] all = refl
count_same P p q same (x ∷ xs) all =
    sum_by-cons (λ y. if p y then 1 else 0) x xs ∙ ap (λ (b : Bool). (if b then 1 else 0) + count_by p xs) (same x all.0)
    ∙ ap (λ (n : ℕ). (if q x then 1 else 0) + n) (count_same P p q same xs all.1) ∙ sym (sum_by-cons (λ y. if q y then 1 else 0) x xs)

-- ---- each LID, by its end port
pub pairs_of_known : (net : NetState) (talk : PortRef → PortRef → Bool) (lids : List ℕ)
    → pairs_by net talk (map (aim_of net) (filter (is_known_lid net) lids)) ≡ flat_map (λ lid. pairs_to_end net talk lid (end_port_of net lid)) lids
pairs_of_known net talk [] = refl
pairs_of_known net talk (lid ∷ lids) = by (is_known_lid net lid) refl (pairs_of_known net talk lids)
  where
    nothing : (o : Option PortRef) → end_port_of net lid ≡ o → is_known_lid net lid ≡ false → pairs_to_end net talk lid o ≡ []
    nothing None end unknown = refl
    nothing (Some at) end unknown = absurd (false≢true (sym unknown ∙ has_end net lid at end))

    rest_of : List ℕ → List Pair
    rest_of some = flat_map (λ one. pairs_to_end net talk one (end_port_of net one)) some

    by : (b : Bool) → is_known_lid net lid ≡ b → pairs_by net talk (map (aim_of net) (filter (is_known_lid net) lids)) ≡ rest_of lids
        → pairs_by net talk (map (aim_of net) (if b then lid ∷ filter (is_known_lid net) lids else filter (is_known_lid net) lids)) ≡ rest_of (lid ∷ lids)
    by true known rest = ap (λ (more : List Pair). pairs_to_end net talk lid (end_port_of net lid) ++ more) rest
    by false unknown rest = rest ∙ ap (λ (none : List Pair). none ++ rest_of lids) (sym (nothing (end_port_of net lid) refl unknown))

ends_decide : (plan : PlanState) (dump other : DumpState) (talk : PortRef → PortRef → Bool) (lids : List ℕ)
    → ((lid : ℕ) → end_port_of (net_of plan dump) lid ≡ end_port_of (net_of plan other) lid)
    → flat_map (λ lid. pairs_to_end (net_of plan dump) talk lid (end_port_of (net_of plan dump) lid)) lids
    ≡ flat_map (λ lid. pairs_to_end (net_of plan other) talk lid (end_port_of (net_of plan other) lid)) lids
ends_decide plan dump other talk [] ends = refl
ends_decide plan dump other talk (lid ∷ lids) ends =
    ap (λ (more : List Pair). pairs_to_end (net_of plan dump) talk lid (end_port_of (net_of plan dump) lid) ++ more)
    (ends_decide plan dump other talk lids ends)
    ∙ ap (λ (o : Option PortRef). pairs_to_end (net_of plan dump) talk lid o ++ flat_map
    (λ one. pairs_to_end (net_of plan other) talk one (end_port_of (net_of plan other) one)) lids) (ends lid)
    ∙ ap (λ (first : List Pair). first ++ flat_map (λ one. pairs_to_end (net_of plan other) talk one (end_port_of (net_of plan other) one)) lids)
    (plan_decides (end_port_of (net_of plan other) lid))
  where
    plan_decides : (o : Option PortRef) → pairs_to_end (net_of plan dump) talk lid o ≡ pairs_to_end (net_of plan other) talk lid o
    plan_decides None = refl
    plan_decides (Some end) = refl

-- so dumps by which LIDs have the same end ports have the same pairs
pub pairs_same : (plan : PlanState) (dump other : DumpState) (talk : PortRef → PortRef → Bool)
    → ((lid : ℕ) → end_port_of (net_of plan dump) lid ≡ end_port_of (net_of plan other) lid)
    → pairs_by (net_of plan dump) talk (aims (net_of plan dump)) ≡ pairs_by (net_of plan other) talk (aims (net_of plan other))
pairs_same plan dump other talk ends =
    pairs_of_known (net_of plan dump) talk all_lids ∙ ends_decide plan dump other talk all_lids ends ∙ sym (pairs_of_known (net_of plan other) talk all_lids)

-- ---- a pair goes from a switch to which a host is attached, to the LID of a host's port
pub record GoesToHost (net : NetState) (pair : Pair) : Type 0 where
  pub carries : CarriesAHost net pair.place
  pub end_is : end_port_of net pair.lid ≡ Some pair.end
  pub host : is_host net.plan pair.end.node ≡ true

each_flat : {X Y : Type 0} (P : Y → Type 0) (f : X → List Y) (xs : List X) → ((x : X) → AllByRecursion P (f x)) → AllByRecursion P (flat_map f xs)
each_flat P f [] each = tt
each_flat P f (x ∷ xs) each = each_joined P (f x) (flat_map f xs) (each x) (each_flat P f xs each)

module _ (net : NetState) where
  -- what is attached there makes the switch carry a host
  abbrev Shows : ℕ → PortRef → Type 0
  Shows place source = CarriesAHost net place

  behind : (place before : ℕ) → is_switch_at net.plan.nodes place ≡ true → before < ports_at net.plan.nodes place → (o : Option PortRef)
      → far_end net.plan.cables (port place (before + 1)) ≡ o → AllByRecursion (Shows place) (host_behind net place before)
  behind place before switch low None cable = rw cable tt
  behind place before switch low (Some at) cable = rw cable (by (is_host net.plan at.node) refl)
    where
      by : (b : Bool) → is_host net.plan at.node ≡ b → AllByRecursion (Shows place) (if is_host net.plan at.node then at ∷ [] else [])
      by false is = rw is tt
      by true is = rw is (record { switch = switch; number = before + 1; low = omega arith; high = omega (arith, low); at = at; cable = cable; host = is }, tt)

  all_behind : (place first many : ℕ) → is_switch_at net.plan.nodes place ≡ true → first + many ≤ ports_at net.plan.nodes place
      → AllByRecursion (Shows place) (flat_map (host_behind net place) (range_with_len first many))
  all_behind place first zero switch within = tt
  all_behind place first (suc many) switch within =
      each_joined (Shows place) (host_behind net place first) (flat_map (host_behind net place) (range_with_len (first + 1) many))
      (behind place first switch (omega (arith, within)) (far_end net.plan.cables (port place (first + 1))) refl)
      (all_behind place (first + 1) many switch (omega (arith, within)))

  from_one : (talk : PortRef → PortRef → Bool) (lid : ℕ) (end : PortRef) (place : ℕ) (ports : List PortRef) → end_port_of net lid ≡ Some end
      → is_host net.plan end.node ≡ true → AllByRecursion (Shows place) ports → AllByRecursion (GoesToHost net) (flat_map (pair_from talk lid end place) ports)
  from_one talk lid end place [] is host all = tt
  from_one talk lid end place (source ∷ ports) is host all = by (sends talk source end) (from_one talk lid end place ports is host all.1)
    where
      by : (b : Bool) → AllByRecursion (GoesToHost net) (flat_map (pair_from talk lid end place) ports)
          → AllByRecursion (GoesToHost net) ((if b then record { source = source; place = place; lid = lid; end = end } ∷ [] else []) ++ flat_map (pair_from talk lid end place) ports)
      by true rest = (record { carries = all.0; end_is = is; host = host }, rest)
      by false rest = rest

  from_all : (talk : PortRef → PortRef → Bool) (lid : ℕ) (end : PortRef) (places : List ℕ) → end_port_of net lid ≡ Some end → is_host net.plan end.node ≡ true
      → AllByRecursion (GoesToHost net) (flat_map (pairs_in talk lid end) (map (entrance net) (filter (is_switch_at net.plan.nodes) places)))
  from_all talk lid end [] is host = tt
  from_all talk lid end (place ∷ places) is host = by (is_switch_at net.plan.nodes place) refl (from_all talk lid end places is host)
    where
      by : (b : Bool) → is_switch_at net.plan.nodes place ≡ b
          → AllByRecursion (GoesToHost net) (flat_map (pairs_in talk lid end) (map (entrance net) (filter (is_switch_at net.plan.nodes) places)))
          → AllByRecursion (GoesToHost net)
          (flat_map (pairs_in talk lid end)
          (map (entrance net) (if b then place ∷ filter (is_switch_at net.plan.nodes) places else filter (is_switch_at net.plan.nodes) places)))
      by false other rest = rest
      by true switch rest =
          each_joined (GoesToHost net) (pairs_in talk lid end (entrance net place))
          (flat_map (pairs_in talk lid end) (map (entrance net) (filter (is_switch_at net.plan.nodes) places)))
          (from_one talk lid end place (attached net place) is host (all_behind place 0 (ports_at net.plan.nodes place) switch (omega arith))) rest

  to_one : (talk : PortRef → PortRef → Bool) (lid : ℕ) (o : Option PortRef) → end_port_of net lid ≡ o
      → AllByRecursion (GoesToHost net) (pairs_to_end net talk lid o)
  to_one talk lid None is = tt
  to_one talk lid (Some end) is = by (is_host net.plan end.node) refl
    where
      by : (b : Bool) → is_host net.plan end.node ≡ b → AllByRecursion (GoesToHost net) (if b then flat_map (pairs_in talk lid end) (entrances net) else [])
      by false other = tt
      by true host = from_all talk lid end (range_with_len 0 (length net.plan.nodes)) is host

  pub all_go_to_hosts : (talk : PortRef → PortRef → Bool) → AllByRecursion (GoesToHost net) (pairs_by net talk (aims net))
  all_go_to_hosts talk =
      subst (AllByRecursion (GoesToHost net)) (sym (pairs_of_known net talk all_lids))
      (each_flat (GoesToHost net) (λ lid. pairs_to_end net talk lid (end_port_of net lid)) all_lids (λ lid. to_one talk lid (end_port_of net lid) refl))
