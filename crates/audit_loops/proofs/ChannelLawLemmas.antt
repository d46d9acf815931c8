-- Which ports are channels.
use Rattle.std.proofs.Common.{◌≡◌, ◌∙◌, inl, inr, ap, ap₂, refl, subst, sym, ℕ, zero, suc, ◌+◌, ◌<◌, ◌≤◌, Bool, true, false, ◌==◌, List, [], ◌∷◌, filter, map, flat_map, arith, Option, Some, None}
use Rattle.std.specs.List.{list_any, range_with_len}
use Rattle.std.specs.Option.{option_map_or}
use Rattle.std.proofs.lemmas.Bool.{and_from, and_parts, cases_Bool, eq-eqb, false≢true, or_cases, or_left, or_right}
use Rattle.std.proofs.lemmas.Bool.Decides.{nat_tests}
use Rattle.std.proofs.lemmas.List.Folds.{list_any-append}
use Rattle.fabric_parts.specs.Cable.{far_end, is_same_port, port}
use Rattle.fabric_parts.specs.declared.cable.PortRef.{PortRef}
use Rattle.topo_file.specs.Connectivity.{switches}
use Rattle.topo_file.specs.Node.{is_switch_at, ports_at}
use Rattle.topo_file.specs.declared.node.Node.{Node}
use Rattle.audit_loops.specs.Channels.{channels, channels_of, is_channel}
use Rattle.audit_loops.specs.Laws.{ChannelsAreReported, IsChannel}
use Rattle.audit_net.specs.Net.{NetState}
use Rattle.audit_plan.proofs.PlaceLemmas.{is_listed}
use Rattle.audit_net.proofs.HostLemmas.{kept_passes}

-- ---- ports of one switch
same_port : (a b : PortRef) → is_same_port a b ≡ true → a ≡ b
same_port a b same =
    let parts = and_parts (a.node == b.node) (a.port == b.port) same in
    let node : a.node ≡ b.node = grind (arith, nat_tests, parts.0) in
    let number : a.port ≡ b.port = grind (arith, nat_tests, parts.1) in
    ap₂ port node number

abbrev Between : (PortRef → Bool) → ℕ → ℕ → ℕ → PortRef → Type 0
Between test place low many at = (at.node ≡ place) × (low ≤ at.port) × (at.port < low + many) × (test at ≡ true)

in_ports : (test : PortRef → Bool) (place low many : ℕ) (at : PortRef) → list_any (is_same_port at) (filter test (map (port place) (range_with_len low many))) ≡ true
    → Between test place low many at
in_ports test place low zero at there = absurd (false≢true there)
in_ports test place low (suc many) at there = elim (cases_Bool (test (port place low))) [
  | inl passes ↦ elim (cases_Bool (is_same_port at (port place low))) [
    | inl here ↦ subst (Between test place low (suc many)) (sym (same_port at (port place low) here)) (refl, omega arith, omega arith, passes)
    | inr other ↦ let rest = in_ports test place (low + 1) many at (rw other at (rw passes at there)) in
        (rest.0, (let from = rest.1 in omega (arith, from)), (let to = rest.2 in omega (arith, to)), rest.3)
  ]
  | inr fails ↦ let rest = in_ports test place (low + 1) many at (rw fails at there) in
      (rest.0, (let from = rest.1 in omega (arith, from)), (let to = rest.2 in omega (arith, to)), rest.3)
]

same_self : (place number : ℕ) → is_same_port (port place number) (port place number) ≡ true
same_self place number = and_from (place == place) (number == number) (eq-eqb place place refl) (eq-eqb number number refl)

are_ports : (test : PortRef → Bool) (place low many number : ℕ) → low ≤ number → number < low + many → test (port place number) ≡ true
    → list_any (is_same_port (port place number)) (filter test (map (port place) (range_with_len low many))) ≡ true
are_ports test place low zero number from to passes = absurd (omega (arith, from, to))
are_ports test place low (suc many) number from to passes = elim (cases_Bool (low == number)) [
  | inl here ↦ let same : number ≡ low = grind (arith, nat_tests, here) in
      let first : test (port place low) ≡ true = ap (λ (n : ℕ). test (port place n)) (sym same) ∙ passes in
      let itself : is_same_port (port place number) (port place low) ≡ true = ap (λ (n : ℕ). is_same_port (port place number) (port place n)) (sym same) ∙ same_self place number in
      rw first (or_left (is_same_port (port place number) (port place low)) _ itself)
  | inr other ↦
      let apart : low ≡ number → ⊥ = (λ same. let is : (low == number) ≡ true = eq-eqb low number same in false≢true (sym other ∙ is)) in
      let later = are_ports test place (low + 1) many number (omega (arith, from, apart)) (omega (arith, to)) passes in
      elim (cases_Bool (test (port place low))) [
        | inl keeps ↦ rw keeps (or_right (is_same_port (port place number) (port place low)) _ later)
        | inr drops ↦ rw drops later
      ]
]

-- ---- of all switches
in_places : (f : ℕ → List PortRef) (at : PortRef) (places : List ℕ) → list_any (is_same_port at) (flat_map f places) ≡ true
    → (place : ℕ) × (list_any (λ n. n == place) places ≡ true) × (list_any (is_same_port at) (f place) ≡ true)
in_places f at [] there = absurd (false≢true there)
in_places f at (place ∷ places) there =
    elim (or_cases (list_any (is_same_port at) (f place)) (list_any (is_same_port at) (flat_map f places)) (sym (list_any-append (is_same_port at) (f place) (flat_map f places)) ∙ there)) [
      | inl here ↦ (place, or_left (place == place) _ (eq-eqb place place refl), here)
      | inr later ↦ let rest = in_places f at places later in (rest.0, or_right (place == rest.0) _ rest.1, rest.2)
    ]

are_places : (f : ℕ → List PortRef) (at : PortRef) (place : ℕ) (places : List ℕ) → list_any (λ n. n == place) places ≡ true → list_any (is_same_port at) (f place) ≡ true
    → list_any (is_same_port at) (flat_map f places) ≡ true
are_places f at place [] among there = absurd (false≢true among)
are_places f at place (other ∷ places) among there = list_any-append (is_same_port at) (f other) (flat_map f places) ∙ elim (cases_Bool (other == place)) [
  | inl here ↦ let same : place ≡ other = grind (arith, nat_tests, here) in
      or_left (list_any (is_same_port at) (f other)) _ (ap (λ (n : ℕ). list_any (is_same_port at) (f n)) (sym same) ∙ there)
  | inr further ↦ or_right (list_any (is_same_port at) (f other)) _ (are_places f at place places (rw further at among) there)
]

-- ---- both
leads_on : (nodes : List Node) (o : Option PortRef) → option_map_or (λ there. is_switch_at nodes there.node) o false ≡ true
    → (there : PortRef) × (o ≡ Some there) × (is_switch_at nodes there.node ≡ true)
leads_on nodes (Some there) is = (there, refl, is)
leads_on nodes None is = absurd (false≢true is)

listed_is : (net : NetState) (at : PortRef) → list_any (is_same_port at) (channels net) ≡ true → IsChannel net at
listed_is net at there =
    let found = in_places (channels_of net) at (switches net.plan.nodes) there in
    let is = in_ports (is_channel net) found.0 1 (ports_at net.plan.nodes found.0) at found.2 in
    let far = leads_on net.plan.nodes (far_end net.plan.cables at) is.3 in
    let same : found.0 ≡ at.node = sym is.0 in
    record {
      switch = ap (is_switch_at net.plan.nodes) (sym same) ∙ kept_passes (is_switch_at net.plan.nodes) found.0 _ found.1;
      low = is.1;
      high = (let to : at.port < 1 + ports_at net.plan.nodes at.node = subst (λ (n : ℕ). at.port < 1 + ports_at net.plan.nodes n) same is.2 in omega (arith, to));
      there = far.0;
      cable = far.1;
      to_switch = far.2;
    }

is_listed_there : (net : NetState) (at : PortRef) → IsChannel net at → list_any (is_same_port at) (channels net) ≡ true
is_listed_there net at is =
    let passes : is_channel net at ≡ true = ap (λ (o : Option PortRef). option_map_or (λ there. is_switch_at net.plan.nodes there.node) o false) is.cable ∙ is.to_switch in
    let low = is.low in
    let high = is.high in
    are_places (channels_of net) at at.node (switches net.plan.nodes) (is_listed net.plan.nodes at.node is.switch)
    (are_ports (is_channel net) at.node 1 (ports_at net.plan.nodes at.node) at.port low (omega (arith, high)) passes)

pub channels_are_reported : ChannelsAreReported
channels_are_reported net at = (listed_is net at, is_listed_there net at)
