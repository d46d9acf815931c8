-- The cables of plans lead back.
use Rattle.std.proofs.Common.{◌≡◌, ◌∙◌, inl, inr, ap, refl, subst, sym, ℕ, suc, Bool, true, filter, ◌==◌, ◌&&◌, List, [], ◌∷◌, map, nat_le, slice_get}
use Rattle.std.proofs.Common.{Option, Some, None, option_map}
use Rattle.std.specs.List.{IsDistinct, list_all, list_any}
use Rattle.std.specs.Option.{option_map_or}
use Rattle.std.proofs.lemmas.Bool.{and_from, and_parts, cases_Bool, eq-eqb, false≢true, or_cases, or_left, or_right}
use Rattle.std.proofs.lemmas.List.Folds.{list_any-append}
use Rattle.std.proofs.lemmas.Map.Keys.{IsDistinct-tail}
use Rattle.std.proofs.lemmas.Option.{same_Some, slice_get-map}
use Rattle.step_results.proofs.DistinctLemmas.{none_shares}
use Rattle.step_results.proofs.ListLemmas.{all_there, list_any_weaker}
use Rattle.fabric_parts.specs.Cable.{ends_at, far_end, is_same_port, other_end}
use Rattle.fabric_parts.specs.declared.cable.Cable.{Cable}
use Rattle.fabric_parts.specs.declared.cable.PortRef.{PortRef}
use Rattle.netdiscover_file.specs.declared.node.Node.{Node as FoundNode}
use Rattle.netdiscover_file.specs.declared.port.PortLine.{PortLine}
use Rattle.netdiscover_file.specs.Agreement.{is_one_cable}
use Rattle.netdiscover_file.specs.Discovery.{DiscoveryState}
use Rattle.netdiscover_file.specs.Node.{ports_at as found_ports_at}
use Rattle.netdiscover_file.specs.Sound.{IsSound, is_port as is_found_port, shares_port as shares_line}
use Rattle.netdiscover_file.proofs.OtherEndLemmas.{one_other_end}
use Rattle.topo_file.specs.declared.node.Node.{Node}
use Rattle.topo_file.specs.Node.{ports_at}
use Rattle.topo_file.specs.Sound.{ends_at_ports, is_port, shares_port}
use Rattle.audit_plan.specs.Laws.{are_joined, has_far_line, joins}
use Rattle.audit_plan.specs.Plan.{PlanState, found_node, plan_found, plan_of}
use Rattle.audit_plan.proofs.FoundLemmas.{cables_are_taken}
use Rattle.audit_loads.specs.Laws.{CablesLeadBack, CablesOfPlansLeadBack}
use Rattle.audit_loads.proofs.KeyLemmas.{same_port}

-- ---- a cable that joins two ports
joins_turned : (a b : PortRef) (cable : Cable) → joins a b cable ≡ true → joins b a cable ≡ true
joins_turned a b cable is =
    elim (or_cases (is_same_port cable.first a && is_same_port cable.second b) _ is) [
      | inl straight ↦ or_right (is_same_port cable.first b && is_same_port cable.second a) _ straight
      | inr turned ↦ or_left (is_same_port cable.first b && is_same_port cable.second a) _ turned
    ]

joins_ends : (a b : PortRef) (cable : Cable) → joins a b cable ≡ true → ends_at a cable ≡ true
joins_ends a b cable is =
    elim (or_cases (is_same_port cable.first a && is_same_port cable.second b) _ is) [
      | inl straight ↦ or_left (is_same_port cable.first a) _ (and_parts (is_same_port cable.first a) _ straight).0
      | inr turned ↦ or_right (is_same_port cable.first a) _ (and_parts (is_same_port cable.first b) _ turned).1
    ]

pub same_itself : (a : PortRef) → is_same_port a a ≡ true
same_itself a = and_from (a.node == a.node) (a.port == a.port) (eq-eqb a.node a.node refl) (eq-eqb a.port a.port refl)

joins_other : (a : PortRef) (cable : Cable) → ends_at a cable ≡ true → joins a (other_end a cable) cable ≡ true
joins_other a cable ends = elim (cases_Bool (is_same_port cable.first a)) [
  | inl first ↦ rw (first, same_itself cable.second) refl
  | inr second ↦
      let at_second : is_same_port cable.second a ≡ true = rw second at ends in
      rw second (and_from (is_same_port cable.first cable.first) _ (same_itself cable.first) at_second)
]

-- the far end of a port is joined to it
far_joins : (cables : List Cable) (a b : PortRef) → far_end cables a ≡ Some b → list_any (joins a b) cables ≡ true
far_joins [] a b far = cc
far_joins (cable ∷ cables) a b far = elim (cases_Bool (ends_at a cable)) [
  | inl here ↦
      let is : other_end a cable ≡ b = same_Some (other_end a cable) b (rw here at far) in
      or_left (joins a b cable) _ (ap (λ (p : PortRef). joins a p cable) (sym is) ∙ joins_other a cable here)
  | inr other ↦ or_right (joins a b cable) _ (far_joins cables a b (rw other at far))
]

-- and a port that is joined to some port has a far end
joined_far : (cables : List Cable) (a b : PortRef) → list_any (joins a b) cables ≡ true → (c : PortRef) × (far_end cables a ≡ Some c)
joined_far [] a b joined = absurd (false≢true joined)
joined_far (cable ∷ cables) a b joined = elim (cases_Bool (ends_at a cable)) [
  | inl here ↦ (other_end a cable, rw here refl)
  | inr other ↦
      elim (or_cases (joins a b cable) (list_any (joins a b) cables) joined) [
        | inl first ↦ absurd (false≢true (sym other ∙ joins_ends a b cable first))
        | inr later ↦ let rest = joined_far cables a b later in (rest.0, rw other rest.1)
      ]
]

abbrev OneEnd : List Cable → Type 0
OneEnd cables = (a b c : PortRef) → list_any (joins a b) cables ≡ true → list_any (joins a c) cables ≡ true → b ≡ c

back_by : (cables : List Cable) → OneEnd cables → (a b : PortRef) → far_end cables a ≡ Some b → far_end cables b ≡ Some a
back_by cables one a b far =
    let joined = list_any_weaker (joins a b) (joins b a) (joins_turned a b) cables (far_joins cables a b far) in
    let back = joined_far cables b a joined in
    back.1 ∙ ap (λ (p : PortRef). Some p) (one b back.0 a (far_joins cables b back.0 back.1) joined)

-- ---- of a topology
both_joins : (a b c : PortRef) (cable : Cable) → joins a b cable ≡ true → joins a c cable ≡ true → b ≡ c
both_joins a b c cable one other =
    elim (or_cases (is_same_port cable.first a && is_same_port cable.second b) _ one) [
      | inl straight ↦
          let first = and_parts (is_same_port cable.first a) (is_same_port cable.second b) straight in
          elim (or_cases (is_same_port cable.first a && is_same_port cable.second c) _ other) [
            | inl also ↦
                let second = and_parts (is_same_port cable.first a) (is_same_port cable.second c) also in
                sym (same_port cable.second b first.1) ∙ same_port cable.second c second.1
            | inr turned ↦
                let second = and_parts (is_same_port cable.first c) (is_same_port cable.second a) turned in
                sym (same_port cable.second b first.1) ∙ same_port cable.second a second.1
                ∙ sym (same_port cable.first a first.0) ∙ same_port cable.first c second.0
          ]
      | inr turned ↦
          let first = and_parts (is_same_port cable.first b) (is_same_port cable.second a) turned in
          elim (or_cases (is_same_port cable.first a && is_same_port cable.second c) _ other) [
            | inl straight ↦
                let second = and_parts (is_same_port cable.first a) (is_same_port cable.second c) straight in
                sym (same_port cable.first b first.0) ∙ same_port cable.first a second.0
                ∙ sym (same_port cable.second a first.1) ∙ same_port cable.second c second.1
            | inr also ↦
                let second = and_parts (is_same_port cable.first c) (is_same_port cable.second a) also in
                sym (same_port cable.first b first.0) ∙ same_port cable.first c second.0
          ]
    ]

not_again : (a b c : PortRef) (cable : Cable) (cables : List Cable) → IsDistinct shares_port (cable ∷ cables) → joins a b cable ≡ true
    → list_any (joins a c) cables ≡ true → ⊥
not_again a b c cable cables own here later =
    let ends = list_any_weaker (joins a c) (ends_at a) (joins_ends a c) cables later in
    let at_one = or_cases (is_same_port cable.first a) (is_same_port cable.second a) (joins_ends a b cable here) in
    let shared : list_any (shares_port cable) cables ≡ true = elim at_one [
      | inl first ↦
          list_any_weaker (ends_at a) (shares_port cable)
          (λ other at. or_left (ends_at cable.first other) _ (ap (λ (p : PortRef). ends_at p other) (same_port cable.first a first) ∙ at)) cables ends
      | inr second ↦
          list_any_weaker (ends_at a) (shares_port cable)
          (λ other at. or_right (ends_at cable.first other) _ (ap (λ (p : PortRef). ends_at p other) (same_port cable.second a second) ∙ at)) cables ends
    ] in
    false≢true (sym (none_shares shares_port cable cables own) ∙ shared)

one_end : (cables : List Cable) → IsDistinct shares_port cables → OneEnd cables
one_end [] own a b c one other = absurd (false≢true one)
one_end (cable ∷ cables) own a b c one other =
    elim (or_cases (joins a b cable) (list_any (joins a b) cables) one) [
      | inl here ↦ elim (or_cases (joins a c cable) (list_any (joins a c) cables) other) [
        | inl also ↦ both_joins a b c cable here also
        | inr later ↦ absurd (not_again a b c cable cables own here later)
      ]
      | inr later ↦ elim (or_cases (joins a c cable) (list_any (joins a c) cables) other) [
        | inl here ↦ absurd (not_again a c b cable cables own here later)
        | inr also ↦ one_end cables (IsDistinct-tail shares_port cable cables own) a b c later also
      ]
    ]

-- a port that is joined to another is an end of a cable, and so a port of its node
joined_is_port : (nodes : List Node) (cables : List Cable) (a b : PortRef) → list_all (ends_at_ports nodes) cables ≡ true → list_any (joins a b) cables ≡ true
    → is_port nodes a ≡ true
joined_is_port nodes [] a b all joined = absurd (false≢true joined)
joined_is_port nodes (cable ∷ cables) a b all joined =
    let parts = and_parts (ends_at_ports nodes cable) (list_all (ends_at_ports nodes) cables) all in
    let ends = and_parts (is_port nodes cable.first) (is_port nodes cable.second) parts.0 in
    elim (or_cases (joins a b cable) (list_any (joins a b) cables) joined) [
      | inl here ↦ elim (or_cases (is_same_port cable.first a) (is_same_port cable.second a) (joins_ends a b cable here)) [
        | inl first ↦ subst (λ (p : PortRef). is_port nodes p ≡ true) (same_port cable.first a first) ends.0
        | inr second ↦ subst (λ (p : PortRef). is_port nodes p ≡ true) (same_port cable.second a second) ends.1
      ]
      | inr later ↦ joined_is_port nodes cables a b parts.1 later
    ]

-- the cables are these, or some of them
pub lead_back : (plan : PlanState) (cables : List Cable) → list_all (ends_at_ports plan.nodes) cables ≡ true → IsDistinct shares_port cables
    → ((a b : PortRef) → list_any (joins a b) plan.cables ≡ true → list_any (joins a b) cables ≡ true) → CablesLeadBack plan
lead_back plan cables ends own some = record {
  ports = λ at there far. joined_is_port plan.nodes cables at there ends (some at there (far_joins plan.cables at there far));
  back = λ at there far. back_by plan.cables (λ a b c one other. one_end cables own a b c (some a b one) (some a c other)) at there far;
}

among_all : {X : Type 0} (p keep : X → Bool) (xs : List X) → list_any p (filter keep xs) ≡ true → list_any p xs ≡ true
among_all p keep [] some = some
among_all p keep (x ∷ xs) some = elim (cases_Bool (keep x)) [
  | inl keeps ↦ elim (or_cases (p x) (list_any p (filter keep xs)) (rw keeps at some)) [
    | inl here ↦ or_left (p x) (list_any p xs) here
    | inr later ↦ or_right (p x) (list_any p xs) (among_all p keep xs later)
  ]
  | inr drops ↦ or_right (p x) (list_any p xs) (among_all p keep xs (rw drops at some))
]

-- ---- of a discovery
-- the one line of a port that passes two tests
record HasBoth (p q : PortLine → Bool) (lines : List PortLine) : Type 0 where
  place : ℕ
  line : PortLine
  there : slice_get lines place ≡ Some line
  one : p line ≡ true
  other : q line ≡ true

abbrev of_port : PortRef → (PortLine → Bool) → PortLine → Bool
of_port a p line = is_same_port line.port a && p line

shares_first : (a : PortRef) (p q : PortLine → Bool) (line : PortLine) (lines : List PortLine) → IsDistinct shares_line (line ∷ lines) → of_port a p line ≡ true
    → list_any (of_port a q) lines ≡ true → ⊥
shares_first a p q line lines own here later =
    let first = same_port line.port a (and_parts (is_same_port line.port a) _ here).0 in
    let shared = list_any_weaker (of_port a q) (shares_line line)
    (λ other passes.
    let second = same_port other.port a (and_parts (is_same_port other.port a) _ passes).0 in
    subst (λ (port : PortRef). is_same_port line.port port ≡ true) (first ∙ sym second) (same_itself line.port))
    lines later in
    false≢true (sym (none_shares shares_line line lines own) ∙ shared)

both_at : (a : PortRef) (p q : PortLine → Bool) (lines : List PortLine) → IsDistinct shares_line lines → list_any (of_port a p) lines ≡ true
    → list_any (of_port a q) lines ≡ true → HasBoth (of_port a p) (of_port a q) lines
both_at a p q [] own one other = absurd (false≢true one)
both_at a p q (line ∷ lines) own one other =
    elim (or_cases (of_port a p line) (list_any (of_port a p) lines) one) [
      | inl here ↦ elim (or_cases (of_port a q line) (list_any (of_port a q) lines) other) [
        | inl also ↦ record { place = 0; line = line; there = refl; one = here; other = also }
        | inr later ↦ absurd (shares_first a p q line lines own here later)
      ]
      | inr later ↦ elim (or_cases (of_port a q line) (list_any (of_port a q) lines) other) [
        | inl here ↦ absurd (shares_first a q p line lines own here later)
        | inr also ↦
            let rest = both_at a p q lines (IsDistinct-tail shares_line line lines own) later also in
            record { place = suc rest.place; line = rest.line; there = rest.there; one = rest.one; other = rest.other }
      ]
    ]

one_line_end : (found : DiscoveryState) → IsSound found → (a b c : PortRef) → are_joined found a b ≡ true → are_joined found a c ≡ true → b ≡ c
one_line_end found sound a b c one other =
    let own = sound.lines.own_lines in
    let near = both_at a (λ line. has_far_line found line b) (λ line. has_far_line found line c) found.ports own one other in
    let is_far = is_one_cable found.nodes near.line in
    let to_b = (and_parts (is_same_port near.line.port a) _ near.one).1 in
    let to_c = (and_parts (is_same_port near.line.port a) _ near.other).1 in
    let at_b = both_at b is_far is_far found.ports own to_b to_b in
    let at_c = both_at c is_far is_far found.ports own to_c to_c in
    let is_b = and_parts (is_same_port at_b.line.port b) _ at_b.one in
    let is_c = and_parts (is_same_port at_c.line.port c) _ at_c.one in
    let place = one_other_end found sound near.line at_b.line at_c.line at_b.place at_c.place at_b.there at_c.there is_b.1 is_c.1 in
    let same = same_Some at_b.line at_c.line (sym at_b.there ∙ ap (slice_get found.ports) place ∙ at_c.there) in
    sym (same_port at_b.line.port b is_b.0) ∙ ap (λ (line : PortLine). line.port) same ∙ same_port at_c.line.port c is_c.0

found_joined : (found : DiscoveryState) → IsSound found → (a b : PortRef) → list_any (joins a b) (plan_found found).cables ≡ true → are_joined found a b ≡ true
found_joined found sound a b joined =
    sym (cables_are_taken.joined found a b sound) ∙ list_any-append (joins a b) (plan_found found).cables (plan_found found).apart ∙ or_left _ _ joined

ports_there : (f : FoundNode → Node) (nodes : List FoundNode) (place : ℕ) → ((node : FoundNode) → (f node).ports ≡ node.ports)
    → ports_at (map f nodes) place ≡ found_ports_at nodes place
ports_there f nodes place same =
    ap (λ (o : Option Node). option_map_or (λ node. node.ports) o 0) (slice_get-map f nodes place) ∙ by (slice_get nodes place)
  where
    by : (o : Option FoundNode) → option_map_or (λ node. node.ports) (option_map f o) 0 ≡ option_map_or (λ node. node.ports) o 0
    by None = refl
    by (Some node) = same node

found_is_port : (found : DiscoveryState) → IsSound found → (a b : PortRef) → are_joined found a b ≡ true → is_port (plan_found found).nodes a ≡ true
unfolding plan_found
found_is_port found sound a b joined =
    let near = both_at a (λ line. has_far_line found line b) (λ line. has_far_line found line b) found.ports sound.lines.own_lines joined joined in
    let is = same_port near.line.port a (and_parts (is_same_port near.line.port a) _ near.one).0 in
    ap (λ (n : ℕ). nat_le 1 a.port && nat_le a.port n) (ports_there (found_node found.nodes) found.nodes a.node (λ node. refl))
    ∙ subst (λ (p : PortRef). is_found_port found.nodes p ≡ true) is
    (all_there (λ line. is_found_port found.nodes line.port) found.ports near.place near.line sound.lines.are_ports near.there)

-- ---- the law
pub cables_of_plans_lead_back : CablesOfPlansLeadBack
cables_of_plans_lead_back = record {
  topology = λ limits topology sound. lead_back (plan_of topology) topology.cables sound.lines.ends sound.lines.own_ports (λ a b joined. joined);
  cables_up = λ limits topology is_up sound.
      lead_back (plan_of (record topology { cables = filter is_up topology.cables })) topology.cables sound.lines.ends sound.lines.own_ports
      (λ a b joined. among_all (joins a b) is_up topology.cables joined);
  discovery = λ found sound. record {
    ports = λ at there far. found_is_port found sound at there (found_joined found sound at there (far_joins (plan_found found).cables at there far));
    back = λ at there far.
        back_by (plan_found found).cables
        (λ a b c one other. one_line_end found sound a b c (found_joined found sound a b one) (found_joined found sound a c other)) at there far;
  };
}
