-- Packets that loop are followed far enough: what they do farther on they did before.
use Rattle.std.proofs.Common.{◌≡◌, ◌∙◌, ◌⊎◌, inl, inr, ap, ap₂, refl, sym, ℕ, zero, suc, ◌+◌, Bool, true, false, ◌==◌, ◌||◌, List, [], ◌∷◌, map, arith, Option, Some, None, if◌then◌else◌}
use Rattle.std.specs.List.{list_any}
use Rattle.std.specs.Option.{option_and_then, option_map_or}
use Rattle.std.proofs.lemmas.Bool.{and_parts, cases_Bool, false≢true, or_cases, or_left, or_right}
use Rattle.std.proofs.lemmas.List.{length-map}
use Rattle.std.proofs.lemmas.List.Folds.{list_any-append}
use Rattle.std.proofs.lemmas.Option.{same_Some}
use Rattle.fabric_parts.specs.Cable.{far_end, port}
use Rattle.fabric_parts.specs.declared.cable.PortRef.{PortRef}
use Rattle.sl2vl_file.specs.declared.path.PathSl.{PathSl}
use Rattle.topo_file.specs.Connectivity.{switches}
use Rattle.topo_file.specs.Node.{is_switch_at}
use Rattle.audit_net.specs.declared.entry.Entry.{Entry}
use Rattle.audit_net.specs.declared.entry.Entry.TheVariants.{Out, Missing, Unreported}
use Rattle.audit_net.specs.Following.{switch_total}
use Rattle.audit_net.specs.Net.{NetState, entry}
use Rattle.audit_net.proofs.EndlessLemmas.{below_at, below_map, map_alike, same_at}
use Rattle.audit_plan.proofs.PlaceLemmas.{is_listed}
use Rattle.audit_net.proofs.RoundLemmas.{AreGrowing, settled}
use Rattle.audit_lanes.specs.declared.hop.Hop.{Hop}
use Rattle.audit_lanes.specs.declared.hop.Step.{Step}
use Rattle.audit_lanes.specs.declared.lane.Lane.{Lane}
use Rattle.audit_lanes.specs.Hops.{enough_hops, goes_on, hop_by, hops_by, hops_on, hops_within, step_by, step_of, step_to}
use Rattle.audit_lanes.specs.Lanes.{is_same_pair, lane_of, pair_by, pairs_after, takes_both, two}
use Rattle.audit_lanes.specs.Laws.{NoHopIsMissed}
use Rattle.audit_lanes.specs.Tables.{TablesState}

module _ (net : NetState) (tables : TablesState) (path : PathSl) where
  -- ---- where packets come in next: if they are not dropped, that depends on the switch alone, and not on the port of it by which they
  -- came in
  abbrev if_switch : Option PortRef → Option PortRef
  if_switch (Some there) = if is_switch_at net.plan.nodes there.node then Some there else None
  if_switch None = None

  abbrev leads_by : ℕ → Entry → Option PortRef
  leads_by place (Out number) = if number == 0 then None else if_switch (far_end net.plan.cables (port place number))
  leads_by place Missing = None
  leads_by place Unreported = None

  abbrev leads : ℕ → Option PortRef
  leads place = leads_by place (entry net path.destination place)

  abbrev next_of : Option Step → Option PortRef
  next_of step = option_and_then (λ one. one.next) step

  abbrev next_at : PortRef → Option PortRef
  next_at at = next_of (step_of net tables path at)

  goes_there : (hop : Hop) (far : Option PortRef) → (next_of (step_to net hop far) ≡ None) ⊎ (next_of (step_to net hop far) ≡ if_switch far)
  goes_there hop None = inl refl
  goes_there hop (Some there) = elim (cases_Bool (goes_on net hop there)) [
    | inl on ↦
        let switch : is_switch_at net.plan.nodes there.node ≡ true = (and_parts (is_switch_at net.plan.nodes there.node) _ on).0 in
        inr (rw (on, switch) refl)
    | inr ends ↦ inl (rw ends refl)
  ]

  next_by : (at : PortRef) (e : Entry) → (next_of (step_by net tables path.sl at e) ≡ None) ⊎ (next_of (step_by net tables path.sl at e) ≡ leads_by at.node e)
  next_by at (Out number) = elim (cases_Bool (number == 0)) [
    | inl own ↦ inl (rw own refl)
    | inr other ↦ rw other (goes_there (hop_by tables path.sl at number) (far_end net.plan.cables (port at.node number)))
  ]
  next_by at Missing = inl refl
  next_by at Unreported = inl refl

  next_leads : (at : PortRef) → (next_at at ≡ None) ⊎ (next_at at ≡ leads at.node)
  next_leads at = next_by at (entry net path.destination at.node)

  leads_to_switch_by : (place : ℕ) (e : Entry) (there : PortRef) → leads_by place e ≡ Some there → is_switch_at net.plan.nodes there.node ≡ true
  leads_to_switch_by place (Out number) there is = elim (cases_Bool (number == 0)) [
    | inl own ↦ let none : None ≡ Some there = rw own at is in cc
    | inr other ↦ of_far (far_end net.plan.cables (port place number)) (rw other at is)
  ]
    where
      of_far : (far : Option PortRef) → if_switch far ≡ Some there → is_switch_at net.plan.nodes there.node ≡ true
      of_far None is = cc
      of_far (Some one) is = elim (cases_Bool (is_switch_at net.plan.nodes one.node)) [
        | inl here ↦ let same : one ≡ there = same_Some one there (rw here at is) in ap (λ (at : PortRef). is_switch_at net.plan.nodes at.node) (sym same) ∙ here
        | inr other ↦ let none : None ≡ Some there = rw other at is in cc
      ]
  leads_to_switch_by place Missing there is = cc
  leads_to_switch_by place Unreported there is = cc

  leads_to_switch : (place : ℕ) (there : PortRef) → leads place ≡ Some there → is_switch_at net.plan.nodes there.node ≡ true
  leads_to_switch place there is = leads_to_switch_by place (entry net path.destination place) there is

  -- ---- of the ports by which they come in, one of the first so many passes
  module _ (here : PortRef → Bool) where
    abbrev reaches : ℕ → PortRef → Bool
    reaches zero at = false
    reaches (suc count) at = here at || option_map_or (λ there. reaches count there) (next_at at) false

    -- the same from the switch on that sends them there
    abbrev reaches_from : ℕ → ℕ → Bool
    reaches_from count place = option_map_or (λ there. reaches count there) (leads place) false

    next_more : (one more : PortRef → Bool) (next : Option PortRef) → ((there : PortRef) → one there ≡ true → more there ≡ true)
        → option_map_or one next false ≡ true → option_map_or more next false ≡ true
    next_more one more None grows is = absurd (false≢true is)
    next_more one more (Some there) grows is = grows there is

    reaches_more : (count : ℕ) (at : PortRef) → reaches count at ≡ true → reaches (suc count) at ≡ true
    reaches_more zero at is = absurd (false≢true is)
    reaches_more (suc count) at is = elim (or_cases (here at) _ is) [
      | inl first ↦ or_left (here at) _ first
      | inr later ↦ or_right (here at) _
          (next_more (λ there. reaches count there) (λ there. reaches (suc count) there) (next_at at) (λ there k. reaches_more count there k) later)
    ]

    -- what they reach behind a port depends on its switch alone, or they reach nothing
    behind : (n m : ℕ) (at : PortRef) → reaches_from n at.node ≡ reaches_from m at.node → reaches (suc n) at ≡ reaches (suc m) at
    behind n m at same = ap (λ (later : Bool). here at || later) (elim (next_leads at) [
      | inl none ↦ rw none refl
      | inr led ↦ rw led same
    ])

    next_marks : (n m : ℕ) → map (reaches_from n) (switches net.plan.nodes) ≡ map (reaches_from m) (switches net.plan.nodes)
        → map (reaches_from (suc n)) (switches net.plan.nodes) ≡ map (reaches_from (suc m)) (switches net.plan.nodes)
    next_marks n m same = map_alike (reaches_from (suc n)) (reaches_from (suc m)) (switches net.plan.nodes) (λ place. by place (leads place) refl)
      where
        by : (place : ℕ) (next : Option PortRef) → leads place ≡ next
            → option_map_or (λ there. reaches (suc n) there) next false ≡ option_map_or (λ there. reaches (suc m) there) next false
        by place None is = refl
        by place (Some there) is =
            behind n m there (same_at (reaches_from n) (reaches_from m) there.node (switches net.plan.nodes) same
            (is_listed net.plan.nodes there.node (leads_to_switch place there is)))

    growing : AreGrowing (λ n. map (reaches_from n) (switches net.plan.nodes)) (switch_total net)
    growing = record {
      grows = λ n. below_map (reaches_from n) (reaches_from (suc n)) (switches net.plan.nodes)
          (λ place is. next_more (λ there. reaches n there) (λ there. reaches (suc n) there) (leads place) (λ there k. reaches_more n there k) is);
      long = λ n. let same = length-map (switches net.plan.nodes) (reaches_from n) in omega (arith, same);
      follows = λ n m same. next_marks n m same;
    }

    -- so they reach it within one port more than there are switches
    reached_in_time : (count : ℕ) (at : PortRef) → is_switch_at net.plan.nodes at.node ≡ true → reaches count at ≡ true → reaches (suc (switch_total net)) at ≡ true
    reached_in_time zero at switch is = absurd (false≢true is)
    reached_in_time (suc count) at switch is = elim (or_cases (here at) _ is) [
      | inl first ↦ or_left (here at) _ first
      | inr later ↦ or_right (here at) _ (elim (next_leads at) [
        | inl none ↦ absurd (let nothing : false ≡ true = rw none at later in false≢true nothing)
        | inr led ↦ rw led
            (below_at (reaches_from count) (reaches_from (switch_total net)) at.node (switches net.plan.nodes)
            (settled (λ n. map (reaches_from n) (switches net.plan.nodes)) (switch_total net) growing count)
            (is_listed net.plan.nodes at.node switch) (rw led at later))
      ])
    ]

  -- ---- a hop that passes
  module _ (test : Hop → Bool) where
    abbrev hop_passes : PortRef → Bool
    hop_passes at = option_map_or (λ step. test step.hop) (step_of net tables path at) false

    hops_reach : (count : ℕ) (at : PortRef) → list_any test (hops_within net tables path count at) ≡ reaches hop_passes count at
    hops_reach zero at = refl
    hops_reach (suc count) at = by (step_of net tables path at) (λ there. hops_reach count there)
      where
        on : (hop : Hop) (next : Option PortRef) → ((there : PortRef) → list_any test (hops_within net tables path count there) ≡ reaches hop_passes count there)
            → list_any test (hops_on (λ there. hops_within net tables path count there) hop next)
            ≡ (test hop || option_map_or (λ there. reaches hop_passes count there) next false)
        on hop None rest = refl
        on hop (Some there) rest = ap (λ (later : Bool). test hop || later) (rest there)

        by : (found : Option Step) → ((there : PortRef) → list_any test (hops_within net tables path count there) ≡ reaches hop_passes count there)
            → list_any test (hops_by (λ there. hops_within net tables path count there) found)
            ≡ (option_map_or (λ step. test step.hop) found false || option_map_or (λ there. reaches hop_passes count there) (next_of found) false)
        by None rest = refl
        by (Some step) rest = on step.hop step.next rest

  -- ---- two lanes one behind the other
  module _ (a b : Lane) where
    abbrev is_pair : Hop → Hop → Bool
    is_pair one other = list_any (is_same_pair (two a b)) (pair_by (lane_of one) (lane_of other))

    abbrev begins : Hop → List Hop → Bool
    begins one [] = false
    begins one (other ∷ rest) = is_pair one other

    -- at the first hop, or further on
    takes_at : (hop : Hop) (hops : List Hop) → takes_both a b (hop ∷ hops) ≡ (begins hop hops || takes_both a b hops)
    takes_at hop [] = refl
    takes_at hop (other ∷ rest) =
        list_any-append (is_same_pair (two a b)) (pair_by (lane_of hop) (lane_of other)) (pairs_after (lane_of other) rest)

    -- the first hop from a port on does not depend on how far they are followed
    first_hop : (hop : Hop) (count : ℕ) (at : PortRef) → begins hop (hops_within net tables path (suc count) at) ≡ begins hop (hops_within net tables path 1 at)
    first_hop hop count at = by (step_of net tables path at)
      where
        on : (one : Hop) (next : Option PortRef) → begins hop (hops_on (λ there. hops_within net tables path count there) one next)
            ≡ begins hop (hops_on (λ there. hops_within net tables path 0 there) one next)
        on one None = refl
        on one (Some there) = refl

        by : (found : Option Step) → begins hop (hops_by (λ there. hops_within net tables path count there) found)
            ≡ begins hop (hops_by (λ there. hops_within net tables path 0 there) found)
        by None = refl
        by (Some step) = on step.hop step.next

    abbrev begins_on : Hop → Option PortRef → Bool
    begins_on hop next = option_map_or (λ there. begins hop (hops_within net tables path 1 there)) next false

    abbrev pair_passes : PortRef → Bool
    pair_passes at = option_map_or (λ step. begins_on step.hop step.next) (step_of net tables path at) false

    pairs_reach : (count : ℕ) (at : PortRef) → takes_both a b (hops_within net tables path (suc count) at) ≡ reaches pair_passes count at
    pairs_reach zero at = by (step_of net tables path at)
      where
        on : (hop : Hop) (next : Option PortRef) → takes_both a b (hops_on (λ there. hops_within net tables path 0 there) hop next) ≡ false
        on hop None = refl
        on hop (Some there) = refl

        by : (found : Option Step) → takes_both a b (hops_by (λ there. hops_within net tables path 0 there) found) ≡ false
        by None = refl
        by (Some step) = on step.hop step.next
    pairs_reach (suc count) at = by (step_of net tables path at) (λ there. pairs_reach count there)
      where
        on : (hop : Hop) (next : Option PortRef) → ((there : PortRef) → takes_both a b (hops_within net tables path (suc count) there) ≡ reaches pair_passes count there)
            → takes_both a b (hops_on (λ there. hops_within net tables path (suc count) there) hop next)
            ≡ (begins_on hop next || option_map_or (λ there. reaches pair_passes count there) next false)
        on hop None rest = refl
        on hop (Some there) rest =
            takes_at hop (hops_within net tables path (suc count) there)
            ∙ ap₂ (λ (x y : Bool). x || y) (first_hop hop count there) (rest there)

        by : (found : Option Step) → ((there : PortRef) → takes_both a b (hops_within net tables path (suc count) there) ≡ reaches pair_passes count there)
            → takes_both a b (hops_by (λ there. hops_within net tables path (suc count) there) found)
            ≡ (option_map_or (λ step. begins_on step.hop step.next) found false || option_map_or (λ there. reaches pair_passes count there) (next_of found) false)
        by None rest = refl
        by (Some step) rest = on step.hop step.next rest

-- ---- so so many hops are enough
two_more : (n : ℕ) → n + 2 ≡ suc (suc n)
two_more n = omega arith

hops_in_time : (net : NetState) (tables : TablesState) (path : PathSl) (at : PortRef) (test : Hop → Bool) (count : ℕ) → is_switch_at net.plan.nodes at.node ≡ true
    → list_any test (hops_within net tables path count at) ≡ true → list_any test (hops_within net tables path (enough_hops net) at) ≡ true
hops_in_time net tables path at test count switch is =
    let passes = hop_passes net tables path test in
    let soon = reached_in_time net tables path passes count at switch (sym (hops_reach net tables path test count at) ∙ is) in
    ap (λ (n : ℕ). list_any test (hops_within net tables path n at)) (two_more (switch_total net))
    ∙ hops_reach net tables path test (suc (suc (switch_total net))) at
    ∙ reaches_more net tables path passes (suc (switch_total net)) at soon

lanes_in_time : (net : NetState) (tables : TablesState) (path : PathSl) (at : PortRef) (a b : Lane) (count : ℕ) → is_switch_at net.plan.nodes at.node ≡ true
    → takes_both a b (hops_within net tables path count at) ≡ true → takes_both a b (hops_within net tables path (enough_hops net) at) ≡ true
lanes_in_time net tables path at a b zero switch is = absurd (false≢true is)
lanes_in_time net tables path at a b (suc count) switch is =
    let passes = pair_passes net tables path a b in
    let soon = reached_in_time net tables path passes count at switch (sym (pairs_reach net tables path a b count at) ∙ is) in
    ap (λ (n : ℕ). takes_both a b (hops_within net tables path n at)) (two_more (switch_total net))
    ∙ pairs_reach net tables path a b (suc (switch_total net)) at
    ∙ soon

pub no_hop_is_missed : NoHopIsMissed
no_hop_is_missed = record { hops = hops_in_time; lanes = lanes_in_time }
