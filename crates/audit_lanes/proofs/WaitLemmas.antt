-- Lanes that wait, by what is looked up.
use Rattle.std.proofs.Common.{◌≡◌, ◌∙◌, ap, ap₂, refl, sym, inl, inr, ℕ, zero, suc, ◌+◌, ◌<◌, ◌≤◌, Bool, true, false, ◌==◌, ◌&&◌, ◌||◌, List, [], ◌∷◌, filter, flat_map, length, map, Option, Some, None, arith}
use Rattle.std.specs.List.{enumerate_from, list_any, range_with_len}
use Rattle.std.specs.Option.{option_map_or}
use Rattle.std.proofs.lemmas.Bool.{and_from, cases_Bool, cases_lt, eq-eqb, false≢true}
use Rattle.std.proofs.lemmas.Bool.Decides.{nat_tests}
use Rattle.fabric_parts.specs.Cable.{far_end, is_same_port, port}
use Rattle.fabric_parts.specs.declared.cable.PortRef.{PortRef}
use Rattle.audit_plan.proofs.RangeLemmas.{at_range, past_range}
use Rattle.audit_net.specs.declared.entry.Entry.{Entry}
use Rattle.audit_net.specs.declared.entry.Entry.TheVariants.{Out, Missing, Unreported}
use Rattle.audit_net.specs.Net.{NetState, entry}
use Rattle.audit_net.proofs.LookupLemmas.{no_entry}
use Rattle.step_results.proofs.TestLemmas.{same_either_way}
use Rattle.step_results.proofs.BoolLemmas.{and_false}
use Rattle.audit_loops.specs.Channels.{is_out, leads_to, leaves_by}
use Rattle.audit_lanes.specs.declared.lane.ChannelPair.{ChannelPair}
use Rattle.audit_lanes.specs.declared.lane.Lane.{Lane}
use Rattle.audit_lanes.specs.Deadlock.{nexts}
use Rattle.audit_lanes.specs.Keys.{WaitsState, all_groups, channels_by, group_behind, group_of, is_same_channels, lid_takes, next_if, numbered_at, takes_channels, then_at, then_by, waits_by}
use Rattle.audit_lanes.specs.Lanes.{leaves_by_both}

-- ---- the lanes of one node are enough
nexts_in : (known : WaitsState) (a : Lane) (group : List (ℕ × Lane)) → flat_map (next_if known a) group ≡ map (λ p. p.0) (filter (λ p. waits_by known a p.1) group)
nexts_in known a [] = refl
nexts_in known a (p ∷ group) = elim (cases_Bool (waits_by known a p.1)) [
  | inl here ↦ rw (here, nexts_in known a group) refl
  | inr other ↦ rw (other, nexts_in known a group) refl
]

elsewhere : (known : WaitsState) (a b : Lane) (far : Option PortRef) → far_end known.net.plan.cables a.at ≡ far → option_map_or (λ t. t.node == b.at.node) far false ≡ false
    → waits_by known a b ≡ false
elsewhere known a b far is other =
    let leads : leads_to known.net a.at b.at.node ≡ false = ap (λ (o : Option PortRef). option_map_or (λ t. t.node == b.at.node) o false) is ∙ other in
    rw leads refl

in_group : (known : WaitsState) (a : Lane) (there : PortRef) → far_end known.net.plan.cables a.at ≡ Some there → (all : List (ℕ × Lane))
    → filter (λ p. waits_by known a p.1) (filter (λ p. p.1.at.node == there.node) all) ≡ filter (λ p. waits_by known a p.1) all
in_group known a there far [] = refl
in_group known a there far (p ∷ all) = elim (cases_Bool (p.1.at.node == there.node)) [
  | inl here ↦ elim (cases_Bool (waits_by known a p.1)) [
    | inl leads ↦ rw (here, leads, in_group known a there far all) refl
    | inr none ↦ rw (here, none, in_group known a there far all) refl
  ]
  | inr other ↦
      let turned : (there.node == p.1.at.node) ≡ false = grind (arith, nat_tests, other) in
      let none = elsewhere known a p.1 (Some there) far turned in
      rw (other, none, in_group known a there far all) refl
]

no_group : (known : WaitsState) (a : Lane) → far_end known.net.plan.cables a.at ≡ None → (all : List (ℕ × Lane)) → filter (λ p. waits_by known a p.1) all ≡ []
no_group known a far [] = refl
no_group known a far (p ∷ all) = let none = elsewhere known a p.1 None far refl in rw (none, no_group known a far all) refl

group_is : (net : NetState) (all : List Lane) (place : ℕ) (test : (ℕ × Lane) → Bool)
    → filter test (filter (λ p. p.1.at.node == place) (enumerate_from 0 all)) ≡ filter test (enumerate_from 0 all)
    → filter test (group_of (all_groups net all) (enumerate_from 0 all) place) ≡ filter test (enumerate_from 0 all)
group_is net all place test enough = elim (cases_lt place (length net.plan.nodes)) [
  | inl within ↦ ap (filter test) (at_range (numbered_at all) 0 (length net.plan.nodes) place place (enumerate_from 0 all) (omega arith) within) ∙ enough
  | inr past ↦ ap (filter test) (past_range (numbered_at all) 0 (length net.plan.nodes) place (enumerate_from 0 all) past)
]

pub nexts_are : (known : WaitsState) (all : List Lane) (a : Lane) (far : Option PortRef) → far_end known.net.plan.cables a.at ≡ far
    → flat_map (next_if known a) (group_behind (all_groups known.net all) (enumerate_from 0 all) far) ≡ nexts (waits_by known) all a
nexts_are known all a None far = sym (ap (map (λ p. p.0)) (no_group known a far (enumerate_from 0 all)))
nexts_are known all a (Some there) far =
    nexts_in known a (group_of (all_groups known.net all) (enumerate_from 0 all) there.node)
    ∙ ap (map (λ p. p.0)) (group_is known.net all there.node (λ p. waits_by known a p.1) (in_group known a there far (enumerate_from 0 all)))

abbrev channels : PortRef → PortRef → ChannelPair
channels a b = record { first = a; second = b }

out_then : (a b first : PortRef) (place : ℕ) (e : Entry) → place ≡ b.node
    → option_map_or (is_same_channels (channels a b)) (then_by first place e) false ≡ (is_same_port a first && is_out b.port e)
out_then a b first place (Out number) here =
    let node : (b.node == place) ≡ true = eq-eqb b.node place (sym here) in
    ap (λ (same : Bool). is_same_port a first && same) (ap (λ (is : Bool). is && (b.port == number)) node ∙ same_either_way b.port number)
out_then a b first place Missing here = sym (and_false (is_same_port a first))
out_then a b first place Unreported here = sym (and_false (is_same_port a first))

-- whatever the second is, the first is the one that is taken
other_then : (a b first : PortRef) (place : ℕ) (e : Entry) → is_same_port a first ≡ false
    → option_map_or (is_same_channels (channels a b)) (then_by first place e) false ≡ false
other_then a b first place (Out number) other = rw other refl
other_then a b first place Missing other = refl
other_then a b first place Unreported other = refl

other_at : (net : NetState) (lid : ℕ) (a b first : PortRef) (far : Option PortRef) → is_same_port a first ≡ false
    → option_map_or (is_same_channels (channels a b)) (then_at net lid first far) false ≡ false
other_at net lid a b first None other = refl
other_at net lid a b first (Some there) other = other_then a b first there.node (entry net lid there.node) other

other_place : (net : NetState) (lid : ℕ) (a b : PortRef) (place : ℕ) (e : Entry) → (a.node == place) ≡ false
    → option_map_or (is_same_channels (channels a b)) (channels_by net lid place e) false ≡ false
other_place net lid a b place (Out number) other =
    other_at net lid a b (port place number) (far_end net.plan.cables (port place number)) (ap (λ (is : Bool). is && (a.port == number)) other)
other_place net lid a b place Missing other = refl
other_place net lid a b place Unreported other = refl

same_place : (net : NetState) (lid : ℕ) (a b there : PortRef) (e : Entry) → far_end net.plan.cables a ≡ Some there → there.node ≡ b.node
    → option_map_or (is_same_channels (channels a b)) (channels_by net lid a.node e) false ≡ (is_out a.port e && is_out b.port (entry net lid b.node))
same_place net lid a b there (Out number) far here = elim (cases_Bool (number == a.port)) [
  | inl is ↦
      let same : number ≡ a.port = grind (arith, nat_tests, is) in
      let itself : is_same_port a a ≡ true = and_from (a.node == a.node) _ (eq-eqb a.node a.node refl) (eq-eqb a.port a.port refl) in
      ap (λ (n : ℕ). option_map_or (is_same_channels (channels a b)) (then_at net lid (port a.node n) (far_end net.plan.cables (port a.node n))) false) same
      ∙ ap (λ (o : Option PortRef). option_map_or (is_same_channels (channels a b)) (then_at net lid a o) false) far
      ∙ out_then a b a there.node (entry net lid there.node) here
      ∙ ap₂ (λ (x y : Bool). x && y) (itself ∙ sym is) (ap (λ (n : ℕ). is_out b.port (entry net lid n)) here)
  | inr other ↦
      let turned : (a.port == number) ≡ false = same_either_way a.port number ∙ other in
      let apart : is_same_port a (port a.node number) ≡ false = ap (λ (is : Bool). (a.node == a.node) && is) turned ∙ and_false (a.node == a.node) in
      other_at net lid a b (port a.node number) (far_end net.plan.cables (port a.node number)) apart
      ∙ ap (λ (is : Bool). is && is_out b.port (entry net lid b.node)) (sym other)
]
same_place net lid a b there Missing far here = refl
same_place net lid a b there Unreported far here = refl

takes_at : (net : NetState) (lid : ℕ) (a b there : PortRef) (place : ℕ) → far_end net.plan.cables a ≡ Some there → there.node ≡ b.node
    → takes_channels net (channels a b) lid place ≡ ((a.node == place) && leaves_by_both net a b lid)
takes_at net lid a b there place far here = elim (cases_Bool (a.node == place)) [
  | inl is ↦
      let same : place ≡ a.node = grind (arith, nat_tests, is) in
      ap (takes_channels net (channels a b) lid) same ∙ same_place net lid a b there (entry net lid a.node) far here
      ∙ ap (λ (at : Bool). at && leaves_by_both net a b lid) (sym is)
  | inr other ↦ other_place net lid a b place (entry net lid place) other ∙ ap (λ (at : Bool). at && leaves_by_both net a b lid) (sym other)
]

any_alike : (p q : ℕ → Bool) → ((x : ℕ) → p x ≡ q x) → (xs : List ℕ) → list_any p xs ≡ list_any q xs
any_alike p q same [] = refl
any_alike p q same (x ∷ xs) = ap₂ (λ (a b : Bool). a || b) (same x) (any_alike p q same xs)

-- ---- looked for at each node
not_there : (n : ℕ) (holds : Bool) (low many : ℕ) → holds ≡ false → list_any (λ place. (n == place) && holds) (range_with_len low many) ≡ false
not_there n holds low zero none = refl
not_there n holds low (suc many) none =
    ap₂ (λ (a b : Bool). a || b) (ap (λ (is : Bool). (n == low) && is) none ∙ and_false (n == low)) (not_there n holds (low + 1) many none)

only_there : (n : ℕ) (holds : Bool) (low many : ℕ) → low ≤ n → n < low + many → list_any (λ place. (n == place) && holds) (range_with_len low many) ≡ holds
only_there n holds low zero from to = absurd (omega (arith, from, to))
only_there n holds low (suc many) from to = elim (cases_Bool (n == low)) [
  | inl here ↦ rw here (or_past holds (list_any (λ place. (n == place) && holds) (range_with_len (low + 1) many)) (implied holds (low + 1) many))
  | inr other ↦
      let apart : low ≡ n → ⊥ = (λ same. let is : (n == low) ≡ true = eq-eqb n low (sym same) in false≢true (sym other ∙ is)) in
      rw other (only_there n holds (low + 1) many (omega (arith, from, apart)) (omega (arith, to)))
]
  where
    or_past : (a b : Bool) → (a ≡ false → b ≡ false) → (a || b) ≡ a
    or_past true b past = refl
    or_past false b past = past refl

    implied : (is : Bool) (start count : ℕ) → is ≡ false → list_any (λ place. (n == place) && is) (range_with_len start count) ≡ false
    implied is start count none = not_there n is start count none

lid_takes_is : (net : NetState) (a b there : PortRef) (lid : ℕ) → far_end net.plan.cables a ≡ Some there → there.node ≡ b.node
    → lid_takes net (channels a b) lid ≡ leaves_by_both net a b lid
lid_takes_is net a b there lid far here =
    let count = length net.plan.nodes in
    any_alike (takes_channels net (channels a b) lid) (λ place. (a.node == place) && leaves_by_both net a b lid) (λ place. takes_at net lid a b there place far here) (range_with_len 0 count)
    ∙ elim (cases_lt a.node count) [
      | inl within ↦ only_there a.node (leaves_by_both net a b lid) 0 count (omega arith) (omega (arith, within))
      | inr past ↦
          let none : leaves_by_both net a b lid ≡ false = ap (λ (e : Entry). is_out a.port e && leaves_by net b lid) (no_entry net lid a.node past) in
          not_there a.node (leaves_by_both net a b lid) 0 count none ∙ sym none
    ]

pub unplaced_is : (net : NetState) (lids : List ℕ) (a b : PortRef) (far : Option PortRef) → far_end net.plan.cables a ≡ far → option_map_or (λ t. t.node == b.node) far false ≡ true
    → list_any (lid_takes net (channels a b)) lids ≡ list_any (leaves_by_both net a b) lids
unplaced_is net lids a b None far leads = absurd (false≢true leads)
unplaced_is net lids a b (Some there) far leads =
    let here : there.node ≡ b.node = grind (arith, nat_tests, leads) in
    any_alike (lid_takes net (channels a b)) (leaves_by_both net a b) (λ lid. lid_takes_is net a b there lid far here) lids
