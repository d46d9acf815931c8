-- Channels leave switches, and lead to switches.
use Rattle.std.proofs.Common.{ℕ, ◌≡◌, ◌==◌, ◌&&◌, ◌∙◌, inl, inr, ap, refl, Bool, true, false, List, [], ◌∷◌, filter, flat_map, length, map, Option, Some, None}
use Rattle.std.specs.List.{list_all, list_any, range_with_len}
use Rattle.std.specs.Option.{option_map_or}
use Rattle.std.proofs.lemmas.Bool.{and_from, and_parts, eqb-true, false≢true, or_cases}
use Rattle.fabric_parts.specs.Cable.{far_end, is_same_port, port}
use Rattle.fabric_parts.specs.declared.cable.PortRef.{PortRef}
use Rattle.step_results.proofs.ListLemmas.{all_joined, list_all_weaker}
use Rattle.smp_wire.proofs.CableLemmas.{same_port}
use Rattle.topo_file.specs.Connectivity.{switches}
use Rattle.topo_file.specs.Node.{is_switch_at, ports_at}
use Rattle.audit_loops.specs.Channels.{channels, channels_of, is_channel, leads_to}
use Rattle.audit_loops.specs.Laws.{are_channels}
use Rattle.audit_net.specs.Net.{NetState}

-- ---- lists
pub kept : {X : Type 0} (p : X → Bool) (xs : List X) → list_all p (filter p xs) ≡ true
kept p [] = refl
kept p (x ∷ xs) = by (p x) refl (kept p xs)
  where
    by : (b : Bool) → p x ≡ b → list_all p (filter p xs) ≡ true → list_all p (filter p (x ∷ xs)) ≡ true
    by true is rest = rw is (and_from (p x) _ is rest)
    by false is rest = rw is rest

pub all_flat : {X Y : Type 0} (p : X → Bool) (q : Y → Bool) (f : X → List Y) (xs : List X) → ((x : X) → p x ≡ true → list_all q (f x) ≡ true)
    → list_all p xs ≡ true → list_all q (flat_map f xs) ≡ true
all_flat p q f [] each all = refl
all_flat p q f (x ∷ xs) each all =
    let parts = and_parts (p x) _ all in all_joined q (f x) (flat_map f xs) (each x parts.0) (all_flat p q f xs each parts.1)

-- ---- where a cable leads
pub leads_by : (net : NetState) (a : PortRef) (node : ℕ) → leads_to net a node ≡ true → (there : PortRef) × (far_end net.plan.cables a ≡ Some there) × (there.node ≡ node)
leads_by net a node leads = by (far_end net.plan.cables a) refl leads
  where
    by : (o : Option PortRef) → far_end net.plan.cables a ≡ o → option_map_or (λ there. there.node == node) o false ≡ true
        → (there : PortRef) × (far_end net.plan.cables a ≡ Some there) × (there.node ≡ node)
    by None far is = absurd (false≢true is)
    by (Some there) far is = (there, far, eqb-true there.node node is)

module _ (net : NetState) where
  -- a port of a switch that leads to a switch
  abbrev pub is_proper : PortRef → Bool
  is_proper at = is_switch_at net.plan.nodes at.node && is_channel net at

  pub proper_leads : (at : PortRef) → is_proper at ≡ true
      → (there : PortRef) × (far_end net.plan.cables at ≡ Some there) × (is_switch_at net.plan.nodes there.node ≡ true)
  proper_leads at proper = by (far_end net.plan.cables at) refl (and_parts (is_switch_at net.plan.nodes at.node) _ proper).1
    where
      by : (o : Option PortRef) → far_end net.plan.cables at ≡ o → option_map_or (λ there. is_switch_at net.plan.nodes there.node) o false ≡ true
          → (there : PortRef) × (far_end net.plan.cables at ≡ Some there) × (is_switch_at net.plan.nodes there.node ≡ true)
      by None far is = absurd (false≢true is)
      by (Some there) far is = (there, far, is)

  -- ---- channels are that
  of_one : (place : ℕ) → is_switch_at net.plan.nodes place ≡ true → (numbers : List ℕ)
      → list_all is_proper (filter (is_channel net) (map (port place) numbers)) ≡ true
  of_one place switch [] = refl
  of_one place switch (number ∷ numbers) = by (is_channel net (port place number)) refl (of_one place switch numbers)
    where
      by : (b : Bool) → is_channel net (port place number) ≡ b → list_all is_proper (filter (is_channel net) (map (port place) numbers)) ≡ true
          → list_all is_proper (filter (is_channel net) (port place number ∷ map (port place) numbers)) ≡ true
      by true is rest = rw is (and_from (is_proper (port place number)) _ (and_from (is_switch_at net.plan.nodes place) _ switch is) rest)
      by false is rest = rw is rest

  all_proper : list_all is_proper (channels net) ≡ true
  all_proper =
      all_flat (is_switch_at net.plan.nodes) is_proper (channels_of net) (switches net.plan.nodes)
      (λ place switch. of_one place switch (range_with_len 1 (ports_at net.plan.nodes place)))
      (kept (is_switch_at net.plan.nodes) (range_with_len 0 (length net.plan.nodes)))

  among : (at : PortRef) (some : List PortRef) → list_all is_proper some ≡ true → list_any (is_same_port at) some ≡ true → is_proper at ≡ true
  among at [] all there = absurd (false≢true there)
  among at (one ∷ some) all there =
      let parts = and_parts (is_proper one) _ all in
      elim (or_cases (is_same_port at one) _ there) [
        | inl same ↦ ap is_proper (same_port at one same) ∙ parts.0
        | inr later ↦ among at some parts.1 later
      ]

  pub ring_proper : (ring : List PortRef) → are_channels net ring ≡ true → list_all is_proper ring ≡ true
  ring_proper ring are =
      list_all_weaker (λ at. list_any (is_same_port at) (channels net)) is_proper (λ at there. among at (channels net) all_proper there) ring are
