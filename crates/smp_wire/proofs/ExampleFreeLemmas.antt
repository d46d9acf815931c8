-- That no switch of a fabric holds back what a port would accept, by tests that compute: of a port, and of the one at the far
-- end of its cable.
use Rattle.std.proofs.Common.{ℕ, ◌≡◌, ◌==◌, refl, subst, not, ◌&&◌, ◌||◌, Bool, true, false, List, [], ◌∷◌, flat_map, Some}
use Rattle.std.specs.List.{list_all}
use Rattle.std.specs.Option.{option_map_or}
use Rattle.std.proofs.lemmas.Bool.{and_parts, eqb-true}
use Rattle.fabric_parts.specs.declared.cable.Cable.{Cable}
use Rattle.fabric_parts.specs.declared.cable.PortRef.{PortRef}
use Rattle.fabric_parts.specs.Cable.{far_end, is_same_port}
use Rattle.pkey_rules.specs.KeyTable.{holds}
use Rattle.pkey_rules.specs.PKey.{full_form}
use Rattle.pkey_rules.specs.StoredKeys.{stored_keys}
use Rattle.port_model.specs.AdapterState.{AdapterState}
use Rattle.switch_model.specs.declared.switch_port.SwitchPort.{SwitchPort}
use Rattle.smp_wire.proofs.CableLemmas.{far_ends_meet}
use Rattle.step_results.proofs.DistinctLemmas.{all_differ, distinct}
use Rattle.smp_wire.specs.FabricState.{FabricState, is_switch_at}
use Rattle.smp_wire.specs.Good.{ends_of, is_right}
use Rattle.smp_wire.specs.declared.node.Node.{Node}
use Rattle.smp_wire.specs.Deliveries.{adapter_at}
use Rattle.smp_wire.specs.Forwards.{HoldsBackNothing, switch_port_at}

-- ---- tests of both ends of a cable
abbrev pub from_both : (PortRef → PortRef → Bool) → Cable → Bool
from_both test cable = test cable.first cable.second && test cable.second cable.first

pub both_meet : (cables : List Cable) (test : PortRef → PortRef → Bool) (a b : PortRef) → list_all (from_both test) cables ≡ true
    → far_end cables a ≡ Some b → test a b ≡ true
both_meet cables test a b all far =
    far_ends_meet (λ one other. test one other ≡ true) (from_both test) (λ cable is. and_parts (test cable.first cable.second) _ is) cables a b all far

-- ---- enforcement
module _ (nodes : List Node) where
  abbrev holds_full : SwitchPort → AdapterState → Bool
  holds_full mine port = list_all (λ key. holds (full_form key) (stored_keys mine.keys)) (stored_keys port.keys)

  abbrev faces : PortRef → PortRef → Bool
  faces here at = option_map_or (λ mine. option_map_or (holds_full mine) (adapter_at nodes at) true) (switch_port_at nodes here) true

  abbrev is_free : SwitchPort → Bool
  is_free mine = not mine.info.partition_enforcement_inbound && not mine.info.partition_enforcement_outbound

  abbrev lets_pass : PortRef → PortRef → Bool
  lets_pass here at = option_map_or (λ mine. not (is_switch_at nodes at.node) || is_free mine) (switch_port_at nodes here) true

  abbrev pub is_open : PortRef → PortRef → Bool
  is_open here at = faces here at && lets_pass here at

  held_key : (test : ℕ → Bool) (key : ℕ) (keys : List ℕ) → list_all test keys ≡ true → holds key keys ≡ true → test key ≡ true
  held_key test key [] all is = absurd (cc)
  held_key test key (one ∷ keys) all is =
      let parts = and_parts (test one) _ all in
      by (one == key) refl parts.0 (λ later. held_key test key keys parts.1 later) is
    where
      by : (b : Bool) → (one == key) ≡ b → test one ≡ true → (holds key keys ≡ true → test key ≡ true) → (b || holds key keys) ≡ true → test key ≡ true
      by true same here later any = subst (λ (k : ℕ). test k ≡ true) (eqb-true one key same) here
      by false same here later any = later any

  module _ (cables : List Cable) (all : list_all (from_both is_open) cables ≡ true) where
    at_ends : (here at : PortRef) → far_end cables here ≡ Some at → (faces here at ≡ true) × (lets_pass here at ≡ true)
    at_ends here at far = and_parts (faces here at) _ (both_meet cables is_open here at all far)

    facing_by : (here at : PortRef) (mine : SwitchPort) (port : AdapterState) (key : ℕ) → switch_port_at nodes here ≡ Some mine
        → far_end cables here ≡ Some at → adapter_at nodes at ≡ Some port
        → holds key (stored_keys port.keys) ≡ true → holds (full_form key) (stored_keys mine.keys) ≡ true
    facing_by here at mine port key is far there held =
        held_key (λ key. holds (full_form key) (stored_keys mine.keys)) key (stored_keys port.keys) (rw (is, there) at (at_ends here at far).0) held

    between_by : (here at : PortRef) (mine : SwitchPort) → switch_port_at nodes here ≡ Some mine
        → far_end cables here ≡ Some at → is_switch_at nodes at.node ≡ true
        → (mine.info.partition_enforcement_inbound ≡ false) × (mine.info.partition_enforcement_outbound ≡ false)
    between_by here at mine is far switch =
        let free : is_free mine ≡ true = rw (is, switch) at (at_ends here at far).1 in
        let parts = and_parts (not mine.info.partition_enforcement_inbound) _ free in
        (none mine.info.partition_enforcement_inbound parts.0, none mine.info.partition_enforcement_outbound parts.1)
      where
        none : (b : Bool) → not b ≡ true → b ≡ false
        none true is = absurd (cc)
        none false is = refl

-- ---- all of it
pub holds_back_nothing : (fabric : FabricState) → list_all (is_right fabric.nodes) fabric.cables ≡ true
    → all_differ is_same_port (flat_map ends_of fabric.cables) ≡ true → list_all (from_both (is_open fabric.nodes)) fabric.cables ≡ true
    → HoldsBackNothing fabric
holds_back_nothing fabric right differ all = record {
  cables = right;
  once = distinct is_same_port _ differ;
  facing = facing_by fabric.nodes fabric.cables all;
  between = between_by fabric.nodes fabric.cables all;
}
