-- What an SMP changes of a switch, case by case.
use Rattle.std.proofs.Common.{◌≡◌, ℕ, zero, suc, ◌⊎◌, inl, inr, nat_lt, slice_get, slice_set, Some, Ok, List, [], ◌∷◌, get_or, refl, subst}
use Rattle.std.proofs.Math.ListN.{length-set}
use Rattle.attr_tables.specs.declared.port_info.PortInfo.{PortInfo as Port}
use Rattle.attr_tables.specs.declared.smp_attribute.SmpAttribute.{SmpAttribute}
use Rattle.attr_tables.specs.declared.smp_attribute.SmpAttribute.TheVariants.{NodeDescription, NodeInfo, SwitchInfo, PortInfo, PKeyTable}
use Rattle.attr_tables.specs.declared.smp_attribute.SmpAttribute.TheVariants.{LinearForwardingTable, MulticastForwardingTable}
use Rattle.agent_rules.specs.Agent.{set_word_block}
use Rattle.agent_rules.specs.PortSetting.{port_info_after, port_setting}
use Rattle.agent_rules.specs.Request.{attribute_asked, data_of, modifier_of}
use Rattle.agent_rules.proofs.AgentLemmas.{after_cases}
use Rattle.agent_rules.proofs.PortSettingLemmas.{down_stays, unsettable_stays}
use Rattle.agent_rules.proofs.TableLemmas.{no_difference, words_differ}
use Rattle.switch_model.specs.declared.switch_port.SwitchPort.{SwitchPort}
use Rattle.switch_model.specs.Agent.{agent_after, key_block, key_port, mask_block, mask_position, part_at, set}
use Rattle.switch_model.specs.Changes.{ChangesAtMost, MasksChangeAtMost, PortChangesAtMost}
use Rattle.switch_model.specs.SwitchState.{SwitchState}
use Rattle.switch_model.proofs.AgentLemmas.{keys_are_set, linear_differs, linear_is_set, masks_are_set, part_is, port_set, top_set}

-- where one part is set, all parts change at most as that one may
each_part : {X : Type 0} (parts : List X) (number : ℕ) (part next none : X) (P : ℕ → X → X → Type 0)
    → slice_get parts number ≡ Some part → ((k : ℕ) (x : X) → P k x x) → P number part next → (k : ℕ)
    → P k (get_or parts k none) (get_or (slice_set parts number next) k none)
each_part [] number part next none P there same here k = absurd (cc)
each_part (x ∷ parts) zero part next none P there same here zero =
    let e : part ≡ x = cc in
    let Q : _ → Type 0 = λ y. P 0 y next in
    subst Q e here
each_part (x ∷ parts) zero part next none P there same here (suc k) = same (suc k) (get_or parts k none)
each_part (x ∷ parts) (suc number) part next none P there same here zero = same 0 x
each_part (x ∷ parts) (suc number) part next none P there same here (suc k) =
    each_part parts number part next none (λ i. P (suc i)) there (λ i. same (suc i)) here k

port_same : (smp : List ℕ) (number : ℕ) (port : SwitchPort) → PortChangesAtMost smp number port port
port_same smp number port =
    record {
      info = λ other. refl;
      unsettable = refl;
      down = refl;
      keys = λ other. refl;
      key_block = no_difference 32 (key_block (modifier_of smp)) port.keys;
    }

masks_same : (smp : List ℕ) (position : ℕ) (masks : List ℕ) → MasksChangeAtMost smp position masks masks
masks_same smp position masks =
    record { masks = λ other. refl; block = no_difference 32 (mask_block (modifier_of smp)) masks }

-- what is not of this attribute or not of this part cannot be both
neither : {X : Type 0} {A B : Type 0} → A → B → (A → ⊥) ⊎ (B → ⊥) → X
neither a b (inl not_a) = absurd (not_a a)
neither a b (inr not_b) = absurd (not_b b)

info_changes : (smp : List ℕ) (port : SwitchPort) (info : Port) → attribute_asked smp ≡ Ok PortInfo
    → port_info_after (nat_lt 0 (modifier_of smp)) port.info (port_setting (data_of smp)) ≡ Ok info
    → PortChangesAtMost smp (modifier_of smp) port (record port { info = info })
info_changes smp port info is taken =
    record {
      info = λ other. neither is refl other;
      unsettable = unsettable_stays (nat_lt 0 (modifier_of smp)) port.info (port_setting (data_of smp)) info taken;
      down = down_stays (nat_lt 0 (modifier_of smp)) port.info (port_setting (data_of smp)) info taken;
      keys = λ other. refl;
      key_block = no_difference 32 (key_block (modifier_of smp)) port.keys;
    }

keys_change : (smp : List ℕ) (port : SwitchPort) (keys : List ℕ) → attribute_asked smp ≡ Ok PKeyTable
    → set_word_block (key_block (modifier_of smp)) (data_of smp) port.keys ≡ Ok keys
    → PortChangesAtMost smp (key_port (modifier_of smp)) port (record port { keys = keys })
keys_change smp port keys is taken =
    record {
      info = λ other. refl;
      unsettable = refl;
      down = refl;
      keys = λ other. neither is refl other;
      key_block = words_differ (key_block (modifier_of smp)) (data_of smp) port.keys keys taken;
    }

masks_change : (smp words masks : List ℕ) → attribute_asked smp ≡ Ok MulticastForwardingTable
    → set_word_block (mask_block (modifier_of smp)) (data_of smp) words ≡ Ok masks
    → MasksChangeAtMost smp (mask_position (modifier_of smp)) words masks
masks_change smp words masks is taken =
    record { masks = λ other. neither is refl other; block = words_differ (mask_block (modifier_of smp)) (data_of smp) words masks taken }

nothing_changes : (held : SwitchState) (smp : List ℕ) → ChangesAtMost held held smp
nothing_changes held smp =
    record {
      node_guid = refl;
      description = refl;
      num_ports = refl;
      info = λ other. refl;
      top = refl;
      ports = λ number none. port_same smp number (get_or held.ports number none);
      linear = λ other. refl;
      linear_block = no_difference 64 (modifier_of smp) held.linear;
      positions = refl;
      masks = λ position. masks_same smp position (get_or held.masks position []);
    }

-- the list of ports with one of them set
ports_change : (held : SwitchState) (smp : List ℕ) (number : ℕ) (port next : SwitchPort)
    → part_at number held.ports ≡ Ok port → PortChangesAtMost smp number port next
    → ChangesAtMost held (record held { ports = slice_set held.ports number next }) smp
ports_change held smp number port next there here =
    record {
      node_guid = refl;
      description = refl;
      num_ports = length-set held.ports number next;
      info = λ other. refl;
      top = refl;
      ports = λ k none. each_part held.ports number port next none (PortChangesAtMost smp) (part_is number held.ports port there) (port_same smp) here k;
      linear = λ other. refl;
      linear_block = no_difference 64 (modifier_of smp) held.linear;
      positions = refl;
      masks = λ position. masks_same smp position (get_or held.masks position []);
    }

set_changes : (held next : SwitchState) (smp : List ℕ) (attribute : SmpAttribute) → attribute_asked smp ≡ Ok attribute
    → set held attribute (modifier_of smp) (data_of smp) ≡ Ok next → ChangesAtMost held next smp
unfolding set
set_changes held next smp PortInfo is h =
    let s = port_set held next (modifier_of smp) (data_of smp) h in
    let P : SwitchState → Type 0 = λ x. ChangesAtMost held x smp in
    subst P s.same (ports_change held smp (modifier_of smp) s.port (record s.port { info = s.after }) s.there (info_changes smp s.port s.after is s.taken))
set_changes held next smp PKeyTable is h =
    let s = keys_are_set held next (modifier_of smp) (data_of smp) h in
    let P : SwitchState → Type 0 = λ x. ChangesAtMost held x smp in
    subst P s.same (ports_change held smp (key_port (modifier_of smp)) s.port (record s.port { keys = s.after }) s.there (keys_change smp s.port s.after is s.taken))
set_changes held next smp SwitchInfo is h =
    let s = top_set held next (modifier_of smp) (data_of smp) h in
    let P : SwitchState → Type 0 = λ x. ChangesAtMost held x smp in
    subst P s.same (record {
      node_guid = refl;
      description = refl;
      num_ports = refl;
      info = λ other. absurd (other is);
      top = refl;
      ports = λ number none. port_same smp number (get_or held.ports number none);
      linear = λ other. refl;
      linear_block = no_difference 64 (modifier_of smp) held.linear;
      positions = refl;
      masks = λ position. masks_same smp position (get_or held.masks position []);
    })
set_changes held next smp LinearForwardingTable is h =
    let s = linear_is_set held next (modifier_of smp) (data_of smp) h in
    let P : SwitchState → Type 0 = λ x. ChangesAtMost held x smp in
    subst P s.same (record {
      node_guid = refl;
      description = refl;
      num_ports = refl;
      info = λ other. refl;
      top = refl;
      ports = λ number none. port_same smp number (get_or held.ports number none);
      linear = λ other. absurd (other is);
      linear_block = linear_differs (modifier_of smp) (data_of smp) held.linear s.there;
      positions = refl;
      masks = λ position. masks_same smp position (get_or held.masks position []);
    })
set_changes held next smp MulticastForwardingTable is h =
    let s = masks_are_set held next (modifier_of smp) (data_of smp) h in
    let p = mask_position (modifier_of smp) in
    let P : SwitchState → Type 0 = λ x. ChangesAtMost held x smp in
    subst P s.same (record {
      node_guid = refl;
      description = refl;
      num_ports = refl;
      info = λ other. refl;
      top = refl;
      ports = λ number none. port_same smp number (get_or held.ports number none);
      linear = λ other. refl;
      linear_block = no_difference 64 (modifier_of smp) held.linear;
      positions = length-set held.masks p s.after;
      masks = λ position. each_part held.masks p s.words s.after [] (MasksChangeAtMost smp)
          (part_is p held.masks s.words s.there) (masks_same smp) (masks_change smp s.words s.after is s.taken)
          position;
    })
set_changes held next smp NodeDescription is h = absurd (cc)
set_changes held next smp NodeInfo is h = absurd (cc)

pub changes_at_most : (held : SwitchState) (smp : List ℕ) → ChangesAtMost held (agent_after held smp) smp
unfolding agent_after
changes_at_most held smp =
    let P : SwitchState → Type 0 = λ x. ChangesAtMost held x smp in
    after_cases set held smp P (nothing_changes held smp) (λ attribute next is h. set_changes held next smp attribute is h)
