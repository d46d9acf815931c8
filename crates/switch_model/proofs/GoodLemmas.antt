-- A switch is good at power-up, stays so, and what it gives fills an attribute.
use Rattle.std.proofs.Common.{ℕ, ◌≡◌, ◌+◌, ◌<◌, ◌≤◌, ◌^◌, nat_lt, true, List, [], ◌∷◌, length, drop, replicate, Ok, ◌∙◌, refl, subst, arith}
use Rattle.std.specs.List.{All}
use Rattle.std.proofs.Math.ListN.{length-set}
use Rattle.std.proofs.lemmas.List.{length-replicate}
use Rattle.std.proofs.lemmas.List.Elements.{All-cons, All-nil, All-replicate, All-set}
use Rattle.mad_layout.specs.Layout.{Fits}
use Rattle.mad_layout.specs.declared.status.MadStatus.TheVariants.{InvalidField}
use Rattle.mad_layout.proofs.LayoutLemmas.{field_narrow, fits_both, fits_drop, fits_take}
use Rattle.fabric_parts.specs.declared.node_type.NodeType.TheVariants.{Switch}
use Rattle.attr_tables.specs.Attribute.{IsAttribute}
use Rattle.attr_tables.specs.Blocks.{block_of, has_block}
use Rattle.attr_tables.specs.PortInfo.{port_info_bytes}
use Rattle.attr_tables.specs.SwitchInfo.{switch_info}
use Rattle.attr_tables.specs.declared.smp_attribute.SmpAttribute.{SmpAttribute}
use Rattle.attr_tables.specs.declared.smp_attribute.SmpAttribute.TheVariants.{NodeDescription, NodeInfo, SwitchInfo, PortInfo, PKeyTable}
use Rattle.attr_tables.specs.declared.smp_attribute.SmpAttribute.TheVariants.{LinearForwardingTable, MulticastForwardingTable}
use Rattle.attr_tables.specs.declared.switch_info.SwitchInfo.{SwitchInfo as Info}
use Rattle.attr_tables.proofs.AttributeLemmas.{attributes}
use Rattle.step_results.proofs.ListLemmas.{all_alike, all_have}
use Rattle.step_results.proofs.StepLemmas.{bind_done, bind_ok}
use Rattle.agent_rules.specs.Agent.{shown_at, word_block}
use Rattle.agent_rules.specs.Carried.{linear_fdb_top_in}
use Rattle.agent_rules.specs.Good.{IsTable}
use Rattle.agent_rules.specs.PowerUp.{switch_info_at_power_up}
use Rattle.agent_rules.specs.Request.{data_of, modifier_of}
use Rattle.agent_rules.specs.declared.link.PortLink.{PortLink}
use Rattle.agent_rules.specs.declared.link.PortLink.TheVariants.{Internal}
use Rattle.agent_rules.proofs.AgentLemmas.{after_cases}
use Rattle.agent_rules.proofs.GivenLemmas.{block_is, whole_is, words_are}
use Rattle.agent_rules.proofs.GoodLemmas.{new_info_good, new_keys_good, ports_keep, settings_keep_good, words_keep}
use Rattle.agent_rules.proofs.GuardLemmas.{taken_ok}
use Rattle.pkey_rules.specs.declared.key_table.TheConstants.{PARTITIONS}
use Rattle.switch_model.specs.Agent.{agent_after, get, key_block, key_port, mask_block, mask_position, masks_at, part_at, set}
use Rattle.switch_model.specs.Good.{IsGoodPort, IsGoodSwitch}
use Rattle.switch_model.specs.Laws.{GoodSwitchesGiveAttributes, NewSwitchesAreGood, SmpsKeepGood}
use Rattle.switch_model.specs.SwitchState.{SwitchState, port_at_power_up, ports_from}
use Rattle.switch_model.specs.declared.switch_port.SwitchPort.{SwitchPort}
use Rattle.switch_model.proofs.AgentLemmas.{keys_are_set, linear_is_set, masks_are_set, part_is, port_set, top_set}

top_fits : (info : Info) (top : ℕ) → Fits (switch_info info) → top < 2 ^ 16 → Fits (switch_info (record info { linear_fdb_top = top }))
top_fits info top fits small =
    let old = switch_info info in
    let new = switch_info (record info { linear_fdb_top = top }) in
    fits_both 3 new (fits_take 3 old fits) (fits_both 1 (drop 3 new) (small, tt) (fits_drop 4 old fits))

-- ---- what a Set leads to
port_good : (ports : List SwitchPort) (number : ℕ) (port : SwitchPort) → All IsGoodPort ports → part_at number ports ≡ Ok port → IsGoodPort port
port_good ports number port all there = all_have IsGoodPort ports number port all (part_is number ports port there)

set_good : (lids multicast_lids : ℕ) (held next : SwitchState) (attribute : SmpAttribute) (modifier : ℕ) (wanted : List ℕ)
    → IsGoodSwitch lids multicast_lids held → set held attribute modifier wanted ≡ Ok next → IsGoodSwitch lids multicast_lids next
unfolding set
set_good lids multicast_lids held next PortInfo modifier wanted good h =
    let s = port_set held next modifier wanted h in
    let was = port_good held.ports modifier s.port good.ports s.there in
    let is : IsGoodPort (record s.port { info = s.after }) = record { info = settings_keep_good (nat_lt 0 modifier) s.port.info s.after wanted was.info s.taken; keys = was.keys } in
    subst (IsGoodSwitch lids multicast_lids) s.same (record {
      description = good.description;
      info = good.info;
      ports = All-set IsGoodPort held.ports modifier (record s.port { info = s.after }) is good.ports;
      linear = good.linear;
      positions = good.positions;
      masks = good.masks;
    })
set_good lids multicast_lids held next PKeyTable modifier wanted good h =
    let s = keys_are_set held next modifier wanted h in
    let was = port_good held.ports (key_port modifier) s.port good.ports s.there in
    let is : IsGoodPort (record s.port { keys = s.after }) = record { info = was.info; keys = words_keep PARTITIONS (key_block modifier) wanted s.port.keys s.after was.keys s.taken } in
    subst (IsGoodSwitch lids multicast_lids) s.same (record {
      description = good.description;
      info = good.info;
      ports = All-set IsGoodPort held.ports (key_port modifier) (record s.port { keys = s.after }) is good.ports;
      linear = good.linear;
      positions = good.positions;
      masks = good.masks;
    })
set_good lids multicast_lids held next SwitchInfo modifier wanted good h =
    let s = top_set held next modifier wanted h in
    subst (IsGoodSwitch lids multicast_lids) s.same (record {
      description = good.description;
      info = top_fits held.info (linear_fdb_top_in wanted) good.info (field_narrow wanted 48 16);
      ports = good.ports;
      linear = good.linear;
      positions = good.positions;
      masks = good.masks;
    })
set_good lids multicast_lids held next LinearForwardingTable modifier wanted good h =
    let s = linear_is_set held next modifier wanted h in
    subst (IsGoodSwitch lids multicast_lids) s.same (record {
      description = good.description;
      info = good.info;
      ports = good.ports;
      linear = ports_keep lids modifier wanted held.linear good.linear s.there;
      positions = good.positions;
      masks = good.masks;
    })
set_good lids multicast_lids held next MulticastForwardingTable modifier wanted good h =
    let s = masks_are_set held next modifier wanted h in
    let p = mask_position modifier in
    let was = all_have (IsTable multicast_lids 65536) held.masks p s.words good.masks (part_is p held.masks s.words s.there) in
    subst (IsGoodSwitch lids multicast_lids) s.same (record {
      description = good.description;
      info = good.info;
      ports = good.ports;
      linear = good.linear;
      positions = length-set held.masks p s.after ∙ good.positions;
      masks = All-set (IsTable multicast_lids 65536) held.masks p s.after (words_keep multicast_lids (mask_block modifier) wanted s.words s.after was s.taken) good.masks;
    })
set_good lids multicast_lids held next NodeDescription modifier wanted good h = absurd (cc)
set_good lids multicast_lids held next NodeInfo modifier wanted good h = absurd (cc)

pub smps_keep_good : SmpsKeepGood
unfolding agent_after
smps_keep_good lids multicast_lids held smp good =
    after_cases set held smp (IsGoodSwitch lids multicast_lids) good
    (λ attribute next asked h. set_good lids multicast_lids held next attribute (modifier_of smp) (data_of smp) good h)

-- ---- at power-up
ports_good : (number : ℕ) (links : List PortLink) → number + length links ≤ 256 → All IsGoodPort (ports_from number links)
ports_good number [] few = All-nil IsGoodPort
ports_good number (link ∷ links) few =
    All-cons IsGoodPort (port_at_power_up number link) (ports_from (number + 1) links)
    (record { info = new_info_good Switch number link (omega (arith, few)); keys = new_keys_good })
    (ports_good (number + 1) links (omega (arith, few)))

table_good : (entries limit entry : ℕ) → nat_lt entry limit ≡ true → IsTable entries limit (replicate entries entry)
table_good entries limit entry below = record {
  count = length-replicate entries entry;
  below = all_alike (λ one. nat_lt one limit) entry entries below;
}

info_good : (lids multicast_lids : ℕ) → lids < 65536 → multicast_lids < 65536
    → Fits (switch_info (record switch_info_at_power_up { linear_fdb_cap = lids; multicast_fdb_cap = multicast_lids }))
info_good lids multicast_lids few multicast_few = (
  few,
  (
    omega arith,
    (
      multicast_few,
      (
        omega arith,
        (
          omega arith,
          (
            omega arith,
            (
              omega arith,
              (
                omega arith,
                (
                  omega arith,
                  (omega arith, (omega arith, (omega arith, (omega arith, (omega arith, (omega arith, (omega arith, tt))))))),
                ),
              ),
            ),
          ),
        ),
      ),
    ),
  ),
)

pub new_switches_good : NewSwitchesAreGood
new_switches_good node_guid description links lids multicast_lids is few lids_few multicast_few = record {
  description = is;
  info = info_good lids multicast_lids lids_few multicast_few;
  ports = ports_good 0 (Internal ∷ links) (omega (arith, few));
  linear = table_good lids 256 255 refl;
  positions = refl;
  masks = All-replicate (IsTable multicast_lids 65536) 3 (replicate multicast_lids 0) (table_good multicast_lids 65536 0 refl);
}

-- ---- what is given
pub give_attributes : GoodSwitchesGiveAttributes
unfolding get
give_attributes lids multicast_lids in_port held NodeDescription modifier bytes good h = whole_is modifier held.description bytes good.description h
give_attributes lids multicast_lids in_port held NodeInfo modifier bytes good h = whole_is modifier _ bytes (attributes.node_info _) h
give_attributes lids multicast_lids in_port held SwitchInfo modifier bytes good h = whole_is modifier _ bytes (attributes.switch_info held.info) h
give_attributes lids multicast_lids in_port held PortInfo modifier bytes good h =
    let b = bind_done (part_at modifier held.ports) (λ port. port_info_bytes (shown_at in_port port.info)) bytes h in
    subst IsAttribute b.2 (attributes.port_info (shown_at in_port b.0.info))
give_attributes lids multicast_lids in_port held PKeyTable modifier bytes good h =
    let b = bind_ok (part_at (key_port modifier) held.ports) (λ port. word_block (key_block modifier) port.keys) bytes h in
    words_are (key_block modifier) b.0.keys bytes b.2
give_attributes lids multicast_lids in_port held LinearForwardingTable modifier bytes good h =
    let t = taken_ok (has_block 64 modifier held.linear) (block_of 64 modifier held.linear) bytes InvalidField h in
    subst IsAttribute t.1 (block_is modifier held.linear good.linear.below t.0)
give_attributes lids multicast_lids in_port held MulticastForwardingTable modifier bytes good h =
    let b = bind_ok (masks_at modifier held.masks) (λ words. word_block (mask_block modifier) words) bytes h in
    words_are (mask_block modifier) b.0 bytes b.2
