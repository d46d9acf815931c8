-- What a port gives and takes, case by case.
use Rattle.std.proofs.Common.{◌≡◌, ℕ, true, false, Ok, List, refl, subst}
use Rattle.mad_layout.specs.declared.status.MadStatus.TheVariants.{InvalidField}
use Rattle.attr_tables.specs.declared.port_info.PortInfo.{PortInfo as Info}
use Rattle.attr_tables.specs.declared.smp_attribute.SmpAttribute.{SmpAttribute}
use Rattle.attr_tables.specs.declared.smp_attribute.SmpAttribute.TheVariants.{NodeDescription, NodeInfo, SwitchInfo, PortInfo, PKeyTable}
use Rattle.attr_tables.specs.declared.smp_attribute.SmpAttribute.TheVariants.{LinearForwardingTable, MulticastForwardingTable}
use Rattle.agent_rules.specs.Agent.{shown_at, set_word_block}
use Rattle.attr_tables.specs.Attribute.{IsAttribute}
use Rattle.attr_tables.specs.PortInfo.{port_info_bytes}
use Rattle.attr_tables.proofs.AttributeLemmas.{attributes}
use Rattle.fabric_parts.specs.declared.node_type.NodeType.TheVariants.{ChannelAdapter}
use Rattle.pkey_rules.specs.declared.key_table.TheConstants.{PARTITIONS}
use Rattle.agent_rules.specs.PortSetting.{port_info_after, port_setting}
use Rattle.agent_rules.specs.Request.{attribute_asked, data_of, modifier_of}
use Rattle.step_results.proofs.StepLemmas.{bind_done, let_through}
use Rattle.agent_rules.proofs.GivenLemmas.{whole_is, words_are}
use Rattle.agent_rules.proofs.GoodLemmas.{new_info_good, new_keys_good, settings_keep_good, words_keep}
use Rattle.agent_rules.proofs.GuardLemmas.{passed, taken_ok}
use Rattle.agent_rules.proofs.AgentLemmas.{Shows, after_cases}
use Rattle.agent_rules.proofs.PortSettingLemmas.{down_stays, unsettable_stays}
use Rattle.agent_rules.proofs.TableLemmas.{no_difference, words_differ, words_shown}
use Rattle.port_model.specs.AdapterState.{AdapterState}
use Rattle.port_model.specs.Agent.{agent_after, get, is_own, set, set_port_info}
use Rattle.port_model.specs.Changes.{ChangesAtMost}
use Rattle.port_model.specs.Good.{IsGoodPort}
use Rattle.port_model.specs.Laws.{GoodPortsGiveAttributes, NewPortsAreGood, SmpsKeepGood}

-- what a Set of PortInfo leads to
record InfoSet (held next : AdapterState) (modifier : ℕ) (wanted : List ℕ) : Type 0 where
  own : is_own held modifier ≡ true
  after : Info
  taken : port_info_after false held.info (port_setting wanted) ≡ Ok after
  same : record held { info = after } ≡ next

info_set : (held next : AdapterState) (modifier : ℕ) (wanted : List ℕ) → set held PortInfo modifier wanted ≡ Ok next
    → InfoSet held next modifier wanted
unfolding set
info_set held next modifier wanted h =
    let g = let_through (is_own held modifier) (set_port_info held wanted) InvalidField next h in
    let b = bind_done (port_info_after false held.info (port_setting wanted)) (λ info. record held { info = info }) next g.1 in
    record { own = g.0; after = b.0; taken = b.1; same = b.2 }

-- what a Set of the P_Key table leads to
record KeysSet (held next : AdapterState) (block : ℕ) (wanted : List ℕ) : Type 0 where
  after : List ℕ
  taken : set_word_block block wanted held.keys ≡ Ok after
  same : record held { keys = after } ≡ next

keys_set : (held next : AdapterState) (block : ℕ) (wanted : List ℕ) → set held PKeyTable block wanted ≡ Ok next
    → KeysSet held next block wanted
unfolding set
keys_set held next block wanted h =
    let b = bind_done (set_word_block block wanted held.keys) (λ keys. record held { keys = keys }) next h in
    record { after = b.0; taken = b.1; same = b.2 }

-- ---- what is set can be asked for
info_shown : (held : AdapterState) (info : Info) (modifier : ℕ) → is_own held modifier ≡ true
    → (bytes : List ℕ) × (get (record held { info = info }) PortInfo modifier ≡ Ok bytes)
unfolding get
info_shown held info modifier own =
    let bytes = port_info_bytes (shown_at held.number info) in
    (bytes, passed (is_own held modifier) (Ok bytes) InvalidField own)

keys_shown : (held : AdapterState) (keys : List ℕ) (block : ℕ) (wanted : List ℕ) → set_word_block block wanted held.keys ≡ Ok keys
    → (bytes : List ℕ) × (get (record held { keys = keys }) PKeyTable block ≡ Ok bytes)
unfolding get
keys_shown held keys block wanted h = words_shown block wanted held.keys keys h

pub shows : Shows get set
unfolding set
shows held next PortInfo modifier wanted h =
    let s = info_set held next modifier wanted h in
    let P : AdapterState → Type 0 = λ x. (bytes : List ℕ) × (get x PortInfo modifier ≡ Ok bytes) in
    subst P s.same (info_shown held s.after modifier s.own)
shows held next PKeyTable modifier wanted h =
    let s = keys_set held next modifier wanted h in
    let P : AdapterState → Type 0 = λ x. (bytes : List ℕ) × (get x PKeyTable modifier ≡ Ok bytes) in
    subst P s.same (keys_shown held s.after modifier wanted s.taken)
shows held next NodeDescription modifier wanted h = absurd (cc)
shows held next NodeInfo modifier wanted h = absurd (cc)
shows held next SwitchInfo modifier wanted h = absurd (cc)
shows held next LinearForwardingTable modifier wanted h = absurd (cc)
shows held next MulticastForwardingTable modifier wanted h = absurd (cc)

-- ---- what changes
nothing_changes : (held : AdapterState) (smp : List ℕ) → ChangesAtMost held held smp
nothing_changes held smp =
    record {
      node_guid = refl;
      num_ports = refl;
      number = refl;
      port_guid = refl;
      description = refl;
      info = λ other. refl;
      unsettable = refl;
      down = refl;
      keys = λ other. refl;
      key_block = no_difference 32 (modifier_of smp) held.keys;
    }

info_changes : (held : AdapterState) (info : Info) (smp : List ℕ) → attribute_asked smp ≡ Ok PortInfo
    → port_info_after false held.info (port_setting (data_of smp)) ≡ Ok info
    → ChangesAtMost held (record held { info = info }) smp
info_changes held info smp asked taken =
    record {
      node_guid = refl;
      num_ports = refl;
      number = refl;
      port_guid = refl;
      description = refl;
      info = λ other. absurd (other asked);
      unsettable = unsettable_stays false held.info (port_setting (data_of smp)) info taken;
      down = down_stays false held.info (port_setting (data_of smp)) info taken;
      keys = λ other. refl;
      key_block = no_difference 32 (modifier_of smp) held.keys;
    }

keys_change : (held : AdapterState) (keys smp : List ℕ) → attribute_asked smp ≡ Ok PKeyTable
    → set_word_block (modifier_of smp) (data_of smp) held.keys ≡ Ok keys → ChangesAtMost held (record held { keys = keys }) smp
keys_change held keys smp asked taken =
    record {
      node_guid = refl;
      num_ports = refl;
      number = refl;
      port_guid = refl;
      description = refl;
      info = λ other. refl;
      unsettable = refl;
      down = refl;
      keys = λ other. absurd (other asked);
      key_block = words_differ (modifier_of smp) (data_of smp) held.keys keys taken;
    }

set_changes : (held next : AdapterState) (smp : List ℕ) (attribute : SmpAttribute)
    → attribute_asked smp ≡ Ok attribute → set held attribute (modifier_of smp) (data_of smp) ≡ Ok next
    → ChangesAtMost held next smp
unfolding set
set_changes held next smp PortInfo asked h =
    let s = info_set held next (modifier_of smp) (data_of smp) h in
    let P : AdapterState → Type 0 = λ x. ChangesAtMost held x smp in
    subst P s.same (info_changes held s.after smp asked s.taken)
set_changes held next smp PKeyTable asked h =
    let s = keys_set held next (modifier_of smp) (data_of smp) h in
    let P : AdapterState → Type 0 = λ x. ChangesAtMost held x smp in
    subst P s.same (keys_change held s.after smp asked s.taken)
set_changes held next smp NodeDescription asked h = absurd (cc)
set_changes held next smp NodeInfo asked h = absurd (cc)
set_changes held next smp SwitchInfo asked h = absurd (cc)
set_changes held next smp LinearForwardingTable asked h = absurd (cc)
set_changes held next smp MulticastForwardingTable asked h = absurd (cc)

pub changes_at_most : (held : AdapterState) (smp : List ℕ) → ChangesAtMost held (agent_after held smp) smp
unfolding agent_after
changes_at_most held smp =
    let P : AdapterState → Type 0 = λ x. ChangesAtMost held x smp in
    after_cases set held smp P (nothing_changes held smp) (λ attribute next asked h. set_changes held next smp attribute asked h)

-- ---- what stays good
set_good : (held next : AdapterState) (attribute : SmpAttribute) (modifier : ℕ) (wanted : List ℕ) → IsGoodPort held
    → set held attribute modifier wanted ≡ Ok next → IsGoodPort next
unfolding set
set_good held next PortInfo modifier wanted good h =
    let s = info_set held next modifier wanted h in
    subst IsGoodPort s.same (record { description = good.description; info = settings_keep_good false held.info s.after wanted good.info s.taken; keys = good.keys })
set_good held next PKeyTable modifier wanted good h =
    let s = keys_set held next modifier wanted h in
    subst IsGoodPort s.same (record { description = good.description; info = good.info; keys = words_keep PARTITIONS modifier wanted held.keys s.after good.keys s.taken })
set_good held next NodeDescription modifier wanted good h = absurd (cc)
set_good held next NodeInfo modifier wanted good h = absurd (cc)
set_good held next SwitchInfo modifier wanted good h = absurd (cc)
set_good held next LinearForwardingTable modifier wanted good h = absurd (cc)
set_good held next MulticastForwardingTable modifier wanted good h = absurd (cc)

pub smps_keep_good : SmpsKeepGood
unfolding agent_after
smps_keep_good held smp good =
    after_cases set held smp IsGoodPort good (λ attribute next asked h. set_good held next attribute (modifier_of smp) (data_of smp) good h)

pub new_ports_good : NewPortsAreGood
new_ports_good node_guid num_ports number port_guid description link small is =
    record { description = is; info = new_info_good ChannelAdapter number link small; keys = new_keys_good }

pub give_attributes : GoodPortsGiveAttributes
unfolding get
give_attributes held NodeDescription modifier bytes good h = whole_is modifier held.description bytes good.description h
give_attributes held NodeInfo modifier bytes good h = whole_is modifier _ bytes (attributes.node_info _) h
give_attributes held PortInfo modifier bytes good h =
    subst IsAttribute (taken_ok (is_own held modifier) (port_info_bytes (shown_at held.number held.info)) bytes InvalidField h).1
    (attributes.port_info (shown_at held.number held.info))
give_attributes held PKeyTable modifier bytes good h = words_are modifier held.keys bytes h
give_attributes held SwitchInfo modifier bytes good h = absurd (cc)
give_attributes held LinearForwardingTable modifier bytes good h = absurd (cc)
give_attributes held MulticastForwardingTable modifier bytes good h = absurd (cc)
