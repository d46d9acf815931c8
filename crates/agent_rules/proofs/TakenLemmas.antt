-- What a Set of PortInfo takes over, and what NodeInfo names.
use Rattle.std.proofs.Common.{ℕ, ◌≡◌, refl, sym, subst, Bool, true, false, if◌then◌else◌, List, Ok, Err}
use Rattle.step_results.proofs.StepLemmas.{same_ok}
use Rattle.mad_layout.specs.declared.status.MadStatus.TheVariants.{InvalidField}
use Rattle.mad_layout.proofs.LayoutLemmas.{encodes_put_all}
use Rattle.attr_tables.specs.NodeInfo.{node_info, node_info_bytes}
use Rattle.attr_tables.specs.declared.port_info.PortInfo.{PortInfo}
use Rattle.agent_rules.specs.Laws.{IsTaken, NodeInfosNameGuids, SetsAreTaken}
use Rattle.agent_rules.specs.PortSetting.{is_valid, port_setting, taken_over}
use Rattle.agent_rules.specs.PowerUp.{node_info_of}

taken : (enforces : Bool) (info : PortInfo) (attribute : List ℕ) → IsTaken enforces info (taken_over enforces info (port_setting attribute)) attribute
unfolding taken_over port_setting
taken true info attribute = record {
  gid_prefix = refl;
  lid = refl;
  master_sm_lid = refl;
  neighbor_mtu = refl;
  master_sm_sl = refl;
  state = refl;
  inbound = λ e. refl;
  outbound = λ e. refl;
  rest = refl;
}
taken false info attribute = record {
  gid_prefix = refl;
  lid = refl;
  master_sm_lid = refl;
  neighbor_mtu = refl;
  master_sm_sl = refl;
  state = refl;
  inbound = λ e. absurd (cc);
  outbound = λ e. absurd (cc);
  rest = refl;
}

by_test : (test enforces : Bool) (info next : PortInfo) (attribute : List ℕ)
    → (if test then Ok (taken_over enforces info (port_setting attribute)) else Err InvalidField) ≡ Ok next → IsTaken enforces info next attribute
by_test true enforces info next attribute is =
    subst (λ (one : PortInfo). IsTaken enforces info one attribute) (same_ok _ _ is) (taken enforces info attribute)
by_test false enforces info next attribute is = absurd (cc)

pub sets_are_taken : SetsAreTaken
sets_are_taken enforces info next attribute is =
    by_test (is_valid info (port_setting attribute)) enforces info next attribute is

-- ---- NodeInfo
pub node_infos_name_guids : NodeInfosNameGuids
unfolding node_info_bytes
node_infos_name_guids node_type num_ports node_guid port_guid number fits =
    let info = node_info_of node_type num_ports node_guid port_guid number in
    let guids = (encodes_put_all (node_info info) 64 refl fits).fields.1.1.1.1 in
    record { system = sym guids.0; node = sym guids.1.0; port = sym guids.1.1.0 }
