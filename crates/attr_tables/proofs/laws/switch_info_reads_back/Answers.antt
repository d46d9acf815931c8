use Rattle.std.proofs.Common.{◌≡◌, ℕ, List, ◌∙◌, sym}
use Rattle.mad_layout.specs.Layout.{Holds}
use Rattle.mad_layout.proofs.AlignedLemmas.{same_bit}
use Rattle.attr_tables.specs.declared.switch_info.SwitchInfo.{SwitchInfo}
use Rattle.attr_tables.specs.SwitchInfo.{switch_info}
use Rattle.attr_tables.proofs.laws.switch_info_reads_back.Goals as goal

same_switch_info : (a b : SwitchInfo) (bytes : List ℕ) → Holds bytes (switch_info a) → Holds bytes (switch_info b) → a ≡ b
same_switch_info a b bytes h g =
    let e0 : a.linear_fdb_cap ≡ b.linear_fdb_cap = h.0 ∙ sym g.0 in
    let e1 : a.random_fdb_cap ≡ b.random_fdb_cap = h.1.0 ∙ sym g.1.0 in
    let e2 : a.multicast_fdb_cap ≡ b.multicast_fdb_cap = h.1.1.0 ∙ sym g.1.1.0 in
    let e3 : a.linear_fdb_top ≡ b.linear_fdb_top = h.1.1.1.0 ∙ sym g.1.1.1.0 in
    let e4 : a.default_port ≡ b.default_port = h.1.1.1.1.0 ∙ sym g.1.1.1.1.0 in
    let e5 : a.default_multicast_primary_port ≡ b.default_multicast_primary_port = h.1.1.1.1.1.0 ∙ sym g.1.1.1.1.1.0 in
    let e6 : a.default_multicast_not_primary_port ≡ b.default_multicast_not_primary_port = h.1.1.1.1.1.1.0 ∙ sym g.1.1.1.1.1.1.0 in
    let e7 : a.life_time_value ≡ b.life_time_value = h.1.1.1.1.1.1.1.0 ∙ sym g.1.1.1.1.1.1.1.0 in
    let e8 = same_bit a.port_state_change b.port_state_change (h.1.1.1.1.1.1.1.1.0 ∙ sym g.1.1.1.1.1.1.1.1.0) in
    let e9 : a.lids_per_port ≡ b.lids_per_port = h.1.1.1.1.1.1.1.1.1.0 ∙ sym g.1.1.1.1.1.1.1.1.1.0 in
    let e10 : a.partition_enforcement_cap ≡ b.partition_enforcement_cap = h.1.1.1.1.1.1.1.1.1.1.0 ∙ sym g.1.1.1.1.1.1.1.1.1.1.0 in
    let e11 = same_bit a.inbound_enforcement_cap b.inbound_enforcement_cap (h.1.1.1.1.1.1.1.1.1.1.1.0 ∙ sym g.1.1.1.1.1.1.1.1.1.1.1.0) in
    let e12 = same_bit a.outbound_enforcement_cap b.outbound_enforcement_cap (h.1.1.1.1.1.1.1.1.1.1.1.1.0 ∙ sym g.1.1.1.1.1.1.1.1.1.1.1.1.0) in
    let e13 = same_bit a.filter_raw_inbound_cap b.filter_raw_inbound_cap (h.1.1.1.1.1.1.1.1.1.1.1.1.1.0 ∙ sym g.1.1.1.1.1.1.1.1.1.1.1.1.1.0) in
    let e14 = same_bit a.filter_raw_outbound_cap b.filter_raw_outbound_cap (h.1.1.1.1.1.1.1.1.1.1.1.1.1.1.0 ∙ sym g.1.1.1.1.1.1.1.1.1.1.1.1.1.1.0) in
    let e15 = same_bit a.enhanced_port0 b.enhanced_port0 (h.1.1.1.1.1.1.1.1.1.1.1.1.1.1.1.0 ∙ sym g.1.1.1.1.1.1.1.1.1.1.1.1.1.1.1.0) in
    λ place. record {
      linear_fdb_cap = e0 place;
      random_fdb_cap = e1 place;
      multicast_fdb_cap = e2 place;
      linear_fdb_top = e3 place;
      default_port = e4 place;
      default_multicast_primary_port = e5 place;
      default_multicast_not_primary_port = e6 place;
      life_time_value = e7 place;
      port_state_change = e8 place;
      lids_per_port = e9 place;
      partition_enforcement_cap = e10 place;
      inbound_enforcement_cap = e11 place;
      outbound_enforcement_cap = e12 place;
      filter_raw_inbound_cap = e13 place;
      filter_raw_outbound_cap = e14 place;
      enhanced_port0 = e15 place;
    }

pub returns-clause-read : goal.returns-clause-read
returns-clause-read c =
    same_switch_info c.read.result c.args.info.now c.write.new.bytes c.read.ensures.fields c.write.ensures.encodes.fields
