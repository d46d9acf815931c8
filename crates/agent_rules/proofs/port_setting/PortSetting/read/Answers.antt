use Rattle.agent_rules.proofs.CarriedLemmas.{setting_is}
use Rattle.agent_rules.proofs.port_setting.PortSetting.read.Goals as goal

pub returns-clause-value : goal.returns-clause-value
returns-clause-value c = setting_is c.args.attribute.now c.read-info.result c.read-info.ensures.fields

pub returns-clause-narrow : goal.returns-clause-narrow
returns-clause-narrow c =
    let h = c.read-info.ensures.fits in
    record {
      gid_prefix = h.1.0;
      lid = h.1.1.0;
      master_sm_lid = h.1.1.1.0;
      port_state = h.1.1.1.1.1.1.1.1.1.1.1.1.0;
      lmc = h.1.1.1.1.1.1.1.1.1.1.1.1.1.1.1.1.0;
      neighbor_mtu = h.1.1.1.1.1.1.1.1.1.1.1.1.1.1.1.1.1.1.1.0;
      master_sm_sl = h.1.1.1.1.1.1.1.1.1.1.1.1.1.1.1.1.1.1.1.1.0;
    }
