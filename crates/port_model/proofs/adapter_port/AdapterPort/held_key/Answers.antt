use Rattle.port_model.proofs.PacketLemmas.{holds_no_base_0}
use Rattle.port_model.proofs.adapter_port.AdapterPort.held_key.Goals as goal

pub returns-in_default : goal.returns-in_default
returns-in_default c =
    holds_no_base_0 c.args.bits c.args.self.now.keys (λ some. let refused = c.in_default.ensures.valid.1 some in cc)
