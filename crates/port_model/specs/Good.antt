-- What a port of a channel adapter holds at all times, whatever SMPs came to it.
use Rattle.attr_tables.specs.Attribute.{IsAttribute}
use Rattle.agent_rules.specs.Good.{IsGoodInfo, IsKeyTable}
use Rattle.port_model.specs.AdapterState.{AdapterState}

pub record IsGoodPort (port : AdapterState) : Type 0 where
  pub description : IsAttribute port.description
  pub info : IsGoodInfo port.info
  pub keys : IsKeyTable port.keys
