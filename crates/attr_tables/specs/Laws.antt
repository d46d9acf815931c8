-- What holds of every attribute and of every table in blocks.
use Rattle.std.specs.Prelude.{ℕ, ◌≡◌, ◌<◌, List, length}
use Rattle.attr_tables.specs.declared.node_info.NodeInfo.{NodeInfo}
use Rattle.attr_tables.specs.declared.port_info.PortInfo.{PortInfo}
use Rattle.attr_tables.specs.declared.switch_info.SwitchInfo.{SwitchInfo}
use Rattle.attr_tables.specs.Attribute.{IsAttribute}
use Rattle.attr_tables.specs.Blocks.{IsBlockCount, StandsAt, word_bytes}
use Rattle.attr_tables.specs.NodeInfo.{node_info_bytes}
use Rattle.attr_tables.specs.PortInfo.{port_info_bytes}
use Rattle.attr_tables.specs.SwitchInfo.{switch_info_bytes}

-- the entry of that index stands at one place of one of so many blocks, and at no other
pub record Tiles (size blocks index : ℕ) : Type 0 where
  pub block : ℕ
  pub place : ℕ
  pub there : block < blocks
  pub stands : StandsAt size index block place
  pub alone : (b p : ℕ) → StandsAt size index b p → (b ≡ block) × (p ≡ place)

-- every entry of a table stands at one place of one of its blocks
abbrev pub BlocksTile : Type 0
BlocksTile =
    (size entries blocks index : ℕ) → IsBlockCount size entries blocks → index < entries → Tiles size blocks index

-- what records and blocks encode fills an attribute, whatever they hold
pub record AttributesAreEncoded : Type 0 where
  pub node_info : (info : NodeInfo) → IsAttribute (node_info_bytes info)
  pub port_info : (info : PortInfo) → IsAttribute (port_info_bytes info)
  pub switch_info : (info : SwitchInfo) → IsAttribute (switch_info_bytes info)
  pub words : (words : List ℕ) → length words ≡ 32 → IsAttribute (word_bytes words)
