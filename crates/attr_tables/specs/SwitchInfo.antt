-- SwitchInfo (IBA volume 1, chapter 14): the places of its fields in the 64 bytes of the attribute.
use Rattle.std.specs.Prelude.{ℕ, List, [], ◌∷◌, replicate}
use Rattle.mad_layout.specs.Bits.{bit_of}
use Rattle.mad_layout.specs.Layout.{Field, at, put_all}
use Rattle.attr_tables.specs.declared.switch_info.SwitchInfo.{SwitchInfo}

abbrev pub switch_info : SwitchInfo → List Field
switch_info info =
    at 0 16 info.linear_fdb_cap
    ∷ at 16 16 info.random_fdb_cap
    ∷ at 32 16 info.multicast_fdb_cap
    ∷ at 48 16 info.linear_fdb_top
    ∷ at 64 8 info.default_port
    ∷ at 72 8 info.default_multicast_primary_port
    ∷ at 80 8 info.default_multicast_not_primary_port
    ∷ at 88 5 info.life_time_value
    ∷ at 93 1 (bit_of info.port_state_change)
    ∷ at 96 16 info.lids_per_port
    ∷ at 112 16 info.partition_enforcement_cap
    ∷ at 128 1 (bit_of info.inbound_enforcement_cap)
    ∷ at 129 1 (bit_of info.outbound_enforcement_cap)
    ∷ at 130 1 (bit_of info.filter_raw_inbound_cap)
    ∷ at 131 1 (bit_of info.filter_raw_outbound_cap)
    ∷ at 132 1 (bit_of info.enhanced_port0)
    ∷ []

-- the 64 bytes of the attribute: its fields, and 0 elsewhere
unfoldable pub switch_info_bytes : SwitchInfo → List ℕ
switch_info_bytes info = put_all (replicate 64 0) (switch_info info)
