-- PortInfo (IBA volume 1, 14.2.5.6): the places of its fields in the 64 bytes of the attribute.
use Rattle.std.specs.Prelude.{ℕ, List, [], ◌∷◌, replicate}
use Rattle.mad_layout.specs.Bits.{bit_of}
use Rattle.mad_layout.specs.Layout.{Field, at, put_all}
use Rattle.attr_tables.specs.declared.port_info.PortInfo.{PortInfo}

abbrev pub port_info : PortInfo → List Field
port_info info =
    at 0 64 info.m_key
    ∷ at 64 64 info.gid_prefix
    ∷ at 128 16 info.lid
    ∷ at 144 16 info.master_sm_lid
    ∷ at 160 32 info.capability_mask
    ∷ at 192 16 info.diag_code
    ∷ at 208 16 info.m_key_lease_period
    ∷ at 224 8 info.local_port_num
    ∷ at 232 8 info.link_width_enabled
    ∷ at 240 8 info.link_width_supported
    ∷ at 248 8 info.link_width_active
    ∷ at 256 4 info.link_speed_supported
    ∷ at 260 4 info.port_state
    ∷ at 264 4 info.port_physical_state
    ∷ at 268 4 info.link_down_default_state
    ∷ at 272 2 info.m_key_protect_bits
    ∷ at 277 3 info.lmc
    ∷ at 280 4 info.link_speed_active
    ∷ at 284 4 info.link_speed_enabled
    ∷ at 288 4 info.neighbor_mtu
    ∷ at 292 4 info.master_sm_sl
    ∷ at 296 4 info.vl_cap
    ∷ at 300 4 info.init_type
    ∷ at 304 8 info.vl_high_limit
    ∷ at 312 8 info.vl_arbitration_high_cap
    ∷ at 320 8 info.vl_arbitration_low_cap
    ∷ at 328 4 info.init_type_reply
    ∷ at 332 4 info.mtu_cap
    ∷ at 336 3 info.vl_stall_count
    ∷ at 339 5 info.hoq_life
    ∷ at 344 4 info.operational_vls
    ∷ at 348 1 (bit_of info.partition_enforcement_inbound)
    ∷ at 349 1 (bit_of info.partition_enforcement_outbound)
    ∷ at 350 1 (bit_of info.filter_raw_inbound)
    ∷ at 351 1 (bit_of info.filter_raw_outbound)
    ∷ at 352 16 info.m_key_violations
    ∷ at 368 16 info.p_key_violations
    ∷ at 384 16 info.q_key_violations
    ∷ at 400 8 info.guid_cap
    ∷ at 411 5 info.subnet_time_out
    ∷ at 419 5 info.resp_time_value
    ∷ at 424 4 info.local_phy_errors
    ∷ at 428 4 info.overrun_errors
    ∷ at 432 16 info.max_credit_hint
    ∷ at 456 24 info.link_round_trip_latency
    ∷ []

-- the 64 bytes of the attribute: its fields, and 0 elsewhere
unfoldable pub port_info_bytes : PortInfo → List ℕ
port_info_bytes info = put_all (replicate 64 0) (port_info info)
