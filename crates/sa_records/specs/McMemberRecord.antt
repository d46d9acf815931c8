-- MCMemberRecord (IBA volume 1, 15.2.5): the places of its fields.
use Rattle.std.specs.Prelude.{ℕ, Bool, ◌==◌, List, [], ◌∷◌, replicate, codes}
use Rattle.mad_layout.specs.Bits.{bit_of, field}
use Rattle.mad_layout.specs.Layout.{Field, at, put_all}
use Rattle.sa_records.specs.declared.mc_member_record.McMemberRecord.{McMemberRecord}
use Rattle.pkey_rules.specs.KeyTable.{same_base}
use Rattle.sa_records.specs.Component.{Component, on, is_selected, same_bit, satisfies}
use Rattle.sa_records.specs.Asked.{Asked, by}
use Rattle.sa_records.specs.McMemberMask as member_mask
use Rattle.sa_records.specs.Speed.{rate_satisfies}

abbrev pub mc_member_record : McMemberRecord → List Field
mc_member_record one =
    at 0 128 one.mgid
    ∷ at 128 128 one.port_gid
    ∷ at 256 32 one.q_key
    ∷ at 288 16 one.mlid
    ∷ at 304 2 one.mtu_selector
    ∷ at 306 6 one.mtu
    ∷ at 312 8 one.t_class
    ∷ at 320 16 one.p_key
    ∷ at 336 2 one.rate_selector
    ∷ at 338 6 one.rate
    ∷ at 344 2 one.packet_life_time_selector
    ∷ at 346 6 one.packet_life_time
    ∷ at 352 4 one.sl
    ∷ at 356 20 one.flow_label
    ∷ at 376 8 one.hop_limit
    ∷ at 384 4 one.scope
    ∷ at 388 4 one.join_state
    ∷ at 392 1 (bit_of one.proxy_join)
    ∷ []

-- the record that these bytes begin with
unfoldable pub group_in : List ℕ → McMemberRecord
group_in bytes = record {
  mgid = field bytes 0 128;
  port_gid = field bytes 128 128;
  q_key = field bytes 256 32;
  mlid = field bytes 288 16;
  mtu_selector = field bytes 304 2;
  mtu = field bytes 306 6;
  t_class = field bytes 312 8;
  p_key = field bytes 320 16;
  rate_selector = field bytes 336 2;
  rate = field bytes 338 6;
  packet_life_time_selector = field bytes 344 2;
  packet_life_time = field bytes 346 6;
  sl = field bytes 352 4;
  flow_label = field bytes 356 20;
  hop_limit = field bytes 376 8;
  scope = field bytes 384 4;
  join_state = field bytes 388 4;
  proxy_join = field bytes 392 1 == 1;
}

-- the bytes that it fills in a table
unfoldable pub mc_member_record_bytes : McMemberRecord → List ℕ
mc_member_record_bytes one = put_all (replicate 56 0) (mc_member_record one)

-- the components by which groups are asked for
abbrev pub mc_member_record_components : McMemberRecord → McMemberRecord → List Component
mc_member_record_components shown asked =
    on member_mask.mgid (shown.mgid == asked.mgid)
    ∷ on member_mask.port_gid (shown.port_gid == asked.port_gid)
    ∷ on member_mask.q_key (shown.q_key == asked.q_key)
    ∷ on member_mask.mlid (shown.mlid == asked.mlid)
    ∷ on member_mask.mtu (satisfies asked.mtu_selector shown.mtu asked.mtu)
    ∷ on member_mask.t_class (shown.t_class == asked.t_class)
    ∷ on member_mask.p_key (same_base shown.p_key asked.p_key)
    ∷ on member_mask.rate (rate_satisfies asked.rate_selector shown.rate asked.rate)
    ∷ on member_mask.packet_life_time (satisfies asked.packet_life_time_selector shown.packet_life_time asked.packet_life_time)
    ∷ on member_mask.sl (shown.sl == asked.sl)
    ∷ on member_mask.flow_label (shown.flow_label == asked.flow_label)
    ∷ on member_mask.hop_limit (shown.hop_limit == asked.hop_limit)
    ∷ on member_mask.scope (shown.scope == asked.scope)
    ∷ on member_mask.join_state (shown.join_state == asked.join_state)
    ∷ on member_mask.proxy_join (same_bit shown.proxy_join asked.proxy_join)
    ∷ []

unfoldable pub mc_member_record_selected : ℕ → McMemberRecord → McMemberRecord → Bool
mc_member_record_selected mask shown asked = is_selected mask (mc_member_record_components shown asked)

-- the fields that groups are asked by, in the order of their bits
abbrev pub mc_member_record_asked : List Asked
mc_member_record_asked =
    by (codes "mgid") 1 0 128
    ∷ by (codes "portgid") 2 128 128
    ∷ by (codes "qkey") 4 256 32
    ∷ by (codes "mlid") 8 288 16
    ∷ by (codes "mtusel") 16 304 2
    ∷ by (codes "mtu") 32 306 6
    ∷ by (codes "tclass") 64 312 8
    ∷ by (codes "pkey") 128 320 16
    ∷ by (codes "ratesel") 256 336 2
    ∷ by (codes "rate") 512 338 6
    ∷ by (codes "lifesel") 1024 344 2
    ∷ by (codes "life") 2048 346 6
    ∷ by (codes "sl") 4096 352 4
    ∷ by (codes "flow") 8192 356 20
    ∷ by (codes "hop") 16384 376 8
    ∷ by (codes "scope") 32768 384 4
    ∷ by (codes "join") 65536 388 4
    ∷ by (codes "proxy") 131072 392 1
    ∷ []
