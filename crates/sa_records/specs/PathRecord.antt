-- PathRecord (IBA volume 1, 15.2.5): the places of its fields.
use Rattle.std.specs.Prelude.{ℕ, Bool, ◌==◌, List, [], ◌∷◌, replicate, codes}
use Rattle.mad_layout.specs.Bits.{bit_of, field}
use Rattle.mad_layout.specs.Layout.{Field, at, put_all}
use Rattle.sa_records.specs.declared.path_record.PathRecord.{PathRecord}
use Rattle.pkey_rules.specs.KeyTable.{same_base}
use Rattle.sa_records.specs.Component.{Component, on, is_selected, same_bit, satisfies}
use Rattle.sa_records.specs.Asked.{Asked, by}
use Rattle.sa_records.specs.PathMask as path_mask
use Rattle.sa_records.specs.Speed.{rate_satisfies}

abbrev pub path_record : PathRecord → List Field
path_record one =
    at 0 64 one.service_id
    ∷ at 64 128 one.dgid
    ∷ at 192 128 one.sgid
    ∷ at 320 16 one.dlid
    ∷ at 336 16 one.slid
    ∷ at 352 1 (bit_of one.raw_traffic)
    ∷ at 356 20 one.flow_label
    ∷ at 376 8 one.hop_limit
    ∷ at 384 8 one.t_class
    ∷ at 392 1 (bit_of one.reversible)
    ∷ at 393 7 one.numb_path
    ∷ at 400 16 one.p_key
    ∷ at 416 12 one.qos_class
    ∷ at 428 4 one.sl
    ∷ at 432 2 one.mtu_selector
    ∷ at 434 6 one.mtu
    ∷ at 440 2 one.rate_selector
    ∷ at 442 6 one.rate
    ∷ at 448 2 one.packet_life_time_selector
    ∷ at 450 6 one.packet_life_time
    ∷ at 456 8 one.preference
    ∷ []

-- the record that these bytes begin with
unfoldable pub path_in : List ℕ → PathRecord
path_in bytes = record {
  service_id = field bytes 0 64;
  dgid = field bytes 64 128;
  sgid = field bytes 192 128;
  dlid = field bytes 320 16;
  slid = field bytes 336 16;
  raw_traffic = field bytes 352 1 == 1;
  flow_label = field bytes 356 20;
  hop_limit = field bytes 376 8;
  t_class = field bytes 384 8;
  reversible = field bytes 392 1 == 1;
  numb_path = field bytes 393 7;
  p_key = field bytes 400 16;
  qos_class = field bytes 416 12;
  sl = field bytes 428 4;
  mtu_selector = field bytes 432 2;
  mtu = field bytes 434 6;
  rate_selector = field bytes 440 2;
  rate = field bytes 442 6;
  packet_life_time_selector = field bytes 448 2;
  packet_life_time = field bytes 450 6;
  preference = field bytes 456 8;
}

-- the bytes that it fills in a table
unfoldable pub path_record_bytes : PathRecord → List ℕ
path_record_bytes one = put_all (replicate 64 0) (path_record one)

-- the components by which paths are asked for. ServiceID (bits 0 and 1), Reversible (11) and NumbPath (12) constrain no
-- record: NumbPath says how many are wanted
abbrev pub path_record_components : PathRecord → PathRecord → List Component
path_record_components shown asked =
    on path_mask.dgid (shown.dgid == asked.dgid)
    ∷ on path_mask.sgid (shown.sgid == asked.sgid)
    ∷ on path_mask.dlid (shown.dlid == asked.dlid)
    ∷ on path_mask.slid (shown.slid == asked.slid)
    ∷ on path_mask.raw_traffic (same_bit shown.raw_traffic asked.raw_traffic)
    ∷ on path_mask.flow_label (shown.flow_label == asked.flow_label)
    ∷ on path_mask.hop_limit (shown.hop_limit == asked.hop_limit)
    ∷ on path_mask.t_class (shown.t_class == asked.t_class)
    ∷ on path_mask.p_key (same_base shown.p_key asked.p_key)
    ∷ on path_mask.qos_class (shown.qos_class == asked.qos_class)
    ∷ on path_mask.sl (shown.sl == asked.sl)
    ∷ on path_mask.mtu (satisfies asked.mtu_selector shown.mtu asked.mtu)
    ∷ on path_mask.rate (rate_satisfies asked.rate_selector shown.rate asked.rate)
    ∷ on path_mask.packet_life_time (satisfies asked.packet_life_time_selector shown.packet_life_time asked.packet_life_time)
    ∷ []

unfoldable pub path_record_selected : ℕ → PathRecord → PathRecord → Bool
path_record_selected mask shown asked = is_selected mask (path_record_components shown asked)

-- the fields that paths are asked by, in the order of their bits. NumbPath's stands here by its name, under which answers
-- look for it: it selects no record, so no component says which bit it is
abbrev pub path_record_asked : List Asked
path_record_asked =
    by (codes "sid") 3 0 64
    ∷ by (codes "dgid") 4 64 128
    ∷ by (codes "sgid") 8 192 128
    ∷ by (codes "dlid") 16 320 16
    ∷ by (codes "slid") 32 336 16
    ∷ by (codes "raw") 64 352 1
    ∷ by (codes "flow") 256 356 20
    ∷ by (codes "hop") 512 376 8
    ∷ by (codes "tclass") 1024 384 8
    ∷ by (codes "rev") 2048 392 1
    ∷ by (codes "numb") path_mask.numb_path 393 7
    ∷ by (codes "pkey") 8192 400 16
    ∷ by (codes "qos") 16384 416 12
    ∷ by (codes "sl") 32768 428 4
    ∷ by (codes "mtusel") 65536 432 2
    ∷ by (codes "mtu") 131072 434 6
    ∷ by (codes "ratesel") 262144 440 2
    ∷ by (codes "rate") 524288 442 6
    ∷ by (codes "lifesel") 1048576 448 2
    ∷ by (codes "life") 2097152 450 6
    ∷ []
