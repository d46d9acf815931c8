-- NodeRecord (IBA volume 1, 15.2.5): a LID, 16 bits that are reserved, NodeInfo (14.2.5.3) and NodeDescription.
use Rattle.std.specs.Prelude.{ℕ, Bool, ◌==◌, List, [], ◌∷◌, replicate, codes, slice_range}
use Rattle.mad_layout.specs.Bits.{field, number}
use Rattle.mad_layout.specs.Layout.{Field, at, put_all}
use Rattle.sa_records.specs.declared.node_record.NodeRecord.{NodeRecord}
use Rattle.sa_records.specs.Component.{Component, on, is_selected}
use Rattle.sa_records.specs.Asked.{Asked, by}

abbrev pub node_record : NodeRecord → List Field
node_record one =
    at 0 16 one.lid
    ∷ at 32 8 one.base_version
    ∷ at 40 8 one.class_version
    ∷ at 48 8 one.node_type
    ∷ at 56 8 one.num_ports
    ∷ at 64 64 one.system_image_guid
    ∷ at 128 64 one.node_guid
    ∷ at 192 64 one.port_guid
    ∷ at 256 16 one.partition_cap
    ∷ at 272 16 one.device_id
    ∷ at 288 32 one.revision
    ∷ at 320 8 one.local_port_num
    ∷ at 328 24 one.vendor_id
    ∷ at 352 512 (number one.node_string)
    ∷ []

-- the record that these bytes begin with
unfoldable pub node_in : List ℕ → NodeRecord
node_in bytes = record {
  lid = field bytes 0 16;
  base_version = field bytes 32 8;
  class_version = field bytes 40 8;
  node_type = field bytes 48 8;
  num_ports = field bytes 56 8;
  system_image_guid = field bytes 64 64;
  node_guid = field bytes 128 64;
  port_guid = field bytes 192 64;
  partition_cap = field bytes 256 16;
  device_id = field bytes 272 16;
  revision = field bytes 288 32;
  local_port_num = field bytes 320 8;
  vendor_id = field bytes 328 24;
  node_string = slice_range bytes 44 108;
}

-- the bytes that it fills in a table
unfoldable pub node_record_bytes : NodeRecord → List ℕ
node_record_bytes one = put_all (replicate 112 0) (node_record one)

-- the components by which nodes are asked for: LID, BaseVersion, ClassVersion and NodeType, bits 0 and 2 to 4
abbrev pub node_record_components : NodeRecord → NodeRecord → List Component
node_record_components shown asked =
    on 1 (shown.lid == asked.lid)
    ∷ on 4 (shown.base_version == asked.base_version)
    ∷ on 8 (shown.class_version == asked.class_version)
    ∷ on 16 (shown.node_type == asked.node_type)
    ∷ []

unfoldable pub node_record_selected : ℕ → NodeRecord → NodeRecord → Bool
node_record_selected mask shown asked = is_selected mask (node_record_components shown asked)

-- the fields that nodes are asked by, in the order of their bits
abbrev pub node_record_asked : List Asked
node_record_asked =
    by (codes "lid") 1 0 16
    ∷ by (codes "base") 4 32 8
    ∷ by (codes "class") 8 40 8
    ∷ by (codes "kind") 16 48 8
    ∷ []
