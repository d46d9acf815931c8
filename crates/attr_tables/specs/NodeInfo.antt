-- NodeInfo (IBA volume 1, 14.2.5.3): the places of its fields in the 64 bytes of the attribute.
use Rattle.std.specs.Prelude.{ℕ, List, [], ◌∷◌, replicate}
use Rattle.mad_layout.specs.Layout.{Field, at, put_all}
use Rattle.attr_tables.specs.declared.node_info.NodeInfo.{NodeInfo}

abbrev pub node_info : NodeInfo → List Field
node_info info =
    at 0 8 info.base_version
    ∷ at 8 8 info.class_version
    ∷ at 16 8 info.node_type
    ∷ at 24 8 info.num_ports
    ∷ at 32 64 info.system_image_guid
    ∷ at 96 64 info.node_guid
    ∷ at 160 64 info.port_guid
    ∷ at 224 16 info.partition_cap
    ∷ at 240 16 info.device_id
    ∷ at 256 32 info.revision
    ∷ at 288 8 info.local_port_num
    ∷ at 296 24 info.vendor_id
    ∷ []

-- the 64 bytes of the attribute: its fields, and 0 elsewhere
unfoldable pub node_info_bytes : NodeInfo → List ℕ
node_info_bytes info = put_all (replicate 64 0) (node_info info)
