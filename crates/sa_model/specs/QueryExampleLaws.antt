-- What comes of the requests of our examples.
use Rattle.std.specs.Prelude.{◌≡◌, [], ◌∷◌, Ok, Err, map, ◌*◌, ◌^◌}
use Rattle.mad_layout.specs.Bits.{number}
use Rattle.mad_layout.specs.declared.status.MadStatus.TheVariants.{RequestInvalid, NoRecords, TooManyRecords, InvalidGid, InsufficientComponents}
use Rattle.sa_records.specs.NodeRecord.{node_record_bytes}
use Rattle.sa_records.specs.PathRecord.{path_record_bytes}
use Rattle.sa_records.specs.McMemberRecord.{mc_member_record_bytes}
use Rattle.sa_records.specs.ServiceRecord.{service_record_bytes}
use Rattle.sa_model.specs.GroupExamples.{ports}
use Rattle.sa_model.specs.Shown.{node_record_of, path_record_of, group_record_of, service_record_of}
use Rattle.sa_model.specs.Shown.{node_entry, path_entry, group_entry, service_entry}
use Rattle.sa_model.specs.Outcome.{got, table}
use Rattle.sa_model.specs.QueryExamples.{manager, full, limited, other_limited, two_ports, twice_full, named}
use Rattle.sa_model.specs.QueryExamples.{nothing, with_group_of_file, with_service}
use Rattle.sa_model.specs.QueryExamples.{all_nodes, node_of_lid, path_between, path_to, paths_from, path_of_rate, few_paths_from, under}
use Rattle.sa_model.specs.QueryExamples.{group_of_file, all_groups, offered, all_services}

pub record WhichNodes : Type 0 where
  -- a full member is shown its whole partition, and a limited member none of the other limited ones
  pub to_full : table ports full nothing all_nodes ≡ Ok (map node_entry (manager ∷ full ∷ limited ∷ other_limited ∷ []))
  pub to_limited : table ports limited nothing all_nodes ≡ Ok (map node_entry (manager ∷ full ∷ limited ∷ []))
  -- a Get wants one
  pub several : got ports full nothing all_nodes ≡ Err TooManyRecords
  pub own : got ports limited nothing (node_of_lid 5) ≡ Ok (node_entry limited)
  pub hidden : got ports limited nothing (node_of_lid 6) ≡ Err NoRecords

pub record WhichPaths : Type 0 where
  pub found : got ports limited nothing (path_between 0x121 0x111) ≡ Ok (path_entry (under limited full 0x0001))
  pub between_limited : got ports limited nothing (path_between 0x121 0x131) ≡ Err NoRecords
  pub senderless : got ports limited nothing (path_to 0x111) ≡ Err InsufficientComponents
  pub foreign : got ports limited nothing (path_between 0x111 0x121) ≡ Err InvalidGid
  pub several : got ports limited nothing (paths_from 0x121) ≡ Err TooManyRecords
  -- a full member has paths to all, each under the key that both have
  pub all : table ports full nothing (paths_from 0x111)
      ≡ Ok (map path_entry (under full manager 0x7fff ∷ under full full 0x8001 ∷ under full limited 0x8001
      ∷ under full other_limited 0x8001 ∷ []))
  -- a full member has a path to itself, and a limited member has none
  pub to_itself : got ports full nothing (path_between 0x111 0x111) ≡ Ok (path_entry (under full full 0x8001))
  pub not_to_itself : got ports limited nothing (path_between 0x121 0x121) ≡ Err NoRecords

-- rates are compared by how fast they are: 10 Gb/s is above 5 Gb/s, whose code is greater, and not above 30 Gb/s
pub record WhichRates : Type 0 where
  pub above_5 : got ports limited nothing (path_of_rate 0 5) ≡ Ok (path_entry (under limited full 0x0001))
  pub above_30 : got ports limited nothing (path_of_rate 0 4) ≡ Err NoRecords
  pub unknown : got ports limited nothing (path_of_rate 2 11) ≡ Err RequestInvalid

-- each pair of ports has a path in each of two partitions, by base
pub record HowManyPaths : Type 0 where
  pub all : table two_ports (twice_full 1 0x101) nothing (paths_from 0x101)
      ≡ Ok (map path_entry (under (twice_full 1 0x101) (twice_full 1 0x101) 0x8001
      ∷ under (twice_full 1 0x101) (twice_full 1 0x101) 0x8002
      ∷ under (twice_full 1 0x101) (twice_full 2 0x102) 0x8001
      ∷ under (twice_full 1 0x101) (twice_full 2 0x102) 0x8002
      ∷ []))
  -- NumbPath counts for each port apart
  pub one_each : table two_ports (twice_full 1 0x101) nothing (few_paths_from 0x101 1)
      ≡ Ok (map path_entry (under (twice_full 1 0x101) (twice_full 1 0x101) 0x8001
      ∷ under (twice_full 1 0x101) (twice_full 2 0x102) 0x8001
      ∷ []))
  pub none_wanted : table two_ports (twice_full 1 0x101) nothing (few_paths_from 0x101 0) ≡ Err RequestInvalid
  -- of two paths to one port a Get answers the first
  pub first : got two_ports (twice_full 1 0x101) nothing (path_between 0x101 0x102)
      ≡ Ok (path_entry (under (twice_full 1 0x101) (twice_full 2 0x102) 0x8001))

-- members see the partition file's group, limited ones too; who is in none of its partitions sees none
pub record WhichGroups : Type 0 where
  pub to_full : table ports full with_group_of_file all_groups ≡ Ok (group_entry group_of_file ∷ [])
  pub to_limited : table ports limited with_group_of_file all_groups ≡ Ok (group_entry group_of_file ∷ [])
  pub to_outside : table ports manager with_group_of_file all_groups ≡ Ok []

-- a limited member's service is shown to it and to the full member
pub record WhichServices : Type 0 where
  pub to_full : table ports full with_service all_services ≡ Ok (service_entry offered ∷ [])
  pub to_owner : table ports limited with_service all_services ≡ Ok (service_entry offered ∷ [])
  pub to_other : table ports other_limited with_service all_services ≡ Ok []
  pub none : table ports full nothing all_services ≡ Ok []

-- the bytes of a record of each kind, as one number; the zero bytes at the end are a power of two
pub record WhichBytes : Type 0 where
  pub node : number (node_record_bytes (node_record_of named))
      ≡ 0x00010000010101020000000000000100000000000000010000000000000001010080000000000000010000006830 * 2 ^ 528
  pub path : number (path_record_bytes (path_record_of (under limited full 0x0001)))
      ≡ 0xfe800000000000000000000000000111fe8000000000000000000000000001210004000500000000008000010000848392 * 2 ^ 56
  pub group : number (mc_member_record_bytes (group_record_of group_of_file))
      ≡ 0xff12401b8001000000000000ffffffff0000000000000000000000000000000000000b1bc0208400800183920000000020 * 2 ^ 56
  pub service : number (service_record_bytes (service_record_of offered))
      ≡ 0x0000000000000001fe800000000000000000000000000121800100000000000000000000000000000000000000000000646273 * 2 ^ 1000
