-- What becomes of the groups of our examples.
use Rattle.std.specs.Prelude.{◌≡◌, [], ◌∷◌}
use Rattle.std.specs.List.{range_with_len}
use Rattle.sa_model.specs.Groups.{start_of}
use Rattle.sa_model.specs.Joining.{joined}
use Rattle.sa_model.specs.Leaving.{left}
use Rattle.sa_model.specs.GroupExamples.{ports, mgid, nobody, both, many, join_of, leave_of, mlids, members, mgids, receivers, with_broadcast_group}

pub record WhoJoins : Type 0 where
  -- a full member makes the group, and a limited member joins it
  pub made : mlids (joined ports (join_of 0x111 mgid) nobody) ≡ 0xc020 ∷ []
  pub both : members both ≡ 0x111 ∷ 0x121 ∷ []
  -- a limited member makes none
  pub limited : mlids (joined ports (join_of 0x121 mgid) nobody) ≡ []

pub record WhoLeaves : Type 0 where
  -- the full member's leave ends the group for all, and a limited member's does not
  pub full : mlids (left ports (leave_of 0x111 mgid) both) ≡ []
  pub limited : members (left ports (leave_of 0x121 mgid) both) ≡ 0x111 ∷ []

pub record WhichMlids : Type 0 where
  pub all : mlids many ≡ range_with_len 0xc020 32
  -- no 33rd group is made
  pub more : joined ports (join_of 0x111 7) many ≡ many
  -- the MLID of a group that ended is free again
  pub again : mlids (joined ports (join_of 0x111 7) (left ports (leave_of 0x111 0xff12000000000000000000000000000f) many))
      ≡ range_with_len 0xc020 32

-- a packet of a limited member reaches the full member alone: two limited members' keys do not match
pub record WhoReceives : Type 0 where
  pub nobody : receivers nobody ≡ []
  pub both : receivers both ≡ 0x111 ∷ []

-- the partition file's group is there at the start, under the broadcast MGID of its partition
pub record WhatTheFileMakes : Type 0 where
  pub mgid : mgids (start_of with_broadcast_group) ≡ 0xff12401b8001000000000000ffffffff ∷ []
  pub mlid : mlids (start_of with_broadcast_group) ≡ 0xc020 ∷ []
