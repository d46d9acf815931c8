-- Who receives by a join, and the partition that it is in, in words that code computes.
use Rattle.std.specs.Prelude.{ℕ, ◌≡◌, ◌==◌, Bool, true, false, not, ◌&&◌, List, Option, None, Some, find, position}
use Rattle.std.specs.List.{list_any}
use Rattle.subnet_model.specs.declared.subnet_port.SubnetPort.{SubnetPort}
use Rattle.sa_model.specs.Delivery.{receives}
use Rattle.sa_model.specs.Groups.{MulticastGroup, PartitionGroups}
use Rattle.sa_model.specs.JoinState.{is_receiver}
use Rattle.sa_model.specs.Joining.{Join, has_mgid, may_create, may_join}
use Rattle.sa_replies.specs.Joins.{group_named, has_free_mlid}
use Rattle.sa_replies.specs.State.{is_fit_group}

-- the port of this GUID receives what is sent to a group
abbrev pub receives_by : ℕ → Option MulticastGroup → Bool
receives_by guid None = false
receives_by guid (Some group) = list_any (receives guid) group.memberships

-- it receives by a join what it did not receive before
abbrev pub receives_anew : Join → PartitionGroups → Bool
receives_anew join partition = is_receiver join.join_state && not (receives_by join.port (find (has_mgid join.mgid) partition.groups))

-- ---- the partition of a base has this place
abbrev pub place_with_base : List PartitionGroups → ℕ → Option ℕ
place_with_base partitions base = position (λ partition. partition.base == base) partitions

-- a join is not refused: the partition of its base has this place, the port may join, and if there is no group it may make
-- one that fits its record, and an MLID is free
pub record CanJoin (ports : List SubnetPort) (join : Join) (partitions : List PartitionGroups) (place : ℕ) : Type 0 where
  pub there : place_with_base partitions join.base ≡ Some place
  pub may : may_join ports join ≡ true
  pub fit : is_fit_group join.parameters ≡ true
  pub makes : group_named join.base join.mgid partitions ≡ None → may_create ports join ≡ true
  pub free : group_named join.base join.mgid partitions ≡ None → has_free_mlid join.base partitions ≡ true
