-- What shares say of who is near whom.
use Rattle.std.specs.Prelude.{ℕ, ◌≡◌, Bool, ◌==◌, ◌&&◌, ◌||◌, List}
use Rattle.std.specs.List.{list_any}
use Rattle.partition_reports.specs.Shares.{Share, shares}
use Rattle.subnet_model.specs.Near.{is_near}
use Rattle.subnet_model.specs.declared.subnet_port.SubnetPort.{SubnetPort}

-- the share names the ports of these two GUIDs, either of them first
abbrev pub is_of_both : ℕ → ℕ → Share → Bool
is_of_both p q share =
    ((share.first.guid == p) && (share.second.guid == q)) || ((share.first.guid == q) && (share.second.guid == p))

-- near a port are the port itself and those with which it has a share, and no other
abbrev pub NearIsToShare : Type 0
NearIsToShare =
    (ports : List SubnetPort) (p q : ℕ) → is_near ports p q ≡ ((q == p) || list_any (is_of_both p q) (shares ports))
