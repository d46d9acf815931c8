use Rattle.std.proofs.Common.{◌≡◌, false, List, take}
use Rattle.std.specs.List.{list_any}
use Rattle.subnet_model.specs.declared.subnet_port.SubnetPort.{SubnetPort}
use Rattle.sa_store.specs.Receiving.{ReportsAdapters, is_receiving}
use Rattle.sa_store.proofs.receivers.some_receiving.Given as goal

abbrev pub invariant-loop-membership : goal.invariant-loop-membership
invariant-loop-membership g l =
    (ports : List SubnetPort) → ReportsAdapters (goal.A-post g l.is_adapter) ports
    → list_any (is_receiving ports) (take l.membership-index l.memberships) ≡ false
