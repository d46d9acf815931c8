use Rattle.std.proofs.Common.{ℕ, ◌≡◌, false, List, take}
use Rattle.std.specs.List.{list_any}
use Rattle.subnet_model.specs.declared.subnet_port.SubnetPort.{SubnetPort}
use Rattle.sa_model.specs.Anchor.{anchors}
use Rattle.sa_store.specs.Left.{ReportsFull}
use Rattle.sa_store.proofs.leaving.some_anchors.Given as goal

abbrev pub invariant-loop-membership : goal.invariant-loop-membership
invariant-loop-membership g l =
    (ports : List SubnetPort) (base : ℕ) → ReportsFull (goal.F-post g l.is_full_member) ports base
    → list_any (anchors ports base) (take l.membership-index l.memberships) ≡ false
