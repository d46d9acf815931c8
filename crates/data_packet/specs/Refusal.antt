-- The code that a report prints for a refusal.
use Rattle.std.specs.Prelude.{ℕ, List, codes}
use Rattle.data_packet.specs.declared.refusal.Refusal.{Refusal}
use Rattle.data_packet.specs.declared.refusal.Refusal.TheVariants.{KeyNotHeld, QpZero, ReservedDlid, PortNotActive}

abbrev pub code_of : Refusal → List ℕ
code_of KeyNotHeld = codes "AR1"
code_of QpZero = codes "AR2"
code_of ReservedDlid = codes "AR3"
code_of PortNotActive = codes "AR4"
