-- The two queue pairs that are the same at every port.
use Rattle.std.specs.Prelude.{ℕ, Bool, ◌==◌}

-- subnet management packets alone go to this one (IBA volume 1, 14.2.1.1)
abbrev pub is_subnet_management : ℕ → Bool
is_subnet_management queue_pair = queue_pair == 0

-- general services are asked at this one (13.4.4), subnet administration among them
abbrev pub general_services_qp : ℕ
general_services_qp = 1

abbrev pub is_general_services : ℕ → Bool
is_general_services queue_pair = queue_pair == general_services_qp
