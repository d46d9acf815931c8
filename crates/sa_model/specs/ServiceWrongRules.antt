-- A rule for what is shown of services that does not keep partitions apart.
use Rattle.std.specs.Prelude.{ℕ, Bool, List, filter}
use Rattle.subnet_model.specs.declared.subnet_port.SubnetPort.{SubnetPort}
use Rattle.sa_model.specs.Services.{PortServices}
use Rattle.sa_model.specs.ServiceSound.{holds_base}
use Rattle.sa_model.specs.ServiceLaws.{HidesFarServices}

-- p is shown all services in its partitions, even those that limited members offer to it as a limited member
abbrev pub is_of_a_partition_of : List SubnetPort → ℕ → PortServices → Bool
is_of_a_partition_of ports p place = holds_base ports place.base p

abbrev pub services_of_partitions : List SubnetPort → ℕ → List PortServices → List PortServices
services_of_partitions ports p services = filter (is_of_a_partition_of ports p) services

abbrev pub ServicesOfPartitionsReport : Type 0
ServicesOfPartitionsReport = HidesFarServices services_of_partitions → ⊥
