-- What a subnet is brought up as, which no command changes.
use Rattle.std.specs.Prelude.{List}
use Rattle.partition_file.specs.declared.heading.Heading.{Heading}
use Rattle.subnet_model.specs.declared.subnet_port.SubnetPort.{SubnetPort}

-- its end ports in order of LID, and its partitions in order of their numbers
pub record ConfigurationState : Type 0 where
  pub ports : List SubnetPort
  pub partitions : List Heading
