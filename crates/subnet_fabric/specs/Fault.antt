-- What the faults of its parts become if a fabric is not brought up.
use Rattle.subnet_fabric.specs.declared.fault.FabricFault.{FabricFault}
use Rattle.subnet_fabric.specs.declared.fault.FabricFault.TheVariants.{NoMemory, Sweep, NoLegalPath}
use Rattle.sweep.specs.declared.fault.SweepFault.{SweepFault}
use Rattle.sweep.specs.declared.fault.SweepFault.TheVariants as sweep
use Rattle.updn_routes.specs.declared.fault.RouteFault.{RouteFault}
use Rattle.updn_routes.specs.declared.fault.RouteFault.TheVariants as routes

-- ---- out of memory is one error, wherever it was
abbrev pub of_sweep : SweepFault → FabricFault
of_sweep sweep.NoMemory = NoMemory
of_sweep fault = Sweep fault

abbrev pub of_routes : RouteFault → FabricFault
of_routes routes.NoMemory = NoMemory
of_routes (routes.NoLegalPath switch port) = NoLegalPath switch port
