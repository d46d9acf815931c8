-- What a fault reports.
use Rattle.std.specs.Prelude.{ℕ, List}
use Rattle.fabric_parts.specs.declared.cable.PortRef.{PortRef}
use Rattle.updn_routes.specs.declared.fault.RouteFault.{RouteFault}
use Rattle.updn_routes.specs.declared.fault.RouteFault.TheVariants.{NoMemory, NoLegalPath}
use Rattle.updn_routes.specs.declared.link.Link.{Link}
use Rattle.updn_routes.specs.Order.{AreRanks, precedes}
use Rattle.updn_routes.specs.Routes.{IsFirstUnreached}

-- by the order that these roots make, the pair is the first with no up/down path
pub record IsRefused (rows : List (List Link)) (guids roots : List ℕ) (homes : List PortRef) (a b : ℕ) : Type 0 where
  pub ranks : List ℕ
  pub ranks_are : AreRanks rows guids roots ranks
  pub first : IsFirstUnreached rows (precedes ranks guids) homes a b

abbrev pub IsFaultOf : List (List Link) → List ℕ → List ℕ → List PortRef → RouteFault → Type 0
IsFaultOf rows guids roots homes NoMemory = Unit {0}
IsFaultOf rows guids roots homes (NoLegalPath switch port) = IsRefused rows guids roots homes switch port
