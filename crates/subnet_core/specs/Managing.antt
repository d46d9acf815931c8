-- What is printed of a fabric behind a wire that is up.
use Rattle.std.specs.Prelude.{ℕ, List, ◌++◌, codes, decimal, length, map}
use Rattle.subnet_core.specs.Listing.{listing_text}
use Rattle.subnet_fabric.specs.declared.managing.Managed.{Managed}
use Rattle.subnet_model.specs.Configuration.{ConfigurationState}
use Rattle.subnet_model.specs.declared.subnet_port.SubnetPort.{SubnetPort}

-- the GUIDs of end ports
abbrev pub guids_in : List SubnetPort → List ℕ
guids_in ports = map (λ port. port.guid) ports

-- `up: S switches, P ports, E exchanges, N switch ports that do not enforce`
abbrev pub count_text : ℕ → List ℕ → List ℕ
count_text number unit = decimal number ++ unit

abbrev pub up_line : (switches ports exchanges : ℕ) → List ℕ
up_line switches ports exchanges =
    codes "up: "
    ++ count_text switches (codes " switches, ")
    ++ count_text ports (codes " ports, ")
    ++ count_text exchanges (codes " exchanges, ")

abbrev pub not_enforcing_text : ℕ → List ℕ
not_enforcing_text count = count_text count (codes " switch ports that do not enforce\n")

-- the listing, and that line
abbrev pub up_text : ConfigurationState → Managed → (exchanges : ℕ) → List ℕ
up_text configuration managed exchanges =
    listing_text configuration
    ++ up_line (length managed.routes.graph.switches) (length configuration.ports) exchanges
    ++ not_enforcing_text managed.not_enforcing
