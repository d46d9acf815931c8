-- Which ports an item of a list names.
use Rattle.std.specs.Prelude.{ℕ, if◌then◌else◌, List, codes, Option, Some, option_map, bytes_eq}
use Rattle.partition_file.specs.declared.item.Ports.{Ports}
use Rattle.partition_file.specs.declared.item.Ports.TheVariants.{All, ChannelAdapters, Switches, Routers, Manager, Guid}
use Rattle.partition_file.specs.Numbers.{number_up_to}

-- a word for ports, or the GUID of one
abbrev pub ports_named : List ℕ → Option Ports
ports_named word =
    if bytes_eq word (codes "ALL") then Some All
    else (if bytes_eq word (codes "ALL_CAS") then Some ChannelAdapters
    else (if bytes_eq word (codes "ALL_SWITCHES") then Some Switches
    else (if bytes_eq word (codes "ALL_ROUTERS") then Some Routers
    else (if bytes_eq word (codes "SELF") then Some Manager
    else option_map (λ guid. Guid guid) (number_up_to 18446744073709551615 word)))))
