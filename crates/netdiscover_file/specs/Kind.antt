-- The kinds of nodes, by the letters that name them.
use Rattle.std.specs.Prelude.{ℕ, Bool, ◌==◌, List, codes, bytes_eq, if◌then◌else◌, Result, Ok, Err}
use Rattle.netdiscover_file.specs.declared.kind.NodeKind.{NodeKind}
use Rattle.netdiscover_file.specs.declared.kind.NodeKind.TheVariants.{Switch, ChannelAdapter, Router}
use Rattle.netdiscover_file.specs.declared.fault.DiscoveryCause.{DiscoveryCause}
use Rattle.netdiscover_file.specs.declared.fault.DiscoveryCause.TheVariants.{Malformed}

-- `S`, `H` and `R`
abbrev pub letter : NodeKind → ℕ
letter Switch = 83
letter ChannelAdapter = 72
letter Router = 82

abbrev pub is_same_kind : NodeKind → NodeKind → Bool
is_same_kind a b = letter a == letter b

abbrev pub is_switch : NodeKind → Bool
is_switch kind = is_same_kind kind Switch

-- a node is named by the letter of its kind
abbrev pub kind_named : List ℕ → Result NodeKind DiscoveryCause
kind_named word =
    if bytes_eq word (codes "S") then Ok Switch
    else (if bytes_eq word (codes "H") then Ok ChannelAdapter
    else (if bytes_eq word (codes "R") then Ok Router
    else Err Malformed))

-- a header begins with the word of its kind
abbrev pub kind_headed : List ℕ → Result NodeKind DiscoveryCause
kind_headed word =
    if bytes_eq word (codes "Switch") then Ok Switch
    else (if bytes_eq word (codes "Ca") then Ok ChannelAdapter
    else (if bytes_eq word (codes "Rt") then Ok Router
    else Err Malformed))
