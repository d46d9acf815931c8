-- How the end ports of a subnet are named by LIDs (IBA volume 1, chapter 14).
use Rattle.std.specs.Prelude.{ℕ, ◌+◌, ◌&&◌, not, List, map, count_by, if◌then◌else◌, nat_lt}
use Rattle.pkey_rules.specs.declared.end_port.EndPort.{EndPort}

-- the SM port has LID 1, the others follow from 2 in order of their GUIDs
abbrev pub lid_of : List EndPort → EndPort → ℕ
lid_of ports port =
    if port.is_sm
    then 1
    else 2 + count_by (λ other. not other.is_sm && nat_lt other.guid port.guid) ports

-- the LID of each
abbrev pub lids_of : List EndPort → List ℕ
lids_of ports = map (λ port. lid_of ports port) ports
