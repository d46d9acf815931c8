-- Where an SMP goes, and what it asks for, in words.
use Rattle.std.specs.Prelude.{ℕ, ◌+◌, List, ◌++◌, codes, decimal, flat_map, min, slice_range, Option, Some, None}
use Rattle.attr_tables.specs.SmpAttribute.{smp_attribute_of}
use Rattle.attr_tables.specs.declared.smp_attribute.SmpAttribute.{SmpAttribute}
use Rattle.attr_tables.specs.declared.smp_attribute.SmpAttribute.TheVariants as attribute
use Rattle.mad_layout.specs.DrSmp.{dr_smp_in}
use Rattle.mad_layout.specs.MadHeader.{header_in}
use Rattle.mad_layout.specs.declared.dr_smp.DrSmp.{DrSmp}

-- the ports by which its hops leave, from entry 1 on: there is room for 63
abbrev pub ports_of : DrSmp → List ℕ
ports_of route = slice_range route.initial_path 1 (min (route.hop_count + 1) 64)

-- as `smpquery -D` takes a path: 0, then the port of each hop
abbrev pub hop_text : ℕ → List ℕ
hop_text port = codes "," ++ decimal port

abbrev pub path_text : List ℕ → List ℕ
path_text ports = codes "0" ++ flat_map hop_text ports

-- an attribute by the name that the standard gives it, or by its number if the SM does not know it
abbrev pub name_of : SmpAttribute → List ℕ
name_of attribute.NodeDescription = codes "NodeDescription"
name_of attribute.NodeInfo = codes "NodeInfo"
name_of attribute.SwitchInfo = codes "SwitchInfo"
name_of attribute.PortInfo = codes "PortInfo"
name_of attribute.PKeyTable = codes "P_KeyTable"
name_of attribute.LinearForwardingTable = codes "LinearForwardingTable"
name_of attribute.MulticastForwardingTable = codes "MulticastForwardingTable"

abbrev pub name_or_number : ℕ → Option SmpAttribute → List ℕ
name_or_number id (Some one) = name_of one
name_or_number id None = decimal id

abbrev pub attribute_text : ℕ → List ℕ
attribute_text id = name_or_number id (smp_attribute_of id)

-- `path 0,1,3 PortInfo 2`
abbrev pub place_text : List ℕ → List ℕ
place_text smp =
    codes "path " ++ path_text (ports_of (dr_smp_in smp))
    ++ codes " " ++ attribute_text (header_in smp).attribute_id
    ++ codes " " ++ decimal (header_in smp).attribute_modifier
