-- The attributes of SMPs (IBA volume 1, chapter 14), by their codes.
use Rattle.std.specs.Prelude.{ℕ, ◌==◌, if◌then◌else◌, Option, Some, None}
use Rattle.attr_tables.specs.declared.smp_attribute.SmpAttribute.{SmpAttribute}
use Rattle.attr_tables.specs.declared.smp_attribute.SmpAttribute.TheVariants.{NodeDescription, NodeInfo, SwitchInfo, PortInfo, PKeyTable}
use Rattle.attr_tables.specs.declared.smp_attribute.SmpAttribute.TheVariants.{LinearForwardingTable, MulticastForwardingTable}

abbrev pub smp_attribute_code : SmpAttribute → ℕ
smp_attribute_code NodeDescription = 16
smp_attribute_code NodeInfo = 17
smp_attribute_code SwitchInfo = 18
smp_attribute_code PortInfo = 21
smp_attribute_code PKeyTable = 22
smp_attribute_code LinearForwardingTable = 25
smp_attribute_code MulticastForwardingTable = 27

-- the attribute of that code, if there is one
abbrev pub smp_attribute_of : ℕ → Option SmpAttribute
smp_attribute_of code =
    if code == smp_attribute_code NodeDescription then Some NodeDescription
    else (if code == smp_attribute_code NodeInfo then Some NodeInfo
    else (if code == smp_attribute_code SwitchInfo then Some SwitchInfo
    else (if code == smp_attribute_code PortInfo then Some PortInfo
    else (if code == smp_attribute_code PKeyTable then Some PKeyTable
    else (if code == smp_attribute_code LinearForwardingTable then Some LinearForwardingTable
    else (if code == smp_attribute_code MulticastForwardingTable then Some MulticastForwardingTable
    else None))))))
