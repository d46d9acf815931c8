-- The attributes of subnet administration (IBA volume 1, 15.2.5), by their codes.
use Rattle.std.specs.Prelude.{ℕ, ◌==◌, if◌then◌else◌, Option, Some, None}
use Rattle.sa_records.specs.declared.sa_attribute.SaAttribute.{SaAttribute}
use Rattle.sa_records.specs.declared.sa_attribute.SaAttribute.TheVariants.{NodeRecord, PathRecord, McMemberRecord, ServiceRecord}

abbrev pub sa_attribute_code : SaAttribute → ℕ
sa_attribute_code NodeRecord = 0x0011
sa_attribute_code ServiceRecord = 0x0031
sa_attribute_code PathRecord = 0x0035
sa_attribute_code McMemberRecord = 0x0038

-- the attribute of that code, if there is one
abbrev pub sa_attribute_of : ℕ → Option SaAttribute
sa_attribute_of code =
    if code == sa_attribute_code NodeRecord then Some NodeRecord
    else if code == sa_attribute_code ServiceRecord then Some ServiceRecord
    else if code == sa_attribute_code PathRecord then Some PathRecord
    else if code == sa_attribute_code McMemberRecord then Some McMemberRecord
    else None
