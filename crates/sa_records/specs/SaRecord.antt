-- A record of any kind (IBA volume 1, 15.2.5): what it is asked by, and the bytes that it fills in a table.
use Rattle.std.specs.Prelude.{ℕ, ◌≡◌, List, Option, Some, None}
use Rattle.std.specs.Option.{option_or}
use Rattle.mad_layout.specs.Layout.{Fits}
use Rattle.sa_records.specs.declared.sa_attribute.SaAttribute.{SaAttribute}
use Rattle.sa_records.specs.declared.sa_attribute.SaAttribute.TheVariants as attribute
use Rattle.sa_records.specs.declared.sa_record.SaRecord.{SaRecord}
use Rattle.sa_records.specs.declared.sa_record.SaRecord.TheVariants.{Node, Path, Group, Service}
use Rattle.sa_records.specs.declared.service_record.ServiceRecord.{ServiceRecord}
use Rattle.sa_records.specs.Asked.{asked_by, bits_of, with_number, with_value}
use Rattle.sa_records.specs.NodeRecord.{node_record, node_record_asked, node_record_bytes}
use Rattle.sa_records.specs.PathRecord.{path_record, path_record_asked, path_record_bytes}
use Rattle.sa_records.specs.McMemberRecord.{mc_member_record, mc_member_record_asked, mc_member_record_bytes}
use Rattle.sa_records.specs.ServiceRecord.{service_data_asked, service_fields, service_record_asked, service_record_bytes}
use Rattle.sa_records.specs.ServiceMask as service_mask

abbrev pub attribute_of : SaRecord → SaAttribute
attribute_of (Node one) = attribute.NodeRecord
attribute_of (Path one) = attribute.PathRecord
attribute_of (Group one) = attribute.McMemberRecord
attribute_of (Service one) = attribute.ServiceRecord

-- the bytes that it fills in a table
abbrev pub record_bytes : SaRecord → List ℕ
record_bytes (Node one) = node_record_bytes one
record_bytes (Path one) = path_record_bytes one
record_bytes (Group one) = mc_member_record_bytes one
record_bytes (Service one) = service_record_bytes one

-- how many they are
abbrev pub blank_size : SaAttribute → ℕ
blank_size attribute.NodeRecord = 112
blank_size attribute.PathRecord = 64
blank_size attribute.McMemberRecord = 56
blank_size attribute.ServiceRecord = 176

-- each value is narrow enough for its field; those of a service are by their types
abbrev pub RecordFits : SaRecord → Type 0
RecordFits (Node one) = Fits (node_record one)
RecordFits (Path one) = Fits (path_record one)
RecordFits (Group one) = Fits (mc_member_record one)
RecordFits (Service one) = Unit {0}

-- ---- what it is asked by: the bits that name a field, and the record with the value at its place
abbrev pub bits_asked : List ℕ → ℕ → SaRecord → Option ℕ
bits_asked field value (Node one) = bits_of (asked_by field value node_record_asked)
bits_asked field value (Path one) = bits_of (asked_by field value path_record_asked)
bits_asked field value (Group one) = bits_of (asked_by field value mc_member_record_asked)
bits_asked field value (Service one) =
    option_or (bits_of (asked_by field value service_record_asked)) (bits_of (asked_by field value service_data_asked))

pub record ServiceAskedBy (field : List ℕ) (value : ℕ) (old new : ServiceRecord) : Type 0 where
  pub fields : service_fields new ≡ with_value value (asked_by field value service_record_asked) (service_fields old)
  pub name : new.service_name ≡ old.service_name
  pub «data» : new.service_data ≡ with_number value (asked_by field value service_data_asked) old.service_data

abbrev pub AskedBy : List ℕ → ℕ → SaRecord → SaRecord → Type 0
AskedBy field value (Node old) (Node new) = node_record new ≡ with_value value (asked_by field value node_record_asked) (node_record old)
AskedBy field value (Path old) (Path new) = path_record new ≡ with_value value (asked_by field value path_record_asked) (path_record old)
AskedBy field value (Group old) (Group new) =
    mc_member_record new ≡ with_value value (asked_by field value mc_member_record_asked) (mc_member_record old)
AskedBy field value (Service old) (Service new) = ServiceAskedBy field value old new
AskedBy field value _ _ = ⊥

-- ---- a service is asked by its name, too
abbrev pub name_bits : SaRecord → Option ℕ
name_bits (Service one) = Some service_mask.service_name
name_bits _ = None

abbrev pub named : List ℕ → SaRecord → SaRecord
named name (Service one) = Service (record one { service_name = name })
named name (Node one) = Node one
named name (Path one) = Path one
named name (Group one) = Group one
