-- Steps of the code, on which no definition stands: a record that asks by one field more.
use Rattle.std.specs.Prelude.{ℕ, ◌≡◌, ◌-◌, List, ◌++◌, length, replicate, Option, option_map, IfSome, Result, Ok}
use Rattle.std.specs.Int.Digits.{AllBelowBase}
use Rattle.mad_layout.specs.Bits.{put_field}
use Rattle.mad_layout.specs.Layout.{Fits}
use Rattle.mad_layout.specs.declared.sa_mad.SaMad.{SaMad}
use Rattle.step_results.specs.Steps.{◌>>=◌}
use Rattle.sa_records.specs.declared.sa_attribute.SaAttribute.{SaAttribute}
use Rattle.sa_records.specs.declared.sa_record.SaRecord.{SaRecord}
use Rattle.sa_records.specs.declared.sa_record.SaRecord.TheVariants.{Node, Path, Group, Service}
use Rattle.sa_records.specs.declared.service_record.ServiceRecord.{ServiceRecord}
use Rattle.sa_records.specs.SaRecord.{RecordFits, attribute_of, record_bytes}
use Rattle.sa_records.specs.ServiceRecord.{service_record}
use Rattle.script_lines.specs.Ask.{Named, asking, fields_in}
use Rattle.script_lines.specs.declared.script_cause.ScriptCause.{ScriptCause}

-- the data of a MAD that asks by this record
abbrev pub data_with : SaRecord → List ℕ
data_with one = record_bytes one ++ replicate (200 - length (record_bytes one)) 0

abbrev pub IsPut : SaRecord → SaRecord → Named → Type 0
IsPut old new named = data_with new ≡ put_field (data_with old) named.place.off named.place.len named.place.value

-- the new record asks by that field too, and its bits are reported; if there is no such field, none are
pub record AsksToo (one : Option Named) (old new : SaRecord) (reported : Option ℕ) : Type 0 where
  pub bits : reported ≡ option_map (λ named. named.bits) one
  pub set : IfSome one (IsPut old new)
  pub kind : attribute_of new ≡ attribute_of old
  pub fits : RecordFits new

-- what the types of a service's fields say of their values
pub record ServiceFits (one : ServiceRecord) : Type 0 where
  pub fields : Fits (service_record one)
  pub below : AllBelowBase 256 one.service_data
  pub long : length one.service_data ≡ 64

abbrev pub IfService : SaRecord → Type 0
IfService (Service one) = ServiceFits one
IfService (Node one) = Unit {0}
IfService (Path one) = Unit {0}
IfService (Group one) = Unit {0}

-- what is asked by all fields of a line
unfoldable pub asked_in : SaAttribute → List (List ℕ) → Result SaMad ScriptCause
asked_in kind words = fields_in kind words >>= λ named. Ok (asking named)
