-- What the ComponentMask of a request does not name is not looked at (IBA volume 1, 15.2.1.1).
use Rattle.std.specs.Prelude.{ℕ, ◌≡◌, ◌+◌, ◌==◌, Bool, true, not, ◌||◌, if◌then◌else◌, List, [], ◌∷◌, ◌++◌, length, map, codes, Some}
use Rattle.std.specs.Int.Digits.{AllBelowBase}
use Rattle.std.specs.List.{list_all}
use Rattle.mad_layout.specs.Bits.{field}
use Rattle.mad_layout.specs.Method.{method_code}
use Rattle.mad_layout.specs.declared.method.Method.TheVariants.{Delete}
use Rattle.sa_records.specs.Asked.{Asked, by}
use Rattle.sa_records.specs.McMemberRecord.{mc_member_record_asked}
use Rattle.sa_records.specs.NodeRecord.{node_record_asked}
use Rattle.sa_records.specs.PathRecord.{path_record_asked}
use Rattle.sa_records.specs.ServiceMask as service_mask
use Rattle.sa_records.specs.ServiceRecord.{service_data_asked, service_record_asked}
use Rattle.sa_records.specs.declared.sa_attribute.SaAttribute.TheVariants as sa_attribute
use Rattle.subnet_model.specs.Configuration.{ConfigurationState}
use Rattle.subnet_model.specs.Configured.{IsConfigured}
use Rattle.subnet_model.specs.Delivery.{port_with_guid}
use Rattle.subnet_model.specs.declared.subnet_port.SubnetPort.{SubnetPort}
use Rattle.sa_model.specs.Selected.{asks}
use Rattle.sa_replies.specs.Answer.{Administration, Answered, answer}
use Rattle.sa_replies.specs.Laws.{AnswerRule}
use Rattle.sa_replies.specs.Request.{Request, is_about, request_in}
use Rattle.sa_replies.specs.State.{IsStateOf}

-- ---- the fields of each record, with the bits that name them. A name of 64 bytes and the numbers of ServiceData, each at its
-- place in byte 112 and those behind it, are fields of a ServiceRecord too
abbrev pub name_and_data : List Asked
name_and_data =
    by (codes "name") service_mask.service_name 384 512 ∷ map (λ one. by one.name one.bits (896 + one.off) one.len) service_data_asked

abbrev pub fields_of : Request → List Asked
fields_of request =
    if is_about sa_attribute.NodeRecord request then node_record_asked
    else if is_about sa_attribute.PathRecord request then path_record_asked
    else if is_about sa_attribute.McMemberRecord request then mc_member_record_asked
    else if is_about sa_attribute.ServiceRecord request then service_record_asked ++ name_and_data
    else []

-- two records have the same in each field that the mask names
abbrev pub agree_on : ℕ → List ℕ → List ℕ → Asked → Bool
agree_on mask x y one = not (asks mask one.bits) || (field x one.off one.len == field y one.off one.len)

abbrev pub agree_where_named : List Asked → ℕ → List ℕ → List ℕ → Bool
agree_where_named fields mask x y = list_all (agree_on mask x y) fields

-- ---- two MADs of bytes, with the same headers, ComponentMask, and fields that it names
pub record AskTheSame (x y : List ℕ) : Type 0 where
  pub long : length x ≡ length y
  pub bytes : AllBelowBase 256 x
  pub other_bytes : AllBelowBase 256 y
  pub header : (request_in x).header ≡ (request_in y).header
  pub rmpp : (request_in x).rmpp ≡ (request_in y).rmpp
  pub component_mask : (request_in x).component_mask ≡ (request_in y).component_mask
  pub fields : agree_where_named (fields_of (request_in x)) (request_in x).component_mask (request_in x).content (request_in y).content ≡ true

-- ---- are answered by the same MADs, and leave the same. The reply to a Delete repeats the data of its request, so of it the
-- status alone is compared; all else of it repeats the request's headers (`IsResponseTo`)
abbrev pub compared_of : ℕ → List ℕ → List ℕ
compared_of method mad = if method == method_code Delete then field mad 32 16 ∷ [] else mad

pub record AreAnsweredAlike (method : ℕ) (x y : Answered) : Type 0 where
  pub mads : map (compared_of method) x.0 ≡ map (compared_of method) y.0
  pub after : x.1 ≡ y.1

abbrev pub LooksAtNamedFields : AnswerRule → Type 0
LooksAtNamedFields rule =
    (configuration : ConfigurationState) (own : SubnetPort) (x y : List ℕ) (state : Administration) → IsConfigured configuration
    → port_with_guid configuration.ports own.guid ≡ Some own → IsStateOf configuration state → AskTheSame x y
    → AreAnsweredAlike (request_in x).header.method (rule configuration.ports own x state) (rule configuration.ports own y state)

-- so ours does
abbrev pub OnlyNamedFieldsCount : Type 0
OnlyNamedFieldsCount = LooksAtNamedFields answer
