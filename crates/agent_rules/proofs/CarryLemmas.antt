-- What a reply carries.
use Rattle.std.proofs.Common.{◌≡◌, ℕ, ◌^◌, ◌<◌, List, length, take, drop, Ok, Err, ◌∙◌, arith}
use Rattle.std.specs.Int.Digits.{AllBelowBase}
use Rattle.mad_layout.specs.Bits.{number, put_field}
use Rattle.mad_layout.specs.MadStatus.{mad_status_code}
use Rattle.mad_layout.specs.declared.status.MadStatus.{MadStatus}
use Rattle.mad_layout.specs.declared.status.MadStatus.TheVariants.{BadVersion, MethodNotSupported, AttributeNotSupported, InvalidField, NoResources}
use Rattle.mad_layout.specs.declared.status.MadStatus.TheVariants.{RequestInvalid, NoRecords, TooManyRecords, InvalidGid, InsufficientComponents}
use Rattle.mad_layout.proofs.AlignedLemmas.{bytes_stand}
use Rattle.mad_layout.proofs.LayoutLemmas.{put_below}
use Rattle.attr_tables.specs.Attribute.{IsAttribute}
use Rattle.attr_tables.proofs.AttributeLemmas.{attribute_fits}
use Rattle.agent_rules.specs.Laws.{CarriesAttribute, CarriesRefusal, RepliesCarry}
use Rattle.agent_rules.specs.Request.{reply_method, reply_to}
use Rattle.agent_rules.proofs.RequestLemmas.{attribute_keeps, attribute_method, attribute_sets, attribute_status}
use Rattle.agent_rules.proofs.RequestLemmas.{refusal_data, refusal_keeps, refusal_method, refusal_status}

pub code_fits : (status : MadStatus) → mad_status_code status < 2 ^ 15
code_fits BadVersion = omega arith
code_fits MethodNotSupported = omega arith
code_fits AttributeNotSupported = omega arith
code_fits InvalidField = omega arith
code_fits NoResources = omega arith
code_fits RequestInvalid = omega arith
code_fits NoRecords = omega arith
code_fits TooManyRecords = omega arith
code_fits InvalidGid = omega arith
code_fits InsufficientComponents = omega arith

reply_below : (smp bytes : List ℕ) → AllBelowBase 256 (reply_to smp (Ok bytes))
unfolding reply_to
reply_below smp bytes = put_below (put_field (put_field smp 24 8 (reply_method smp)) 33 15 0) 512 512 (number bytes)

attribute_there : (smp bytes : List ℕ) → length smp ≡ 256 → IsAttribute bytes → take 64 (drop 64 (reply_to smp (Ok bytes))) ≡ bytes
attribute_there smp bytes long is =
    let sets = attribute_sets smp bytes long (attribute_fits bytes is) in
    let size : length (reply_to smp (Ok bytes)) ≡ 256 = sets.same_length ∙ long in
    bytes_stand (reply_to smp (Ok bytes)) bytes 64 64 (reply_below smp bytes) is.small (omega arith) is.count sets.fields.1.1.0

carries_attribute : (smp bytes : List ℕ) → length smp ≡ 256 → IsAttribute bytes → CarriesAttribute smp bytes (reply_to smp (Ok bytes))
carries_attribute smp bytes long is =
    let fits = attribute_fits bytes is in
    record {
      method = attribute_method smp bytes long fits;
      status = attribute_status smp bytes long fits;
      attribute = attribute_there smp bytes long is;
      rest = attribute_keeps smp bytes long fits;
    }

carries_refusal : (smp : List ℕ) (status : MadStatus) → length smp ≡ 256 → CarriesRefusal smp status (reply_to smp (Err status))
carries_refusal smp status long =
    let fits = code_fits status in
    record {
      method = refusal_method smp status long fits;
      code = refusal_status smp status long fits;
      data_stay = refusal_data smp status long fits;
      rest = refusal_keeps smp status long fits;
    }

pub carries : RepliesCarry
carries = record { attribute = carries_attribute; refusal = carries_refusal }
