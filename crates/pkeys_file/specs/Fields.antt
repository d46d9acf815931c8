-- The fields of an answer, each on a line of its own.
use Rattle.std.specs.Prelude.{ℕ, Bool, true, false, not, ◌==◌, List, drop, codes, bytes_eq, if◌then◌else◌, Option, Some, None, Result, Ok, Err}
use Rattle.std.specs.List.{position_or_len}
use Rattle.step_results.specs.Steps.{◌>>=◌}
use Rattle.pkeys_file.specs.declared.fault.KeysCause.{KeysCause}
use Rattle.pkeys_file.specs.declared.fault.KeysCause.TheVariants.{Malformed}
use Rattle.pkeys_file.specs.declared.fields.Fields.{Fields}
use Rattle.pkeys_file.specs.Parts.{cut, guid_of, u16_of}

abbrev pub no_fields : Fields
no_fields = record { guid = None; port_guid = None; capacity = None; inbound = None; outbound = None }

-- a value without the dots before it
abbrev pub value_in : List ℕ → List ℕ
value_in text = drop (position_or_len (λ byte. not (byte == 46)) text) text

-- `PartCap:.........................64`
unfoldable pub field_in : List ℕ → Result (List ℕ × List ℕ) KeysCause
field_in text = do
  parts ← cut 58 text
  Ok (parts.0, value_in parts.1)

abbrev pub bit_in : List ℕ → Result Bool KeysCause
bit_in word = if bytes_eq word (codes "0") then Ok false else (if bytes_eq word (codes "1") then Ok true else Err Malformed)

-- ---- no field that counts stands twice
abbrev pub new_guid : Option ℕ → List ℕ → Result (Option ℕ) KeysCause
new_guid (Some guid) value = Err Malformed
new_guid None value = guid_of value >>= λ guid. Ok (Some guid)

abbrev pub new_capacity : Option ℕ → List ℕ → Result (Option ℕ) KeysCause
new_capacity (Some capacity) value = Err Malformed
new_capacity None value = u16_of value >>= λ capacity. Ok (Some capacity)

abbrev pub new_bit : Option Bool → List ℕ → Result (Option Bool) KeysCause
new_bit (Some bit) value = Err Malformed
new_bit None value = bit_in value >>= λ bit. Ok (Some bit)

-- ---- the fields that count; all others are passed over, whatever their values are
abbrev pub with_node_field : Fields → List ℕ → List ℕ → Result Fields KeysCause
with_node_field fields name value =
    if bytes_eq name (codes "Guid") then (new_guid fields.guid value >>= λ guid. Ok (record fields { guid = guid }))
    else (if bytes_eq name (codes "PortGuid") then (new_guid fields.port_guid value >>= λ guid. Ok (record fields { port_guid = guid }))
    else (if bytes_eq name (codes "PartCap") then (new_capacity fields.capacity value >>= λ capacity. Ok (record fields { capacity = capacity }))
    else Ok fields))

abbrev pub with_switch_field : Fields → List ℕ → List ℕ → Result Fields KeysCause
with_switch_field fields name value =
    if bytes_eq name (codes "PartEnforceCap") then (new_capacity fields.capacity value >>= λ capacity. Ok (record fields { capacity = capacity }))
    else Ok fields

abbrev pub with_port_field : Fields → List ℕ → List ℕ → Result Fields KeysCause
with_port_field fields name value =
    if bytes_eq name (codes "PartEnforceInb") then (new_bit fields.inbound value >>= λ bit. Ok (record fields { inbound = bit }))
    else (if bytes_eq name (codes "PartEnforceOutb") then (new_bit fields.outbound value >>= λ bit. Ok (record fields { outbound = bit }))
    else Ok fields)
