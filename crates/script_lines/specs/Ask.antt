-- What a line `ask PORT METHOD ATTR tid=NUM FIELD=VALUE ..` stands for: a MAD of subnet administration that asks by the
-- fields that the line names (IBA volume 1, 15.2.1.1).
use Rattle.std.specs.Prelude.{ℕ, ◌+◌, ◌^◌, Bool, ◌==◌, nat_le, List, [], ◌∷◌, ◌++◌, map, replicate, codes, bit_and, bit_or}
use Rattle.std.specs.Prelude.{Option, Some, None, Result, Ok, Err, if◌then◌else◌}
use Rattle.std.specs.Option.{ok_or, option_and_then, option_map}
use Rattle.std.specs.Str.{bytes_eq}
use Rattle.mad_layout.specs.declared.method.Method.{Method}
use Rattle.mad_layout.specs.declared.method.Method.TheVariants.{Get, GetTable, Set, Delete}
use Rattle.mad_layout.specs.declared.sa_mad.SaMad.{SaMad}
use Rattle.mad_layout.specs.Bits.{number}
use Rattle.mad_layout.specs.Layout.{Field, at, put_all}
use Rattle.mad_layout.specs.Method.{method_code}
use Rattle.rmpp_core.specs.Reply.{reply_bytes}
use Rattle.sa_records.specs.declared.sa_attribute.SaAttribute.{SaAttribute}
use Rattle.sa_records.specs.declared.sa_attribute.SaAttribute.TheVariants as attribute
use Rattle.sa_records.specs.Asked.{Asked, asked_by}
use Rattle.sa_records.specs.McMemberRecord.{mc_member_record_asked}
use Rattle.sa_records.specs.NodeRecord.{node_record_asked}
use Rattle.sa_records.specs.PathRecord.{path_record_asked}
use Rattle.sa_records.specs.SaAttribute.{sa_attribute_code}
use Rattle.sa_records.specs.ServiceRecord.{service_data_asked, service_record_asked}
use Rattle.sa_records.specs.ServiceMask as service_mask
use Rattle.text_words.specs.Cut.{cut_at}
use Rattle.text_words.specs.Number.{number_in}
use Rattle.step_results.specs.Steps.{◌>>=◌}
use Rattle.topo_file.specs.Topology.{TopologyState}
use Rattle.subnet_model.specs.declared.command.Command.{Command}
use Rattle.subnet_model.specs.declared.command.Command.TheVariants.{Ask}
use Rattle.script_lines.specs.Send.{field_of}
use Rattle.script_lines.specs.Sender.{sender_of}
use Rattle.script_lines.specs.EncodedBytes.{Written, in_room, encoded, written_in}
use Rattle.script_lines.specs.declared.script_cause.ScriptCause.{ScriptCause}
use Rattle.script_lines.specs.declared.script_cause.ScriptCause.TheVariants.{Malformed, BadField}

-- ---- the words METHOD and ATTR
abbrev pub method_in : List ℕ → Option Method
method_in word =
    if bytes_eq word (codes "get") then Some Get
    else if bytes_eq word (codes "table") then Some GetTable
    else if bytes_eq word (codes "set") then Some Set
    else if bytes_eq word (codes "delete") then Some Delete
    else None

abbrev pub attribute_in : List ℕ → Option SaAttribute
attribute_in word =
    if bytes_eq word (codes "node") then Some attribute.NodeRecord
    else if bytes_eq word (codes "path") then Some attribute.PathRecord
    else if bytes_eq word (codes "member") then Some attribute.McMemberRecord
    else if bytes_eq word (codes "service") then Some attribute.ServiceRecord
    else None

-- ---- the fields
-- a field that a line names: its bits in the ComponentMask, and its place in the data with the value that stands there
pub record Named : Type 0 where
  pub bits : ℕ
  pub place : Field

-- a number in ServiceData by its place in the record, where ServiceData begins at bit 896
abbrev pub in_record : Asked → Asked
in_record one = record one { off = 896 + one.off }

-- the fields of a record that hold numbers
abbrev pub fields_of : SaAttribute → List Asked
fields_of attribute.NodeRecord = node_record_asked
fields_of attribute.PathRecord = path_record_asked
fields_of attribute.McMemberRecord = mc_member_record_asked
fields_of attribute.ServiceRecord = service_record_asked ++ map in_record service_data_asked

-- such a field with this number, if there is one of that name and the number is narrow enough for it
abbrev pub holding : ℕ → Asked → Named
holding value one = record { bits = one.bits; place = at one.off one.len value }

abbrev pub numbered : SaAttribute → List ℕ → ℕ → Option Named
numbered kind name value = option_map (holding value) (asked_by name value (fields_of kind))

-- ServiceName of a service, 64 bytes from bit 384 on: those that `N:HEX` writes, N at most 64, and zero bytes
abbrev pub name_bytes : Option Written → Result (List ℕ) ScriptCause
name_bytes (Some written) = if nat_le written.size 64 then in_room 64 (encoded written.size written.digits) else Err BadField
name_bytes None = Err BadField

abbrev pub name_of : Result (List ℕ) ScriptCause → Option Named
name_of (Ok bytes) = Some (record { bits = service_mask.service_name; place = at 384 512 (number bytes) })
name_of (Err cause) = None

abbrev pub service_named : SaAttribute → List ℕ → Option Named
service_named attribute.ServiceRecord value = name_of (name_bytes (written_in value))
service_named _ value = None

abbrev pub is_equals : ℕ → Bool
is_equals byte = byte == 61

-- the field that a word FIELD=VALUE names
abbrev pub named_as : SaAttribute → List ℕ → List ℕ → Option Named
named_as kind name value =
    if bytes_eq name (codes "name") then service_named kind value else option_and_then (numbered kind name) (number_in value)

unfoldable pub named_in : SaAttribute → List ℕ → Option Named
named_in kind word = option_and_then (λ parts. named_as kind parts.0 parts.1) (cut_at is_equals word)

-- ---- what is asked: the bits of all that is named, and each value at its place
abbrev pub mask_of : List Named → ℕ
mask_of [] = 0
mask_of (one ∷ rest) = bit_or one.bits (mask_of rest)

abbrev pub data_of : List Named → List ℕ
data_of named = put_all (replicate 200 0) (map (λ one. one.place) named)

-- all fields of a line, none of them twice: no two fields have a bit in common (`fields_have_own_bits` of sa_records)
unfoldable pub fields_in : SaAttribute → List (List ℕ) → Result (List Named) ScriptCause
fields_in kind [] = Ok []
fields_in kind (word ∷ rest) = do
  one ← ok_or (named_in kind word) BadField
  others ← fields_in kind rest
  if bit_and one.bits (mask_of others) == 0 then Ok (one ∷ others) else Err BadField

abbrev pub tid_as : Option (List ℕ × List ℕ) → Result ℕ ScriptCause
tid_as (Some parts) = if bytes_eq parts.0 (codes "tid") then field_of (2 ^ 64) parts.1 else Err BadField
tid_as None = Err BadField

abbrev pub tid_in : List ℕ → Result ℕ ScriptCause
tid_in word = tid_as (cut_at is_equals word)

-- ---- the MAD: of class 3, version 2; what no line names is 0
abbrev pub asking : List Named → SaMad
asking named = record { sm_key = 0; attribute_offset = 0; component_mask = mask_of named; «data» = data_of named }

abbrev pub asking_mad : Method → SaAttribute → ℕ → SaMad → List ℕ
asking_mad how kind tid asked =
    reply_bytes
    (record {
      base_version = 1;
      mgmt_class = 3;
      class_version = 2;
      method = method_code how;
      status = 0;
      class_specific = 0;
      transaction_id = tid;
      attribute_id = sa_attribute_code kind;
      attribute_modifier = 0;
    })
    (record {
      version = 0;
      kind = 0;
      response_time = 0;
      flags = 0;
      status = 0;
      segment_number = 0;
      payload_length_or_new_window_last = 0;
    })
    asked

-- ---- the line
unfoldable pub ask_encoded : TopologyState → (port how what tid : List ℕ) → List (List ℕ) → Result Command ScriptCause
ask_encoded plan port how what tid fields = do
  method ← ok_or (method_in how) Malformed
  kind ← ok_or (attribute_in what) Malformed
  asker ← sender_of plan port
  id ← tid_in tid
  named ← fields_in kind fields
  Ok (Ask (record { port_guid = asker; mad = asking_mad method kind id (asking named) }))

unfoldable pub ask_of : TopologyState → List (List ℕ) → Result Command ScriptCause
ask_of plan (port ∷ how ∷ what ∷ tid ∷ fields) = ask_encoded plan port how what tid fields
ask_of plan _ = Err Malformed
