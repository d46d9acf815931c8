-- What a line `send PORT DLID PKEY QP PAYLOAD` stands for.
use Rattle.std.specs.Prelude.{ℕ, ◌^◌, nat_lt, List, [], ◌∷◌, Option, Some, None, Result, Ok, Err, if◌then◌else◌}
use Rattle.std.specs.Option.{ok_or}
use Rattle.text_words.specs.Number.{number_in, u16_in}
use Rattle.step_results.specs.Steps.{◌>>=◌}
use Rattle.topo_file.specs.Topology.{TopologyState}
use Rattle.subnet_model.specs.declared.command.Command.{Command}
use Rattle.subnet_model.specs.declared.command.Command.TheVariants.{Send}
use Rattle.script_lines.specs.Sender.{sender_of}
use Rattle.script_lines.specs.EncodedBytes.{Written, encoded, written_in}
use Rattle.script_lines.specs.declared.script_cause.ScriptCause.{ScriptCause}
use Rattle.script_lines.specs.declared.script_cause.ScriptCause.TheVariants.{Malformed, PayloadTooLong, BadField}

-- ---- fields
abbrev pub below : ℕ → Option ℕ → Result ℕ ScriptCause
below top (Some n) = if nat_lt n top then Ok n else Err BadField
below top None = Err BadField

abbrev pub u16_field : List ℕ → Result ℕ ScriptCause
u16_field word = ok_or (u16_in word) BadField

-- a number under this one
abbrev pub field_of : ℕ → List ℕ → Result ℕ ScriptCause
field_of top word = below top (number_in word)

-- ---- the payload: a packet carries at most 256 bytes
abbrev pub fitting : Option Written → Result (Option Written) ScriptCause
fitting (Some written) = if nat_lt 256 written.size then Err PayloadTooLong else Ok (Some written)
fitting None = Ok None

abbrev pub payload_of : Option Written → Result (List ℕ) ScriptCause
payload_of (Some written) = encoded written.size written.digits
payload_of None = Err BadField

-- ---- the line
unfoldable pub send_encoded : TopologyState → List ℕ → List ℕ → List ℕ → List ℕ → List ℕ → Result Command ScriptCause
send_encoded plan port dlid p_key qp payload = do
  sender ← sender_of plan port
  written ← fitting (written_in payload)
  lid ← u16_field dlid
  key ← u16_field p_key
  number ← field_of (2 ^ 24) qp
  bytes ← payload_of written
  Ok (Send (record { port_guid = sender; dlid = lid; p_key = key; destination_qp = number; payload = bytes }))

unfoldable pub send_of : TopologyState → List (List ℕ) → Result Command ScriptCause
send_of plan (port ∷ dlid ∷ p_key ∷ qp ∷ payload ∷ []) = send_encoded plan port dlid p_key qp payload
send_of plan _ = Err Malformed
