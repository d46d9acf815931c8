-- What the commands of a script send are bytes.
use Rattle.std.proofs.Common.{ℕ, suc, ◌-◌, ◌^◌, ◌≡◌, refl, subst, Bool, nat_le, List, [], ◌∷◌, ◌++◌, length, replicate, Option, Some, None, Result, Ok, Err}
use Rattle.std.specs.Int.Digits.{AllBelowBase}
use Rattle.std.specs.List.{AllByRecursion}
use Rattle.std.specs.Option.{ok_or}
use Rattle.std.proofs.lemmas.List.Elements.{All-nil, recursion_from_All}
use Rattle.hex.specs.Hex.{IsBytes, decode_of}
use Rattle.hex.specs.declared.error.FromHexError.{FromHexError}
use Rattle.hex.proofs.HexLemmas.{decode_of-ok}
use Rattle.mad_layout.proofs.LayoutLemmas.{zeros_below}
use Rattle.mad_layout.proofs.NumberLemmas.{below_append}
use Rattle.step_results.proofs.StepLemmas.{bind_ok, let_through, same_ok}
use Rattle.step_results.specs.Steps.{◌>>=◌}
use Rattle.rmpp_core.proofs.ReadBackLemmas.{reply_below}
use Rattle.subnet_model.specs.declared.command.Command.{Command}
use Rattle.subnet_model.specs.declared.command.Command.TheVariants.{Ask, Send}
use Rattle.sa_replies.specs.RunData.{CarriesBytes}
use Rattle.script_lines.proofs.CommandLemmas.{each_line, line_has}
use Rattle.script_lines.specs.Ask.{ask_encoded, asking, asking_mad, attribute_in, fields_in, method_in, tid_in}
use Rattle.script_lines.specs.Script.{command_of, commands_in}
use Rattle.script_lines.specs.Send.{field_of, fitting, payload_of, send_encoded, u16_field}
use Rattle.script_lines.specs.Sender.{sender_of}
use Rattle.script_lines.specs.EncodedBytes.{Written, bytes_or_fault, filled, encoded, written_in}
use Rattle.script_lines.specs.SwitchCable.{cable_encoded, named_cable}
use Rattle.script_lines.specs.declared.script_cause.ScriptCause.{ScriptCause}
use Rattle.script_lines.specs.declared.script_cause.ScriptCause.TheVariants.{BadField, Malformed}
use Rattle.subnet_core.specs.Stream.{and_then_those, commands_before_fault}
use Rattle.text_words.specs.Lines.{lines}
use Rattle.topo_file.specs.Topology.{TopologyState}

-- ---- bytes that a word writes
bytes_below : (bytes : List ℕ) → IsBytes bytes → AllBelowBase 256 bytes
bytes_below [] each = tt
bytes_below (byte ∷ bytes) each = (each 0, bytes_below bytes (λ i. each (suc i)))

filled_below : (n : ℕ) (bytes given : List ℕ) → AllBelowBase 256 bytes → filled n bytes ≡ Ok given → AllBelowBase 256 given
filled_below n bytes given below is =
    let passed = let_through (nat_le (length bytes) n) (Ok (bytes ++ replicate (n - length bytes) 0)) BadField given is in
    subst (AllBelowBase 256) (same_ok (bytes ++ replicate (n - length bytes) 0) given passed.1)
    (below_append bytes (replicate (n - length bytes) 0) below (zeros_below (n - length bytes)))

encoded_below : (n : ℕ) (digits given : List ℕ) → encoded n digits ≡ Ok given → AllBelowBase 256 given
unfolding encoded
encoded_below n digits given is = by (decode_of digits) refl is
  where
    by : (decoded : Result (List ℕ) FromHexError) → decode_of digits ≡ decoded → (bytes_or_fault decoded >>= λ bytes. filled n bytes) ≡ Ok given
        → AllBelowBase 256 given
    by (Ok bytes) e h = filled_below n bytes given (bytes_below bytes (decode_of-ok digits bytes e).3) h
    by (Err error) e h = absurd cc

payload_below : (written : Option Written) (given : List ℕ) → payload_of written ≡ Ok given → AllBelowBase 256 given
payload_below (Some written) given is = encoded_below written.size written.digits given is
payload_below None given is = absurd cc

-- ---- commands
send_carries : (plan : TopologyState) (port dlid p_key qp payload : List ℕ) (command : Command) → send_encoded plan port dlid p_key qp payload ≡ Ok command
    → CarriesBytes command
unfolding send_encoded
send_carries plan port dlid p_key qp payload command is =
    let sender = bind_ok (sender_of plan port) _ command is in
    let written = bind_ok (fitting (written_in payload)) _ command sender.2 in
    let lid = bind_ok (u16_field dlid) _ command written.2 in
    let key = bind_ok (u16_field p_key) _ command lid.2 in
    let number = bind_ok (field_of (2 ^ 24) qp) _ command key.2 in
    let bytes = bind_ok (payload_of written.0) _ command number.2 in
    let made : Command = Send (record { port_guid = sender.0; dlid = lid.0; p_key = key.0; destination_qp = number.0; payload = bytes.0 }) in
    subst CarriesBytes (same_ok made command bytes.2) (payload_below written.0 bytes.0 bytes.1)

ask_carries : (plan : TopologyState) (port how what tid : List ℕ) (fields : List (List ℕ)) (command : Command)
    → ask_encoded plan port how what tid fields ≡ Ok command → CarriesBytes command
unfolding ask_encoded
ask_carries plan port how what tid fields command is =
    let method = bind_ok (ok_or (method_in how) Malformed) _ command is in
    let kind = bind_ok (ok_or (attribute_in what) Malformed) _ command method.2 in
    let sender = bind_ok (sender_of plan port) _ command kind.2 in
    let number = bind_ok (tid_in tid) _ command sender.2 in
    let named = bind_ok (fields_in kind.0 fields) _ command number.2 in
    let made : Command = Ask (record { port_guid = sender.0; mad = asking_mad method.0 kind.0 number.0 (asking named.0) }) in
    subst CarriesBytes (same_ok made command named.2) (reply_below _ _ _)

cable_carries : (plan : TopologyState) (mended : Bool) (one other : List ℕ) (command : Command) → cable_encoded plan mended one other ≡ Ok command
    → CarriesBytes command
unfolding cable_encoded
cable_carries plan mended one other command is =
    let cable = bind_ok (named_cable plan one other) _ command is in
    let made : Command = Command.Cable (record { cable = cable.0; up = mended }) in
    subst CarriesBytes (same_ok made command cable.2) tt

line_carries : (plan : TopologyState) (line : List ℕ) (command : Command) → command_of plan line ≡ Ok (Some command) → CarriesBytes command
line_carries plan = line_has plan CarriesBytes (send_carries plan) (ask_carries plan) (cable_carries plan)

-- ---- those of a whole script, and those before its first fault
pub commands_carry_bytes : (plan : TopologyState) (script : List ℕ) (commands : List Command) → commands_in plan script ≡ Ok commands
    → AllByRecursion CarriesBytes commands
commands_carry_bytes plan script commands given =
    recursion_from_All CarriesBytes commands (each_line plan CarriesBytes (line_carries plan) 1 [] (lines script) commands (All-nil CarriesBytes) given)

pub lines_carry_bytes : (plan : TopologyState) (taken : List (List ℕ)) → AllByRecursion CarriesBytes (commands_before_fault plan taken)
unfolding commands_before_fault
lines_carry_bytes plan [] = tt
lines_carry_bytes plan (line ∷ rest) = by (command_of plan line) refl (lines_carry_bytes plan rest)
  where
    by : (given : Result (Option Command) ScriptCause) → command_of plan line ≡ given → AllByRecursion CarriesBytes (commands_before_fault plan rest)
        → AllByRecursion CarriesBytes (and_then_those given (commands_before_fault plan rest))
    by (Ok (Some command)) e later = (line_carries plan line command e, later)
    by (Ok None) e later = later
    by (Err cause) e later = tt
