-- Each command of an accepted script names a port that may send, or a cable between switches.
use Rattle.std.proofs.Common.{ℕ, ◌+◌, ◌^◌, ◌≡◌, ◌==◌, ◌&&◌, ◌++◌, ◌∙◌, ap, refl, subst, sym, Bool, true, false, not, nat_le, if◌then◌else◌, codes, List, [], ◌∷◌, Option, Some, None, Result, Ok, Err, IfOk}
use Rattle.std.specs.List.{All}
use Rattle.std.specs.Option.{ok_or, option_eq, option_to_list}
use Rattle.std.specs.Result.{result_ok}
use Rattle.std.specs.Str.{bytes_eq}
use Rattle.std.proofs.lemmas.Bool.{and_parts, eqb-true, not-false}
use Rattle.std.proofs.lemmas.List.{append-nil}
use Rattle.std.proofs.lemmas.List.Elements.{All-nil, All-push}
use Rattle.std.proofs.lemmas.Option.{none-some, same_Some}
use Rattle.fabric_parts.specs.Cable.{far_end, is_cabled, is_same_port}
use Rattle.fabric_parts.specs.declared.cable.Cable.{Cable}
use Rattle.fabric_parts.specs.declared.cable.PortRef.{PortRef}
use Rattle.step_results.proofs.StepLemmas.{bind_done, bind_ok, let_through, not_stopped, same_ok}
use Rattle.step_results.specs.AtLine.{after_lines, on_line}
use Rattle.step_results.specs.Steps.{◌>>=◌}
use Rattle.subnet_model.specs.declared.command.Command.{Command}
use Rattle.subnet_model.specs.declared.command.Command.TheVariants.{Ask, Send}
use Rattle.text_words.specs.Lines.{lines, words_of}
use Rattle.text_words.specs.Words.{port_in}
use Rattle.topo_file.specs.Cable.{port_at}
use Rattle.topo_file.specs.Node.{is_switch_at, place_of, port_guid_at, ports_at}
use Rattle.topo_file.specs.Sound.{is_port}
use Rattle.topo_file.specs.Topology.{TopologyState}
use Rattle.script_lines.specs.Ask.{ask_of, ask_encoded, asking, asking_mad, attribute_in, fields_in, method_in, tid_in}
use Rattle.script_lines.specs.Laws.{CommandsNameWhatIsThere, IsSendingPort, IsSwitchCable, NamesWhatIsThere}
use Rattle.script_lines.specs.NamedPort.{named_place}
use Rattle.script_lines.specs.Script.{command_in, command_of, with_line}
use Rattle.script_lines.specs.Send.{field_of, fitting, payload_of, send_of, send_encoded, u16_field}
use Rattle.script_lines.specs.Sender.{sender_at, sender_of}
use Rattle.script_lines.specs.EncodedBytes.{written_in}
use Rattle.script_lines.specs.SwitchCable.{cable_between, cable_of, cable_encoded, end_named, joins_switches, named_cable}
use Rattle.script_lines.specs.declared.script_cause.ScriptCause.{ScriptCause}
use Rattle.script_lines.specs.declared.script_cause.ScriptCause.TheVariants.{Malformed, UnknownPort, ManagerPort, UncabledPort, UnknownCable}

-- ---- values that were given
some_of : {X E : Type 0} (o : Option X) (e : E) (x : X) → ok_or o e ≡ Ok x → o ≡ Some x
some_of None e x is = absurd cc
some_of (Some y) e x is = ap (λ z. Some z) (same_ok y x is)

on_line_of : {X Cause : Type 0} (number : ℕ) (given : Result X Cause) (x : X) → on_line number given ≡ Ok x → given ≡ Ok x
on_line_of number (Ok y) x is = ap (λ z. Ok z) (same_ok y x is)
on_line_of number (Err cause) x is = absurd cc

-- ---- a port that a script may name
port_there : (plan : TopologyState) (place number : ℕ) (at : PortRef) → port_at plan.nodes place number ≡ Some at → is_port plan.nodes at ≡ true
port_there plan place number at is = by (nat_le 1 number && nat_le number (ports_at plan.nodes place)) refl is
  where
    by : (b : Bool) → (nat_le 1 number && nat_le number (ports_at plan.nodes place)) ≡ b → (if b then Some (record { node = place; port = number }) else None) ≡ Some at
        → is_port plan.nodes at ≡ true
    by true within is = ap (is_port plan.nodes) (sym (same_Some (record { node = place; port = number }) at is)) ∙ within
    by false within is = absurd (none-some at is)

sends_at : (plan : TopologyState) (at : PortRef) (guid : ℕ) → is_port plan.nodes at ≡ true → sender_at plan at ≡ Ok guid → IsSendingPort plan guid
sends_at plan at guid port is =
    let adapter = not_stopped (is_switch_at plan.nodes at.node) UnknownPort _ guid is in
    let other = not_stopped (is_same_port at plan.sm) ManagerPort _ guid adapter.1 in
    let cabled = not_stopped (not (is_cabled plan.cables at)) UncabledPort _ guid other.1 in
    record {
      at = at;
      there = port;
      adapter = adapter.0;
      cabled = not-false (is_cabled plan.cables at) cabled.0;
      other = other.0;
      guid_is = same_ok (port_guid_at plan.nodes at) guid cabled.1;
    }

place_there : (plan : TopologyState) (word : List ℕ) (at : PortRef) → named_place plan word ≡ Ok at → is_port plan.nodes at ≡ true
unfolding named_place
place_there plan word at is =
    let port = bind_ok (ok_or (port_in word) UnknownPort) _ at is in
    let place = bind_ok (ok_or (place_of port.0.name plan.nodes) UnknownPort) _ at port.2 in
    port_there plan place.0 port.0.number at (some_of _ UnknownPort at place.2)

sends : (plan : TopologyState) (word : List ℕ) (guid : ℕ) → sender_of plan word ≡ Ok guid → IsSendingPort plan guid
unfolding sender_of
sends plan word guid is =
    let at = bind_ok (named_place plan word) _ guid is in
    sends_at plan at.0 guid (place_there plan word at.0 at.1) at.2

-- ---- a cable that a script may name
ok_of : {X E : Type 0} (given : Result X E) (x : X) → result_ok given ≡ Some x → given ≡ Ok x
ok_of (Ok y) x is = ap (λ z. Ok z) (same_Some y x is)
ok_of (Err cause) x is = absurd (none-some x is)

end_there : (plan : TopologyState) (word : List ℕ) (at : PortRef) → end_named plan word ≡ Ok at → is_port plan.nodes at ≡ true
end_there plan word at is = place_there plan word at (ok_of (named_place plan word) at (some_of _ UnknownCable at is))

same_end : (far : Option PortRef) (at : PortRef) → option_eq is_same_port far (Some at) ≡ true → far ≡ Some at
same_end None at same = absurd cc
same_end (Some far) at same =
    let parts = and_parts (far.node == at.node) (far.port == at.port) same in
    let is : far ≡ at = λ place. record { node = eqb-true far.node at.node parts.0 place; port = eqb-true far.port at.port parts.1 place } in
    ap (λ (port : PortRef). Some port) is

joins : (plan : TopologyState) (here there : PortRef) (cable : Cable) → is_port plan.nodes here ≡ true → is_port plan.nodes there ≡ true
    → cable_between plan here there ≡ Ok cable → IsSwitchCable plan cable
joins plan here there cable first second is =
    let passed = let_through (joins_switches plan here there) _ UnknownCable cable is in
    let parts = and_parts (is_switch_at plan.nodes here.node) _ passed.0 in
    let others = and_parts (is_switch_at plan.nodes there.node) _ parts.1 in
    subst (IsSwitchCable plan) (same_ok (record { first = here; second = there }) cable passed.1) (record {
      first = record { there = first; of_switch = parts.0 };
      second = record { there = second; of_switch = others.0 };
      joined = same_end (far_end plan.cables here) there others.1;
    })

-- ---- the command of a line
send_names : (plan : TopologyState) (port dlid p_key qp payload : List ℕ) (command : Command) → send_encoded plan port dlid p_key qp payload ≡ Ok command → NamesWhatIsThere plan command
unfolding send_encoded
send_names plan port dlid p_key qp payload command is =
    let sender = bind_ok (sender_of plan port) _ command is in
    let written = bind_ok (fitting (written_in payload)) _ command sender.2 in
    let lid = bind_ok (u16_field dlid) _ command written.2 in
    let key = bind_ok (u16_field p_key) _ command lid.2 in
    let number = bind_ok (field_of (2 ^ 24) qp) _ command key.2 in
    let bytes = bind_ok (payload_of written.0) _ command number.2 in
    let made : Command = Send (record { port_guid = sender.0; dlid = lid.0; p_key = key.0; destination_qp = number.0; payload = bytes.0 }) in
    subst (NamesWhatIsThere plan) (same_ok made command bytes.2) (sends plan port sender.0 sender.1)

ask_names : (plan : TopologyState) (port how what tid : List ℕ) (fields : List (List ℕ)) (command : Command) → ask_encoded plan port how what tid fields ≡ Ok command → NamesWhatIsThere plan command
unfolding ask_encoded
ask_names plan port how what tid fields command is =
    let method = bind_ok (ok_or (method_in how) Malformed) _ command is in
    let kind = bind_ok (ok_or (attribute_in what) Malformed) _ command method.2 in
    let sender = bind_ok (sender_of plan port) _ command kind.2 in
    let number = bind_ok (tid_in tid) _ command sender.2 in
    let named = bind_ok (fields_in kind.0 fields) _ command number.2 in
    let made : Command = Ask (record { port_guid = sender.0; mad = asking_mad method.0 kind.0 number.0 (asking named.0) }) in
    subst (NamesWhatIsThere plan) (same_ok made command named.2) (sends plan port sender.0 sender.1)

named_joins : (plan : TopologyState) (one other : List ℕ) (cable : Cable) → named_cable plan one other ≡ Ok cable → IsSwitchCable plan cable
unfolding named_cable
named_joins plan one other cable is =
    let here = bind_ok (end_named plan one) _ cable is in
    let there = bind_ok (end_named plan other) _ cable here.2 in
    joins plan here.0 there.0 cable (end_there plan one here.0 here.1) (end_there plan other there.0 there.1) there.2

pub named_is_there : (plan : TopologyState) (one other : List ℕ) (found : Result Cable ScriptCause) → found ≡ named_cable plan one other
    → IfOk found (IsSwitchCable plan)
named_is_there plan one other (Ok cable) is = named_joins plan one other cable (sym is)
named_is_there plan one other (Err cause) is = tt

cable_names : (plan : TopologyState) (mended : Bool) (one other : List ℕ) (command : Command) → cable_encoded plan mended one other ≡ Ok command → NamesWhatIsThere plan command
unfolding cable_encoded
cable_names plan mended one other command is =
    let cable = bind_ok (named_cable plan one other) _ command is in
    let made : Command = Command.Cable (record { cable = cable.0; up = mended }) in
    subst (NamesWhatIsThere plan) (same_ok made command cable.2) (named_joins plan one other cable.0 cable.1)

-- ---- what each command has that words make, that of a line has
module _ (plan : TopologyState) (P : Command → Type 0)
    (send_has : (port dlid p_key qp payload : List ℕ) (command : Command) → send_encoded plan port dlid p_key qp payload ≡ Ok command → P command)
    (ask_has : (port how what tid : List ℕ) (fields : List (List ℕ)) (command : Command) → ask_encoded plan port how what tid fields ≡ Ok command → P command)
    (cable_has : (mended : Bool) (one other : List ℕ) (command : Command) → cable_encoded plan mended one other ≡ Ok command → P command) where
  send_words_have : (words : List (List ℕ)) (command : Command) → send_of plan words ≡ Ok command → P command
  unfolding send_of
  send_words_have [] command is = absurd cc
  send_words_have (a ∷ []) command is = absurd cc
  send_words_have (a ∷ b ∷ []) command is = absurd cc
  send_words_have (a ∷ b ∷ c ∷ []) command is = absurd cc
  send_words_have (a ∷ b ∷ c ∷ d ∷ []) command is = absurd cc
  send_words_have (a ∷ b ∷ c ∷ d ∷ e ∷ []) command is = send_has a b c d e command is
  send_words_have (a ∷ b ∷ c ∷ d ∷ e ∷ f ∷ rest) command is = absurd cc

  ask_words_have : (words : List (List ℕ)) (command : Command) → ask_of plan words ≡ Ok command → P command
  unfolding ask_of
  ask_words_have [] command is = absurd cc
  ask_words_have (a ∷ []) command is = absurd cc
  ask_words_have (a ∷ b ∷ []) command is = absurd cc
  ask_words_have (a ∷ b ∷ c ∷ []) command is = absurd cc
  ask_words_have (a ∷ b ∷ c ∷ d ∷ fields) command is = ask_has a b c d fields command is

  cable_words_have : (mended : Bool) (words : List (List ℕ)) (command : Command) → cable_of plan mended words ≡ Ok command → P command
  unfolding cable_of
  cable_words_have mended [] command is = absurd cc
  cable_words_have mended (a ∷ []) command is = absurd cc
  cable_words_have mended (a ∷ b ∷ []) command is = cable_has mended a b command is
  cable_words_have mended (a ∷ b ∷ c ∷ rest) command is = absurd cc

  -- one kind of command
  kind_has : (given : Result Command ScriptCause) (command : Command) → ((made : Command) → given ≡ Ok made → P made)
      → (given >>= λ made. Ok (Some made)) ≡ Ok (Some command) → P command
  kind_has given command has is =
      let made = bind_done given (λ (command : Command). Some command) (Some command) is in
      has command (made.1 ∙ ap (λ (command : Command). Ok command) (same_Some made.0 command made.2))

  -- the commands behind a first word: one kind where the test of the word passes, else what is reported of it further on
  one_kind : (test : Bool) (given : Result Command ScriptCause) (others : Result (Option Command) ScriptCause) (command : Command)
      → ((made : Command) → given ≡ Ok made → P made) → (others ≡ Ok (Some command) → P command)
      → (if test then (given >>= λ made. Ok (Some made)) else others) ≡ Ok (Some command) → P command
  one_kind true given others command has otherwise is = kind_has given command has is
  one_kind false given others command has otherwise is = otherwise is

  all_words_have : (words : List (List ℕ)) (command : Command) → command_in plan words ≡ Ok (Some command) → P command
  unfolding command_in
  all_words_have [] command is = absurd (none-some command (same_ok None (Some command) is))
  all_words_have (first ∷ rest) command is =
      one_kind (bytes_eq first (codes "send")) (send_of plan rest) _ command (send_words_have rest)
      (one_kind (bytes_eq first (codes "ask")) (ask_of plan rest) _ command (ask_words_have rest)
      (one_kind (bytes_eq first (codes "cut")) (cable_of plan false rest) _ command (cable_words_have false rest)
      (one_kind (bytes_eq first (codes "mend")) (cable_of plan true rest) (Err Malformed) command (cable_words_have true rest)
      (λ malformed. absurd cc)))) is

  pub line_has : (line : List ℕ) (command : Command) → command_of plan line ≡ Ok (Some command) → P command
  unfolding command_of
  line_has line command is =
      let words = bind_ok (ok_or (words_of line) Malformed) _ (Some command) is in
      all_words_have words.0 command words.2

pub line_names : (plan : TopologyState) (line : List ℕ) (command : Command) → command_of plan line ≡ Ok (Some command) → NamesWhatIsThere plan command
line_names plan = line_has plan (NamesWhatIsThere plan) (send_names plan) (ask_names plan) (cable_names plan)

-- ---- what each line's command has, those of all lines have
more : (P : Command → Type 0) (so_far : List Command) (one : Option Command) → ((command : Command) → one ≡ Some command → P command)
    → All P so_far → All P (so_far ++ option_to_list one)
more P so_far None has before = subst (All P) (sym (append-nil so_far)) before
more P so_far (Some command) has before = All-push P so_far command before (has command refl)

pub each_line : (plan : TopologyState) (P : Command → Type 0) → ((line : List ℕ) (command : Command) → command_of plan line ≡ Ok (Some command) → P command)
    → (number : ℕ) (so_far : List Command) (left : List (List ℕ)) (commands : List Command) → All P so_far
    → after_lines (with_line plan) number so_far left ≡ Ok commands → All P commands
unfolding after_lines with_line
each_line plan P has number so_far [] commands before is = subst (All P) (same_ok so_far commands is) before
each_line plan P has number so_far (line ∷ rest) commands before is =
    let taken = bind_ok (on_line number (with_line plan number so_far line)) _ commands is in
    let made = bind_done (command_of plan line) (λ (one : Option Command). so_far ++ option_to_list one) taken.0 (on_line_of number _ taken.0 taken.1) in
    let now = more P so_far made.0 (λ command one. has line command (made.1 ∙ ap (λ (one : Option Command). Ok one) one)) before in
    each_line plan P has (number + 1) taken.0 rest commands (subst (All P) made.2 now) taken.2

pub commands_name_what_is_there : CommandsNameWhatIsThere
commands_name_what_is_there plan script commands given =
    each_line plan (NamesWhatIsThere plan) (λ line command read. line_names plan line command read) 1 [] (lines script) commands (All-nil (NamesWhatIsThere plan)) given
