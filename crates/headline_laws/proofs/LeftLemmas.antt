-- The lines that are taken out of a script are no commands of ports near the port that is asked for.
use Rattle.std.proofs.Common.{ℕ, ◌+◌, ◌^◌, ◌≡◌, ◌==◌, ◌&&◌, ◌||◌, ◌∙◌, ◌++◌, ap, refl, sym, subst, append_assoc, Bool, true, false, not, nat_eq, if◌then◌else◌, codes, List, [], ◌∷◌, drop, filter, flat_map, length, unwrap_or, Option, Some, None, Result, Ok, Err}
use Rattle.std.proofs.lemmas.Bool.{and_parts, eqb-true, false≢true}
use Rattle.std.proofs.lemmas.List.{append-nil}
use Rattle.std.proofs.lemmas.Option.{same_Some}
use Rattle.std.proofs.lemmas.Slice.Eq.{bytes_eq-Decides}
use Rattle.std.specs.Int.{to_be_bytes, w16}
use Rattle.std.specs.List.{AllByRecursion, list_any, starts_with}
use Rattle.std.specs.Option.{ok_or, option_map_or, option_to_list}
use Rattle.std.specs.Str.{bytes_eq}
use Rattle.fabric_cli.proofs.LineTextLemmas.{begins, begun}
use Rattle.headline_laws.proofs.PortNameLemmas.{IsPortOf, all_texts, sender_text}
use Rattle.headline_laws.specs.Texts.{has_inside, is_far, is_taken_out, names, printed, words_in}
use Rattle.partition_file.specs.declared.partition.Partition.{Partition}
use Rattle.partition_reports.proofs.NearLemmas.{near_is_to_share}
use Rattle.partition_reports.specs.Ports.{port_text}
use Rattle.partition_reports.specs.ShareLaws.{is_of_both}
use Rattle.partition_reports.specs.Shares.{Share, is_asked, pair_shares, share_line, shared_bases, shares, shares_text}
use Rattle.sa_model.proofs.SourceLemmas.{all_mapped}
use Rattle.script_lines.proofs.AskLoopLemmas.{some_reported}
use Rattle.script_lines.specs.Ask.{ask_encoded, ask_of, attribute_in, fields_in, method_in, tid_in}
use Rattle.script_lines.specs.EncodedBytes.{written_in}
use Rattle.script_lines.specs.Script.{command_in, command_of, with_line}
use Rattle.script_lines.specs.Send.{field_of, fitting, payload_of, send_encoded, send_of, u16_field}
use Rattle.script_lines.specs.Sender.{sender_of}
use Rattle.script_lines.specs.SwitchCable.{cable_encoded, cable_of, named_cable}
use Rattle.script_lines.specs.declared.script_cause.ScriptCause.TheVariants.{Malformed}
use Rattle.script_lines.specs.declared.script_cause.ScriptCause.{ScriptCause}
use Rattle.step_results.proofs.BoolLemmas.{or_true}
use Rattle.step_results.proofs.ElementLemmas.{each_always, each_joined}
use Rattle.step_results.proofs.StepLemmas.{bind_done, bind_ok, same_ok}
use Rattle.step_results.specs.AtLine.{after_lines, on_line}
use Rattle.step_results.specs.Steps.{◌>>=◌}
use Rattle.subnet_core.specs.Stream.{commands_before_fault}
use Rattle.subnet_fabric.specs.Ports.{ports_of}
use Rattle.subnet_model.specs.Delivery.{port_with_guid}
use Rattle.subnet_model.specs.Near.{is_near}
use Rattle.subnet_model.specs.Restriction.{actor, acts_in, commands_of}
use Rattle.subnet_model.specs.declared.command.Command.{Command}
use Rattle.subnet_model.specs.declared.subnet_port.SubnetPort.{SubnetPort}
use Rattle.text_words.specs.Lines.{words_of}
use Rattle.text_words.specs.Parts.{hex_text}
use Rattle.topo_file.specs.Sound.{IsSound}
use Rattle.topo_file.specs.Topology.{TopologyState}

-- ---- bytes inside a text are inside a longer one
begins_inside : (needle text : List ℕ) → starts_with nat_eq text needle ≡ true → has_inside needle text ≡ true
begins_inside needle [] so = so
begins_inside needle (byte ∷ text) so = rw so refl

begins_longer : (needle text after : List ℕ) → starts_with nat_eq text needle ≡ true → starts_with nat_eq (text ++ after) needle ≡ true
begins_longer needle text after so =
    let rest = drop (length needle) text in
    ap (λ (whole : List ℕ). starts_with nat_eq whole needle) (ap (λ (some : List ℕ). some ++ after) (begun needle text so) ∙ append_assoc needle rest after)
    ∙ begins needle (rest ++ after)

starts_itself : (needle : List ℕ) → starts_with nat_eq needle needle ≡ true
starts_itself needle = ap (λ (text : List ℕ). starts_with nat_eq text needle) (sym (append-nil needle)) ∙ begins needle []

inside_behind : (needle before text : List ℕ) → has_inside needle text ≡ true → has_inside needle (before ++ text) ≡ true
inside_behind needle [] text inside = inside
inside_behind needle (byte ∷ before) text inside = rw (inside_behind needle before text inside) (or_true (starts_with nat_eq (byte ∷ (before ++ text)) needle))

inside_longer : (needle text after : List ℕ) → has_inside needle text ≡ true → has_inside needle (text ++ after) ≡ true
inside_longer needle [] after inside = begins_inside needle after (begins_longer needle [] after inside)
inside_longer needle (byte ∷ text) after inside = by (starts_with nat_eq (byte ∷ text) needle) refl inside (λ later. inside_longer needle text after later)
  where
    by : (b : Bool) → starts_with nat_eq (byte ∷ text) needle ≡ b → (b || has_inside needle text) ≡ true
        → (has_inside needle text ≡ true → has_inside needle (text ++ after) ≡ true) → has_inside needle (byte ∷ (text ++ after)) ≡ true
    by true so inside later = begins_inside needle (byte ∷ (text ++ after)) (begins_longer needle (byte ∷ text) after so)
    by false other inside later = rw (later inside) (or_true (starts_with nat_eq (byte ∷ (text ++ after)) needle))

-- ---- the line of a share names both of its ports
abbrev needle_of : List ℕ → List ℕ
needle_of name = codes " " ++ name ++ codes " "

-- what stands before the base
abbrev both_of : Share → List ℕ
both_of share = codes "share " ++ port_text share.first ++ codes " " ++ port_text share.second ++ codes " "

line_has : (needle : List ℕ) (share : Share) (after : List ℕ) → has_inside needle (both_of share) ≡ true → has_inside needle (share_line share ++ after) ≡ true
line_has needle share after inside =
    let base = hex_text (to_be_bytes w16 share.base) in
    inside_longer needle (share_line share) after
    (inside_longer needle (both_of share ++ base) (10 ∷ []) (inside_longer needle (both_of share) base inside))

first_named : (share : Share) (after : List ℕ) → names (share_line share ++ after) (port_text share.first) ≡ true
first_named share after =
    let first = codes "share " ++ port_text share.first in
    let second = port_text share.second in
    let needle = needle_of (port_text share.first) in
    let here : has_inside needle (first ++ codes " ") ≡ true = inside_behind needle (codes "share") needle (begins_inside needle needle (starts_itself needle)) in
    line_has needle share after
    (inside_longer needle (first ++ codes " " ++ second) (codes " ") (inside_longer needle (first ++ codes " ") second here))

second_named : (share : Share) (after : List ℕ) → names (share_line share ++ after) (port_text share.second) ≡ true
second_named share after =
    let first = codes "share " ++ port_text share.first in
    let second = port_text share.second in
    let needle = needle_of second in
    line_has needle share after
    (ap (has_inside needle) (ap (λ (text : List ℕ). text ++ codes " ") (append_assoc first (codes " ") second) ∙ append_assoc first (codes " " ++ second) (codes " "))
    ∙ inside_behind needle first needle (begins_inside needle needle (starts_itself needle)))

-- ---- what each port has, both ports of each share have
module _ (P : SubnetPort → Type 0) where
  both_have : (a : SubnetPort) → P a → (ports : List SubnetPort) → AllByRecursion P ports
      → AllByRecursion (λ (share : Share). P share.first × P share.second) (flat_map (pair_shares a) ports)
  both_have a has [] all = tt
  both_have a has (b ∷ ports) all =
      each_joined (λ (share : Share). P share.first × P share.second) (pair_shares a b) (flat_map (pair_shares a) ports)
      (all_mapped (λ (share : Share). P share.first × P share.second) (λ base. record { first = a; second = b; base = base }) (shared_bases a.keys b.keys)
      (each_always (λ base. P a × P b) (λ base. (has, all.0)) (shared_bases a.keys b.keys)))
      (both_have a has ports all.1)

  shares_have : (ports : List SubnetPort) → AllByRecursion P ports → AllByRecursion (λ (share : Share). P share.first × P share.second) (shares ports)
  shares_have [] all = tt
  shares_have (a ∷ ports) all =
      each_joined (λ (share : Share). P share.first × P share.second) (flat_map (pair_shares a) ports) (shares ports) (both_have a all.0 ports all.1)
      (shares_have ports all.1)

-- ---- a share of both ports is asked for, and its line names the other
module _ (p q : ℕ) (name : List ℕ) where
  abbrev Text : SubnetPort → Type 0
  Text port = port.guid ≡ q → port_text port ≡ name

  abbrev asked : Share → Bool
  asked share = is_asked (Some p) share.first share.second

  names_so : (share : Share) (after : List ℕ) → Text share.first × Text share.second → is_of_both p q share ≡ true
      → (asked share ≡ true) × (names (share_line share ++ after) name ≡ true)
  names_so share after texts both = by (share.first.guid == p) (share.second.guid == p) (share.first.guid == q) (share.second.guid == q) refl refl refl refl both
    where
      by_second : share.second.guid ≡ q → names (share_line share ++ after) name ≡ true
      by_second is = subst (λ (text : List ℕ). names (share_line share ++ after) text ≡ true) (texts.1 is) (second_named share after)

      by_first : share.first.guid ≡ q → names (share_line share ++ after) name ≡ true
      by_first is = subst (λ (text : List ℕ). names (share_line share ++ after) text ≡ true) (texts.0 is) (first_named share after)

      by : (a b c d : Bool) → (share.first.guid == p) ≡ a → (share.second.guid == p) ≡ b → (share.first.guid == q) ≡ c → (share.second.guid == q) ≡ d
          → ((a && d) || (c && b)) ≡ true → (asked share ≡ true) × (names (share_line share ++ after) name ≡ true)
      by true b c true e f g h so = (rw e refl, by_second (eqb-true share.second.guid q h))
      by true true true false e f g h so = (rw e refl, by_first (eqb-true share.first.guid q g))
      by false true true d e f g h so = (rw (e, f) refl, by_first (eqb-true share.first.guid q g))
      by true true false false e f g h so = absurd (false≢true so)
      by true false true false e f g h so = absurd (false≢true so)
      by true false false false e f g h so = absurd (false≢true so)
      by false true false d e f g h so = absurd (false≢true so)
      by false false true d e f g h so = absurd (false≢true so)
      by false false false d e f g h so = absurd (false≢true so)

  some_line_names : (some : List Share) → AllByRecursion (λ (share : Share). Text share.first × Text share.second) some → list_any (is_of_both p q) some ≡ true
      → names (flat_map share_line (filter asked some)) name ≡ true
  some_line_names [] texts any = absurd (false≢true any)
  some_line_names (share ∷ some) texts any = by (is_of_both p q share) refl any (λ later. some_line_names some texts.1 later) (asked share) refl
    where
      by : (b : Bool) → is_of_both p q share ≡ b → (b || list_any (is_of_both p q) some) ≡ true
          → (list_any (is_of_both p q) some ≡ true → names (flat_map share_line (filter asked some)) name ≡ true)
          → (c : Bool) → asked share ≡ c → names (flat_map share_line (filter asked (share ∷ some))) name ≡ true
      by true is any later c kept =
          let so = names_so share (flat_map share_line (filter asked some)) texts.0 is in
          rw so.0 so.1
      by false is any later true kept = rw kept (inside_behind (needle_of name) (share_line share) (flat_map share_line (filter asked some)) (later any))
      by false is any later false kept = rw kept (later any)

-- ---- a far port is not near
module _ (partitions : List Partition) (plan : TopologyState) (sound : IsSound plan) (p : ℕ) (name : List ℕ) (own : IsPortOf (ports_of partitions plan) p name) where
  abbrev ports : List SubnetPort
  ports = ports_of partitions plan

  abbrev shown : List ℕ
  shown = shares_text (Some p) ports

  far_is_not_near : (q : ℕ) (word : List ℕ) → IsPortOf ports q word → is_far name shown word ≡ true → is_near ports p q ≡ false
  far_is_not_near q word one far = near_is_to_share ports p q ∙ by (q == p) (list_any (is_of_both p q) (shares ports)) refl refl
    where
      parts : (not (bytes_eq word name) ≡ true) × (not (names shown word) ≡ true)
      parts = and_parts (not (bytes_eq word name)) (not (names shown word)) far

      not_itself : q ≡ p → ⊥
      not_itself same =
          let port = same_Some one.port own.port (sym one.found ∙ ap (port_with_guid ports) same ∙ own.found) in
          let texts : word ≡ name = sym one.text ∙ ap port_text port ∙ own.text in
          let equal : bytes_eq word name ≡ true = (bytes_eq-Decides word name).1 texts in
          false≢true (sym (ap not equal) ∙ parts.0)

      not_shared : list_any (is_of_both p q) (shares ports) ≡ true → ⊥
      not_shared any =
          let named = some_line_names p q word (shares ports)
          (shares_have (λ (port : SubnetPort). port.guid ≡ q → port_text port ≡ word) ports (all_texts partitions plan sound q word one)) any in
          false≢true (sym (ap not named) ∙ parts.1)

      by : (same any : Bool) → (q == p) ≡ same → list_any (is_of_both p q) (shares ports) ≡ any → (same || any) ≡ false
      by true any e f = absurd (not_itself (eqb-true q p e))
      by false true e f = absurd (not_shared f)
      by false false e f = refl

  abbrev near : ℕ → Bool
  near = is_near ports p

  far_sender : (word : List ℕ) (q : ℕ) → sender_of plan word ≡ Ok q → is_far name shown (printed word) ≡ true → near q ≡ false
  far_sender word q is far =
      far_is_not_near q (printed word) (sender_text partitions plan sound word q is) far

  -- ---- a command of such a line
  by_far : (word : List ℕ) (q : ℕ) (command : Command) → sender_of plan word ≡ Ok q → actor command ≡ Some q → is_far name shown (printed word) ≡ true → acts_in near command ≡ false
  by_far word q command is acts far = ap (λ (guid : Option ℕ). option_map_or near guid false) acts ∙ far_sender word q is far

  sent_by_far : (port : List ℕ) (rest : List (List ℕ)) (command : Command) → send_of plan (port ∷ rest) ≡ Ok command → is_far name shown (printed port) ≡ true
      → acts_in near command ≡ false
  unfolding send_of send_encoded
  sent_by_far port [] command is far = absurd cc
  sent_by_far port (b ∷ []) command is far = absurd cc
  sent_by_far port (b ∷ c ∷ []) command is far = absurd cc
  sent_by_far port (b ∷ c ∷ d ∷ []) command is far = absurd cc
  sent_by_far port (dlid ∷ p_key ∷ qp ∷ payload ∷ []) command is far =
      let sender = bind_ok (sender_of plan port) _ command is in
      let written = bind_ok (fitting (written_in payload)) _ command sender.2 in
      let lid = bind_ok (u16_field dlid) _ command written.2 in
      let key = bind_ok (u16_field p_key) _ command lid.2 in
      let number = bind_ok (field_of (2 ^ 24) qp) _ command key.2 in
      let bytes = bind_ok (payload_of written.0) _ command number.2 in
      by_far port sender.0 command sender.1 (ap actor (sym (same_ok _ command bytes.2))) far
  sent_by_far port (b ∷ c ∷ d ∷ e ∷ f ∷ rest) command is far = absurd cc

  asked_by_far : (port : List ℕ) (rest : List (List ℕ)) (command : Command) → ask_of plan (port ∷ rest) ≡ Ok command → is_far name shown (printed port) ≡ true
      → acts_in near command ≡ false
  unfolding ask_of ask_encoded
  asked_by_far port [] command is far = absurd cc
  asked_by_far port (b ∷ []) command is far = absurd cc
  asked_by_far port (b ∷ c ∷ []) command is far = absurd cc
  asked_by_far port (how ∷ what ∷ tid ∷ fields) command is far =
      let method = bind_ok (ok_or (method_in how) Malformed) _ command is in
      let kind = bind_ok (ok_or (attribute_in what) Malformed) _ command method.2 in
      let sender = bind_ok (sender_of plan port) _ command kind.2 in
      let number = bind_ok (tid_in tid) _ command sender.2 in
      let named = bind_ok (fields_in kind.0 fields) _ command number.2 in
      by_far port sender.0 command sender.1 (ap actor (sym (same_ok _ command named.2))) far

  of_no_port : (up : Bool) (port : List ℕ) (rest : List (List ℕ)) (command : Command) → cable_of plan up (port ∷ rest) ≡ Ok command → acts_in near command ≡ false
  unfolding cable_of cable_encoded
  of_no_port up port [] command is = absurd cc
  of_no_port up port (other ∷ []) command is =
      let cable = bind_ok (named_cable plan port other) _ command is in
      ap (λ (one : Command). acts_in near one) (sym (same_ok _ command cable.2))
  of_no_port up port (b ∷ c ∷ rest) command is = absurd cc

  -- ---- the first word says which
  made_so : (given : Result Command ScriptCause) (command : Command) → (given >>= λ made. Ok (Some made)) ≡ Ok (Some command) → given ≡ Ok command
  made_so given command is =
      let made = bind_done given (λ (one : Command). Some one) (Some command) is in made.1 ∙ ap (λ (one : Command). Ok one) (same_Some made.0 command made.2)

  by_kind : (send ask cut mend far : Bool) (sent asks cuts mends : Result Command ScriptCause) (command : Command)
      → (send ≡ true → (cut || mend) ≡ false) → (ask ≡ true → (cut || mend) ≡ false)
      → (sent ≡ Ok command → far ≡ true → acts_in near command ≡ false) → (asks ≡ Ok command → far ≡ true → acts_in near command ≡ false)
      → (cuts ≡ Ok command → acts_in near command ≡ false) → (mends ≡ Ok command → acts_in near command ≡ false)
      → (if send then (sent >>= λ made. Ok (Some made))
      else if ask then (asks >>= λ made. Ok (Some made))
      else if cut then (cuts >>= λ made. Ok (Some made))
      else if mend then (mends >>= λ made. Ok (Some made))
      else Err Malformed) ≡ Ok (Some command)
      → ((cut || mend) || ((send || ask) && far)) ≡ true → acts_in near command ≡ false
  by_kind true ask cut mend far sent asks cuts mends command one two by_send by_ask by_cut by_mend is taken =
      by_send (made_so sent command is) (sym (ap (λ (b : Bool). b || far) (one refl)) ∙ taken)
  by_kind false true cut mend far sent asks cuts mends command one two by_send by_ask by_cut by_mend is taken =
      by_ask (made_so asks command is) (sym (ap (λ (b : Bool). b || far) (two refl)) ∙ taken)
  by_kind false false true mend far sent asks cuts mends command one two by_send by_ask by_cut by_mend is taken = by_cut (made_so cuts command is)
  by_kind false false false true far sent asks cuts mends command one two by_send by_ask by_cut by_mend is taken = by_mend (made_so mends command is)
  by_kind false false false false far sent asks cuts mends command one two by_send by_ask by_cut by_mend is taken = absurd (false≢true taken)

  is_no_cable : (first word : List ℕ) → (bytes_eq word (codes "cut") || bytes_eq word (codes "mend")) ≡ false → bytes_eq first word ≡ true
      → (bytes_eq first (codes "cut") || bytes_eq first (codes "mend")) ≡ false
  is_no_cable first word none same =
      ap (λ (text : List ℕ). bytes_eq text (codes "cut") || bytes_eq text (codes "mend")) ((bytes_eq-Decides first word).0 same) ∙ none

  words_are_far : (words : List (List ℕ)) (command : Command) → command_in plan words ≡ Ok (Some command) → is_taken_out name shown words ≡ true → acts_in near command ≡ false
  unfolding command_in
  words_are_far [] command is taken = absurd (false≢true taken)
  words_are_far (first ∷ []) command is taken = absurd (false≢true taken)
  words_are_far (first ∷ port ∷ rest) command is taken =
      by_kind (bytes_eq first (codes "send")) (bytes_eq first (codes "ask")) (bytes_eq first (codes "cut")) (bytes_eq first (codes "mend")) (is_far name shown (printed port))
      (send_of plan (port ∷ rest)) (ask_of plan (port ∷ rest)) (cable_of plan false (port ∷ rest)) (cable_of plan true (port ∷ rest)) command
      (is_no_cable first (codes "send") refl) (is_no_cable first (codes "ask") refl)
      (sent_by_far port rest command) (asked_by_far port rest command) (of_no_port false port rest command) (of_no_port true port rest command) is taken

  line_is_far : (line : List ℕ) (command : Command) → command_of plan line ≡ Ok (Some command) → is_taken_out name shown (words_in line) ≡ true → acts_in near command ≡ false
  unfolding command_of
  line_is_far line command is taken =
      let words = bind_ok (ok_or (words_of line) Malformed) _ (Some command) is in
      let there = some_reported (words_of line) Malformed _ words.0 refl words.1 in
      words_are_far words.0 command words.2
      (ap (λ (found : Option (List (List ℕ))). is_taken_out name shown (unwrap_or found [])) (sym there) ∙ taken)

  -- ---- all lines
  abbrev pub IsRead : List ℕ → Type 0
  IsRead line = (one : Option Command) × (command_of plan line ≡ Ok one)

  pub all_are_read : (number : ℕ) (so_far : List Command) (left : List (List ℕ)) (commands : List Command)
      → after_lines (with_line plan) number so_far left ≡ Ok commands → AllByRecursion IsRead left
  unfolding after_lines with_line
  all_are_read number so_far [] commands is = tt
  all_are_read number so_far (line ∷ left) commands is =
      let next = bind_ok (on_line number (command_of plan line >>= λ one. Ok (so_far ++ option_to_list one))) _ commands is in
      (by (command_of plan line) next.0 next.1, all_are_read (number + 1) next.0 left commands next.2)
    where
      by : (found : Result (Option Command) ScriptCause) (next : List Command) → on_line number (found >>= λ one. Ok (so_far ++ option_to_list one)) ≡ Ok next
          → (one : Option Command) × (found ≡ Ok one)
      by (Ok one) next is = (one, refl)
      by (Err cause) next is = absurd cc

  abbrev pub near_of : List (List ℕ) → List Command
  near_of taken = commands_of near (commands_before_fault plan taken)

  abbrev kept : List ℕ → Bool
  kept line = not (is_taken_out name shown (words_in line))

  pub near_of_left : (taken : List (List ℕ)) → AllByRecursion IsRead taken → near_of taken ≡ near_of (filter kept taken)
  unfolding commands_before_fault
  near_of_left [] all = refl
  near_of_left (line ∷ taken) all = by (is_taken_out name shown (words_in line)) refl all.0.0 all.0.1 (near_of_left taken all.1)
    where
      behind : (one : Option Command) (some others : List Command) → commands_of near some ≡ commands_of near others
          → commands_of near (option_to_list one ++ some) ≡ commands_of near (option_to_list one ++ others)
      behind None some others same = same
      behind (Some command) some others same = ap (λ (later : List Command). if acts_in near command then command ∷ later else later) same

      dropped : (one : Option Command) (some others : List Command) → ((command : Command) → one ≡ Some command → acts_in near command ≡ false)
          → commands_of near some ≡ commands_of near others → commands_of near (option_to_list one ++ some) ≡ commands_of near others
      dropped None some others far same = same
      dropped (Some command) some others far same = rw (far command refl) same

      by : (b : Bool) → is_taken_out name shown (words_in line) ≡ b → (one : Option Command) → command_of plan line ≡ Ok one
          → near_of taken ≡ near_of (filter kept taken) → near_of (line ∷ taken) ≡ near_of (filter kept (line ∷ taken))
      by true out one is same =
          rw (out, is) (dropped one (commands_before_fault plan taken) (commands_before_fault plan (filter kept taken))
          (λ command reads. line_is_far line command (is ∙ ap (λ (o : Option Command). Ok o) reads) out) same)
      by false out one is same = rw (out, is) (behind one (commands_before_fault plan taken) (commands_before_fault plan (filter kept taken)) same)
