-- Multicast tables behind the linear ones are passed over.
use Rattle.std.proofs.Common.{ℕ, zero, suc, ◌≡◌, ◌+◌, ◌-◌, ◌/◌, ◌%◌, ◌^◌, ◌<◌, ◌≤◌, ◌==◌, ◌&&◌, ◌||◌, ◌∙◌, nat_eq, nat_lt, ap, refl, sym, Bool, true, false, not, if◌then◌else◌, List, [], ◌∷◌, ◌++◌, codes, decimal, drop, filter, flat_map, length, take, append_assoc, is_some, Option, Some, None, Ok, Err, arith}
use Rattle.std.specs.Char.{is_ascii_whitespace, is_digit}
use Rattle.std.specs.Int.{to_be_bytes, w16, w64}
use Rattle.std.specs.List.{AllByRecursion, ends_with, list_all, list_any, position_or_len, range_with_len, starts_with, suffix_len}
use Rattle.std.specs.Option.{option_map_or}
use Rattle.std.proofs.lemmas.Bool.{and_from, and_parts, and_right, eqb-true, false≢true, ne_eqb, not-true}
use Rattle.std.proofs.lemmas.Fmt.{decimal_nonempty}
use Rattle.std.proofs.lemmas.List.FromFn.{length-range_with_len}
use Rattle.hex.specs.Hex.{encode_lower, encode_with}
use Rattle.agent_rules.specs.declared.power_up.TheConstants.{MULTICAST_TABLE}
use Rattle.dump_file.specs.Dump.{DraftState, after_line, after_text, after_words, are_mlids_counted, broken_off, is_multicast_end, is_passed_over, nothing}
use Rattle.dump_file.specs.declared.fault.DumpCause.TheVariants.{Malformed}
use Rattle.dump_file.specs.declared.table.Table.{Table}
use Rattle.fabric_parts.specs.declared.lid.TheConstants.{FIRST_MULTICAST_LID}
use Rattle.fabric_tables.specs.Multicast.{columns, count_line, head_line, is_used, mark, mlid_line, multicast_tables, ones_line, ones_mark, port_table, range_text, table_of, table_text, tens_line, tens_mark, titles, used}
use Rattle.fabric_tables.specs.Nodes.{node_of}
use Rattle.fabric_tables.specs.Tables.{path_to, route_text, switch_text}
use Rattle.smp_wire.specs.FabricState.{FabricState}
use Rattle.smp_wire.specs.declared.node.Node.{Node}
use Rattle.smp_wire.specs.declared.node.Node.TheVariants.{Switch, Adapter}
use Rattle.step_results.proofs.ListLemmas.{all_joined}
use Rattle.step_results.specs.AtLine.{after_lines}
use Rattle.subnet_model.specs.declared.subnet_port.SubnetPort.{SubnetPort}
use Rattle.sweep.specs.declared.graph.GraphSwitch.{GraphSwitch}
use Rattle.switch_model.specs.Multicast.{is_in_masks}
use Rattle.switch_model.specs.SwitchState.{SwitchState, num_ports}
use Rattle.text_words.specs.Parts.{guid_text, hex_text}
use Rattle.text_words.specs.Cut.{cut_at}
use Rattle.text_words.specs.Failure.{is_failure}
use Rattle.text_words.specs.Lines.{lines}
use Rattle.text_words.specs.Number.{number_in}
use Rattle.topo_file.specs.declared.node.Node.{Node as PlannedNode}
use Rattle.joint_laws.proofs.LineLemmas.{digits_begin, ends_plain, hex_without, hops_without, no_failure, plain_behind, trimmed_text, trimmed_text_blank}
use Rattle.joint_laws.proofs.NumberLemmas.{apart, decimal_digits, decimal_read, guid_digits, lid_digits}
use Rattle.joint_laws.proofs.StepLemmas.{between_tables, got, line_taken, one_line_more, some_bytes}
use Rattle.joint_laws.proofs.TextLemmas.{cut_there, is_one_line}

-- ---- a text that leads from one state to another, at whatever line
abbrev pub Leads : DraftState → DraftState → List ℕ → Type 0
Leads before after text =
    (number : ℕ) (rest : List ℕ) → (n : ℕ) × (after_lines after_line number before (lines (text ++ rest)) ≡ after_lines after_line n after (lines rest))

nowhere : (state : DraftState) → Leads state state []
nowhere state number rest = (number, refl)

then_leads : (one two three : DraftState) (first second : List ℕ) → Leads one two first → Leads two three second → Leads one three (first ++ second)
then_leads one two three first second here there number rest =
    let step = here number (second ++ rest) in
    let more = there step.0 rest in
    (more.0, ap (λ (text : List ℕ). after_lines after_line number one (lines text)) (append_assoc first second rest) ∙ step.1 ∙ more.1)

line_leads : (before after : DraftState) (line : List ℕ) → is_one_line line ≡ true → ((number : ℕ) → after_line number before (line ++ 10 ∷ []) ≡ Ok after)
    → Leads before after (line ++ 10 ∷ [])
line_leads before after line one is number rest = (
  number + 1,
  ap (λ (text : List ℕ). after_lines after_line number before (lines text))
      (append_assoc line (10 ∷ []) rest) ∙ one_line_more number before after line rest one (is number),
)

all_lead : {X : Type 0} (state : DraftState) (f : X → List ℕ) (xs : List X) → ((x : X) → Leads state state (f x)) → Leads state state (flat_map f xs)
all_lead state f [] each = nowhere state
all_lead state f (x ∷ xs) each = then_leads state state state (f x) (flat_map f xs) (each x) (all_lead state f xs each)

-- ---- within a multicast table
abbrev pub passing : List Table → DraftState
passing tables = got nothing (after_text (between_tables tables).stage 0 (between_tables tables) (codes "Multicast mlids ["))

module _ (tables : List Table) where
  -- a line that begins with a blank says nothing
  quiet_part : (number count : ℕ) (rest : List ℕ)
      → (if is_passed_over (take count (32 ∷ rest)) then Ok (passing tables) else after_words number (passing tables) (take count (32 ∷ rest))) ≡ Ok (passing tables)
  quiet_part number zero rest = refl
  quiet_part number (suc count) rest =
      ap (λ (b : Bool). if b then Ok (passing tables) else after_words number (passing tables) (32 ∷ take count rest))
      (some_bytes 32 (take count rest) refl)

  quiet_line : (number : ℕ) (rest : List ℕ) → after_line number (passing tables) (32 ∷ rest) ≡ Ok (passing tables)
  unfolding after_line
  quiet_line number rest = quiet_part number (length (32 ∷ rest) - suffix_len is_ascii_whitespace (32 ∷ rest)) rest

  -- ---- nor does one that begins with a number and two blanks
  abbrev passes_behind : (List ℕ → Bool) → List ℕ → Bool
  passes_behind test text = option_map_or (λ (parts : List ℕ × List ℕ). test parts.1) (cut_at (λ byte. byte == 32) text) false

  passes_later : (test : List ℕ → Bool) (byte : ℕ) (text : List ℕ) → (byte == 32) ≡ false → passes_behind test (byte ∷ text) ≡ passes_behind test text
  passes_later test byte text other =
      let place = position_or_len (λ one. one == 32) text in
      let next : 1 + place + 1 ≡ suc (place + 1) = omega arith in
      let found : position_or_len (λ one. one == 32) (byte ∷ text) ≡ 1 + place = ap (λ (b : Bool). if not b then 1 + place else 0) other in
      ap (λ (b : Bool). option_map_or (λ (parts : List ℕ × List ℕ). test parts.1)
      (if b || list_any (λ one. one == 32) text
      then Some (
        take (position_or_len (λ one. one == 32) (byte ∷ text)) (byte ∷ text),
        drop (position_or_len (λ one. one == 32) (byte ∷ text) + 1)
            (byte ∷ text),
      ) else None) false) other
      ∙ ap (λ (n : ℕ). option_map_or (λ (parts : List ℕ × List ℕ). test parts.1)
      (if list_any (λ one. one == 32) text then Some (take n (byte ∷ text), drop (n + 1) (byte ∷ text)) else None) false) found
      ∙ ap (λ (n : ℕ). option_map_or (λ (parts : List ℕ × List ℕ). test parts.1)
      (if list_any (λ one. one == 32) text then Some (take (1 + place) (byte ∷ text), drop n (byte ∷ text)) else None) false) next
      ∙ by (list_any (λ one. one == 32) text)
    where
      by : (b : Bool)
          → option_map_or (λ (parts : List ℕ × List ℕ). test parts.1)
          (if b then Some (
            take (1 + position_or_len (λ one. one == 32) text) (byte ∷ text),
            drop
                (position_or_len (λ one. one == 32) text + 1) text,
          ) else None) false
          ≡ option_map_or (λ (parts : List ℕ × List ℕ). test parts.1)
          (if b then Some (take (position_or_len (λ one. one == 32) text) text, drop (position_or_len (λ one. one == 32) text + 1) text) else None) false
      by true = refl
      by false = refl

  not_passed : (test : List ℕ → Bool) → test [] ≡ false → ((text : List ℕ) → test (32 ∷ text) ≡ false) → (front : List ℕ) (count : ℕ) (rest : List ℕ)
      → list_all (λ byte. not (byte == 32)) front ≡ true → passes_behind test (take count (front ++ 32 ∷ 32 ∷ rest)) ≡ false
  not_passed test nothing blank front zero rest none = refl
  not_passed test nothing blank [] (suc zero) rest none = nothing
  not_passed test nothing blank [] (suc (suc count)) rest none = blank (take count rest)
  not_passed test nothing blank (byte ∷ front) (suc count) rest none =
      let parts = and_parts (not (byte == 32)) _ none in
      passes_later test byte (take count (front ++ 32 ∷ 32 ∷ rest)) (not-true (byte == 32) parts.0) ∙ not_passed test nothing blank front count rest parts.1

  answers : (text : List ℕ) → passes_behind (λ words. starts_with nat_eq words (codes "iberror: ")) text ≡ false → is_failure text ≡ false
  answers text none = by (cut_at (λ byte. byte == 32) text) none
    where
      by : (o : Option (List ℕ × List ℕ)) → option_map_or (λ (parts : List ℕ × List ℕ). starts_with nat_eq parts.1 (codes "iberror: ")) o false ≡ false
          → option_map_or (λ (parts : List ℕ × List ℕ). ends_with nat_eq parts.0 (codes ":") && starts_with nat_eq parts.1 (codes "iberror: ")) o false ≡ false
      by None is = refl
      by (Some parts) is = and_right (ends_with nat_eq parts.0 (codes ":")) (starts_with nat_eq parts.1 (codes "iberror: ")) is

  no_end : (text : List ℕ) → passes_behind are_mlids_counted text ≡ false → is_multicast_end text ≡ false
  no_end text none = by (cut_at (λ byte. byte == 32) text) none
    where
      by : (o : Option (List ℕ × List ℕ)) → option_map_or (λ (parts : List ℕ × List ℕ). are_mlids_counted parts.1) o false ≡ false
          → option_map_or (λ (parts : List ℕ × List ℕ). is_some (number_in parts.0) && are_mlids_counted parts.1) o false ≡ false
      by None is = refl
      by (Some parts) is = and_right (is_some (number_in parts.0)) (are_mlids_counted parts.1) is

  number_part : (number count : ℕ) (front rest : List ℕ) → list_all (λ byte. not (byte == 32)) (48 ∷ front) ≡ true
      → (if is_passed_over (take count (48 ∷ front ++ 32 ∷ 32 ∷ rest)) then Ok (passing tables)
      else after_words number (passing tables) (take count (48 ∷ front ++ 32 ∷ 32 ∷ rest)))
      ≡ Ok (passing tables)
  number_part number zero front rest none = refl
  number_part number (suc count) front rest none =
      let text = take count (front ++ 32 ∷ 32 ∷ rest) in
      ap (λ (b : Bool). if b then Ok (passing tables) else after_words number (passing tables) (48 ∷ text)) (some_bytes 48 text refl)
      ∙ ap (λ (b : Bool). if b then Ok (broken_off (passing tables)) else after_text (passing tables).stage number (passing tables) (48 ∷ text))
      (answers (48 ∷ text) (not_passed (λ words. starts_with nat_eq words (codes "iberror: ")) refl (λ words. refl) (48 ∷ front) (suc count) rest none))
      ∙ ap (λ (b : Bool). Ok (if b then between_tables tables else passing tables))
      (no_end (48 ∷ text) (not_passed are_mlids_counted refl (λ words. refl) (48 ∷ front) (suc count) rest none))

  number_line : (number : ℕ) (front rest : List ℕ) → list_all (λ byte. not (byte == 32)) (48 ∷ front) ≡ true
      → after_line number (passing tables) (48 ∷ front ++ 32 ∷ 32 ∷ rest) ≡ Ok (passing tables)
  unfolding after_line
  number_line number front rest none =
      number_part number (length (48 ∷ front ++ 32 ∷ 32 ∷ rest) - suffix_len is_ascii_whitespace (48 ∷ front ++ 32 ∷ 32 ∷ rest)) front rest none

  -- ---- the last line
  digit_other : (other byte : ℕ) → is_digit other 10 ≡ false → is_digit byte 10 ≡ true → nat_eq other byte ≡ false
  digit_other other byte none digit = by (nat_eq other byte) refl
    where
      by : (b : Bool) → nat_eq other byte ≡ b → nat_eq other byte ≡ false
      by false differ = differ
      by true same = absurd (false≢true (sym none ∙ ap (λ (n : ℕ). is_digit n 10) (eqb-true other byte same) ∙ digit))

  last_text : (number : ℕ) (ds : List ℕ) → 0 < length ds → list_all (λ byte. is_digit byte 10) ds ≡ true
      → is_multicast_end (ds ++ 32 ∷ codes "valid mlids dumped") ≡ true
      → after_text (passing tables).stage number (passing tables) (ds ++ 32 ∷ codes "valid mlids dumped") ≡ Ok (between_tables tables)
  last_text number [] some all is = absurd (omega (arith, some))
  last_text number (one ∷ ds) some all is =
      let text = ds ++ 32 ∷ codes "valid mlids dumped" in
      let digit = (and_parts (is_digit one 10) _ all).0 in
      ap (λ (b : Bool).
      if (b && starts_with nat_eq text (codes "nicast lids [")) || (nat_eq 77 one && starts_with nat_eq text (codes "ulticast mlids [")) then Err Malformed
      else Ok (if is_multicast_end (one ∷ text) then between_tables tables else passing tables)) (digit_other 85 one refl digit)
      ∙ ap (λ (b : Bool).
      if b && starts_with nat_eq text (codes "ulticast mlids [") then Err Malformed
      else Ok (if is_multicast_end (one ∷ text) then between_tables tables else passing tables)) (digit_other 77 one refl digit)
      ∙ ap (λ (b : Bool). Ok (if b then between_tables tables else passing tables)) is

  last_line : (number count : ℕ) → count < 2 ^ 64
      → after_line number (passing tables) ((decimal count ++ codes " valid mlids dumped" ++ 32 ∷ []) ++ 10 ∷ []) ≡ Ok (between_tables tables)
  last_line number count small =
      let text = decimal count ++ codes " valid mlids dumped" in
      let digits = decimal_digits count in
      let some = decimal_nonempty count small in
      let ended : is_multicast_end text ≡ true =
      ap (λ (o : Option (List ℕ × List ℕ)). option_map_or (λ (parts : List ℕ × List ℕ). is_some (number_in parts.0) && are_mlids_counted parts.1) o false)
      (cut_there 32 (decimal count) (codes "valid mlids dumped") (apart 10 32 refl (decimal count) digits))
      ∙ ap (λ (o : Option ℕ). is_some o && true) (decimal_read count small) in
      line_taken number (passing tables) ((text ++ 32 ∷ []) ++ 10 ∷ []) text
      (trimmed_text_blank text (plain_behind (decimal count) 32 (codes "valid mlids dumped")))
      (digits_begin (decimal count) (codes "valid mlids dumped") some digits).0
      (no_failure (decimal count) (codes "valid mlids dumped") (apart 10 32 refl (decimal count) digits) refl)
      ∙ last_text number (decimal count) some digits ended

  -- ---- the heading
  heading_line : (number : ℕ) (front rest : List ℕ) → ends_plain (codes "Multicast mlids [" ++ front) ≡ true
      → after_line number (between_tables tables) ((codes "Multicast mlids [" ++ front) ++ 10 ∷ []) ≡ Ok (passing tables)
  heading_line number front rest plain =
      line_taken number (between_tables tables) ((codes "Multicast mlids [" ++ front) ++ 10 ∷ []) (codes "Multicast mlids [" ++ front)
      (trimmed_text (codes "Multicast mlids [" ++ front) plain) (some_bytes 77 (codes "ulticast mlids [" ++ front) refl) refl

  abbrev is_text : ℕ → Bool
  is_text byte = not (byte == 10)

  mlid_one_line : (mlid : ℕ) → is_one_line (hex_text (to_be_bytes w16 mlid)) ≡ true
  mlid_one_line mlid = hex_without 10 (to_be_bytes w16 mlid) refl refl refl (lid_digits mlid)

  path_one_line : (path : List ℕ) → is_one_line (route_text path) ≡ true
  path_one_line path = hops_without 10 path refl refl

  switch_one_line : (switch : SubnetPort) → is_one_line switch.node_name ≡ true → is_one_line (switch_text switch) ≡ true
  switch_one_line switch named =
      all_joined is_text (codes " guid " ++ guid_text switch.guid ++ codes " (" ++ switch.node_name) (codes "):")
      (all_joined is_text (codes " guid " ++ guid_text switch.guid ++ codes " (") switch.node_name
      (all_joined is_text (guid_text switch.guid) (codes " (")
      (hex_without 10 (to_be_bytes w64 switch.guid) refl refl refl (guid_digits switch.guid)) refl) named) refl

  heading_leads : (path : List ℕ) (switch : SubnetPort) → is_one_line switch.node_name ≡ true
      → Leads (between_tables tables) (passing tables) (head_line path switch)
  unfolding head_line range_text encode_with
  heading_leads path switch named =
      let first = hex_text (to_be_bytes w16 FIRST_MULTICAST_LID) in
      let last = hex_text (to_be_bytes w16 (FIRST_MULTICAST_LID + MULTICAST_TABLE - 1)) in
      let front = first ++ codes "-" ++ last ++ codes "]" ++ route_text path ++ switch_text switch in
      let named_front = codes " guid " ++ guid_text switch.guid ++ codes " (" ++ switch.node_name in
      line_leads (between_tables tables) (passing tables) (codes "Multicast mlids [" ++ front)
      (all_joined is_text (first ++ codes "-" ++ last ++ codes "]" ++ route_text path) (switch_text switch)
      (all_joined is_text (first ++ codes "-" ++ last ++ codes "]") (route_text path) refl (path_one_line path)) (switch_one_line switch named))
      (λ number.
      heading_line number front []
      (plain_behind (codes "Multicast mlids [" ++ (first ++ codes "-" ++ last ++ codes "]" ++ route_text path)) 32 (drop 1 (switch_text switch))
      ∙ plain_behind named_front 41 (codes ":")))

  -- ---- titles
  quiet_leads : (rest : List ℕ) → is_one_line rest ≡ true → Leads (passing tables) (passing tables) ((32 ∷ rest) ++ 10 ∷ [])
  quiet_leads rest one = line_leads (passing tables) (passing tables) (32 ∷ rest) one (λ number. quiet_line number (rest ++ 10 ∷ []))

  all_text : {X : Type 0} (f : X → List ℕ) (xs : List X) → ((x : X) → is_one_line (f x) ≡ true) → is_one_line (flat_map f xs) ≡ true
  all_text f [] each = refl
  all_text f (x ∷ xs) each = all_joined is_text (f x) (flat_map f xs) (each x) (all_text f xs each)

  digit_text : (n : ℕ) → is_text (48 + n) ≡ true
  digit_text n = ap not (ne_eqb (48 + n) 10 (λ same. omega (arith, same)))

  ones_text : (number : ℕ) → is_one_line (ones_mark number) ≡ true
  ones_text number = and_from (is_text (48 + number % 10)) _ (digit_text (number % 10)) refl

  tens_text : (number : ℕ) → is_one_line (tens_mark number) ≡ true
  tens_text number = by (number % 10 == 0)
    where
      by : (b : Bool) → is_one_line ((if b then 48 + number / 10 else 32) ∷ 32 ∷ []) ≡ true
      by true = and_from (is_text (48 + number / 10)) _ (digit_text (number / 10)) refl
      by false = refl

  tens_leads : (held : SwitchState) → Leads (passing tables) (passing tables) (tens_line held)
  unfolding tens_line
  tens_leads held = by (nat_lt 9 (num_ports held))
    where
      by : (b : Bool) → Leads (passing tables) (passing tables) (if b then codes "            " ++ flat_map tens_mark (columns held) ++ 10 ∷ [] else [])
      by false = nowhere (passing tables)
      by true = quiet_leads (codes "           " ++ flat_map tens_mark (columns held)) (all_text tens_mark (columns held) tens_text)

  ones_leads : (held : SwitchState) → Leads (passing tables) (passing tables) (ones_line held)
  unfolding ones_line
  ones_leads held = quiet_leads (codes "    Ports: " ++ flat_map ones_mark (columns held)) (all_text ones_mark (columns held) ones_text)

  titles_lead : (held : SwitchState) → Leads (passing tables) (passing tables) (titles held)
  unfolding titles
  titles_lead held number rest =
      let last = quiet_leads (codes "MLid") refl in
      let both = then_leads (passing tables) (passing tables) (passing tables) (tens_line held) (ones_line held) (tens_leads held) (ones_leads held) in
      let whole =
      then_leads (passing tables) (passing tables) (passing tables) (tens_line held ++ ones_line held) (codes " MLid" ++ 10 ∷ []) both last number rest in (
        whole.0,
        ap (λ (text : List ℕ). after_lines after_line number (passing tables) (lines (text ++ rest)))
            (append_assoc (tens_line held ++ ones_line held) (codes " MLid") (10 ∷ [])) ∙ whole.1,
      )

  -- ---- rows
  mark_text : (held : SwitchState) (mlid number : ℕ) → is_one_line (mark held mlid number) ≡ true
  mark_text held mlid number = by (is_in_masks held.masks mlid number)
    where
      by : (b : Bool) → is_one_line (if b then codes "x " else codes "  ") ≡ true
      by true = refl
      by false = refl

  row_leads : (held : SwitchState) (mlid : ℕ) → Leads (passing tables) (passing tables) (mlid_line held mlid)
  row_leads held mlid number rest =
      let hex = hex_text (to_be_bytes w16 mlid) in
      let marks = flat_map (mark held mlid) (columns held) in
      let line = hex ++ codes "      " ++ marks in
      line_leads (passing tables) (passing tables) line
      (all_joined is_text (hex ++ codes "      ") marks (all_joined is_text hex (codes "      ") (mlid_one_line mlid) refl)
      (all_text (mark held mlid) (columns held) (mark_text held mlid)))
      (λ n.
      ap (after_line n (passing tables)) (append_assoc (hex ++ codes "      ") marks (10 ∷ []) ∙ append_assoc hex (codes "      ") (marks ++ 10 ∷ []))
      ∙ number_line n (120 ∷ encode_lower (to_be_bytes w16 mlid)) (codes "    " ++ (marks ++ 10 ∷ []))
      (hex_without 32 (to_be_bytes w16 mlid) refl refl refl (lid_digits mlid)))
      number rest

  -- ---- a table
  few_passed : (test : ℕ → Bool) (xs : List ℕ) → length (filter test xs) ≤ length xs
  few_passed test [] = omega arith
  few_passed test (x ∷ xs) = by (test x) (few_passed test xs)
    where
      by : (b : Bool) → length (filter test xs) ≤ length xs → length (if b then x ∷ filter test xs else filter test xs) ≤ suc (length xs)
      by true less = omega (arith, less)
      by false less = omega (arith, less)

  few_used : (held : SwitchState) → length (used held) < 2 ^ 64
  unfolding used
  few_used held =
      let long = length-range_with_len FIRST_MULTICAST_LID MULTICAST_TABLE in
      let less = few_passed (is_used held) (range_with_len FIRST_MULTICAST_LID MULTICAST_TABLE) in
      let count : MULTICAST_TABLE ≡ 4096 = refl in
      omega (arith, long, less, count)

  last_leads : (count : ℕ) → count < 2 ^ 64 → Leads (passing tables) (between_tables tables) (count_line count)
  unfolding count_line
  last_leads count small number rest =
      let text = decimal count ++ codes " valid mlids dumped" in
      let last =
      line_leads (passing tables) (between_tables tables) (text ++ 32 ∷ [])
      (all_joined is_text text (32 ∷ [])
      (all_joined is_text (decimal count) (codes " valid mlids dumped") (apart 10 10 refl (decimal count) (decimal_digits count)) refl) refl)
      (λ n. last_line n count small) number rest in (
        last.0,
        ap (λ (line : List ℕ). after_lines after_line number (passing tables) (lines ((line ++ 10 ∷ []) ++ rest)))
            (sym (append_assoc (decimal count) (codes " valid mlids dumped") (32 ∷ []))) ∙ last.1,
      )

  table_leads : (path : List ℕ) (switch : SubnetPort) (held : SwitchState) → is_one_line switch.node_name ≡ true
      → Leads (between_tables tables) (between_tables tables) (table_text path switch held)
  table_leads path switch held named = by (length (used held) == 0)
    where
      whole : Leads (between_tables tables) (between_tables tables)
          (head_line path switch ++ titles held ++ flat_map (mlid_line held) (used held) ++ count_line (length (used held)))
      whole =
          then_leads (between_tables tables) (passing tables) (between_tables tables)
          (head_line path switch ++ titles held ++ flat_map (mlid_line held) (used held))
          (count_line (length (used held)))
          (then_leads (between_tables tables) (passing tables) (passing tables) (head_line path switch ++ titles held) (flat_map (mlid_line held) (used held))
          (then_leads (between_tables tables) (passing tables) (passing tables) (head_line path switch) (titles held) (heading_leads path switch named)
          (titles_lead held))
          (all_lead (passing tables) (mlid_line held) (used held) (row_leads held)))
          (last_leads (length (used held)) (few_used held))

      by : (b : Bool) → Leads (between_tables tables) (between_tables tables)
          (if b then [] else head_line path switch ++ titles held ++ flat_map (mlid_line held) (used held) ++ count_line (length (used held)))
      by true = nowhere (between_tables tables)
      by false = whole

  -- ---- all of them
  pub all_passed : (nodes : List PlannedNode) (fabric : FabricState) (switches : List GraphSwitch) (ports : List SubnetPort)
      → AllByRecursion (λ one. is_one_line one.node_name ≡ true) ports
      → Leads (between_tables tables) (between_tables tables) (multicast_tables nodes ports switches fabric)
  all_passed nodes fabric switches [] named = nowhere (between_tables tables)
  all_passed nodes fabric switches (one ∷ ports) named =
      then_leads (between_tables tables) (between_tables tables) (between_tables tables) (port_table nodes fabric switches one)
      (multicast_tables nodes ports switches fabric)
      (by (node_of nodes fabric one)) (all_passed nodes fabric switches ports named.1)
    where
      by : (o : Option (ℕ × Node)) → Leads (between_tables tables) (between_tables tables) (option_map_or (λ found. table_of switches one found.1) o [])
      by None = nowhere (between_tables tables)
      by (Some (place, Adapter ones)) = nowhere (between_tables tables)
      by (Some (place, Switch held)) = table_leads (path_to switches one.guid) one held named.0
