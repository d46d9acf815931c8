-- Each line of a table, after those before it.
use Rattle.std.proofs.Common.{ℕ, suc, ◌≡◌, ◌+◌, ◌^◌, ◌<◌, ◌==◌, ◌&&◌, ◌||◌, ◌∙◌, nat_eq, ap, refl, Bool, true, false, not, if◌then◌else◌, List, [], ◌∷◌, ◌++◌, codes, drop, length, is_some, Option, None, Result, Ok, Err, arith}
use Rattle.std.specs.Option.{ok_or}
use Rattle.std.proofs.lemmas.Bool.{eq-eqb, ne_eqb}
use Rattle.fabric_parts.specs.declared.node_type.NodeType.{NodeType}
use Rattle.step_results.specs.AtLine.{after_lines, on_line}
use Rattle.step_results.specs.Steps.{◌>>=◌}
use Rattle.text_words.specs.Failure.{is_failure}
use Rattle.text_words.specs.Lines.{lines}
use Rattle.dump_file.specs.Dump.{DraftState, after_line, after_text, after_words, broken_off, count_reported, heading_reported, is_passed_over, new_heading, new_row, nothing, row_reported, rows_counted, with_heading, with_row, with_rows, with_table}
use Rattle.dump_file.specs.Parts.{count_in}
use Rattle.dump_file.specs.Row.{is_said_otherwise, may_follow, valid_count}
use Rattle.dump_file.specs.Table.{place_of, rows_of}
use Rattle.dump_file.specs.declared.fault.DumpCause.{DumpCause}
use Rattle.dump_file.specs.declared.fault.DumpCause.TheVariants.{DuplicateTable, Malformed, TwoEndPorts, WrongCount, WrongLid}
use Rattle.dump_file.specs.declared.row.Row.{Row}
use Rattle.dump_file.specs.declared.table.Table.{Table}
use Rattle.text_words.specs.Cut.{trimmed}
use Rattle.joint_laws.proofs.LineLemmas.{count_answers, count_begins, count_cut, count_plain, count_text, destination_by, heading_answers, heading_plain, heading_read, heading_text, row_answers, row_plain, row_read, row_text, trimmed_text, trimmed_text_blank}
use Rattle.joint_laws.proofs.NumberLemmas.{decimal_read}
use Rattle.joint_laws.proofs.TextLemmas.{first_line, is_one_line}

-- ---- states
abbrev pub got : DraftState → Result DraftState DumpCause → DraftState
got other (Ok state) = state
got other (Err cause) = other

-- between tables
abbrev pub between_tables : List Table → DraftState
between_tables tables = record nothing { tables = tables }

-- behind a heading, behind the first title, and among rows
abbrev pub headed : List Table → (line guid top : ℕ) → DraftState
headed tables line guid top = got nothing (with_heading (between_tables tables) (Ok (record { line = line; guid = guid; top = top; by_lid = false })))

abbrev pub half_titled : List Table → (line guid top : ℕ) → DraftState
half_titled tables line guid top =
    got nothing (after_text (headed tables line guid top).stage 0 (headed tables line guid top) (codes "  Lid  Out   Destination"))

abbrev pub titled : List Table → (line guid top : ℕ) → DraftState
titled tables line guid top =
    got nothing (after_text (half_titled tables line guid top).stage 0 (half_titled tables line guid top) (codes "       Port     Info"))

abbrev pub in_rows : List Table → (line guid top : ℕ) → List Row → DraftState
in_rows tables line guid top rows = with_rows (titled tables line guid top) rows

-- ---- one line more
pub one_line_more : (number : ℕ) (so_far next : DraftState) (line rest : List ℕ) → is_one_line line ≡ true
    → after_line number so_far (line ++ 10 ∷ []) ≡ Ok next
    → after_lines after_line number so_far (lines (line ++ 10 ∷ rest)) ≡ after_lines after_line (number + 1) next (lines rest)
unfolding after_lines
one_line_more number so_far next line rest one is =
    ap (after_lines after_line number so_far) (first_line line rest one)
    ∙ ap (λ (found : Result DraftState DumpCause). on_line number found >>= λ state. after_lines after_line (number + 1) state (lines rest)) is

-- what counts of a line
pub line_taken : (number : ℕ) (so_far : DraftState) (line text : List ℕ) → trimmed line ≡ text → is_passed_over text ≡ false → is_failure text ≡ false
    → after_line number so_far line ≡ after_text so_far.stage number so_far text
unfolding after_line
line_taken number so_far line text is counts answers =
    ap (λ (some : List ℕ). if is_passed_over some then Ok so_far else after_words number so_far some) is
    ∙ ap (λ (b : Bool). if b then Ok so_far else after_words number so_far text) counts
    ∙ ap (λ (b : Bool). if b then Ok (broken_off so_far) else after_text so_far.stage number so_far text) answers

pub some_bytes : (byte : ℕ) (rest : List ℕ) → nat_eq 35 byte ≡ false → is_passed_over (byte ∷ rest) ≡ false
some_bytes byte rest other =
    ap (λ (b : Bool). b || (nat_eq 35 byte && true)) (ne_eqb (suc (length rest)) 0 (λ none. omega (arith, none))) ∙ ap (λ (b : Bool). b && true) other

module _ (tables : List Table) where
  pub heading_step : (number top guid : ℕ) (path name : List ℕ) (top_fits : top < 65536) (guid_fits : guid < 2 ^ 64) → place_of guid tables ≡ None
      → after_line number (between_tables tables) (heading_text top guid path name top_fits guid_fits ++ 10 ∷ []) ≡ Ok (headed tables number guid top)
  unfolding heading_reported
  heading_step number top guid path name top_fits guid_fits new =
      let text = heading_text top guid path name top_fits guid_fits in
      line_taken number (between_tables tables) (text ++ 10 ∷ []) text (trimmed_text text (heading_plain top guid path name top_fits guid_fits))
      (some_bytes 85 (drop 1 text) refl) (heading_answers top guid path name top_fits guid_fits)
      ∙ ap (λ (found : Result _ DumpCause). with_heading (between_tables tables) (found >>= λ heading. new_heading (between_tables tables) heading))
      (heading_read top guid path name top_fits guid_fits number)
      ∙ ap (λ (o : Option ℕ). with_heading (between_tables tables)
      (if is_some o then Err DuplicateTable else Ok (record { line = number; guid = guid; top = top; by_lid = false }))) new

  pub first_title_step : (number line guid top : ℕ)
      → after_line number (headed tables line guid top) (codes "  Lid  Out   Destination" ++ 10 ∷ []) ≡ Ok (half_titled tables line guid top)
  first_title_step number line guid top =
      line_taken number (headed tables line guid top) (codes "  Lid  Out   Destination" ++ 10 ∷ []) (codes "  Lid  Out   Destination")
      (trimmed_text (codes "  Lid  Out   Destination") refl) refl refl

  pub second_title_step : (number line guid top : ℕ)
      → after_line number (half_titled tables line guid top) (codes "       Port     Info " ++ 10 ∷ []) ≡ Ok (titled tables line guid top)
  second_title_step number line guid top =
      line_taken number (half_titled tables line guid top) (codes "       Port     Info " ++ 10 ∷ []) (codes "       Port     Info")
      (trimmed_text_blank (codes "       Port     Info") refl) refl refl

  pub row_step : (number line of_switch top : ℕ) (rows : List Row) (lid entry guid : ℕ) (of : NodeType) (name : List ℕ) (lid_fits : lid < 65536)
      (entry_fits : entry < 256)
      (guid_fits : guid < 2 ^ 64) → may_follow top rows lid ≡ true
      → is_said_otherwise (rows_of tables ++ rows) (record { lid = lid; port = entry; destination = destination_by of guid }) ≡ false
      → after_line number (in_rows tables line of_switch top rows) (row_text lid entry guid of name lid_fits entry_fits guid_fits ++ 10 ∷ [])
      ≡ Ok (in_rows tables line of_switch top (rows ++ record { lid = lid; port = entry; destination = destination_by of guid } ∷ []))
  unfolding row_reported
  row_step number line of_switch top rows lid entry guid of name lid_fits entry_fits guid_fits follows once =
      let text = row_text lid entry guid of name lid_fits entry_fits guid_fits in
      let state = in_rows tables line of_switch top rows in
      let row : Row = record { lid = lid; port = entry; destination = destination_by of guid } in
      line_taken number state (text ++ 10 ∷ []) text (trimmed_text text (row_plain lid entry guid of name lid_fits entry_fits guid_fits))
      (some_bytes 48 (drop 1 text) refl) (row_answers lid entry guid of name lid_fits entry_fits guid_fits)
      ∙ ap (λ (found : Result Row DumpCause). with_row state (found >>= λ one. new_row state (record { line = line; guid = of_switch; top = top; by_lid = false }) one))
      (row_read lid entry guid of name lid_fits entry_fits guid_fits)
      ∙ ap (λ (b : Bool). with_row state (if not b then Err WrongLid else (if is_said_otherwise (rows_of tables ++ rows) row then Err TwoEndPorts else Ok row))) follows
      ∙ ap (λ (b : Bool). with_row state (if b then Err TwoEndPorts else Ok row)) once

  pub count_step : (number line guid top : ℕ) (rows : List Row) → valid_count rows < 2 ^ 64
      → after_line number (in_rows tables line guid top rows) ((count_text (valid_count rows) ++ 32 ∷ []) ++ 10 ∷ [])
      ≡ Ok (between_tables (tables ++ record { line = line; guid = guid; top = top; rows = rows } ∷ []))
  unfolding count_reported
  count_step number line guid top rows small =
      let count = valid_count rows in
      let text = count_text count in
      let state = in_rows tables line guid top rows in
      line_taken number state ((text ++ 32 ∷ []) ++ 10 ∷ []) text (trimmed_text_blank text (count_plain count)) (count_begins count small).0 (count_answers count)
      ∙ ap (λ (b : Bool). if b then with_row state (row_reported state (record { line = line; guid = guid; top = top; by_lid = false }) text) else with_table state
      (record { line = line; guid = guid; top = top; by_lid = false }) (count_reported rows text)) (count_begins count small).1
      ∙ ap (λ (found : Result (List ℕ × List ℕ) DumpCause).
      with_table state (record { line = line; guid = guid; top = top; by_lid = false })
      (found >>= λ parts. count_in parts.0 >>= λ one. rows_counted rows parts.1 >>= λ all. if one == all then Ok one else Err WrongCount))
      (count_cut count)
      ∙ ap (λ (found : Option ℕ).
      with_table state (record { line = line; guid = guid; top = top; by_lid = false }) (ok_or found Malformed >>= λ one. if one == count then Ok one else Err WrongCount))
      (decimal_read count small)
      ∙ ap (λ (b : Bool). with_table state (record { line = line; guid = guid; top = top; by_lid = false }) (if b then Ok count else Err WrongCount)) (eq-eqb count count refl)
