-- What a text of `smpquery` reports, or the first line that is at fault.
use Rattle.std.specs.Prelude.{ℕ, ◌≡◌, Bool, true, false, ◌==◌, ◌||◌, nat_eq, List, [], ◌∷◌, ◌++◌, length, codes, position, slice_get, if◌then◌else◌, Option, Some, None, is_some, Result, Ok, Err}
use Rattle.std.specs.List.{list_any, starts_with}
use Rattle.std.specs.Option.{option_and_then}
use Rattle.step_results.specs.AtLine.{AtLine, after_lines}
use Rattle.step_results.specs.Steps.{◌>>=◌}
use Rattle.text_words.specs.Failure.{is_failure}
use Rattle.text_words.specs.Lines.{lines}
use Rattle.text_words.specs.Cut.{trimmed}
use Rattle.pkeys_file.specs.declared.answer.Answer.{Answer}
use Rattle.pkeys_file.specs.declared.answer.Reply.{Reply}
use Rattle.pkeys_file.specs.declared.answer.Reply.TheVariants.{Unread}
use Rattle.pkeys_file.specs.declared.draft.Asked.{Asked}
use Rattle.pkeys_file.specs.declared.fault.KeysCause.{KeysCause}
use Rattle.pkeys_file.specs.declared.fault.KeysCause.TheVariants.{Malformed, DuplicateQuery, NoQuery}
use Rattle.pkeys_file.specs.declared.fields.Fields.{Fields}
use Rattle.pkeys_file.specs.declared.query.Query.{Query}
use Rattle.pkeys_file.specs.declared.query.QueryKind.{QueryKind}
use Rattle.pkeys_file.specs.declared.query.QueryKind.TheVariants.{NodeInfo, SwitchInfo, Keys, PortInfo}
use Rattle.pkeys_file.specs.Fields.{field_in, no_fields, with_node_field, with_port_field, with_switch_field}
use Rattle.pkeys_file.specs.Query.{is_same_query, judged_by, query_in}
use Rattle.pkeys_file.specs.Reply.{reply_by}
use Rattle.pkeys_file.specs.Rows.{capacity_after, row_after}

-- ---- answers, looked up by their queries
abbrev pub place_of : Query → List Answer → Option ℕ
place_of query answers = position (λ answer. is_same_query query answer.query) answers

abbrev pub answer_to : Query → List Answer → Option Answer
answer_to query answers = option_and_then (λ place. slice_get answers place) (place_of query answers)

-- what the lines so far report: answers that are over, the query whose answer is read, and the words of its rows
pub record DraftState : Type 0 where
  pub answers : List Answer
  pub asked : Option Asked
  pub words : List ℕ

-- ---- a query ends the answer before it; one that failed brought nothing, whatever was printed of it
abbrev pub reply_of : Asked → List ℕ → Reply
reply_of asked words = if asked.failed then Unread else reply_by asked.query.kind asked.fields words

abbrev pub answer_of : Asked → List ℕ → Answer
answer_of asked words = record { line = asked.line; query = asked.query; reply = reply_of asked words }

abbrev pub closed_by : List Answer → Option Asked → List ℕ → List Answer
closed_by answers None words = answers
closed_by answers (Some asked) words = answers ++ answer_of asked words ∷ []

-- the answers, with that which is read
abbrev pub closed : DraftState → List Answer
closed so_far = closed_by so_far.answers so_far.asked so_far.words

abbrev pub asking : ℕ → Query → Asked
asking number query = record { line = number; query = query; fields = no_fields; failed = false }

abbrev pub with_query : ℕ → List Answer → Query → Result DraftState KeysCause
with_query number answers query =
    if is_some (place_of query answers) then Err DuplicateQuery
    else Ok (record { answers = answers; asked = Some (asking number query); words = [] })

abbrev pub after_query : ℕ → DraftState → List ℕ → Result DraftState KeysCause
after_query number so_far text = query_in text >>= λ query. with_query number (closed so_far) query

-- ---- the lines of an answer
abbrev pub with_fields : DraftState → Asked → Fields → DraftState
with_fields so_far asked fields = record so_far { asked = Some (record asked { fields = fields }) }

abbrev pub with_field : QueryKind → Fields → List ℕ × List ℕ → Result Fields KeysCause
with_field NodeInfo fields parts = with_node_field fields parts.0 parts.1
with_field SwitchInfo fields parts = with_switch_field fields parts.0 parts.1
with_field Keys fields parts = Err Malformed
with_field PortInfo fields parts = with_port_field fields parts.0 parts.1

-- the flags of a field stand behind tabs
abbrev pub is_flag : List ℕ → Bool
is_flag text = starts_with nat_eq text (9 ∷ [])

unfoldable pub fields_after : Asked → List ℕ → Result Fields KeysCause
fields_after asked text =
    if is_flag text then Ok asked.fields else (field_in text >>= λ parts. with_field asked.query.kind asked.fields parts)

abbrev pub is_row : List ℕ → Bool
is_row text = list_any (λ byte. byte == 58) text

abbrev pub is_ended : Fields → Bool
is_ended fields = is_some fields.capacity

-- a row, before the last line
abbrev pub after_row : DraftState → Fields → List ℕ → Result DraftState KeysCause
after_row so_far fields text =
    if is_ended fields then Err Malformed else (row_after so_far.words text >>= λ words. Ok (record so_far { words = words }))

abbrev pub after_table_line : DraftState → Asked → List ℕ → Result DraftState KeysCause
after_table_line so_far asked text =
    if is_row text then after_row so_far asked.fields text
    else (capacity_after so_far.words asked.fields text >>= λ fields. Ok (with_fields so_far asked fields))

abbrev pub after_field_line : DraftState → Asked → List ℕ → Result DraftState KeysCause
after_field_line so_far asked text = fields_after asked text >>= λ fields. Ok (with_fields so_far asked fields)

abbrev pub by_kind : QueryKind → DraftState → Asked → List ℕ → Result DraftState KeysCause
by_kind Keys so_far asked text = after_table_line so_far asked text
by_kind _ so_far asked text = after_field_line so_far asked text

abbrev pub is_title : List ℕ → Bool
is_title text = starts_with nat_eq text (codes "#")

abbrev pub after_answer_line : DraftState → Asked → List ℕ → Result DraftState KeysCause
after_answer_line so_far asked text =
    if is_title text then (judged_by asked.query text >>= λ query. Ok so_far)
    else by_kind asked.query.kind so_far asked text

-- ---- `smpquery: iberror: failed: operation pkeys: node info query failed`: the query failed. The lines behind it, up to the next
-- query, are passed over; so is such a line before the first query
abbrev pub with_failure : DraftState → Asked → DraftState
with_failure so_far asked = record so_far { asked = Some (record asked { failed = true }) }

abbrev pub in_answer : DraftState → Option Asked → List ℕ → Result DraftState KeysCause
in_answer so_far None text = if is_failure text then Ok so_far else Err Malformed
in_answer so_far (Some asked) text =
    if asked.failed || is_failure text then Ok (with_failure so_far asked) else after_answer_line so_far asked text

-- ---- a line after those before it: one with nothing on it is passed over
abbrev pub is_query : List ℕ → Bool
is_query text = starts_with nat_eq text (codes "# smpquery ")

abbrev pub after_text : ℕ → DraftState → List ℕ → Result DraftState KeysCause
after_text number so_far text =
    if is_query text then after_query number so_far text else in_answer so_far so_far.asked text

unfoldable pub after_line : ℕ → DraftState → List ℕ → Result DraftState KeysCause
after_line number so_far line =
    if length (trimmed line) == 0 then Ok so_far else after_text number so_far (trimmed line)

-- ---- the whole text: it has a query
abbrev pub judged_answers : List Answer → Result (List Answer) (AtLine KeysCause)
judged_answers answers = if length answers == 0 then Err (record { line = 0; cause = NoQuery }) else Ok answers

unfoldable pub whole : DraftState → Result (List Answer) (AtLine KeysCause)
whole all = judged_answers (closed all)

-- before the first line nothing is reported
abbrev pub nothing : DraftState
nothing = record { answers = []; asked = None; words = [] }

-- what all lines report
abbrev pub reported_by : List ℕ → Result DraftState (AtLine KeysCause)
reported_by text = after_lines after_line 1 nothing (lines text)

-- what the text reports, or its first fault
unfoldable pub answers_of : List ℕ → Result (List Answer) (AtLine KeysCause)
answers_of text = reported_by text >>= whole

-- the query that is read has no answer yet
abbrev pub IsNew : Option Asked → List Answer → Type 0
IsNew None answers = Unit {0}
IsNew (Some asked) answers = place_of asked.query answers ≡ None
