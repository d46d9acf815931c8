use Rattle.std.proofs.Common.{◌≡◌, get_or, refl, sym, ap, ◌∙◌, arith, length, ◌≤◌}
use Rattle.std.proofs.lemmas.Result.{err_from_is_err_and}
use Rattle.step_results.specs.TextGives.{text_fault_in}
use Rattle.text_words.specs.Lines.{is_line_end}
use Rattle.partition_file.specs.Pieces.{is_delimiter}
use Rattle.partition_file.proofs.ReadLemmas.{starts, goes_on, stops, ends, next_from, next_line}
use Rattle.partition_file.proofs.reader.definitions_of.Goals as goal
use Rattle.partition_file.proofs.reader.definitions_of.Goals.{then-is_delimiter, else-is_delimiter, then-is_line_end, else-is_line_end}

pub loop-index-init : goal.loop-index-init
loop-index-init c = rw c.in_ok-scan.ensures (starts c.as_slice-shown.result.now)

pub returns-in_err-take_byte : goal.returns-in_err-take_byte
returns-in_err-take_byte c =
    let shown = c.as_slice-shown.result.now in
    let at = c.loop-index in
    let p = err_from_is_err_and c.from_residual-in_err-take_byte.result c.from_residual-in_err-take_byte.ensures.1 in
    rw (p.1, p.2, ← c.in_ok-shown.ensures, ← c.as_slice-shown.ensures.value)
    (stops (text_fault_in c.in_err-take_byte.field-0.0) shown at.index at.from at.line at.scan (get_or shown at.index 0)
    refl c.loop-index-test.true at.invariant c.in_err-take_byte.ensures)

pub loop-index-preserved : goal.loop-index-preserved
loop-index-preserved c =
    let shown = c.as_slice-shown.result.now in
    let at = c.loop-index in
    let byte = get_or shown at.index 0 in
    let from : c.if-is_delimiter.from ≡ next_from (is_delimiter byte) at.from at.index =
    elim c.if-is_delimiter.branch [
      | then-is_delimiter w ↦ w.from-is ∙ ap (λ b. next_from b at.from at.index) (sym (sym c.is_delimiter.ensures ∙ w.if-is_delimiter.true))
      | else-is_delimiter w ↦ w.from-is ∙ ap (λ b. next_from b at.from at.index) (sym (sym c.is_delimiter.ensures ∙ w.if-is_delimiter.false))
    ] in
    let line : c.if-is_line_end.line ≡ next_line (is_line_end byte) at.line =
    elim c.if-is_line_end.branch [
      | then-is_line_end w ↦ w.line-is ∙ ap (λ b. next_line b at.line) (sym (sym c.is_line_end.ensures ∙ w.if-is_line_end.true))
      | else-is_line_end w ↦ w.line-is ∙ ap (λ b. next_line b at.line) (sym (sym c.is_line_end.ensures ∙ w.if-is_line_end.false))
    ] in
    rw (from, line)
    (goes_on shown at.index at.from at.line at.scan c.take_byte.new.self byte refl c.loop-index-test.true at.invariant c.in_ok-take_byte.ensures)

pub returns : goal.returns
returns c =
    let shown = c.as_slice-shown.result.now in
    let at = c.loop-index in
    let read : length shown ≤ at.index = c.loop-index-test.false in
    rw (
      ← c.in_ok-shown.ensures,
      ← c.as_slice-shown.ensures.value,
      ends shown at.index at.from at.line at.scan read (omega (arith, c.loop-index.auto.index-end)) at.invariant,
    )
    c.finish.ensures
