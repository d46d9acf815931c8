use Rattle.std.proofs.Common.{◌∙◌, ◌++◌, ap, sym, arith, length-append, take, []}
use Rattle.std.specs.Io.BufRead.{take_through}
use Rattle.text_streams.proofs.LineLemmas.{ends_there, false_is_not_true, has_more, moved, none_behind, none_through, read_on, read_still, through_has, through_more, through_once}
use Rattle.text_streams.proofs.reading_lines.read_line.Goals as goal
use Rattle.text_streams.proofs.reading_lines.read_line.Goals.{in-Ok+in_ok-extend_from_slice-in-Ok, in-Err}

pub returns-then-branch-clause-bytes : goal.returns-then-branch-clause-bytes
returns-then-branch-clause-bytes g c =
    let taken = c.in_ok-take_line.ensures in
    rw (taken.line, taken.rest) (moved _ c.loop-turn.line.items _ c.loop-turn.waiting.items c.loop-turn.invariant.read)

pub returns-then-branch-clause-line : goal.returns-then-branch-clause-line
returns-then-branch-clause-line g c =
    let line = c.loop-turn.line.items in
    let waiting = c.loop-turn.waiting.items in
    rw c.in_ok-take_line.ensures.line
    (sym (through_more line (take_through 10 waiting) c.loop-turn.invariant.none ∙ ap (λ s. line ++ s) (through_once waiting)))

pub returns-then-branch-clause-ended : goal.returns-then-branch-clause-ended
returns-then-branch-clause-ended g c =
    let waiting = c.loop-turn.waiting.items in
    let taken = c.in_ok-take_line.ensures in
    rw taken.line
    (sym (has_more c.loop-turn.line.items (take_through 10 waiting) c.loop-turn.invariant.none ∙ through_has waiting ∙ sym taken.ended ∙ c.if-branch.true))

pub returns-in-Ok-eq0-clause-bytes : goal.returns-in-Ok-eq0-clause-bytes
returns-in-Ok-eq0-clause-bytes g c =
    let waiting = c.loop-turn.waiting.items in
    let taken = c.in_ok-take_line.ensures in
    let none = none_behind waiting (sym taken.ended ∙ c.if-branch.false) in
    let bytes = rw (c.in-Ok-eq0.is, c.in-Ok-eq0.field-0-test) at c.next_piece.ensures.bytes in
    rw (taken.line, taken.rest, none)
    (read_on _ (c.loop-turn.line.items ++ take_through 10 waiting) _ _ [] (rw none at (moved _ c.loop-turn.line.items _ waiting c.loop-turn.invariant.read)) bytes.0)

pub returns-in-Ok-eq0-clause-line : goal.returns-in-Ok-eq0-clause-line
returns-in-Ok-eq0-clause-line g c =
    let line = c.loop-turn.line.items in
    let waiting = c.loop-turn.waiting.items in
    rw c.in_ok-take_line.ensures.line
    (sym (through_more line (take_through 10 waiting) c.loop-turn.invariant.none ∙ ap (λ s. line ++ s) (through_once waiting)))

pub returns-in-Ok-eq0-clause-ended : goal.returns-in-Ok-eq0-clause-ended
returns-in-Ok-eq0-clause-ended g c =
    let waiting = c.loop-turn.waiting.items in
    let taken = c.in_ok-take_line.ensures in
    rw taken.line
    (sym (has_more c.loop-turn.line.items (take_through 10 waiting) c.loop-turn.invariant.none ∙ through_has waiting ∙ sym taken.ended ∙ c.if-branch.false))

pub returns-in-Ok-eq0-clause-end : goal.returns-in-Ok-eq0-clause-end
returns-in-Ok-eq0-clause-end g c same =
    let taken = c.in_ok-take_line.ensures in
    let none = none_behind c.loop-turn.waiting.items (sym taken.ended ∙ c.if-branch.false) in
    let bytes = rw c.in-Ok-eq0.is at c.next_piece.ensures.bytes in
    let room = c.next_piece.auto.piece in
    rw (taken.rest, none) (ends_there _ (bytes.1 c.in-Ok-eq0.field-0-test (omega (arith, room))))

pub loop-turn-preserved : goal.loop-turn-preserved
loop-turn-preserved g c =
    let before = c.loop-turn.invariant in
    let line = c.loop-turn.line.items in
    let waiting = c.loop-turn.waiting.items in
    let taken = c.in_ok-take_line.ensures in
    let unended = sym taken.ended ∙ c.if-branch.false in
    let behind = none_behind waiting unended in
    let through = none_through waiting unended in
    let all = rw behind at (moved _ line _ waiting before.read) in
    let still = has_more line (take_through 10 waiting) before.none ∙ through_has waiting ∙ unended in
    elim c.match-next_piece.branch [
      | in-Ok+in_ok-extend_from_slice-in-Ok w ↦
          let piece = take w.in-Ok.count c.next_piece.new.piece in
          let waits = w.in_ok-extend_from_slice-in-Ok.ensures.items in
          record {
            read = rw (w.waiting-is, waits, taken.line, taken.rest, behind) (read_on _ (line ++ take_through 10 waiting) _ _ piece all w.in-Ok.ensures.bytes.0);
            none = rw taken.line still;
            sure = λ sure. c.next_piece.ensures.stays (before.sure sure);
            grows = λ sure.
                let grown = before.grows sure in
                let some = w.in-Ok.count-test in
                let one = w.in-Ok.ensures.bound.1 in
                let both = length-append line waiting in
                rw (w.waiting-is, waits, taken.line, taken.rest, behind, through) (omega (arith, grown, some, one, both));
          }
      | in-Err w ↦ record {
        read = rw (w.waiting-is, taken.line, taken.rest, behind) (read_still _ (line ++ take_through 10 waiting) _ _ [] all w.in-Err.ensures.bytes);
        none = rw taken.line still;
        sure = λ sure. c.next_piece.ensures.stays (before.sure sure);
        grows = λ sure. absurd (false_is_not_true (w.in-Err.ensures.sure (before.sure sure)));
      }
    ]
