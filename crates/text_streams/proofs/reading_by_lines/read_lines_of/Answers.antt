use Rattle.std.proofs.Common.{◌≡◌, true, [], arith, refl, take}
use Rattle.std.proofs.lemmas.Result.{err_from_is_err_and}
use Rattle.step_results.specs.AtLine.{after_lines}
use Rattle.text_words.specs.Lines.{lines}
use Rattle.text_streams.proofs.LineLemmas.{false_is_not_true}
use Rattle.text_streams.proofs.TakenLemmas.{all_made, end_refused, none_read, one_read, out_of_memory, piece_refused, read_of_known, unread}
use Rattle.text_streams.proofs.reading_by_lines.read_lines_of.Goals as goal
use Rattle.text_streams.proofs.reading_by_lines.read_lines_of.Goals.{in-Ok+in_ok-extend_from_slice-in-Ok+in_ok-number-in-Ok, in-Err}

pub returns-in_err-take_lines-in-Ok-eq0-clause-exact : goal.returns-in_err-take_lines-in-Ok-eq0-clause-exact
returns-in_err-take_lines-in-Ok-eq0-clause-exact g c =
    let at = c.loop-turn in
    let p = err_from_is_err_and c.from_residual.result c.from_residual.ensures.1 in
    let bytes = rw (c.in-Ok-eq0.is, c.in-Ok-eq0.field-0-test) at c.next_piece.ensures.bytes in
    let room = c.next_piece.auto.piece in
    rw (p.1, p.2)
    (end_refused (g.R.Reader.is_sure c.args.reader.now ≡ true) g.L.LineReader.after_line c.args.nothing at.so_far at.number at.waiting.items at._turn
    c.in_err-take_lines-in-Ok-eq0.field-0.0
    (g.R.Reader.remaining c.args.reader.now) (g.R.Reader.remaining at.reader) (g.R.Reader.remaining c.next_piece.new.self)
    at.invariant.taken bytes.0 (bytes.1 refl (omega (arith, room)))
    (rw c.as_slice.ensures.value at (c.in_err-take_lines-in-Ok-eq0.ensures.refused [])))

pub returns-in-Ok-eq0-clause-exact : goal.returns-in-Ok-eq0-clause-exact
returns-in-Ok-eq0-clause-exact g c =
    let at = c.loop-turn in
    let bytes = rw (c.in-Ok-eq0.is, c.in-Ok-eq0.field-0-test) at c.next_piece.ensures.bytes in
    let room = c.next_piece.auto.piece in
    all_made (g.R.Reader.is_sure c.args.reader.now ≡ true) g.L.LineReader.after_line c.args.nothing at.so_far at.number at.waiting.items at._turn
    (g.R.Reader.remaining c.args.reader.now) (g.R.Reader.remaining at.reader) (g.R.Reader.remaining c.next_piece.new.self)
    c.take_lines.new.so_far c.in_ok-take_lines-in-Ok-eq0.field-0 at.invariant.taken bytes.0 (bytes.1 refl (omega (arith, room)))
    (rw c.as_slice.ensures.value at (c.in_ok-take_lines-in-Ok-eq0.ensures.taken []))

pub returns-in_err-extend_from_slice-in-Ok-clause-exact : goal.returns-in_err-extend_from_slice-in-Ok-clause-exact
returns-in_err-extend_from_slice-in-Ok-clause-exact g c =
    let p = err_from_is_err_and c.from_residual-in_err-extend_from_slice-in-Ok.result c.from_residual-in_err-extend_from_slice-in-Ok.ensures.1 in
    rw (p.1, p.2) (out_of_memory (λ all. all) (g.R.Reader.remaining c.args.reader.now) (λ text. after_lines g.L.LineReader.after_line 1 c.args.nothing (lines text)))

pub returns-in_err-number-in-Ok-clause-exact : goal.returns-in_err-number-in-Ok-clause-exact
returns-in_err-number-in-Ok-clause-exact g c =
    let at = c.loop-turn in
    let p = err_from_is_err_and c.from_residual-in_err-number-in-Ok.result c.from_residual-in_err-number-in-Ok.ensures.1 in
    let waits = c.in_ok-extend_from_slice-in-Ok.ensures.items in
    rw (p.1, p.2)
    (piece_refused (g.R.Reader.is_sure c.args.reader.now ≡ true) g.L.LineReader.after_line c.args.nothing at.so_far at.number at.waiting.items at._turn
    c.in_err-number-in-Ok.field-0.0
    (g.R.Reader.remaining c.args.reader.now) (g.R.Reader.remaining at.reader) (g.R.Reader.remaining c.next_piece.new.self)
    (take c.in-Ok.count c.next_piece.new.piece) at.invariant.taken c.in-Ok.ensures.bytes.0 (rw waits at c.in_err-number-in-Ok.ensures.refused))

pub returns-in-Err-2-clause-exact : goal.returns-in-Err-2-clause-exact
returns-in-Err-2-clause-exact g c = unread (λ all. all) (g.R.Reader.remaining c.args.reader.now) (λ text. after_lines g.L.LineReader.after_line 1 c.args.nothing (lines text))

pub returns-clause-exact : goal.returns-clause-exact
returns-clause-exact g c = unread (λ all. all) (g.R.Reader.remaining c.args.reader.now) (λ text. after_lines g.L.LineReader.after_line 1 c.args.nothing (lines text))

pub loop-turn-preserved : goal.loop-turn-preserved
loop-turn-preserved g c =
    let at = c.loop-turn in
    let step = g.L.LineReader.after_line in
    let room = c.next_piece.auto.piece in
    elim c.match-next_piece.branch [
      | in-Ok+in_ok-extend_from_slice-in-Ok+in_ok-number-in-Ok w ↦
          let piece = take w.in-Ok.count c.next_piece.new.piece in
          let bound = w.in-Ok.ensures.bound in
          let some = w.in-Ok.count-test.1 in
          let waits = w.in_ok-extend_from_slice-in-Ok.ensures.items in
          record {
            taken = rw (w.waiting-is, w.number-is, w.so_far-is)
                (one_read (g.R.Reader.is_sure c.args.reader.now ≡ true) step c.args.nothing (g.R.Reader.remaining c.args.reader.now) (g.R.Reader.remaining at.reader) (g.R.Reader.remaining c.next_piece.new.self)
                at.so_far w.take_ended.new.so_far at.number w.in_ok-number-in-Ok.number at.waiting.items piece w.take_ended.new.waiting.items at._turn
                (omega (arith, bound.0, bound.1, room)) (omega (arith, bound.1, some)) at.invariant.taken w.in-Ok.ensures.bytes.0 (rw waits at w.in_ok-number-in-Ok.ensures.taken) (rw waits at w.in_ok-number-in-Ok.ensures.count));
            sure = λ sure. c.next_piece.ensures.stays (at.invariant.sure sure);
          }
      | in-Err w ↦ record {
        taken = rw (w.waiting-is, w.number-is, w.so_far-is)
            (none_read (g.R.Reader.is_sure c.args.reader.now ≡ true) step c.args.nothing (g.R.Reader.remaining c.args.reader.now) (g.R.Reader.remaining at.reader) (g.R.Reader.remaining c.next_piece.new.self)
            at.so_far at.number at.waiting.items at._turn at.invariant.taken w.in-Err.ensures.bytes
            (λ sure. false_is_not_true (w.in-Err.ensures.sure (at.invariant.sure sure))));
        sure = λ sure. c.next_piece.ensures.stays (at.invariant.sure sure);
      }
    ]

pub returns-clause-sure : goal.returns-clause-sure
returns-clause-sure g c sure same =
    let at = c.loop-turn in
    let grown = at.invariant.taken.grows sure in
    let over = c.loop-turn-test.false in
    read_of_known (g.R.Reader.is_sure c.args.reader.now ≡ true) g.L.LineReader.after_line c.args.nothing (g.R.Reader.remaining c.args.reader.now) (g.R.Reader.remaining at.reader)
    at.so_far at.number at.waiting.items at._turn at.invariant.taken (omega (arith, grown, over))
