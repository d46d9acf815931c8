use Rattle.std.proofs.Common.{◌≡◌, ◌∙◌, ◌++◌, [], true, arith, length-append, refl, take}
use Rattle.std.proofs.lemmas.Result.{err_from_is_err_and}
use Rattle.subnet_core.proofs.ReadLemmas.{all_reads, begun_more, carries_written, consumes_none, false_is_not_true, faulty_reads, nothing_begun, nothing_read, read_more, short, stops_in_piece, stops_unwritten, unread_reads}
use Rattle.subnet_core.proofs.StreamLemmas.{more_reads}
use Rattle.subnet_core.specs.StreamSteps.{lines_behind}
use Rattle.text_streams.proofs.TimeLemmas.{nothing_in_time}
use Rattle.text_streams.proofs.KnownBytesLemmas.{consumes_more, consumes_nothing, consumes_still}
use Rattle.subnet_core.proofs.stream.Stream.carry_out.Goals as goal
use Rattle.subnet_core.proofs.stream.Stream.carry_out.Goals.{in-Ok+in_ok-take_piece-in-Ok, in-Err}

pub loop-turn-init : goal.loop-turn-init
loop-turn-init g c = record {
  read = [];
  consumed = consumes_nothing _;
  carries = nothing_read c.args.self.now _;
  begun = nothing_begun _ c.new-begun.ensures.items;
  few = let none = c.requires in omega (arith, none);
  reads = λ sure. sure;
  grows = λ sure. omega arith;
  waits = refl;
  in_time = λ waits. nothing_in_time _ _ _ _;
  stays = λ sure. sure;
}

pub returns-in_err-catch_up-clause-reads : goal.returns-in_err-catch_up-clause-reads
returns-in_err-catch_up-clause-reads g c =
    let before = c.loop-turn.invariant in
    let p = err_from_is_err_and c.from_residual.result c.from_residual.ensures.1 in
    rw (p.1, p.2)
    (faulty_reads (Unit {0}) _ _ before.read before.consumed c.args.self.now c.catch_up.new.self _ _ c.in_err-catch_up.field-0.0
    (stops_unwritten (lines_behind [] before.read) c.args.self.now c.loop-turn.self c.catch_up.new.self _ _ _ before.carries (Unit {0}) (Unit {0}) c.in_err-catch_up.field-0.0
    c.in_err-catch_up.ensures.reports))

pub returns-in-Ok-eq0-clause-reads : goal.returns-in-Ok-eq0-clause-reads
returns-in-Ok-eq0-clause-reads g c =
    let before = c.loop-turn.invariant in
    let still = carries_written (lines_behind [] before.read) c.args.self.now c.loop-turn.self c.catch_up.new.self _ _ _ before.carries c.in_ok-catch_up.ensures.reports in
    let bytes = rw c.in-Ok-eq0.is at c.next_piece.ensures.bytes in
    let room = c.next_piece.auto.piece in
    all_reads (Unit {0}) _ _ before.read (consumes_none _ _ _ before.read c.next_piece.new.piece c.in-Ok-eq0.field-0 c.in-Ok-eq0.field-0-test before.consumed bytes.0) c.args.self.now c.take_last.new.self _ _ c.take_last.result
    c.catch_up.new.self _ (bytes.1 c.in-Ok-eq0.field-0-test (omega (arith, room))) still (rw (← before.begun, ← c.deref.ensures.value) c.take_last.ensures.takes)

pub returns-in_err-take_piece-in-Ok-clause-reads : goal.returns-in_err-take_piece-in-Ok-clause-reads
returns-in_err-take_piece-in-Ok-clause-reads g c =
    let before = c.loop-turn.invariant in
    let still = carries_written (lines_behind [] before.read) c.args.self.now c.loop-turn.self c.catch_up.new.self _ _ _ before.carries c.in_ok-catch_up.ensures.reports in
    let p = err_from_is_err_and c.from_residual-in_err-take_piece-in-Ok.result c.from_residual-in_err-take_piece-in-Ok.ensures.1 in
    rw (p.1, p.2)
    (faulty_reads (Unit {0}) _ _ _ (consumes_more _ _ _ before.read _ before.consumed c.in-Ok.ensures.bytes.0) c.args.self.now c.take_piece.new.self _ _ c.in_err-take_piece-in-Ok.field-0.0
    (stops_in_piece before.read _ c.loop-turn.begun.items before.begun c.args.self.now c.catch_up.new.self c.take_piece.new.self _ _ _ still (Unit {0}) (Unit {0}) c.in_err-take_piece-in-Ok.field-0.0
    c.in_err-take_piece-in-Ok.ensures.takes))

pub returns-in-Err-2-clause-reads : goal.returns-in-Err-2-clause-reads
returns-in-Err-2-clause-reads g c =
    let before = c.loop-turn.invariant in
    let still = carries_written (lines_behind [] before.read) c.args.self.now c.loop-turn.self c.catch_up.new.self _ _ _ before.carries c.in_ok-catch_up.ensures.reports in
    unread_reads (Unit {0}) _ _ before.read (consumes_still _ _ _ before.read before.consumed c.in-Err-2.ensures.bytes) c.args.self.now c.catch_up.new.self _ _ still

pub loop-turn-preserved : goal.loop-turn-preserved
loop-turn-preserved g c =
    let before = c.loop-turn.invariant in
    let still = carries_written (lines_behind [] before.read) c.args.self.now c.loop-turn.self c.catch_up.new.self _ _ _ before.carries c.in_ok-catch_up.ensures.reports in
    let in_time = λ (waits : g.R.Reader.waits c.args.reader.now ≡ true). more_reads c.args.self.now c.requires.text c.requires.taken c.requires.fresh before.read c.catch_up.new.self _ _ _ _ _ _ _ (before.in_time waits) (c.in_ok-catch_up.ensures.written (before.waits ∙ waits)) before.consumed still c.next_piece.ensures.noted in
    elim c.match-next_piece.branch [
      | in-Ok+in_ok-take_piece-in-Ok w ↦
          let piece = take w.in-Ok.count c.next_piece.new.piece in
          let taken = w.in_ok-take_piece-in-Ok.ensures in
          record {
            read = before.read ++ piece;
            consumed = consumes_more _ _ _ before.read piece before.consumed w.in-Ok.ensures.bytes.0;
            carries = rw (w.self-is, w.writer-is) (read_more before.read piece c.loop-turn.begun.items before.begun _ _ _ _ _ _ still taken.takes);
            begun = rw w.begun-is (begun_more before.read piece c.loop-turn.begun.items before.begun _ taken.begun);
            few =
                let few = before.few in
                let same = c.in_ok-catch_up.ensures.reports.2 in
                let more = taken.few in
                let most = short w.in-Ok.count c.next_piece.new.piece in
                let room = c.next_piece.auto.piece in
                rw w.self-is (omega (arith, few, same, more, most, room));
            reads = λ sure. c.next_piece.ensures.stays (before.reads sure);
            grows = λ sure.
                let grown = before.grows sure in
                let some = w.in-Ok.count-test in
                let one = w.in-Ok.ensures.bound.1 in
                let all = length-append before.read piece in
                omega (arith, grown, some, one, all);
            waits = c.next_piece.ensures.waits ∙ before.waits;
            in_time = λ waits. in_time waits;
            stays = λ sure. rw w.writer-is (taken.stays (c.catch_up.ensures.stays (before.stays sure)));
          }
      | in-Err w ↦
          record {
            read = before.read;
            consumed = consumes_still _ _ _ before.read before.consumed w.in-Err.ensures.bytes;
            carries = rw (w.self-is, w.writer-is) still;
            begun = rw w.begun-is before.begun;
            few = let few = before.few in let same = c.in_ok-catch_up.ensures.reports.2 in rw w.self-is (omega (arith, few, same));
            reads = λ sure. c.next_piece.ensures.stays (before.reads sure);
            grows = λ sure. absurd (false_is_not_true (w.in-Err.ensures.sure (before.reads sure)));
            waits = c.next_piece.ensures.waits ∙ before.waits;
            in_time = λ waits. in_time waits;
            stays = λ sure. rw w.writer-is (c.catch_up.ensures.stays (before.stays sure));
          }
    ]

pub returns-in-Ok-eq0-clause-in_time : goal.returns-in-Ok-eq0-clause-in_time
returns-in-Ok-eq0-clause-in_time g c waits =
    let before = c.loop-turn.invariant in
    let still = carries_written (lines_behind [] before.read) c.args.self.now c.loop-turn.self c.catch_up.new.self _ _ _ before.carries c.in_ok-catch_up.ensures.reports in
    more_reads c.args.self.now c.requires.text c.requires.taken c.requires.fresh before.read c.catch_up.new.self _ _ _ _ _ _ _ (before.in_time waits) (c.in_ok-catch_up.ensures.written (before.waits ∙ waits)) before.consumed still c.next_piece.ensures.noted

pub returns-in_err-take_piece-in-Ok-clause-in_time : goal.returns-in_err-take_piece-in-Ok-clause-in_time
returns-in_err-take_piece-in-Ok-clause-in_time g c waits =
    let before = c.loop-turn.invariant in
    let still = carries_written (lines_behind [] before.read) c.args.self.now c.loop-turn.self c.catch_up.new.self _ _ _ before.carries c.in_ok-catch_up.ensures.reports in
    more_reads c.args.self.now c.requires.text c.requires.taken c.requires.fresh before.read c.catch_up.new.self _ _ _ _ _ _ _ (before.in_time waits) (c.in_ok-catch_up.ensures.written (before.waits ∙ waits)) before.consumed still c.next_piece.ensures.noted

pub returns-in-Err-2-clause-in_time : goal.returns-in-Err-2-clause-in_time
returns-in-Err-2-clause-in_time g c waits =
    let before = c.loop-turn.invariant in
    let still = carries_written (lines_behind [] before.read) c.args.self.now c.loop-turn.self c.catch_up.new.self _ _ _ before.carries c.in_ok-catch_up.ensures.reports in
    more_reads c.args.self.now c.requires.text c.requires.taken c.requires.fresh before.read c.catch_up.new.self _ _ _ _ _ _ _ (before.in_time waits) (c.in_ok-catch_up.ensures.written (before.waits ∙ waits)) before.consumed still c.next_piece.ensures.noted

pub returns-clause-reads : goal.returns-clause-reads
returns-clause-reads g c =
    let before = c.loop-turn.invariant in
    unread_reads (Unit {0}) _ _ before.read before.consumed c.args.self.now c.loop-turn.self _ _ before.carries
