use Rattle.std.proofs.Common.{◌∙◌, ◌++◌, arith, length-append, sym}
use Rattle.std.proofs.lemmas.Result.{err_from_is_err_and}
use Rattle.text_streams.proofs.KnownBytesLemmas.{consumes_more, write_more}
use Rattle.smp_lines.specs.SmpLines.{output_of}
use Rattle.smp_lines.specs.Stop.{stop_of}
use Rattle.smp_lines.specs.declared.stop.SmpStop.TheVariants.{Read}
use Rattle.smp_lines.proofs.AnsweredLemmas.{ended_long, ends_at, goes_on, stops_at, stops_before, unread_cuts}
use Rattle.smp_lines.proofs.answering.answer_smps.Goals as goal

pub returns-in_err-is_ended-clause-exact : goal.returns-in_err-is_ended-clause-exact
returns-in_err-is_ended-clause-exact g c =
    let before = c.loop-number.invariant in
    let stop = c.in_err-is_ended.field-0.0 in
    let p = err_from_is_err_and c.from_residual.result c.from_residual.ensures.1 in
    rw (p.1, p.2)
    (stops_before c.args.fabric.now c.loop-number.fabric before.read before.output c.loop-number.number before.so_far (Unit {0}) (stop_of stop) _ _ _ _
    (λ all part. unread_cuts (Unit {0}) stop all _ _ part) before.consumed before.written)

pub returns-in_err-take_line-clause-exact : goal.returns-in_err-take_line-clause-exact
returns-in_err-take_line-clause-exact g c =
    let before = c.loop-number.invariant in
    let read = c.in_ok-is_ended.ensures in
    let p = err_from_is_err_and c.from_residual-in_err-take_line.result c.from_residual-in_err-take_line.ensures.1 in
    rw (p.1, p.2)
    (stops_at c.args.fabric.now c.loop-number.fabric before.read before.output c.loop-number.number before.so_far
    c.read_line.new.line.items read.line _ _ _ _ _ (consumes_more _ _ _ before.read c.read_line.new.line.items before.consumed read.bytes)
    (λ none. read.end (read.ended ∙ none)) before.written c.take_line.new.fabric (Unit {0}) (Unit {0}) c.in_err-take_line.field-0.0
    c.deref.result.now c.deref.ensures.value c.in_err-take_line.ensures.takes)

pub returns-then-not-is_ended-clause-exact : goal.returns-then-not-is_ended-clause-exact
returns-then-not-is_ended-clause-exact g c =
    let before = c.loop-number.invariant in
    let read = c.in_ok-is_ended.ensures in
    ends_at c.args.fabric.now c.loop-number.fabric before.read before.output c.loop-number.number before.so_far
    c.read_line.new.line.items read.line _ _ _ _ _ (consumes_more _ _ _ before.read c.read_line.new.line.items before.consumed read.bytes)
    (λ none. read.end (read.ended ∙ none)) before.written c.take_line.new.fabric
    (rw c.deref.ensures.value at c.in_ok-take_line.ensures.takes) (read.end c.if-not-is_ended.true)

pub loop-number-preserved : goal.loop-number-preserved
loop-number-preserved g c =
    let before = c.loop-number.invariant in
    let read = c.in_ok-is_ended.ensures in
    let line = c.read_line.new.line.items in
    let takes = rw c.deref.ensures.value at c.in_ok-take_line.ensures.takes in
    let ended = sym read.ended ∙ c.if-not-is_ended.false in
    record {
      read = before.read ++ line;
      output = before.output ++ output_of c.loop-number.fabric takes.smp;
      consumed = consumes_more _ _ _ before.read line before.consumed read.bytes;
      so_far = goes_on c.args.fabric.now c.loop-number.fabric before.read before.output c.loop-number.number before.so_far line read.line c.take_line.new.fabric _ _ ended takes;
      written = write_more _ _ _ before.output (output_of c.loop-number.fabric takes.smp) before.written takes.written;
      reads = λ sure. c.read_line.ensures.stays (before.reads sure);
      writes = λ sure. c.take_line.ensures.stays (before.writes sure);
      grows =
          let grown = before.grows in
          let long = ended_long line ended in
          let both = length-append before.read line in
          omega (arith, grown, long, both);
    }

pub returns-clause-exact : goal.returns-clause-exact
returns-clause-exact g c =
    let before = c.loop-number.invariant in
    stops_before c.args.fabric.now c.loop-number.fabric before.read before.output c.loop-number.number before.so_far (Unit {0}) Read _ _ _ _ (λ all part. part)
    before.consumed before.written
