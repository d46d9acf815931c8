use Rattle.std.proofs.Common.{sym}
use Rattle.std.proofs.lemmas.Result.{err_from_is_err_and}
use Rattle.script_lines.specs.Asking.{asked_in}
use Rattle.script_lines.proofs.AskLoopLemmas.{begins, ends, goes_on, named_twice, names_none, none_reported, some_reported}
use Rattle.script_lines.proofs.asking.asked_in.Goals as goal

pub loop-word-init : goal.loop-word-init
loop-word-init c =
    let blank = c.blank-asked in
    begins c.args.attribute blank.result c.args.words c.into_iter-word-iterator.result blank.ensures.kind blank.ensures.fits blank.ensures.zeros c.into_iter-word-iterator.ensures.into_iter_gives

pub ask_by_word-requires : goal.ask_by_word-requires
ask_by_word-requires c = c.loop-word.invariant.fits

pub returns-in_err-bits : goal.returns-in_err-bits
returns-in_err-bits c =
    let l = c.loop-word in
    let reported = none_reported c.ask_by_word.result _ c.ok_or.result c.in_err-bits.field-0.0 c.ok_or.ensures.value c.in_err-bits.was in
    let p = err_from_is_err_and c.from_residual.result c.from_residual.ensures.1 in
    let none = names_none c.args.attribute l.component_mask l.asked c.ask_by_word.new.asked c.ask_by_word.result c.in-Some.word.now l.word-iterator c.next.new.self
    (asked_in c.args.attribute c.args.words) c.in-Some.ensures.steps l.invariant c.ask_by_word.ensures reported.0 in
    rw (p.1, p.2, reported.1) (sym none)

pub returns-then-component_mask-bits-ne0 : goal.returns-then-component_mask-bits-ne0
returns-then-component_mask-bits-ne0 c =
    let l = c.loop-word in
    let bits = c.in_ok-bits.bits in
    sym (named_twice c.args.attribute l.component_mask bits l.asked c.ask_by_word.new.asked c.ask_by_word.result c.in-Some.word.now l.word-iterator c.next.new.self
    (asked_in c.args.attribute c.args.words) c.in-Some.ensures.steps l.invariant c.ask_by_word.ensures
    (some_reported c.ask_by_word.result _ c.ok_or.result bits c.ok_or.ensures.value c.in_ok-bits.was) c.if-component_mask-bits-ne0.true)

pub loop-word-preserved : goal.loop-word-preserved
loop-word-preserved c =
    let l = c.loop-word in
    let bits = c.in_ok-bits.bits in
    goes_on c.args.attribute l.component_mask bits l.asked c.ask_by_word.new.asked c.ask_by_word.result c.in-Some.word.now l.word-iterator c.next.new.self
    (asked_in c.args.attribute c.args.words) c.in-Some.ensures.steps l.invariant c.ask_by_word.ensures
    (some_reported c.ask_by_word.result _ c.ok_or.result bits c.ok_or.ensures.value c.in_ok-bits.was) c.if-component_mask-bits-ne0.false

pub data-requires : goal.data-requires
data-requires c = c.loop-word.invariant.fits

pub returns : goal.returns
returns c =
    let l = c.loop-word in
    rw c.data.ensures (ends c.args.attribute l.component_mask l.asked l.word-iterator (asked_in c.args.attribute c.args.words) c.in-None.ensures.steps.0 l.invariant)
