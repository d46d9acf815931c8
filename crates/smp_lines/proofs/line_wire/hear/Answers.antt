use Rattle.std.proofs.Common.{◌≡◌, ◌∙◌, ◌++◌, ◌∷◌, [], ap, refl, sym, arith, length-append, Some, None}
use Rattle.std.proofs.lemmas.List.Elements.{All-nil, All-push}
use Rattle.text_streams.proofs.KnownBytesLemmas.{consumes_more, consumes_nothing}
use Rattle.smp_lines.proofs.HeardLemmas.{none_passed, passed_more, reads_last}
use Rattle.smp_lines.specs.LineWire.{said_in}
use Rattle.smp_lines.specs.declared.line_wire.Heard.{Heard}
use Rattle.smp_lines.specs.declared.line_wire.Heard.TheVariants.{Nothing}
use Rattle.smp_lines.proofs.line_wire.hear.Goals as goal

pub loop-lines-init : goal.loop-lines-init
loop-lines-init g c =
    record {
      read = [];
      passed = [];
      consumed = consumes_nothing _;
      are = none_passed;
      nothing = All-nil (λ line. said_in line ≡ Some Nothing);
      counted = omega arith;
    }

pub returns-in-None-clause-heard : goal.returns-in-None-clause-heard
returns-in-None-clause-heard g c =
    let before = c.loop-lines.invariant in
    let read = c.in_ok-is_ended.ensures in
    let line = c.read_line.new.line.items in
    let said : said_in line ≡ None = rw c.deref.ensures.value at (sym c.said_in.ensures ∙ c.in-None.is) in (
      refl,
      rw before.counted
          (reads_last before.read line before.passed None _ _ c.args.lines.now before.are before.nothing
          (consumes_more _ _ _ before.read line before.consumed read.bytes) read.line (λ none. read.end (read.ended ∙ none)) said (λ same. absurd cc)),
    )

pub returns-in-Some-Reply-clause-heard : goal.returns-in-Some-Reply-clause-heard
returns-in-Some-Reply-clause-heard g c =
    let before = c.loop-lines.invariant in
    let read = c.in_ok-is_ended.ensures in
    let line = c.read_line.new.line.items in
    let said = rw c.deref.ensures.value at (sym c.said_in.ensures ∙ c.in-Some-Reply.is ∙ ap (λ (one : Heard). Some one) c.in-Some-Reply.field-0-is) in
    rw before.counted
    (reads_last before.read line before.passed _ _ _ c.args.lines.now before.are before.nothing
    (consumes_more _ _ _ before.read line before.consumed read.bytes) read.line (λ none. read.end (read.ended ∙ none)) said (λ same. absurd cc))

pub returns-in-Some-Lost-clause-heard : goal.returns-in-Some-Lost-clause-heard
returns-in-Some-Lost-clause-heard g c =
    let before = c.loop-lines.invariant in
    let read = c.in_ok-is_ended.ensures in
    let line = c.read_line.new.line.items in
    let said = rw c.deref.ensures.value at (sym c.said_in.ensures ∙ c.in-Some-Lost.is ∙ ap (λ (one : Heard). Some one) c.in-Some-Lost.field-0-is) in
    rw before.counted
    (reads_last before.read line before.passed _ _ _ c.args.lines.now before.are before.nothing
    (consumes_more _ _ _ before.read line before.consumed read.bytes) read.line (λ none. read.end (read.ended ∙ none)) said (λ same. absurd cc))

pub loop-lines-preserved : goal.loop-lines-preserved
loop-lines-preserved g c =
    let before = c.loop-lines.invariant in
    let read = c.in_ok-is_ended.ensures in
    let line = c.read_line.new.line.items in
    let said : said_in line ≡ Some Nothing = rw c.deref.ensures.value at (sym c.said_in.ensures ∙ c.in-Some-Nothing.is ∙ ap (λ (one : Heard). Some one) c.in-Some-Nothing.field-0-is) in
    let ended = sym read.ended ∙ c.if-not-is_ended.false in
    record {
      read = before.read ++ line;
      passed = before.passed ++ line ∷ [];
      consumed = consumes_more _ _ _ before.read line before.consumed read.bytes;
      are = passed_more before.read line before.passed before.are read.line ended;
      nothing = All-push (λ line. said_in line ≡ Some Nothing) before.passed line before.nothing said;
      counted =
          let count = before.counted in
          let more = length-append before.passed (line ∷ []) in
          omega (arith, count, more);
    }
