use Rattle.std.proofs.Common.{◌≡◌, ◌<◌, ◌≤◌, length, take, sym, ◌∙◌, ap, arith}
use Rattle.subnet_core.specs.EventLines.{trimmed}
use Rattle.subnet_core.proofs.event_lines.trimmed.Goals as goal
use Rattle.subnet_core.proofs.event_lines.trimmed.Goals.{then-loop-end-test+else-bytes-end-eq0, else-loop-end-test}
use Rattle.subnet_core.proofs.EventLinesLemmas.{trimmed_less, trimmed_same}

pub loop-end-preserved : goal.loop-end-preserved
loop-end-preserved c =
    let some : 0 < c.loop-end.end = omega arith in
    let within : c.loop-end.end ≤ length c.args.bytes.now = omega arith in
    (omega arith, trimmed_less c.args.bytes.now c.loop-end.end some within c.if-bytes-end-eq0.true ∙ c.loop-end.invariant.1)

pub returns-clause-value : goal.returns-clause-value
returns-clause-value c = elim c.loop-end-test.branch [
  | then-loop-end-test+else-bytes-end-eq0 w ↦
      let some : 0 < c.loop-end.end = omega arith in
      let within : c.loop-end.end ≤ length c.args.bytes.now = omega arith in
      sym (trimmed_same c.args.bytes.now c.loop-end.end some within w.if-bytes-end-eq0.false) ∙ c.loop-end.invariant.1
  | else-loop-end-test w ↦
      let none : c.loop-end.end ≡ 0 = omega arith in
      ap (λ n. take n c.args.bytes.now) none ∙ (ap (λ n. trimmed (take n c.args.bytes.now)) (sym none) ∙ c.loop-end.invariant.1)
]
