use Rattle.std.proofs.Common.{length, ap}
use Rattle.std.proofs.lemmas.Result.{err_from_is_err_and}
use Rattle.step_results.proofs.LineLemmas.{goes_on, ends}
use Rattle.subnet_core.specs.declared.fault.RunFault.TheVariants.{Script}
use Rattle.subnet_core.specs.Inventory.{fault_in, of_text}
use Rattle.script_lines.specs.Script.{commands_in, with_line}
use Rattle.subnet_core.proofs.CommandLemmas.{stops, text_is_good}
use Rattle.subnet_core.proofs.running.commands_in.Goals as goal

pub loop-line-preserved : goal.loop-line-preserved
loop-line-preserved c =
    let plan = c.args.subnet.now.inventory.plan in
    let l = c.loop-line in
    goes_on (with_line plan) l.number l.commands.items c.take_line.new.commands.items c.in-Some.line.now l.line-iterator c.next.new.self (length c.args.script.now) (commands_in plan c.args.script.now)
    c.in-Some.ensures.steps l.invariant (text_is_good Script _ _ c.in_ok-take_line.ensures)

pub returns-in_err-take_line : goal.returns-in_err-take_line
returns-in_err-take_line c =
    let plan = c.args.subnet.now.inventory.plan in
    let l = c.loop-line in
    let p = err_from_is_err_and c.from_residual.result c.from_residual.ensures.1 in
    rw (p.1, p.2)
    (stops Script (with_line plan) (fault_in c.in_err-take_line.field-0.0) l.number l.commands.items c.in-Some.line.now l.line-iterator c.next.new.self (length c.args.script.now) (commands_in plan c.args.script.now)
    c.in-Some.ensures.steps l.invariant c.in_err-take_line.ensures)

pub returns : goal.returns
returns c =
    let plan = c.args.subnet.now.inventory.plan in
    let l = c.loop-line in
    ap (of_text Script) (ends (with_line plan) l.number l.commands.items l.line-iterator (length c.args.script.now) (commands_in plan c.args.script.now) c.in-None.ensures.steps.0 l.invariant)
