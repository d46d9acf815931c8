use Rattle.std.proofs.Common.{◌≡◌, subst, sym, List, Ok}
use Rattle.std.proofs.lemmas.Result.{err_from_is_err_and}
use Rattle.subnet_core.proofs.AfterLemmas.{left_from_start}
use Rattle.subnet_core.proofs.CommandLemmas.{text_is_good}
use Rattle.subnet_core.proofs.SenderLemmas.{commands_name_senders}
use Rattle.subnet_core.specs.After.{IsThrough}
use Rattle.subnet_core.specs.BringUp.{StaysUp}
use Rattle.script_lines.specs.Script.{commands_in}
use Rattle.subnet_core.specs.Inventory.{InventoryState}
use Rattle.subnet_core.specs.declared.fault.RunFault.TheVariants.{Script}
use Rattle.subnet_model.specs.declared.command.Command.{Command}
use Rattle.subnet_core.proofs.leaving.after.Goals as goal

pub returns-in_err-commands-clause-fault : goal.returns-in_err-commands-clause-fault
returns-in_err-commands-clause-fault c =
    let p = err_from_is_err_and c.from_residual.result c.from_residual.ensures.1 in
    rw (p.1, p.2) c.in_err-commands.ensures

pub run_through-requires : goal.run_through-requires
run_through-requires c =
    rw c.deref.ensures.value
    (commands_name_senders c.args.subnet.inventory (rw c.inventory.ensures at c.known_listed.ensures) c.args.script.now c.in_ok-commands.commands.items
    (text_is_good Script _ _ c.in_ok-commands.ensures))

pub returns-in_err-run_through-clause-fault : goal.returns-in_err-run_through-clause-fault
returns-in_err-run_through-clause-fault c =
    let p = err_from_is_err_and c.from_residual-in_err-run_through.result c.from_residual-in_err-run_through.ensures.1 in
    rw (p.1, p.2) tt

pub returns-clause-left : goal.returns-clause-left
returns-clause-left c =
    let through = subst (λ (commands : List Command). IsThrough commands c.args.subnet c.run_through.new.self) c.deref.ensures.value c.in_ok-run_through.ensures in
    let stays : StaysUp c.run_through.new.self = c.fabric.ensures.up in (
      c.in_ok-commands.commands.items,
      subst (λ (inventory : InventoryState). commands_in inventory.plan c.args.script.now ≡ Ok c.in_ok-commands.commands.items) (sym through.inventory)
          (text_is_good Script _ _ c.in_ok-commands.ensures),
      left_from_start c.args.subnet c.run_through.new.self c.in_ok-commands.commands.items c.requires through stays,
    )
