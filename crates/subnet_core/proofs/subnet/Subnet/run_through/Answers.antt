use Rattle.std.proofs.Common.{◌+◌, ◌∙◌, List, drop, refl, subst, sym}
use Rattle.std.proofs.lemmas.List.{drop_all}
use Rattle.std.proofs.lemmas.List.Elements.{All-get_or}
use Rattle.subnet_core.proofs.AfterLemmas.{next_command, none_more, one_more}
use Rattle.subnet_core.specs.After.{IsThrough}
use Rattle.subnet_core.specs.Inventory.{InventoryState}
use Rattle.subnet_core.specs.Senders.{NamesSender}
use Rattle.subnet_model.specs.declared.command.Command.{Command}
use Rattle.subnet_core.proofs.subnet.Subnet.run_through.Goals as goal

pub loop-command-init : goal.loop-command-init
loop-command-init c = (refl, λ new through. through)

pub loop-command-preserved : goal.loop-command-preserved
loop-command-preserved c =
    let commands = c.args.commands.now in
    let i = c.loop-command.command-index in
    let command = c.command-item.result in
    let within = c.loop-command-test.true in
    let listed : NamesSender c.args.self.now.inventory.configuration.ports command =
    subst (NamesSender c.args.self.now.inventory.configuration.ports) (sym c.command-item.is)
    (All-get_or (NamesSender c.args.self.now.inventory.configuration.ports) commands i command within c.requires) in
    let names : NamesSender c.loop-command.self.inventory.configuration.ports command =
    subst (λ (inventory : InventoryState). NamesSender inventory.configuration.ports command) (sym c.loop-command.invariant.0) listed in (
      c.in_ok-step.ensures.next.inventory ∙ c.loop-command.invariant.0,
      λ new through.
          c.loop-command.invariant.1 new
          (subst (λ (rest : List Command). IsThrough rest c.loop-command.self new) (sym (next_command commands i command within (sym c.command-item.is)))
          (one_more c.loop-command.self c.step.new.self new command (drop (i + 1) commands) names c.in_ok-step.ensures.next through)),
    )

pub returns : goal.returns
returns c =
    c.loop-command.invariant.1 c.loop-command.self
    (subst (λ (rest : List Command). IsThrough rest c.loop-command.self c.loop-command.self)
    (sym (drop_all c.loop-command.command-index c.args.commands.now c.loop-command-test.false)) (none_more c.loop-command.self))
