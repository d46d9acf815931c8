use Rattle.std.proofs.Common.{◌≡◌, false, IfOk, subst, sym}
use Rattle.subnet_model.specs.Configuration.{ConfigurationState}
use Rattle.subnet_model.specs.Configured.{IsConfigured}
use Rattle.sa_replies.specs.State.{at_start}
use Rattle.sa_store.proofs.StartLemmas.{did_nothing, same_configuration}
use Rattle.sa_store.proofs.store.Store.of.Goals as goal

pub before_commands-requires-clause-configured : goal.before_commands-requires-clause-configured
before_commands-requires-clause-configured c =
    subst IsConfigured
    (sym (same_configuration c.in_ok-kept.kept.items c.args.configuration.now.ports c.partitions.result.now c.args.configuration.now.partitions
    (rw c.ports.ensures at c.in_ok-kept.ensures) c.partitions.ensures))
    c.requires

pub before_commands-requires-clause-start : goal.before_commands-requires-clause-start
before_commands-requires-clause-start c = did_nothing c.in_ok-kept.kept.items c.ports.result.now c.in_ok-kept.ensures

pub returns : goal.returns
returns c =
    subst (λ (configuration : ConfigurationState).
    IfOk c.before_commands.result (λ registry. registry ≡ record { configuration = configuration; administration = at_start configuration; is_broken = false }))
    (same_configuration c.in_ok-kept.kept.items c.args.configuration.now.ports c.partitions.result.now c.args.configuration.now.partitions
    (rw c.ports.ensures at c.in_ok-kept.ensures) c.partitions.ensures)
    c.before_commands.ensures
