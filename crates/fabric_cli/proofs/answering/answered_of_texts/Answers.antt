use Rattle.std.proofs.Common.{[], option_map, refl}
use Rattle.cli_args.specs.declared.call.Work.TheVariants as work
use Rattle.fabric_cli.proofs.ManageLemmas.{whatever_is_read}
use Rattle.fabric_cli.proofs.SmpsLemmas.{smps_after, smps_unanswered}
use Rattle.fabric_cli.specs.Serving.{texts_with}
use Rattle.fabric_cli.proofs.answering.answered_of_texts.Goals as goal

pub returns-clause-exact : goal.returns-clause-exact
returns-clause-exact g c =
    let asked = work.Compare c.in-Compare.first.items c.in-Compare.second.items c.in-Compare.port.now in
    let judged = texts_with c.args.texts.topology.items (option_map (λ items. items.items) c.args.texts.partitions) asked in
    let made = rw (c.as_slice-topology.ensures.value, c.slice_of-partitions.ensures, c.as_slice-first.ensures.value, c.as_slice-second.ensures.value) at c.compared.ensures.exact in
    rw c.in-Compare.is ([], refl, c.written-in-Compare.ensures.exact judged made)

pub returns-in-Manage-clause-exact : goal.returns-in-Manage-clause-exact
returns-in-Manage-clause-exact g c =
    let exact = rw (c.as_slice-topology.ensures.value, c.slice_of-partitions.ensures) at c.managed.ensures.exact in
    rw c.in-Manage.is (whatever_is_read (g.I.Reader.remaining c.in-Manage.replies.input) _ exact)

pub returns-in-Ok-clause-exact : goal.returns-in-Ok-clause-exact
returns-in-Ok-clause-exact g c =
    let partitions = option_map (λ items. items.items) c.args.texts.partitions in
    let script = option_map (λ items. items.items) c.in-Smps.script in
    let left = rw (c.as_slice-topology.ensures.value, c.slice_of-partitions.ensures, c.slice_of.ensures) at c.in-Ok.ensures in
    rw c.in-Smps.is
    (smps_after c.args.texts.topology.items partitions script (g.I.Reader.remaining c.in-Smps.smps.input) (g.O.Output.is_sure c.args.out.now) c.in-Ok.subnet c.smps_answered.result _ _ left.0 left.1
    c.smps_answered.ensures.exact)

pub returns-in-Ok-clause-unread : goal.returns-in-Ok-clause-unread
returns-in-Ok-clause-unread g c = rw c.in-Smps.is c.smps_answered.ensures.unread

pub returns-in-Smps-clause-exact : goal.returns-in-Smps-clause-exact
returns-in-Smps-clause-exact g c =
    let partitions = option_map (λ items. items.items) c.args.texts.partitions in
    let script = option_map (λ items. items.items) c.in-Smps.script in
    let fails = rw (c.as_slice-topology.ensures.value, c.slice_of-partitions.ensures, c.slice_of.ensures) at c.in-Err.ensures in
    rw c.in-Smps.is
    (smps_unanswered c.args.texts.topology.items partitions script (g.I.Reader.remaining c.in-Smps.smps.input) (g.O.Output.is_sure c.args.out.now) c.in-Err.fault _ fails)
