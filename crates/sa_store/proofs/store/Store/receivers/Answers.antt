use Rattle.std.proofs.Common.{◌≡◌, ◌==◌, ◌∙◌, ◌++◌, List, ap, eq-eqb, false, sym, take, take_all, true}
use Rattle.std.proofs.lemmas.Bool.{ne_eqb}
use Rattle.subnet_model.specs.declared.group_receiver.GroupReceiver.{GroupReceiver}
use Rattle.subnet_model.specs.declared.subnet_port.SubnetPort.{SubnetPort}
use Rattle.sa_model.specs.Receivers.{receivers_in, receivers_of}
use Rattle.sa_model.specs.Sound.{is_sound, is_sound_partition}
use Rattle.sa_store.specs.Kept.{ports_of}
use Rattle.sa_store.specs.Registry.{RegistryState}
use Rattle.sa_store.proofs.StartLemmas.{passed_at}
use Rattle.sa_store.proofs.PushedLemmas.{partition_receives, partition_is_another}
use Rattle.sa_store.proofs.LeaveLemmas.{are_in_order}
use Rattle.sa_store.proofs.store.Store.receivers.Goals.{then-number-partition+in_ok-push_receivers, else-number-partition}
use Rattle.sa_store.proofs.store.Store.receivers.Goals as goal

pub push_receivers-requires : goal.push_receivers-requires
push_receivers-requires c =
    let ports = ports_of c.self.inside.kept.items in
    let all = c.partitions-partitions.result.now in
    let one = c.slots-item.result in
    let same : all ≡ c.self.inside.partitions.items =
    c.partitions-partitions.ensures ∙ sym (ap (λ (registry : RegistryState). registry.administration.remembered.partitions) c.self.view_is) in
    let sound : is_sound ports all ≡ true = ap (is_sound ports) same ∙ c.self.invariant.remembered.groups in
    are_in_order ports one (passed_at (is_sound_partition ports) all c.loop-slots.slots-index one c.loop-slots-test.true c.slots-item.is sound)

pub loop-slots-preserved : goal.loop-slots-preserved
loop-slots-preserved c =
    let ports = ports_of c.kept-kept.result.now in
    let number = c.args.partition in
    let all = c.partitions-partitions.result.now in
    let i = c.loop-slots.slots-index in
    let one = c.slots-item.result in
    elim c.if-number-partition.branch [
      | then-number-partition+in_ok-push_receivers w ↦
          let same : (one.number == number) ≡ true = eq-eqb one.number number (sym c.number.ensures ∙ w.if-number-partition.true) in
          let more = partition_receives ports number all i one c.loop-slots-test.true c.slots-item.is same in
          rw w.receivers-is
          (w.in_ok-push_receivers.ensures ∙ ap (λ (some : List GroupReceiver). some ++ receivers_in ports one) c.loop-slots.invariant ∙ sym more)
      | else-number-partition w ↦
          let other : (one.number == number) ≡ false = ne_eqb one.number number (λ same. w.if-number-partition.false (c.number.ensures ∙ same)) in
          let still = partition_is_another ports number all i one c.loop-slots-test.true c.slots-item.is other in
          rw w.receivers-is (c.loop-slots.invariant ∙ sym still)
    ]

pub returns-clause-value : goal.returns-clause-value
returns-clause-value c =
    let ports = ports_of c.kept-kept.result.now in
    let number = c.args.partition in
    let all = c.partitions-partitions.result.now in
    let whole : take c.loop-slots.slots-index all ≡ all = take_all c.loop-slots.slots-index all c.loop-slots-test.false in
    c.loop-slots.invariant ∙ ap (receivers_of ports number) whole
    ∙ ap (λ (some : List SubnetPort). receivers_of some number all) c.kept-kept.ensures.ports
    ∙ ap (receivers_of c.args.self.now.configuration.ports number) c.partitions-partitions.ensures
