use Rattle.std.proofs.Common.{◌≡◌, ◌∙◌, ◌+◌, ◌++◌, ◌∷◌, List, [], ap, sym, take}
use Rattle.subnet_model.specs.declared.group_receiver.GroupReceiver.{GroupReceiver}
use Rattle.subnet_model.specs.declared.subnet_port.SubnetPort.{SubnetPort}
use Rattle.sa_model.specs.Receivers.{group_receivers, receives_group}
use Rattle.sa_store.specs.Kept.{ports_of}
use Rattle.sa_store.specs.MlidRange.{with_mlid}
use Rattle.sa_store.proofs.PushedLemmas.{port_receives, port_is_deaf, pushed}
use Rattle.sa_store.proofs.receivers.push_receivers_of_group.Goals.{then-receives_group+in_ok-push, else-receives_group}
use Rattle.sa_store.proofs.receivers.push_receivers_of_group.Goals as goal

pub loop-one-preserved : goal.loop-one-preserved
loop-one-preserved c =
    let group = with_mlid c.args.mlid c.args.group.now in
    let kept = c.args.kept.now in
    let i = c.loop-one.one-index in
    let one = c.one-item.result in
    let first = c.args.receivers.now.items in
    let before = group_receivers (ports_of (take i kept)) group in
    let after = group_receivers (ports_of (take (i + 1) kept)) group in
    let own : GroupReceiver = record { mlid = c.args.mlid; lid = one.port.lid } in
    let reported : c.receives_group.result ≡ receives_group group one.port = c.receives_group.ensures c.args.mlid ∙ ap (receives_group group) c.port-port.ensures in
    elim c.if-receives_group.branch [
      | then-receives_group+in_ok-push w ↦
          let more : after ≡ before ++ own ∷ [] = port_receives group kept i one c.loop-one-test.true c.one-item.is (sym reported ∙ w.if-receives_group.true) in
          rw (w.receivers-is, w.in_ok-push.ensures.items)
          (ap (λ (port : SubnetPort). c.loop-one.receivers.items ++ (record { mlid = c.args.mlid; lid = port.lid }) ∷ []) c.port-port.ensures
          ∙ pushed first c.loop-one.receivers.items before (own ∷ []) after c.loop-one.invariant more)
      | else-receives_group w ↦
          let same : after ≡ before = port_is_deaf group kept i one c.loop-one-test.true c.one-item.is (sym reported ∙ w.if-receives_group.false) in
          rw w.receivers-is (c.loop-one.invariant ∙ ap (λ (some : List GroupReceiver). first ++ some) (sym same))
    ]
