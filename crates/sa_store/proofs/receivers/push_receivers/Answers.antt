use Rattle.std.proofs.Common.{◌≡◌, ℕ, ◌+◌, ◌∙◌, ◌++◌, List, Option, ap, sym, take, take_all, true}
use Rattle.std.specs.List.{list_all}
use Rattle.subnet_model.specs.declared.group_receiver.GroupReceiver.{GroupReceiver}
use Rattle.sa_model.specs.Groups.{MulticastGroup, PartitionGroups, first_mlid, lower_port}
use Rattle.sa_model.specs.Receivers.{group_receivers, receivers_in}
use Rattle.sa_model.specs.Sound.{pairwise}
use Rattle.sa_store.specs.Joined.{is_in_order}
use Rattle.sa_store.specs.Kept.{ports_of}
use Rattle.sa_store.specs.MlidRange.{SlotGroup, groups_in, with_mlid}
use Rattle.sa_store.proofs.PushedLemmas.{received_of, pushed, slot_receives, slot_is_empty}
use Rattle.sa_store.proofs.SlotLemmas.{slot_in_order}
use Rattle.sa_store.proofs.receivers.push_receivers.Goals.{in-Some+in_ok-push_receivers_of_group, in_default}
use Rattle.sa_store.proofs.receivers.push_receivers.Goals as goal

pub push_receivers_of_group-requires : goal.push_receivers_of_group-requires
push_receivers_of_group-requires c =
    let mlid = first_mlid c.args.partition.now.number in
    let slots = c.as_slice-slots.result.now in
    let slot = c.index-slots-place.result in
    let groups = ap (λ (partition : PartitionGroups). partition.groups) (sym c.as_slice-slots.ensures.value) in
    let all : list_all (λ (group : MulticastGroup). pairwise lower_port group.memberships) (groups_in mlid slots) ≡ true =
    ap (list_all (λ (group : MulticastGroup). pairwise lower_port group.memberships)) groups ∙ c.requires in
    ap is_in_order (sym c.in-Some.is ∙ c.index-slots-place.is) ∙ slot_in_order mlid slots c.loop-place.place slot c.loop-place-test.true all

pub loop-place-preserved : goal.loop-place-preserved
loop-place-preserved c =
    let ports = ports_of c.args.kept.now in
    let mlid = first_mlid c.args.partition.now.number in
    let slots = c.as_slice-slots.result.now in
    let slot = c.index-slots-place.result in
    let i = c.loop-place.place in
    let first = c.args.receivers.now.items in
    let items = c.loop-place.receivers.items in
    let before = received_of ports mlid (take i slots) in
    let after = received_of ports mlid (take (i + 1) slots) in
    elim c.match-slot.branch [
      | in-Some+in_ok-push_receivers_of_group w ↦
          let group = w.in-Some.group in
          let own = group_receivers ports (with_mlid (mlid + i) group) in
          let more : after ≡ before ++ own = slot_receives ports mlid slots i slot group c.loop-place-test.true c.index-slots-place.is w.in-Some.is in
          rw w.receivers-is
          (w.in_ok-push_receivers_of_group.ensures ∙ ap (λ (n : ℕ). items ++ group_receivers ports (with_mlid n group)) w.mlid_of.ensures
          ∙ pushed first items before own after c.loop-place.invariant more)
      | in_default w ↦
          let same : after ≡ before = slot_is_empty ports mlid slots i slot c.loop-place-test.true c.index-slots-place.is w.in_default.is in
          rw w.receivers-is (c.loop-place.invariant ∙ ap (λ (some : List GroupReceiver). first ++ some) (sym same))
    ]

pub returns : goal.returns
returns c =
    let ports = ports_of c.args.kept.now in
    let mlid = first_mlid c.args.partition.now.number in
    let slots = c.as_slice-slots.result.now in
    let first = c.args.receivers.now.items in
    let whole : take c.loop-place.place slots ≡ slots = take_all c.loop-place.place slots c.loop-place-test.false in
    c.loop-place.invariant ∙ ap (λ (some : List (Option SlotGroup)). first ++ received_of ports mlid some) whole
    ∙ ap (λ (partition : PartitionGroups). first ++ receivers_in ports partition) (sym c.as_slice-slots.ensures.value)
