use Rattle.std.proofs.Common.{ℕ, ◌≡◌, ◌∙◌, ap, false, subst, sym, List}
use Rattle.sa_store.specs.Registry.{RegistryState}
use Rattle.subnet_model.specs.declared.group_receiver.GroupReceiver.{GroupReceiver}
use Rattle.subnet_core.proofs.ReceiveLemmas.{in_its_range}
use Rattle.fabric_wire.specs.Recabling.{cabling_of}
use Rattle.subnet_core.proofs.MlidRangeLemmas.{mlid_ranges_keep_cables}
use Rattle.subnet_core.proofs.ServeLemmas.{can_be_pushed, numbers_are_few, serves_again, reported}
use Rattle.subnet_core.specs.Served.{IsInformed, Serves, receives_at}
use Rattle.subnet_core.specs.MlidRanges.{AgreesWith, ranges_pushed, where_in}
use Rattle.subnet_core.proofs.administering.answer.Goals as goal

-- it is not broken before, so it is kept who receives
informed : (registry state : RegistryState) (received : List (List GroupReceiver)) → registry ≡ state → state.is_broken ≡ false
    → (registry.is_broken ≡ false → IsInformed registry received) → IsInformed registry received
informed registry state received same whole kept = kept (ap (λ (one : RegistryState). one.is_broken) same ∙ whole)

pub push_ranges-requires-clause-stands : goal.push_ranges-requires-clause-stands
push_ranges-requires-clause-stands c =
    can_be_pushed c.requires.served.0 c.args.routes.now c.args.administrator.now c.args.fabric.now c.requires.served.1

pub push_ranges-requires-clause-numbers : goal.push_ranges-requires-clause-numbers
push_ranges-requires-clause-numbers c =
    let serves = subst (λ (registry : RegistryState). Serves c.requires.served.0 c.args.routes.now registry c.args.fabric.now) (sym c.administrator.view_is) c.requires.served.1 in
    rw (c.as_slice.ensures.value, c.in_ok-reaction.ensures.reacts.changed)
    (numbers_are_few c.requires.served.0 c.args.routes.now c.administrator.inside.registry c.handle.new.self c.args.fabric.now serves c.known_remembered.ensures)

pub push_ranges-requires-clause-kept : goal.push_ranges-requires-clause-kept
push_ranges-requires-clause-kept c =
    let serves = subst (λ (registry : RegistryState). Serves c.requires.served.0 c.args.routes.now registry c.args.fabric.now) (sym c.administrator.view_is) c.requires.served.1 in
    let registry = c.administrator.inside.registry in
    let kept = informed registry c.args.administrator.now c.administrator.inside.received.items c.administrator.view_is c.requires.whole c.administrator.invariant in (
      serves.served.base,
      receives_at registry.configuration.ports registry.administration.remembered.partitions,
      record { masks = serves.served.masks; right = kept.right },
    )

pub push_ranges-requires-clause-whole : goal.push_ranges-requires-clause-whole
push_ranges-requires-clause-whole c =
    (informed c.administrator.inside.registry c.args.administrator.now c.administrator.inside.received.items c.administrator.view_is c.requires.whole c.administrator.invariant).whole

pub invariant_of-administrator-in-Ok : goal.invariant_of-administrator-in-Ok
invariant_of-administrator-in-Ok c unbroken =
    let serves = subst (λ (registry : RegistryState). Serves c.requires.served.0 c.args.routes.now registry c.args.fabric.now) (sym c.administrator.view_is) c.requires.served.1 in
    let registry = c.administrator.inside.registry in
    let next = c.handle.new.self in
    let was = receives_at registry.configuration.ports registry.administration.remembered.partitions in
    let now = receives_at next.configuration.ports next.administration.remembered.partitions in
    let agrees : AgreesWith next now =
    λ some one port its. in_its_range next.configuration.ports one port some next.administration.remembered.partitions c.known_remembered-2.ensures.groups its in
    let before = informed registry c.args.administrator.now c.administrator.inside.received.items c.administrator.view_is c.requires.whole c.administrator.invariant in
    record {
      whole = c.in-Ok.ensures.whole;
      right = λ number receivers there mlid lid here.
          c.in-Ok.ensures.right was now agrees before.right number receivers there mlid lid here
          ∙ ap (λ (numbers : List ℕ). where_in numbers now was mlid lid) (c.as_slice.ensures.value ∙ c.in_ok-reaction.ensures.reacts.changed)
          ∙ reported c.requires.served.0 c.args.routes.now registry next c.args.fabric.now serves c.known_remembered.ensures c.known_remembered-2.ensures c.handle.ensures.configuration mlid lid;
    }

pub returns-in-Ok-clause-serves : goal.returns-in-Ok-clause-serves
returns-in-Ok-clause-serves c plan given =
    let serves = subst (λ (registry : RegistryState). Serves plan c.args.routes.now registry c.args.fabric.now) (sym c.administrator.view_is) given in
    serves_again plan c.args.routes.now c.administrator.inside.registry c.handle.new.self c.args.fabric.now serves c.known_remembered.ensures
    c.known_remembered-2.ensures c.handle.ensures.configuration c.push_ranges.new.fabric
    (c.in-Ok.ensures.pushed.is
    ∙ ap (λ (numbers : List ℕ). ranges_pushed c.args.routes.now c.handle.new.self numbers c.args.fabric.now)
    (c.as_slice.ensures.value ∙ c.in_ok-reaction.ensures.reacts.changed))

pub returns-in-Ok-clause-cabling : goal.returns-in-Ok-clause-cabling
returns-in-Ok-clause-cabling c =
    ap cabling_of c.in-Ok.ensures.pushed.is
    ∙ mlid_ranges_keep_cables c.args.routes.now c.handle.new.self c.as_slice.result.now c.args.fabric.now
