use Rattle.std.proofs.Common.{ℕ, ◌∙◌, ap, subst, sym, List}
use Rattle.fabric_wire.specs.Cabling.{CablingState}
use Rattle.fabric_wire.specs.Recabling.{cabling_of}
use Rattle.sa_store.specs.Registry.{RegistryState}
use Rattle.subnet_fabric.specs.Laws.{all_keys}
use Rattle.subnet_fabric.specs.Standing.{IsNextCabling, IsStanding}
use Rattle.subnet_core.proofs.RecableLemmas.{can_be_pushed_again, no_stray_bits, serves_over, stands_masked, still_none}
use Rattle.subnet_core.specs.Served.{Serves, receives_at}
use Rattle.subnet_core.proofs.recabling.recable.Goals as goal

pub recable-requires : goal.recable-requires
recable-requires c =
    subst (λ (keys : List (List ℕ)). IsStanding c.args.listed.topology.now keys c.args.routes.now c.args.fabric.now) (sym c.requires.keys)
    (stands_masked c.args.listed.topology.now c.args.routes.now c.args.administrator.now c.args.fabric.now c.requires.served)

pub push_received-requires-clause-stands : goal.push_received-requires-clause-stands
push_received-requires-clause-stands c =
    let done = rw c.in-Ok-Some.field-0-is at c.in-Ok-Some.ensures.all in
    can_be_pushed_again c.args.listed.topology.now c.args.routes.now c.in-Ok-Some.next c.args.administrator.now c.args.fabric.now c.recable.new.fabric c.requires.served
    (subst (λ (keys : List (List ℕ)). IsStanding c.args.listed.topology.now keys c.in-Ok-Some.next c.recable.new.fabric) c.requires.keys done.0.standing)

pub push_received-requires-clause-no_stray : goal.push_received-requires-clause-no_stray
push_received-requires-clause-no_stray c =
    let done = rw c.in-Ok-Some.field-0-is at c.in-Ok-Some.ensures.all in
    let registry = c.administrator.inside.registry in
    let serves = subst (λ (one : RegistryState). Serves c.args.listed.topology.now c.args.routes.now one c.args.fabric.now) (sym c.administrator.view_is) c.requires.served in
    still_none (receives_at registry.configuration.ports registry.administration.remembered.partitions) c.args.fabric.now c.recable.new.fabric
    done.0.masks (no_stray_bits c.args.listed.topology.now c.args.routes.now registry c.args.fabric.now serves)

pub returns-clause-cabling : goal.returns-clause-cabling
returns-clause-cabling c =
    let done = rw c.in-Ok-Some.field-0-is at c.in-Ok-Some.ensures.all in
    subst (λ (next : CablingState). IsNextCabling c.args.listed.topology.now c.args.command.now.cable.first c.args.command.now.cable.second c.args.command.now.up (cabling_of c.args.fabric.now) next)
    (sym (ap cabling_of c.in_ok-push_received.ensures.pushed)) done.0.cabling

pub returns-clause-kept : goal.returns-clause-kept
returns-clause-kept c =
    let done = rw c.in-Ok-Some.field-0-is at c.in-Ok-Some.ensures.all in
    λ same. absurd (done.1 (sym (ap cabling_of c.in_ok-push_received.ensures.pushed) ∙ same))

pub returns-clause-serves : goal.returns-clause-serves
returns-clause-serves c =
    let done = rw c.in-Ok-Some.field-0-is at c.in-Ok-Some.ensures.all in
    let registry = c.administrator.inside.registry in
    let serves = subst (λ (one : RegistryState). Serves c.args.listed.topology.now c.args.routes.now one c.args.fabric.now) (sym c.administrator.view_is) c.requires.served in
    let keys = c.requires.keys ∙ ap (λ (one : RegistryState). all_keys one.configuration.ports) (sym c.administrator.view_is) in
    subst (λ (one : RegistryState). Serves c.args.listed.topology.now c.in-Ok-Some.next one c.push_received.new.fabric) c.administrator.view_is
    (serves_over c.args.listed.topology.now c.args.routes.now c.in-Ok-Some.next registry c.args.fabric.now c.recable.new.fabric serves
    (subst (λ (all : List (List ℕ)). IsStanding c.args.listed.topology.now all c.in-Ok-Some.next c.recable.new.fabric) keys done.0.standing)
    c.push_received.new.fabric c.in_ok-push_received.ensures.pushed)
