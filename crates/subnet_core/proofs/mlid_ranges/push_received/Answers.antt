use Rattle.std.proofs.Common.{ℕ, ◌≡◌, ◌∙◌, ap, arith}
use Rattle.std.specs.List.{range_with_len}
use Rattle.pkey_rules.specs.declared.key_table.TheConstants.{PARTITIONS}
use Rattle.subnet_core.proofs.OverLemmas.{more_received, received_are_all}
use Rattle.subnet_core.specs.MlidRanges.{received_in, ranges_pushed}
use Rattle.subnet_core.proofs.mlid_ranges.push_received.Goals as goal

pub loop-number-preserved : goal.loop-number-preserved
loop-number-preserved c =
    more_received c.args.routes.now c.args.registry.now c.loop-number.number c.args.fabric.now c.loop-number.fabric c.push_where_received.new.fabric
    c.loop-number.invariant c.in_ok-push_where_received.ensures.pushed

pub returns-clause-pushed : goal.returns-clause-pushed
returns-clause-pushed c =
    let all : c.loop-number.number ≡ PARTITIONS = omega (arith, c.loop-number-test.false, c.loop-number.auto.number-end) in
    c.loop-number.invariant.is
    ∙ ap (λ (count : ℕ). ranges_pushed c.args.routes.now c.args.registry.now (received_in c.args.registry.now (range_with_len 0 count)) c.args.fabric.now) all
    ∙ received_are_all c.args.routes.now c.args.registry.now c.known_remembered.ensures.groups c.args.fabric.now c.requires.stands.good.holdings
    c.requires.no_stray
