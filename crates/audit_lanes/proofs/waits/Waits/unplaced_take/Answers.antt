use Rattle.std.proofs.Common.{◌≡◌, ◌∙◌, refl, subst, sym, true}
use Rattle.fabric_parts.specs.Cable.{far_end}
use Rattle.indexmap.specs.IndexSet.{contains}
use Rattle.audit_loops.specs.Channels.{leads_to}
use Rattle.audit_lanes.specs.Keys.{WaitsState, is_same_channels}
use Rattle.audit_lanes.specs.Lanes.{unplaced_take}
use Rattle.audit_lanes.specs.Tables.{unplaced_lids}
use Rattle.audit_lanes.proofs.WaitLemmas.{unplaced_is}
use Rattle.audit_lanes.proofs.waits.Waits.unplaced_take.Goals as goal

pub returns : goal.returns
returns c =
    let a = c.args.first in
    let b = c.args.second in
    let net = c.self.inside.net.now in
    let leads : leads_to net a b.node ≡ true = subst (λ (known : WaitsState). leads_to known.net a b.node ≡ true) (sym c.self.view_is) c.requires in
    c.contains.ensures
    ∙ subst (λ (known : WaitsState). contains is_same_channels c.self.inside.channels (record { first = a; second = b }) ≡ unplaced_take known.net known.aims a b)
    c.self.view_is
    (c.self.invariant.1 (record { first = a; second = b }) ∙ unplaced_is net (unplaced_lids c.self.inside.aims.now) a b (far_end net.plan.cables a) refl leads)
