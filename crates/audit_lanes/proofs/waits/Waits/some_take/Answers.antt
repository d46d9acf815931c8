use Rattle.std.proofs.Common.{◌≡◌, ◌∙◌, subst}
use Rattle.indexmap.specs.IndexSet.{contains}
use Rattle.audit_lanes.specs.Keys.{WaitsState}
use Rattle.audit_lanes.specs.Lanes.{is_same_pair, some_take, two}
use Rattle.audit_lanes.proofs.waits.Waits.some_take.Goals as goal

pub returns : goal.returns
returns c =
    let pair = two c.args.first c.args.second in
    c.contains.ensures
    ∙ subst (λ (known : WaitsState). contains is_same_pair c.self.inside.pairs pair ≡ some_take known.traces c.args.first c.args.second) c.self.view_is (c.self.invariant.0 pair)
