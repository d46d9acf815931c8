use Rattle.std.proofs.Common.{◌≡◌, ◌∙◌, ◌*◌, ◌++◌, ap, sym, subst, ℕ, List, drop, length, map, take}
use Rattle.std.proofs.Math.Seq.{take-append_seam}
use Rattle.audit_plan.specs.Plan.{PlanState}
use Rattle.audit_loads.specs.Loads.{loaded}
use Rattle.audit_loads.specs.Sources.{pairs_by}
use Rattle.audit_loads.specs.Talk.{may_talk}
use Rattle.audit_loads.specs.Walk.{AreSums}
use Rattle.audit_loads.proofs.PairLemmas.{sums_are}
use Rattle.audit_loads.proofs.loads.loads.Goals as goal

pub returns-clause-loads : goal.returns-clause-loads
returns-clause-loads c =
    let net = c.args.net.now in
    let pairs = pairs_by net (may_talk c.args.talk.now) c.args.aims.now in
    let has = c.in_ok-counts.ensures.sums in
    let new = c.add_all.new.sums in
    let rest = drop (length new) c.in_ok-sums.sums.items in
    let nodes : length c.nodes.result.now ≡ length net.plan.nodes = ap (λ nodes. length nodes) (c.nodes.ensures ∙ ap (λ (of : PlanState). of.nodes) c.plan.ensures) in
    let long : length c.in_ok-sums.sums.items ≡ length net.plan.nodes * 256 = c.in_ok-sums.ensures.long ∙ ap (λ (n : ℕ). n * 256) nodes in
    let same : c.in_ok-sums.sums.len ≡ length new =
    sym c.deref_mut.ensures.len ∙ ap (λ (sums : List ℕ). length sums) c.deref_mut.ensures.value ∙ long ∙ sym has.long in
    let is : take c.in_ok-sums.sums.len (new ++ rest) ≡ new = ap (λ (n : ℕ). take n (new ++ rest)) same ∙ take-append_seam new rest in
    c.in_ok-loads.ensures net pairs (subst (AreSums net pairs) (sym (c.deref-2.ensures.value ∙ is)) (sums_are net pairs new has))
    ∙ ap (map (loaded net pairs)) (c.deref.ensures.value ∙ c.in_ok-channels.ensures)
