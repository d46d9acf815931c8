use Rattle.std.proofs.Common.{◌≡◌, ◌∙◌, ◌++◌, arith, ap, ℕ, flat_map}
use Rattle.std.specs.List.{range_with_len}
use Rattle.audit_plan.specs.Levels.{levels_of}
use Rattle.audit_loads.specs.Text.{level_text}
use Rattle.audit_plan.proofs.RangeLemmas.{flat_onto}
use Rattle.audit_loads.proofs.texts.push_levels.Goals as goal

pub loop-level-preserved : goal.loop-level-preserved
loop-level-preserved c =
    flat_onto (level_text c.args.net.now c.args.all.now) c.args.text.now.items c.loop-level.text.items c.push_level_of.new.text.items c.loop-level.level
    c.loop-level.invariant c.in_ok-push_level_of.ensures

pub push_level_of-requires : goal.push_level_of-requires
push_level_of-requires c = c.deref.ensures.value ∙ c.in_ok-levels.ensures ∙ ap levels_of c.links.ensures

pub returns : goal.returns
returns c =
    let all : c.loop-level.level ≡ 16 = omega (arith, c.loop-level-test.false, c.loop-level.auto.level-end) in
    c.loop-level.invariant ∙ ap (λ (n : ℕ). c.args.text.now.items ++ flat_map (level_text c.args.net.now c.args.all.now) (range_with_len 0 n)) all
