use Rattle.std.proofs.Common.{◌≡◌, ◌∙◌, arith, ap, sym, ℕ, List, Bool, length, map}
use Rattle.std.specs.List.{range_with_len}
use Rattle.audit_plan.specs.Levels.{is_next, marks_of}
use Rattle.audit_plan.proofs.RangeLemmas.{map_range_more}
use Rattle.audit_plan.proofs.LevelLemmas.{next_marks_are}
use Rattle.audit_plan.proofs.levels.rounds.Goals as goal

pub loop-count-preserved : goal.loop-count-preserved
loop-count-preserved c =
    let plan = c.args.links.now in (
      next_marks_are plan c.loop-count._count c.loop-count.marks.items c.in_ok-next.next.items c.loop-count.invariant.0
          (c.in_ok-next.ensures ∙ ap (λ (m : List Bool). map (is_next plan m) (range_with_len 0 (length plan.nodes))) c.deref.ensures.value),
      rw (c.in_ok-push.ensures.items, c.of.ensures, c.loop-count.invariant.0, c.loop-count.invariant.1) (sym (map_range_more (marks_of plan) c.loop-count._count)),
    )

pub returns : goal.returns
returns c =
    let all : c.loop-count._count ≡ 16 = omega (arith, c.loop-count-test.false, c.loop-count.auto._count-end) in
    c.loop-count.invariant.1 ∙ ap (λ (n : ℕ). map (marks_of c.args.links.now) (range_with_len 0 n)) all
