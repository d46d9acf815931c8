use Rattle.std.proofs.Common.{ℕ, List, Bool, ap, ◌∙◌, ◌==◌, ◌||◌, find}
use Rattle.topo_file.specs.Rounds.{is_marked}
use Rattle.audit_loops.proofs.CycleLemmas.{home_by_marks}
use Rattle.audit_loops.proofs.cycle.next_home.Goals as goal

pub returns : goal.returns
returns c =
    let marks = c.index-before-count.result in
    c.first_home.ensures
    ∙ ap (λ (m : List Bool). find (λ next. (next == c.args.home) || is_marked m next) c.after.result.now) c.as_slice-marks.ensures
    ∙ ap (λ (nexts : List ℕ). find (λ next. (next == c.args.home) || is_marked marks next) nexts) c.after.ensures
    ∙ home_by_marks c.args.graph.now c.args.home c.args.count c.args.place c.args.before.now marks c.requires.rounds c.requires.within c.index-before-count.is
