use Rattle.std.proofs.Common.{◌∙◌, ◌++◌, ◌∷◌, [], ap, refl, append-nil, arith, length}
use Rattle.std.proofs.lemmas.Result.{err_from_is_err_and}
use Rattle.subnet_core.specs.StreamSteps.{lines_of_parts}
use Rattle.subnet_core.proofs.PartLemmas.{no_parts, one_line, part_begun, part_cut}
use Rattle.subnet_core.proofs.TakeLemmas.{carries_on, part_stops, takes_nothing}
use Rattle.subnet_core.proofs.stream.Stream.take_piece.Goals as goal

pub loop-part-init : goal.loop-part-init
loop-part-init g c =
    let all = c.into_iter-part-iterator.ensures.into_iter_gives ∙ c.new-part-items.ensures.value in
    record {
      done = [];
      carries = takes_nothing c.args.self.now _;
      cut = rw all refl;
      begun = rw all refl;
      few = let count = c.new-part-items.ensures.count in let same = ap length c.into_iter-part-iterator.ensures.into_iter_gives in omega (arith, count, same);
      stays = λ sure. sure;
    }

pub loop-part-preserved : goal.loop-part-preserved
loop-part-preserved g c =
    let before = c.loop-part.invariant in
    let first = c.in-Some.ensures.steps in
    let begun = c.loop-part.begun.items in
    let part = c.in-Some.part.now in
    let taken = c.in_ok-take_part.ensures in
    record {
      done = before.done ++ lines_of_parts begun (part ∷ []);
      carries = carries_on before.done (lines_of_parts begun (part ∷ [])) _ _ _ _ _ _ before.carries taken.takes;
      cut = part_cut _ before.done begun part c.take_part.new.begun.items c.loop-part.part-iterator c.next.new.self before.cut first taken.begun;
      begun = part_begun _ begun part c.take_part.new.begun.items c.loop-part.part-iterator c.next.new.self before.begun first taken.begun;
      few =
          let one = one_line begun part in
          let counted = taken.takes.taken in
          let shorter = ap length first in
          omega (arith, before.few, one, counted, shorter);
      stays = λ sure. taken.stays (before.stays sure);
    }

pub returns-in_err-take_part-clause-takes : goal.returns-in_err-take_part-clause-takes
returns-in_err-take_part-clause-takes g c =
    let p = err_from_is_err_and c.from_residual.result c.from_residual.ensures.1 in
    let before = c.loop-part.invariant in
    rw (p.1, p.2)
    (part_stops (Unit {0}) (Unit {0}) c.in_err-take_part.field-0.0 _ before.done c.loop-part.begun.items c.in-Some.part.now c.loop-part.part-iterator c.next.new.self _ _ _ _ _ _ before.cut c.in-Some.ensures.steps before.carries
    c.in_err-take_part.ensures.takes)

pub returns-clause-takes : goal.returns-clause-takes
returns-clause-takes g c =
    let before = c.loop-part.invariant in
    rw (before.cut, c.in-None.ensures.steps.0, (no_parts c.loop-part.begun.items).0, append-nil before.done) before.carries

pub returns-clause-begun : goal.returns-clause-begun
returns-clause-begun g c = rw (c.loop-part.invariant.begun, c.in-None.ensures.steps.0, (no_parts c.loop-part.begun.items).1) refl
