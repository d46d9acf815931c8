use Rattle.std.proofs.Common.{◌≡◌, ◌-◌, ◌+◌, ◌++◌, take, drop, length, length-drop, arith}
use Rattle.std.proofs.Math.Seq.{take-add}
use Rattle.std.proofs.lemmas.Grind.{common_steps}
use Rattle.text_streams.proofs.KnownBytesLemmas.{write_more}
use Rattle.text_streams.proofs.writing.write_text.Goals as goal

pub loop-done-preserved : goal.loop-done-preserved
loop-done-preserved g c =
    let more = write_more _ _ _ _ _ c.loop-done.invariant.written c.in-Ok.ensures.bytes in
    let bound = c.in-Ok.ensures.bound in
    let rest : take (length c.args.text.now - c.loop-done.done) (drop c.loop-done.done c.args.text.now) ≡ drop c.loop-done.done c.args.text.now = grind (arith, common_steps) in
    let all : take (c.loop-done.done + c.in-Ok.count) c.args.text.now ≡ take c.loop-done.done c.args.text.now ++ take c.in-Ok.count (drop c.loop-done.done c.args.text.now) = take-add c.loop-done.done c.in-Ok.count c.args.text.now in
    record {
      within = let fits = rw rest at bound in omega (arith, fits, length-drop c.loop-done.done c.args.text.now, c.loop-done.invariant.within);
      written = rw all (rw rest at more);
      sure = λ sure. c.put.ensures.stays (c.loop-done.invariant.sure sure);
    }
