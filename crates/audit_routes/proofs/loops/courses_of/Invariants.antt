use Rattle.std.proofs.Common.{◌≡◌, map, take}
use Rattle.audit_routes.specs.Loops.{course_of}
use Rattle.audit_routes.proofs.loops.courses_of.Given as goal

abbrev pub invariant-loop-aim : goal.invariant-loop-aim
invariant-loop-aim l = l.courses.items ≡ map (course_of l.net) (take l.aim-index l.aims)
