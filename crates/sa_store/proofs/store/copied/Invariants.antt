use Rattle.std.proofs.Common.{◌≡◌, take}
use Rattle.sa_store.proofs.store.copied.Given as goal

abbrev pub invariant-loop-heading : goal.invariant-loop-heading
invariant-loop-heading l = l.copies.items ≡ take l.heading-index l.headings
