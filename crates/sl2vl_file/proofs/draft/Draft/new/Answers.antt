use Rattle.sl2vl_file.proofs.LaneSoundLemmas.{nothing_sound}
use Rattle.sl2vl_file.proofs.draft.Draft.new.Goals as goal

pub invariant_of-result : goal.invariant_of-result
invariant_of-result c = rw (c.new.ensures, c.new-2.ensures.items) nothing_sound
