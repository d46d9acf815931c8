use Rattle.std.proofs.Common.{ℕ, ◌≡◌, ◌<◌, ◌==◌, ◌||◌, length, get_or}
use Rattle.std.specs.Int.{bit_at}
use Rattle.table_push.specs.TreeSteps.{leads_up, some_lead_down}
use Rattle.table_push.proofs.trees.masks_of.Given as goal

-- with the bits towards the first switches
abbrev pub invariant-loop-switch : goal.invariant-loop-switch
invariant-loop-switch l = record {
  long : length l.masks ≡ 64;
  are : (s number : ℕ) → s < 64 → (bit_at (get_or l.masks s 0) number == 1)
      ≡ (((bit_at (get_or l.fn.row s 0) number == 1) || leads_up l.fn.tree l.fn.switches s number) || some_lead_down l.fn.tree l.switch l.fn.switches s number);
}
