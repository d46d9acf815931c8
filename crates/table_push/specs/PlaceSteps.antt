-- What each step of the search for masks that change comes to: the clauses of `src/places.rt`.
use Rattle.std.specs.Prelude.{ℕ, ◌≡◌, Option, Some, None}
use Rattle.subnet_model.specs.declared.group_receiver.GroupReceiver.{GroupReceiver}
use Rattle.table_push.specs.TreeSteps.{leads_up, some_lead_down}
use Rattle.table_push.specs.declared.places.Next.{Next}
use Rattle.table_push.specs.declared.places.Next.TheVariants.{Both, Gone, Come, Neither}
use Rattle.table_push.specs.declared.trees.Tree.{Tree}

-- the ports of a switch that lead along the tree to some switch of a set lead to some of another set too
abbrev pub IsUnturned : Tree → (before after s : ℕ) → Type 0
IsUnturned tree before after s =
    (number : ℕ) → (leads_up tree before s number ≡ leads_up tree after s number)
    × (some_lead_down tree 64 before s number ≡ some_lead_down tree 64 after s number)

-- what comes next of two lists
abbrev pub IsNext : (left new : Option GroupReceiver) → Next → Type 0
IsNext left new Both = (one : GroupReceiver) × (left ≡ Some one) × (new ≡ Some one)
IsNext left new (Gone lid) = (one : GroupReceiver) × (left ≡ Some one) × (one.lid ≡ lid)
IsNext left new (Come lid) = (one : GroupReceiver) × (new ≡ Some one) × (one.lid ≡ lid)
IsNext left new Neither = (left ≡ None) × (new ≡ None)
