-- What a push of changed blocks is over, and how many blocks those are.
use Rattle.std.specs.Prelude.{ℕ, ◌≡◌, ◌<◌, ◌==◌, Bool, false, not, nat_eq, List, [], filter, get_or, length, Option, Result, IfOk}
use Rattle.std.specs.Cmp.Lexicographic.{pointwise}
use Rattle.std.specs.Int.{bit_at}
use Rattle.std.specs.List.{range_with_len, sum_by}
use Rattle.std.specs.Option.{ForSome}
use Rattle.smp_wire.specs.FabricState.{FabricState}
use Rattle.smp_wire.specs.Good.{IsGood}
use Rattle.sweep.specs.OfFabric.{IsGraphOf}
use Rattle.table_push.specs.Masks.{masks_pushed, set_range, wanted_range}
use Rattle.table_push.specs.Nodes.{on_switch, with_switches}
use Rattle.table_push.specs.Pushes.{Leaves}
use Rattle.table_push.specs.declared.fault.PushFault.{PushFault}
use Rattle.updn_routes.specs.Subnet.{RoutesState}

-- the masks of the MLID range are those of this test already: to push them changes nothing
abbrev pub HasRange : RoutesState → (partition : ℕ) → (receives : ℕ → ℕ → Bool) → FabricState → Type 0
HasRange routes partition receives fabric = masks_pushed routes partition receives fabric ≡ fabric

-- the switch of that GUID has these blocks of the MLID range already
abbrev pub HasBlocks : (guid partition : ℕ) → (blocks : List (List ℕ)) → FabricState → Type 0
HasBlocks guid partition blocks fabric = with_switches (on_switch guid (set_range partition blocks)) fabric ≡ fabric

-- the blocks at a position are not the same
abbrev pub is_changed : (before after : List (List ℕ)) → (position : ℕ) → Bool
is_changed before after position = not (pointwise nat_eq (get_or before position []) (get_or after position []))

-- of a switch's blocks how many are others after than before
abbrev pub blocks_changed : (before after : List (List ℕ)) → ℕ
blocks_changed before after = length (filter (is_changed before after) (range_with_len 0 3))

-- of all switches'
abbrev pub changed_at : RoutesState → (partition : ℕ) → (before after : ℕ → ℕ → Bool) → (place : ℕ) → ℕ
changed_at routes partition before after place =
    blocks_changed (wanted_range routes partition before place) (wanted_range routes partition after place)

abbrev pub all_changed : RoutesState → (partition : ℕ) → (before after : ℕ → ℕ → Bool) → ℕ
all_changed routes partition before after =
    sum_by (changed_at routes partition before after) (range_with_len 0 (length routes.graph.switches))

-- ---- the push
-- over a fabric of the routes' graph that has the MLID range of the test before, it leaves that of the test after, and all else
abbrev pub ChangesRange : RoutesState → (partition : ℕ) → (before after : ℕ → ℕ → Bool) → (stood left : Option FabricState)
    → Result ℕ PushFault → Type 0
ChangesRange routes partition before after stood left result =
    ForSome stood (λ fabric. IsGraphOf routes.graph fabric → IsGood fabric → HasRange routes partition before fabric
    → Leaves result left fabric (masks_pushed routes partition after fabric))

-- and answers how many blocks are others after
abbrev pub CountsChanged : RoutesState → (partition : ℕ) → (before after : ℕ → ℕ → Bool) → Result ℕ PushFault → Type 0
CountsChanged routes partition before after result = IfOk result (λ count. count ≡ all_changed routes partition before after)

-- the switches whose bit is not set have the same blocks after as before
abbrev pub AllChangesMarked : RoutesState → (partition : ℕ) → (before after : ℕ → ℕ → Bool) → (places : ℕ) → Type 0
AllChangesMarked routes partition before after places =
    (place : ℕ) → place < 64 → (bit_at places place == 1) ≡ false
    → wanted_range routes partition before place ≡ wanted_range routes partition after place
