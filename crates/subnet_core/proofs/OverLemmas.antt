-- MlidRanges pushed over masks of other routes: where no bit is set outside of them, the fabric has all masks of who receives.
use Rattle.std.proofs.Common.{ℕ, zero, suc, ◌+◌, ◌-◌, ◌*◌, ◌/◌, ◌≡◌, ◌≤◌, ◌<◌, ◌==◌, ◌&&◌, ◌∙◌, add-zero, ap, refl, sym, not, Bool, true, false, if◌then◌else◌, List, [], ◌∷◌, ◌++◌, drop, get_or, length, map, slice_get, take, Option, Some, None, Result, inl, inr, arith}
use Rattle.std.specs.List.{All, fold, list_any, range_with_len}
use Rattle.std.specs.Option.{option_map_or}
use Rattle.std.proofs.Math.Nat.{zero-add}
use Rattle.std.proofs.lemmas.Bool.{cases_Bool, eqb-true, not-false, or_parts}
use Rattle.std.proofs.lemmas.Bool.Decides.{nat_tests}
use Rattle.std.proofs.lemmas.List.{drop-drop, nil_from_length, take-append-drop}
use Rattle.std.proofs.lemmas.List.Elements.{All-head, All-tail, filter-append}
use Rattle.std.proofs.lemmas.List.Sums.{fold-append}
use Rattle.std.proofs.lemmas.Option.{slice_get-get_or}
use Rattle.agent_rules.specs.Good.{IsTable}
use Rattle.agent_rules.specs.declared.power_up.TheConstants.{MULTICAST_TABLE}
use Rattle.attr_tables.specs.Blocks.{block_of, with_block}
use Rattle.fabric_parts.specs.Lid.{is_multicast}
use Rattle.fabric_parts.specs.declared.lid.TheConstants.{FIRST_MULTICAST_LID}
use Rattle.pkey_rules.specs.declared.key_table.TheConstants.{PARTITIONS}
use Rattle.step_results.proofs.ListLemmas.{range_at}
use Rattle.step_results.proofs.RangeLemmas.{range_more}
use Rattle.sa_store.specs.Registry.{RegistryState}
use Rattle.sa_model.specs.Groups.{PartitionGroups}
use Rattle.sa_model.specs.Receivers.{receivers_of}
use Rattle.sa_model.specs.Sound.{is_sound}
use Rattle.smp_wire.specs.FabricState.{FabricState}
use Rattle.smp_wire.specs.Good.{IsGoodNode}
use Rattle.smp_wire.specs.declared.node.Node.{Node}
use Rattle.smp_wire.specs.declared.node.Node.TheVariants.{Switch, Adapter}
use Rattle.subnet_model.specs.declared.group_receiver.GroupReceiver.{GroupReceiver}
use Rattle.subnet_model.specs.declared.subnet_port.SubnetPort.{SubnetPort}
use Rattle.switch_model.specs.Multicast.{has_bit, has_bits}
use Rattle.switch_model.specs.SwitchState.{SwitchState}
use Rattle.table_push.proofs.MaskLemmas.{window_alike}
use Rattle.table_push.proofs.NodeLemmas.{both_written, none_there, none_written}
use Rattle.table_push.specs.Masks.{all_masks_pushed, is_in_mlid_range, mask_of_position, mask_word, masks_of, masks_pushed, receives_of, wanted_range, with_all_masks, with_masks, with_range}
use Rattle.table_push.specs.Nodes.{switch_by, with_switches}
use Rattle.table_push.specs.Pushes.{Leaves}
use Rattle.table_push.specs.declared.fault.PushFault.{PushFault}
use Rattle.updn_routes.specs.Subnet.{RoutesState, place_of}
use Rattle.subnet_core.proofs.NobodyLemmas.{no_mask}
use Rattle.subnet_core.proofs.ReceiveLemmas.{any_kept, in_its_range}
use Rattle.subnet_core.proofs.MlidRangeLemmas.{is_pushed, pushed_alike}
use Rattle.subnet_core.specs.Served.{receives_at}
use Rattle.subnet_core.specs.MlidRanges.{CanBePushed, HasNoStrayBits, IsPushed, is_received, received_in, range_pushed, range_receives, ranges_pushed}

-- ---- blocks of one table, put into another
inside : (block i : ℕ) → 32 * block ≤ i → i < 32 * block + 32 → is_in_mlid_range block (FIRST_MULTICAST_LID + i) ≡ true
inside block i above below = grind (arith, nat_tests)

before_it : (block i : ℕ) → i < 32 * block → is_in_mlid_range block (FIRST_MULTICAST_LID + i) ≡ false
before_it block i below = grind (arith, nat_tests)

behind_it : (block i : ℕ) → 32 * block + 32 ≤ i → is_in_mlid_range block (FIRST_MULTICAST_LID + i) ≡ false
behind_it block i above = grind (arith, nat_tests)

rest_alike : (f g : ℕ → ℕ) (a n k : ℕ) → ((i : ℕ) → a + k ≤ i → f i ≡ g i) → drop k (map f (range_with_len a n)) ≡ drop k (map g (range_with_len a n))
rest_alike f g a zero zero each = refl
rest_alike f g a zero (suc k) each = refl
rest_alike f g a (suc n) zero each =
    let head = each a (omega arith) in
    let tail = rest_alike f g (a + 1) n zero (λ i above. each i (omega (arith, above))) in
    λ place. head place ∷ tail place
rest_alike f g a (suc n) (suc k) each = rest_alike f g (a + 1) n k (λ i above. each i (omega (arith, above)))

-- the words of one in the block, and of the other outside
abbrev put_over : ℕ → (f g : ℕ → ℕ) → ℕ → ℕ
put_over block f g i = if is_in_mlid_range block (FIRST_MULTICAST_LID + i) then g i else f i

block_put : (block n : ℕ) (f g : ℕ → ℕ)
    → with_block 32 block (block_of 32 block (map g (range_with_len 0 n))) (map f (range_with_len 0 n)) ≡ map (put_over block f g) (range_with_len 0 n)
unfolding block_of with_block
block_put block n f g =
    let first = 32 * block in
    let over = map f (range_with_len 0 n) in
    let mixed = map (put_over block f g) (range_with_len 0 n) in
    let front : take first over ≡ take first mixed =
    window_alike f (put_over block f g) 0 n 0 first (λ i above below. rw (before_it block i (omega (arith, below))) refl) in
    let own : take 32 (drop first (map g (range_with_len 0 n))) ≡ take 32 (drop first mixed) =
    window_alike g (put_over block f g) 0 n first 32 (λ i above below. rw (inside block i (omega (arith, above)) (omega (arith, below))) refl) in
    let back : drop (first + 32) over ≡ drop (first + 32) mixed =
    rest_alike f (put_over block f g) 0 n (first + 32) (λ i above. rw (behind_it block i (omega (arith, above))) refl) in
    ap (λ (some : List ℕ). some ++ (take 32 (drop first (map g (range_with_len 0 n))) ++ drop (first + 32) over)) front
    ∙ ap (λ (some : List ℕ). take first mixed ++ (some ++ drop (first + 32) over)) own
    ∙ ap (λ (some : List ℕ). take first mixed ++ (take 32 (drop first mixed) ++ some)) (back ∙ sym (drop-drop 32 first mixed))
    ∙ ap (λ (some : List ℕ). take first mixed ++ some) (take-append-drop 32 (drop first mixed))
    ∙ take-append-drop first mixed

abbrev all_put : (wanted words : List ℕ) → (numbers : List ℕ) → List ℕ
all_put wanted words numbers = fold (λ words number. with_block 32 number (block_of 32 number wanted) words) words numbers

-- the multicast LID of that place lies in none of these MLID ranges
abbrev Lies : ℕ → List ℕ → Type 0
Lies i numbers = list_any (λ number. is_in_mlid_range number (FIRST_MULTICAST_LID + i)) numbers ≡ false

range_alike : (f g : ℕ → ℕ) (a n : ℕ) → ((i : ℕ) → a ≤ i → i < a + n → f i ≡ g i) → map f (range_with_len a n) ≡ map g (range_with_len a n)
range_alike f g a zero each = refl
range_alike f g a (suc n) each =
    let head = each a (omega arith) (omega arith) in
    let tail = range_alike f g (a + 1) n (λ i above below. each i (omega (arith, above)) (omega (arith, below))) in
    λ place. head place ∷ tail place

-- where both have the same words outside of the blocks, it is the one whose blocks they are
blocks_put : (g : ℕ → ℕ) (n : ℕ) (numbers : List ℕ) (f : ℕ → ℕ) → ((i : ℕ) → i < n → Lies i numbers → f i ≡ g i)
    → all_put (map g (range_with_len 0 n)) (map f (range_with_len 0 n)) numbers ≡ map g (range_with_len 0 n)
blocks_put g n [] f same = range_alike f g 0 n (λ i above below. same i (omega (arith, below)) refl)
blocks_put g n (number ∷ numbers) f same =
    ap (λ (words : List ℕ). all_put (map g (range_with_len 0 n)) words numbers) (block_put number n f g)
    ∙ blocks_put g n numbers (put_over number f g) (λ i within apart. elim (cases_Bool (is_in_mlid_range number (FIRST_MULTICAST_LID + i))) [
      | inl here ↦ rw here refl
      | inr there ↦ rw there (same i within (rw there apart))
    ])

as_range : (a : ℕ) (words : List ℕ) (f : ℕ → ℕ) → ((i : ℕ) → f (a + i) ≡ get_or words i 0) → words ≡ map f (range_with_len a (length words))
as_range a [] f each = refl
as_range a (word ∷ words) f each =
    let head : word ≡ f a = sym (ap f (sym (add-zero a)) ∙ each 0) in
    let tail = as_range (a + 1) words f (λ i. ap f (omega (arith)) ∙ each (suc i)) in
    λ place. head place ∷ tail place

table_put : (g : ℕ → ℕ) (n : ℕ) (numbers words : List ℕ) → length words ≡ n → ((i : ℕ) → i < n → Lies i numbers → get_or words i 0 ≡ g i)
    → all_put (map g (range_with_len 0 n)) words numbers ≡ map g (range_with_len 0 n)
table_put g n numbers words long same =
    let are : words ≡ map (λ i. get_or words i 0) (range_with_len 0 n) =
    as_range 0 words (λ i. get_or words i 0) (λ i. ap (λ (k : ℕ). get_or words k 0) (zero-add i))
    ∙ ap (λ (m : ℕ). map (λ i. get_or words i 0) (range_with_len 0 m)) long in
    ap (λ (some : List ℕ). all_put (map g (range_with_len 0 n)) some numbers) are
    ∙ blocks_put g n numbers (λ i. get_or words i 0) same

-- ---- a word without a bit
empty_word : (words : List ℕ) (i : ℕ) → length words ≡ MULTICAST_TABLE → i < MULTICAST_TABLE → has_bit (FIRST_MULTICAST_LID + i) words ≡ false
    → get_or words i 0 ≡ 0
empty_word words i long within none =
    by (is_multicast (FIRST_MULTICAST_LID + i)) (FIRST_MULTICAST_LID + i - FIRST_MULTICAST_LID) multi (omega (arith)) none
  where
    multi : is_multicast (FIRST_MULTICAST_LID + i) ≡ true
    multi = grind (arith, nat_tests)

    by : (b : Bool) (k : ℕ) → b ≡ true → k ≡ i → option_map_or (λ mask. not (mask == 0)) (if b then slice_get words k else None) false ≡ false
        → get_or words i 0 ≡ 0
    by true k is same none =
        let there = ap (slice_get words) same ∙ slice_get-get_or words i 0 (omega (arith, long, within)) in
        eqb-true (get_or words i 0) 0 (not-false (get_or words i 0 == 0) (rw there at none))
    by false k is same none = absurd (cc)

-- ---- the masks of one switch
module _ (routes : RoutesState) (receives : ℕ → ℕ → Bool) where
  abbrev masks_over : (place : ℕ) → (masks : List (List ℕ)) → (numbers : List ℕ) → List (List ℕ)
  masks_over place masks numbers = fold (λ masks number. with_range number (wanted_range routes number receives place) masks) masks numbers

  by_positions : (place : ℕ) (a b c : List ℕ) (numbers : List ℕ)
      → masks_over place (a ∷ b ∷ c ∷ []) numbers
      ≡ all_put (mask_of_position routes receives place 0) a numbers ∷ all_put (mask_of_position routes receives place 1) b numbers
      ∷ all_put (mask_of_position routes receives place 2) c numbers ∷ []
  by_positions place a b c [] = refl
  by_positions place a b c (number ∷ numbers) =
      by_positions place (with_block 32 number (block_of 32 number (mask_of_position routes receives place 0)) a)
      (with_block 32 number (block_of 32 number (mask_of_position routes receives place 1)) b)
      (with_block 32 number (block_of 32 number (mask_of_position routes receives place 2)) c) numbers

  -- ---- pushes one after another are one change of each switch
  abbrev with_ranges : (numbers : List ℕ) → (guid : ℕ) → SwitchState → SwitchState
  with_ranges numbers guid held =
      record held { masks = option_map_or (λ place. masks_over place held.masks numbers) (place_of routes.graph.switches guid) held.masks }

  abbrev each_pushed : (numbers : List ℕ) → FabricState → FabricState
  each_pushed numbers fabric = fold (λ fabric number. masks_pushed routes number receives fabric) fabric numbers

  at_once : (numbers : List ℕ) (fabric : FabricState) → each_pushed numbers fabric ≡ with_switches (with_ranges numbers) fabric
  at_once [] fabric =
      sym (none_written (with_ranges []) fabric
      (λ guid held. ap (λ (masks : List (List ℕ)). record held { masks = masks }) (by held.masks (place_of routes.graph.switches guid))))
    where
      by : (masks : List (List ℕ)) (o : Option ℕ) → option_map_or (λ place. masks) o masks ≡ masks
      by masks None = refl
      by masks (Some place) = refl
  at_once (number ∷ numbers) fabric =
      at_once numbers (masks_pushed routes number receives fabric)
      ∙ both_written (with_ranges numbers) (with_masks routes number receives) (with_ranges (number ∷ numbers)) fabric (λ guid held. refl)
      (λ guid held. ap (λ (masks : List (List ℕ)). record held { masks = masks }) (by held.masks (place_of routes.graph.switches guid)))
    where
      by : (masks : List (List ℕ)) (o : Option ℕ)
          → option_map_or (λ place. masks_over place (option_map_or (λ place. with_range number (wanted_range routes number receives place) masks) o masks) numbers) o
          (option_map_or (λ place. with_range number (wanted_range routes number receives place) masks) o masks)
          ≡ option_map_or (λ place. masks_over place masks (number ∷ numbers)) o masks
      by masks None = refl
      by masks (Some place) = refl

  -- ---- where outside of them nobody receives, and no bit is set, these are all masks
  abbrev Nobody : ℕ → Type 0
  Nobody mlid = (lid : ℕ) → receives mlid lid ≡ false

  module _ (numbers : List ℕ) (outside : (i : ℕ) → i < MULTICAST_TABLE → Lies i numbers → Nobody (FIRST_MULTICAST_LID + i)) where
    words_over : (place position : ℕ) (words : List ℕ) → length words ≡ MULTICAST_TABLE → ((mlid : ℕ) → Nobody mlid → has_bit mlid words ≡ false)
        → all_put (mask_of_position routes receives place position) words numbers ≡ mask_of_position routes receives place position
    words_over place position words long none =
        table_put (λ i. mask_word routes receives place position (FIRST_MULTICAST_LID + i)) MULTICAST_TABLE numbers words long
        (λ i within lies.
        let nobody = outside i within lies in
        empty_word words i long within (none (FIRST_MULTICAST_LID + i) nobody)
        ∙ sym (no_mask routes receives (FIRST_MULTICAST_LID + i) nobody place position))

    switch_over : (place : ℕ) (masks : List (List ℕ)) → length masks ≡ 3 → All (IsTable MULTICAST_TABLE 65536) masks
        → ((mlid : ℕ) → Nobody mlid → has_bits masks mlid ≡ false) → masks_over place masks numbers ≡ masks_of routes receives place
    switch_over place (a ∷ b ∷ c ∷ []) three tables none =
        let later = All-tail (IsTable MULTICAST_TABLE 65536) a (b ∷ c ∷ []) tables in
        let last = All-tail (IsTable MULTICAST_TABLE 65536) b (c ∷ []) later in
        let first = words_over place 0 a (All-head (IsTable MULTICAST_TABLE 65536) a (b ∷ c ∷ []) tables).count
        (λ mlid nobody. (or_parts (has_bit mlid a) _ (none mlid nobody)).0) in
        let second = words_over place 1 b (All-head (IsTable MULTICAST_TABLE 65536) b (c ∷ []) later).count
        (λ mlid nobody. (or_parts (has_bit mlid b) _ (or_parts (has_bit mlid a) _ (none mlid nobody)).1).0) in
        let third = words_over place 2 c (All-head (IsTable MULTICAST_TABLE 65536) c [] last).count
        (λ mlid nobody. (or_parts (has_bit mlid c) _ (or_parts (has_bit mlid b) _ (or_parts (has_bit mlid a) _ (none mlid nobody)).1).1).0) in
        by_positions place a b c numbers ∙ (λ i. first i ∷ second i ∷ third i ∷ [])
    switch_over place [] three tables none = absurd (cc)
    switch_over place (a ∷ []) three tables none = absurd (omega (arith, three))
    switch_over place (a ∷ b ∷ []) three tables none = absurd (omega (arith, three))
    switch_over place (a ∷ b ∷ c ∷ d ∷ masks) three tables none = absurd (omega (arith, three))

    node_over : (node : Node) → IsGoodNode node
        → ((mlid : ℕ) (held : SwitchState) → Some node ≡ Some (Switch held) → Nobody mlid → has_bits held.masks mlid ≡ false)
        → switch_by (with_ranges numbers) node ≡ switch_by (with_all_masks routes receives) node
    node_over (Switch held) good none =
        ap (λ (masks : List (List ℕ)). Switch (record held { masks = masks })) (by (place_of routes.graph.switches held.node_guid))
      where
        by : (o : Option ℕ) → option_map_or (λ place. masks_over place held.masks numbers) o held.masks ≡ option_map_or (masks_of routes receives) o held.masks
        by None = refl
        by (Some place) = switch_over place held.masks good.positions good.masks (λ mlid nobody. none mlid held refl nobody)
    node_over (Adapter ports) good none = refl

    nodes_over : (nodes : List Node) → All IsGoodNode nodes
        → ((k mlid : ℕ) (held : SwitchState) → slice_get nodes k ≡ Some (Switch held) → Nobody mlid → has_bits held.masks mlid ≡ false)
        → map (switch_by (with_ranges numbers)) nodes ≡ map (switch_by (with_all_masks routes receives)) nodes
    nodes_over [] good none = refl
    nodes_over (node ∷ nodes) good none =
        let head = node_over node (All-head IsGoodNode node nodes good) (none 0) in
        let tail = nodes_over nodes (All-tail IsGoodNode node nodes good) (λ k. none (suc k)) in
        λ i. head i ∷ tail i

    pub slices_over : (fabric : FabricState) → All IsGoodNode fabric.nodes → HasNoStrayBits receives fabric
        → each_pushed numbers fabric ≡ all_masks_pushed routes receives fabric
    slices_over fabric good none =
        at_once numbers fabric ∙ ap (λ (nodes : List Node). record fabric { nodes = nodes }) (nodes_over fabric.nodes good none)

-- ---- one after another
-- the MLID range of a partition in which somebody receives is pushed
pub some_received : (routes : RoutesState) (registry : RegistryState) (fabric left : FabricState) (number : ℕ) (receivers : List GroupReceiver)
    (result : Result (Unit {0}) PushFault)
    → receivers ≡ receivers_of registry.configuration.ports number registry.administration.remembered.partitions → (length receivers == 0) ≡ false
    → CanBePushed routes fabric → Leaves result (Some left) fabric (masks_pushed routes number (receives_of receivers) fabric)
    → IsPushed routes (ranges_pushed routes registry (received_in registry (number ∷ [])) fabric) left
some_received routes registry fabric left number receivers result are some can leaves =
    let there : (length (receivers_of registry.configuration.ports number registry.administration.remembered.partitions) == 0) ≡ false =
    ap (λ (all : List GroupReceiver). length all == 0) (sym are) ∙ some in
    rw there (is_pushed routes registry fabric left number receivers result are can leaves)

pub more_received : (routes : RoutesState) (registry : RegistryState) (count : ℕ) (fabric now left : FabricState)
    → IsPushed routes (ranges_pushed routes registry (received_in registry (range_with_len 0 count)) fabric) now
    → IsPushed routes (ranges_pushed routes registry (received_in registry (count ∷ [])) now) left
    → IsPushed routes (ranges_pushed routes registry (received_in registry (range_with_len 0 (count + 1))) fabric) left
more_received routes registry count fabric now left before one =
    let first = range_with_len 0 count in
    let up : count + 1 ≡ suc count = omega arith in
    let more : range_with_len 0 (count + 1) ≡ first ++ count ∷ [] =
    ap (range_with_len 0) up ∙ range_more 0 count ∙ ap (λ (n : ℕ). first ++ n ∷ []) (zero-add count) in
    let parts : received_in registry (range_with_len 0 (count + 1)) ≡ received_in registry first ++ received_in registry (count ∷ []) =
    ap (received_in registry) more ∙ filter-append (is_received registry) first (count ∷ []) in
    record {
      is = one.is ∙ ap (ranges_pushed routes registry (received_in registry (count ∷ []))) before.is
          ∙ sym (ap (λ (numbers : List ℕ). ranges_pushed routes registry numbers fabric) parts
          ∙ fold-append (range_pushed routes registry) fabric (received_in registry first) (received_in registry (count ∷ [])));
      stands = one.stands;
    }

-- ---- as a registry has them
module _ (routes : RoutesState) (registry : RegistryState)
    (sound : is_sound registry.configuration.ports registry.administration.remembered.partitions ≡ true) where
  abbrev ports : List SubnetPort
  ports = registry.configuration.ports

  abbrev partitions : List PartitionGroups
  partitions = registry.administration.remembered.partitions

  abbrev receives : ℕ → ℕ → Bool
  receives = receives_at ports partitions

  as_received : (numbers : List ℕ) (fabric : FabricState) → ranges_pushed routes registry numbers fabric ≡ each_pushed routes receives numbers fabric
  as_received [] fabric = refl
  as_received (number ∷ numbers) fabric =
      as_received numbers (masks_pushed routes number (range_receives registry number) fabric)
      ∙ ap (each_pushed routes receives numbers)
      (pushed_alike routes number (range_receives registry number) receives fabric (λ mlid lid here. in_its_range ports mlid lid number partitions sound here))

  -- each multicast LID of the table lies in the MLID range of some number
  own_slice : (i : ℕ) → is_in_mlid_range (i / 32) (FIRST_MULTICAST_LID + i) ≡ true
  own_slice i = inside (i / 32) i (omega (arith)) (omega (arith))

  nobody_outside : (i : ℕ) → i < MULTICAST_TABLE → Lies i (received_in registry (range_with_len 0 PARTITIONS))
      → (lid : ℕ) → receives (FIRST_MULTICAST_LID + i) lid ≡ false
  nobody_outside i within lies lid =
      let mlid = FIRST_MULTICAST_LID + i in
      let number = i / 32 in
      let low : number < PARTITIONS = omega (arith, within) in
      let none : list_any (λ one. is_received registry one && is_in_mlid_range one mlid) (range_with_len 0 PARTITIONS) ≡ false =
      sym (any_kept (λ one. is_in_mlid_range one mlid) (is_received registry) (range_with_len 0 PARTITIONS)) ∙ lies in
      let there : slice_get (range_with_len 0 PARTITIONS) number ≡ Some number = range_at 0 PARTITIONS number low ∙ ap (λ (n : ℕ). Some n) (zero-add number) in
      let not_some : is_received registry number ≡ false =
      and_first (is_received registry number) (is_in_mlid_range number mlid) (own_slice i) (none_there (λ one. is_received registry one && is_in_mlid_range one mlid) (range_with_len 0 PARTITIONS) number number none there) in
      let empty : receivers_of ports number partitions ≡ [] =
      nil_from_length (receivers_of ports number partitions) (eqb-true (length (receivers_of ports number partitions)) 0
      (not-false (length (receivers_of ports number partitions) == 0) not_some)) in
      sym (in_its_range ports mlid lid number partitions sound (own_slice i)) ∙ ap (λ (all : List GroupReceiver). receives_of all mlid lid) empty
    where
      and_first : (a b : Bool) → b ≡ true → (a && b) ≡ false → a ≡ false
      and_first true b is none = absurd (cc)
      and_first false b is none = refl

  -- so once those are pushed in which somebody receives, it has all masks
  pub received_are_all : (fabric : FabricState) → All IsGoodNode fabric.nodes → HasNoStrayBits receives fabric
      → ranges_pushed routes registry (received_in registry (range_with_len 0 PARTITIONS)) fabric ≡ all_masks_pushed routes receives fabric
  received_are_all fabric good none =
      as_received (received_in registry (range_with_len 0 PARTITIONS)) fabric
      ∙ slices_over routes receives (received_in registry (range_with_len 0 PARTITIONS)) nobody_outside fabric good none
