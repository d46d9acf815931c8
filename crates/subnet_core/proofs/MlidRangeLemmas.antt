-- The MLID ranges of partitions, pushed one after another: where they are those of who receives, the fabric has all masks of these.
use Rattle.std.proofs.Common.{ℕ, zero, suc, ◌≡◌, ◌+◌, ◌*◌, ◌==◌, ◌<◌, ◌||◌, ◌∙◌, ap, refl, subst, sym, Bool, true, false, nat_le, nat_lt, if◌then◌else◌, List, [], ◌∷◌, length, slice_get, slice_set, take, Option, Some, None, Result, inl, inr, arith}
use Rattle.std.specs.List.{fold, list_any}
use Rattle.std.specs.Option.{option_map_or}
use Rattle.std.proofs.lemmas.Bool.{and_parts, cases_Bool, eq-eqb, eqb-true, false≢true, leb-true, ltb-true}
use Rattle.std.proofs.lemmas.List.Folds.{list_any_more}
use Rattle.std.proofs.lemmas.Option.{get_or_from_slice_get, same_Some}
use Rattle.fabric_wire.specs.Recabling.{cabling_of}
use Rattle.fabric_parts.specs.declared.lid.TheConstants.{FIRST_MULTICAST_LID}
use Rattle.step_results.proofs.ElementLemmas.{get_other}
use Rattle.sa_store.specs.Registry.{RegistryState}
use Rattle.sa_model.specs.Receivers.{receivers_of}
use Rattle.smp_wire.specs.FabricState.{FabricState}
use Rattle.smp_wire.specs.Shape.{IsSameShape}
use Rattle.smp_wire.specs.declared.node.Node.{Node}
use Rattle.subnet_model.specs.declared.group_receiver.GroupReceiver.{GroupReceiver}
use Rattle.sweep.specs.OfFabric.{IsGraphOf}
use Rattle.table_push.proofs.AllMaskLemmas.{mlid_ranges_make_all}
use Rattle.table_push.proofs.KeptLemmas.{graph_stays}
use Rattle.table_push.proofs.MaskLemmas.{mlid_ranges_are_their_own}
use Rattle.table_push.proofs.NodeLemmas.{same_written}
use Rattle.table_push.proofs.SightLemmas.{IsUnseen, switches_unseen}
use Rattle.table_push.specs.Changes.{HasRange}
use Rattle.table_push.specs.Masks.{all_masks_pushed, is_in_mlid_range, masks_pushed, receives_of, wanted_range, with_masks, with_range}
use Rattle.table_push.specs.Nodes.{switch_by}
use Rattle.table_push.specs.Pushes.{Leaves}
use Rattle.table_push.specs.declared.fault.PushFault.{PushFault}
use Rattle.updn_routes.specs.Subnet.{RoutesState, place_of}
use Rattle.subnet_core.specs.MlidRanges.{AgreesWith, AreRight, CanBePushed, IsPushed, IsRightIn, range_pushed, range_receives, ranges_pushed, where_in}

-- ---- a push of an MLID range is not seen by a sweep
module _ (routes : RoutesState) (partition : ℕ) (receives : ℕ → ℕ → Bool) where
  abbrev change : Node → Node
  change = switch_by (with_masks routes partition receives)

  unseen : IsUnseen change
  unseen = switches_unseen (with_masks routes partition receives) (λ guid held. (_, _, _, refl))

  pub mlid_ranges_keep_the_graph : (fabric : FabricState) → IsSameShape fabric (masks_pushed routes partition receives fabric) → IsGraphOf routes.graph fabric
      → IsGraphOf routes.graph (masks_pushed routes partition receives fabric)
  mlid_ranges_keep_the_graph fabric same of = graph_stays change unseen fabric routes.graph same of

-- so SMPs still find their way
pub is_pushed : (routes : RoutesState) (registry : RegistryState) (fabric left : FabricState) (number : ℕ) (receivers : List GroupReceiver)
    (result : Result (Unit {0}) PushFault)
    → receivers ≡ receivers_of registry.configuration.ports number registry.administration.remembered.partitions → CanBePushed routes fabric
    → Leaves result (Some left) fabric (masks_pushed routes number (receives_of receivers) fabric)
    → IsPushed routes (range_pushed routes registry fabric number) left
is_pushed routes registry fabric left number receivers result are can leaves =
    let stands = leaves.stands in
    let wanted = masks_pushed routes number (receives_of receivers) fabric in
    let same : left ≡ wanted = same_Some left wanted stands.is in
    record {
      is = same ∙ ap (λ (some : List GroupReceiver). masks_pushed routes number (receives_of some) fabric) are;
      stands = subst (CanBePushed routes) (sym same)
          (record { graph = mlid_ranges_keep_the_graph routes number (receives_of receivers) fabric stands.shape can.graph; good = stands.good });
    }

-- ---- tests that agree in an MLID range make one push
alike_at : (routes : RoutesState) (partition : ℕ) (one other : ℕ → ℕ → Bool) (masks : List (List ℕ))
    → ((mlid lid : ℕ) → is_in_mlid_range partition mlid ≡ true → one mlid lid ≡ other mlid lid) → (place : Option ℕ)
    → option_map_or (λ place. with_range partition (wanted_range routes partition one place) masks) place masks
    ≡ option_map_or (λ place. with_range partition (wanted_range routes partition other place) masks) place masks
alike_at routes partition one other masks agree None = refl
alike_at routes partition one other masks agree (Some place) =
    ap (λ (blocks : List (List ℕ)). with_range partition blocks masks) (mlid_ranges_are_their_own routes partition place one other agree)

pub pushed_alike : (routes : RoutesState) (partition : ℕ) (one other : ℕ → ℕ → Bool) (fabric : FabricState)
    → ((mlid lid : ℕ) → is_in_mlid_range partition mlid ≡ true → one mlid lid ≡ other mlid lid)
    → masks_pushed routes partition one fabric ≡ masks_pushed routes partition other fabric
pushed_alike routes partition one other fabric agree =
    same_written (with_masks routes partition one) (with_masks routes partition other) fabric
    (λ guid held. ap (λ (masks : List (List ℕ)). record held { masks = masks }) (alike_at routes partition one other held.masks agree (place_of routes.graph.switches guid)))

-- ---- one test in some MLID ranges, and another outside
abbrev one_in : ℕ → (now was : ℕ → ℕ → Bool) → (mlid lid : ℕ) → Bool
one_in number now was mlid lid = if is_in_mlid_range number mlid then now mlid lid else was mlid lid

inside : (number : ℕ) (now was : ℕ → ℕ → Bool) (mlid lid : ℕ) → is_in_mlid_range number mlid ≡ true → now mlid lid ≡ one_in number now was mlid lid
inside number now was mlid lid here = rw here refl

outside : (number : ℕ) (now was : ℕ → ℕ → Bool) (mlid lid : ℕ) → is_in_mlid_range number mlid ≡ false → was mlid lid ≡ one_in number now was mlid lid
outside number now was mlid lid there = rw there refl

one_more : (a b now was : Bool) → (if b then now else if a then now else was) ≡ (if a || b then now else was)
one_more true true now was = refl
one_more true false now was = refl
one_more false true now was = refl
one_more false false now was = refl

module _ (routes : RoutesState) (registry : RegistryState) (now : ℕ → ℕ → Bool) (base : FabricState)
    (are : (number mlid lid : ℕ) → is_in_mlid_range number mlid ≡ true → range_receives registry number mlid lid ≡ now mlid lid) where
  one_slice : (number : ℕ) (was : ℕ → ℕ → Bool)
      → range_pushed routes registry (all_masks_pushed routes was base) number ≡ all_masks_pushed routes (one_in number now was) base
  one_slice number was =
      pushed_alike routes number (range_receives registry number) (one_in number now was) (all_masks_pushed routes was base)
      (λ mlid lid here. are number mlid lid here ∙ inside number now was mlid lid here)
      ∙ mlid_ranges_make_all routes number base was (one_in number now was) (outside number now was)

  pub ranges_make : (numbers : List ℕ) (was : ℕ → ℕ → Bool)
      → ranges_pushed routes registry numbers (all_masks_pushed routes was base) ≡ all_masks_pushed routes (where_in numbers now was) base
  ranges_make [] was = refl
  ranges_make (number ∷ numbers) was =
      ap (λ (fabric : FabricState). fold (range_pushed routes registry) fabric numbers) (one_slice number was)
      ∙ ranges_make numbers (one_in number now was)
      ∙ ap (λ (test : ℕ → ℕ → Bool). all_masks_pushed routes test base)
      (λ place mlid lid. one_more (is_in_mlid_range number mlid) (list_any (λ other. is_in_mlid_range other mlid) numbers) (now mlid lid) (was mlid lid) place)

-- tests that agree make one fabric
pub all_alike : (routes : RoutesState) (one other : ℕ → ℕ → Bool) (fabric : FabricState) → ((mlid lid : ℕ) → one mlid lid ≡ other mlid lid)
    → all_masks_pushed routes one fabric ≡ all_masks_pushed routes other fabric
all_alike routes one other fabric agree =
    ap (λ (test : ℕ → ℕ → Bool). all_masks_pushed routes test fabric) (λ place mlid lid. agree mlid lid place)

-- ---- who is kept to receive
-- an MLID range stands, in which those are kept who receive
pub has_slice : (routes : RoutesState) (base : FabricState) (was : ℕ → ℕ → Bool) (fabric : FabricState) (number : ℕ) (receivers : List GroupReceiver)
    → fabric ≡ all_masks_pushed routes was base → IsRightIn was number receivers → HasRange routes number (receives_of receivers) fabric
has_slice routes base was fabric number receivers masks right =
    ap (masks_pushed routes number (receives_of receivers)) masks
    ∙ pushed_alike routes number (receives_of receivers) was (all_masks_pushed routes was base) right
    ∙ mlid_ranges_make_all routes number base was was (λ mlid lid there. refl) ∙ sym masks

-- MLID ranges of different partitions have no multicast LID in common
apart_from : (one other mlid : ℕ) → (one ≡ other → ⊥) → is_in_mlid_range one mlid ≡ true → is_in_mlid_range other mlid ≡ false
apart_from one other mlid differ here = elim (cases_Bool (is_in_mlid_range other mlid)) [
  | inl both ↦
      let first = and_parts (nat_le (FIRST_MULTICAST_LID + 32 * one) mlid) (nat_lt mlid (FIRST_MULTICAST_LID + 32 * one + 32)) here in
      let second = and_parts (nat_le (FIRST_MULTICAST_LID + 32 * other) mlid) (nat_lt mlid (FIRST_MULTICAST_LID + 32 * other + 32)) both in
      let a = leb-true (FIRST_MULTICAST_LID + 32 * one) mlid first.0 in
      let b = ltb-true mlid (FIRST_MULTICAST_LID + 32 * one + 32) first.1 in
      let c = leb-true (FIRST_MULTICAST_LID + 32 * other) mlid second.0 in
      let d = ltb-true mlid (FIRST_MULTICAST_LID + 32 * other + 32) second.1 in
      let same : one ≡ other = omega (arith, a, b, c, d) in
      absurd (differ same)
  | inr none ↦ none
]

written_is : {X : Type 0} (xs : List X) (i : ℕ) (x some : X) → slice_get (slice_set xs i x) i ≡ Some some → some ≡ x
written_is [] i x some there = absurd (cc)
written_is (y ∷ xs) zero x some there = sym (same_Some x some there)
written_is (y ∷ xs) (suc i) x some there = written_is xs i x some there

-- those of the partition of a number are put in the place of others
pub one_kept : (registry : RegistryState) (number : ℕ) (was now : ℕ → ℕ → Bool) (before after : List (List GroupReceiver)) (receivers : List GroupReceiver)
    → receivers ≡ receivers_of registry.configuration.ports number registry.administration.remembered.partitions → AgreesWith registry now
    → after ≡ slice_set before number receivers → AreRight was before → AreRight (one_in number now was) after
one_kept registry number was now before after receivers are agrees put right other some there mlid lid here =
    let set : slice_get (slice_set before number receivers) other ≡ Some some = ap (λ (all : List (List GroupReceiver)). slice_get all other) (sym put) ∙ there in
    elim (cases_Bool (other == number)) [
      | inl same ↦
          let is : other ≡ number = eqb-true other number same in
          let own : is_in_mlid_range number mlid ≡ true = ap (λ (n : ℕ). is_in_mlid_range n mlid) (sym is) ∙ here in
          let its : some ≡ receivers = written_is before number receivers some (ap (slice_get (slice_set before number receivers)) (sym is) ∙ set) in
          ap (λ (list : List GroupReceiver). receives_of list mlid lid) (its ∙ are) ∙ agrees number mlid lid own ∙ inside number now was mlid lid own
      | inr differs ↦
          let apart : other ≡ number → ⊥ = λ is. false≢true (sym differs ∙ eq-eqb other number is) in
          let old : slice_get before other ≡ Some some = sym (get_other before number other receivers apart) ∙ set in
          right other some old mlid lid here ∙ outside number now was mlid lid (apart_from other number mlid apart here)
    ]

within : {X : Type 0} (xs : List X) (k : ℕ) (x : X) → slice_get xs k ≡ Some x → k < length xs
within [] k x there = absurd (cc)
within (y ∷ xs) zero x there = omega arith
within (y ∷ xs) (suc k) x there = let rest = within xs k x there in omega (arith, rest)

-- so for one number more
pub more_kept : (k number : ℕ) (numbers : List ℕ) (was now : ℕ → ℕ → Bool) (after : List (List GroupReceiver)) → slice_get numbers k ≡ Some number
    → AreRight (one_in number now (where_in (take k numbers) now was)) after → AreRight (where_in (take (k + 1) numbers) now was) after
more_kept k number numbers was now after there right other some at mlid lid here =
    right other some at mlid lid here
    ∙ one_more (list_any (λ n. is_in_mlid_range n mlid) (take k numbers)) (is_in_mlid_range number mlid) (now mlid lid) (was mlid lid)
    ∙ ap (λ (b : Bool). if b then now mlid lid else was mlid lid) (sym (any_taken (λ n. is_in_mlid_range n mlid) k number numbers there))
  where
    any_taken : (p : ℕ → Bool) (k number : ℕ) (numbers : List ℕ) → slice_get numbers k ≡ Some number
        → list_any p (take (k + 1) numbers) ≡ (list_any p (take k numbers) || p number)
    any_taken p k number numbers there =
        list_any_more p numbers k number (within numbers k number there)
        ∙ ap (λ (n : ℕ). list_any p (take k numbers) || p n) (get_or_from_slice_get numbers k number number there)

slices_taken : (routes : RoutesState) (registry : RegistryState) (numbers : List ℕ) (k number : ℕ) (fabric : FabricState) → slice_get numbers k ≡ Some number
    → ranges_pushed routes registry (take (suc k) numbers) fabric ≡ range_pushed routes registry (ranges_pushed routes registry (take k numbers) fabric) number
slices_taken routes registry [] k number fabric there = absurd (cc)
slices_taken routes registry (n ∷ numbers) zero number fabric there = ap (range_pushed routes registry fabric) (same_Some n number there)
slices_taken routes registry (n ∷ numbers) (suc k) number fabric there = slices_taken routes registry numbers k number (range_pushed routes registry fabric n) there

pub slices_more : (routes : RoutesState) (registry : RegistryState) (numbers : List ℕ) (k number : ℕ) (fabric now left : FabricState) → slice_get numbers k ≡ Some number
    → IsPushed routes (ranges_pushed routes registry (take k numbers) fabric) now → IsPushed routes (range_pushed routes registry now number) left
    → IsPushed routes (ranges_pushed routes registry (take (k + 1) numbers) fabric) left
slices_more routes registry numbers k number fabric now left there before one =
    let up : suc k ≡ k + 1 = omega arith in
    record {
      is = one.is ∙ ap (λ (f : FabricState). range_pushed routes registry f number) before.is ∙ sym (slices_taken routes registry numbers k number fabric there)
          ∙ ap (λ (n : ℕ). ranges_pushed routes registry (take n numbers) fabric) up;
      stands = one.stands;
    }

-- no cable is touched by a push
pub mlid_ranges_keep_cables : (routes : RoutesState) (registry : RegistryState) (numbers : List ℕ) (fabric : FabricState)
    → cabling_of (ranges_pushed routes registry numbers fabric) ≡ cabling_of fabric
mlid_ranges_keep_cables routes registry [] fabric = refl
mlid_ranges_keep_cables routes registry (number ∷ numbers) fabric = mlid_ranges_keep_cables routes registry numbers (range_pushed routes registry fabric number)
