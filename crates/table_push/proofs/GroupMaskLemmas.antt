-- The port masks of one group.
use Rattle.std.proofs.Common.{ℕ, ◌≡◌, ◌+◌, ◌*◌, ◌%◌, ◌^◌, ◌<◌, ◌≤◌, ◌==◌, ◌&&◌, ◌||◌, ◌∙◌, ap, refl, sym, subst, Bool, false, List, [], ◌∷◌, length, map, take, get_or, replicate, bit_or, slice_get, slice_set, Option, Some, None, arith}
use Rattle.std.specs.Int.{bit_at}
use Rattle.std.specs.List.{list_any, range_with_len}
use Rattle.std.specs.Option.{option_map_or}
use Rattle.std.proofs.Math.Bool.{or-false}
use Rattle.std.proofs.lemmas.List.{get_or-replicate, length-set, take_all}
use Rattle.std.proofs.lemmas.List.Folds.{list_any_more}
use Rattle.std.proofs.lemmas.Option.{get_or_from_slice_get, slice_get_within}
use Rattle.fabric_parts.specs.declared.cable.PortRef.{PortRef}
use Rattle.subnet_model.specs.declared.group_receiver.GroupReceiver.{GroupReceiver}
use Rattle.table_push.specs.Masks.{goes_to, is_hop_to, is_in_mask, receives_of}
use Rattle.table_push.specs.MaskSteps.{AreBits, ArePortMasks, adapter_home, is_attached_at, is_attached_to, is_that_port, some_receives}
use Rattle.table_push.specs.TreeSteps.{IsSpread, IsTree, leads_up, some_lead_down}
use Rattle.table_push.specs.declared.trees.Tree.{Tree}
use Rattle.table_push.proofs.AttachmentBitLemmas.{nobody_at, nobody_on, own_bit}
use Rattle.table_push.proofs.NodeLemmas.{same_number}
use Rattle.table_push.proofs.ReachLemmas.{either_bit, no_bits, port_bit}
use Rattle.table_push.proofs.TreeBitLemmas.{one_mask_is}
use Rattle.updn_routes.specs.Routes.{AreRoutes}
use Rattle.updn_routes.specs.Subnet.{AreOfGraph, RoutesState}

-- ---- where its members are attached
pub record AreMarked (homes : List PortRef) (lids ports : List ℕ) (switches : ℕ) : Type 0 where
  pub long : length ports ≡ 64
  pub of_ports : (s number : ℕ) → s < 64 → number < 48
      → (bit_at (get_or ports s 0) number == 1) ≡ list_any (λ lid. is_attached_at homes s lid number) lids
  pub of_switches : (s : ℕ) → s < 64 → (bit_at switches s == 1) ≡ list_any (λ lid. is_attached_to homes lid s) lids

pub none_marked : (homes : List PortRef) → AreMarked homes [] (replicate 64 0) 0
none_marked homes = record {
  long = refl;
  of_ports = λ s number low below. ap (λ (n : ℕ). bit_at n number == 1) (get_or-replicate 64 s 0 0 low) ∙ no_bits number;
  of_switches = λ s low. no_bits s;
}

any_more : (lids : List ℕ) (k lid : ℕ) (p : ℕ → Bool) → slice_get lids k ≡ Some lid → list_any p (take (k + 1) lids) ≡ (list_any p (take k lids) || p lid)
any_more lids k lid p there =
    list_any_more p lids k lid (slice_get_within lids k lid there)
    ∙ ap (λ (one : ℕ). list_any p (take k lids) || p one) (get_or_from_slice_get lids k lid lid there)

pub marked_more : (homes : List PortRef) (k lid x : ℕ) (lids : List ℕ) (home : PortRef) (ports next : List ℕ) (switches after : ℕ) → slice_get lids k ≡ Some lid
    → adapter_home homes lid ≡ Some home → home.node < 64 → AreBits x (is_that_port (Some home.port))
    → next ≡ slice_set ports home.node (bit_or (get_or ports home.node 0) x) → after ≡ bit_or switches (1 * 2 ^ home.node % 2 ^ 64)
    → AreMarked homes (take k lids) ports switches → AreMarked homes (take (k + 1) lids) next after
marked_more homes k lid x lids home ports next switches after there at low its next_is after_is so_far =
    let here : (s number : ℕ) → ((home.node == s) && (home.port == number)) ≡ is_attached_at homes s lid number =
    λ s number. sym (ap (λ (o : Option PortRef). option_map_or (λ home. (home.node == s) && (home.port == number)) o false) at) in
    let on : (s : ℕ) → (home.node == s) ≡ is_attached_to homes lid s =
    λ s. sym (ap (λ (o : Option PortRef). option_map_or (λ home. home.node == s) o false) at) in
    record {
      long = ap length next_is ∙ length-set ports home.node (bit_or (get_or ports home.node 0) x) ∙ so_far.long;
      of_ports = λ s number within below.
          ap (λ (row : List ℕ). bit_at (get_or row s 0) number == 1) next_is
          ∙ own_bit ports x s home.node number home.port (omega (arith, so_far.long, low)) (s == home.node) refl (its number below)
          ∙ (λ i. so_far.of_ports s number within below i || here s number i)
          ∙ sym (any_more lids k lid (λ one. is_attached_at homes s one number) there);
      of_switches = λ s within.
          ap (λ (n : ℕ). bit_at n s == 1) after_is ∙ either_bit switches (1 * 2 ^ home.node % 2 ^ 64) s
          ∙ (λ i. so_far.of_switches s within i || (port_bit home.node s low ∙ on s) i)
          ∙ sym (any_more lids k lid (λ one. is_attached_to homes one s) there);
    }

pub marked_passed : (homes : List PortRef) (k lid : ℕ) (lids ports next : List ℕ) (switches after : ℕ) → slice_get lids k ≡ Some lid → adapter_home homes lid ≡ None
    → next ≡ ports → after ≡ switches → AreMarked homes (take k lids) ports switches → AreMarked homes (take (k + 1) lids) next after
marked_passed homes k lid lids ports next switches after there at next_is after_is so_far = record {
  long = ap length next_is ∙ so_far.long;
  of_ports = λ s number within below.
      ap (λ (row : List ℕ). bit_at (get_or row s 0) number == 1) next_is ∙ so_far.of_ports s number within below
      ∙ sym (passed (λ one. is_attached_at homes s one number) (nobody_at homes s lid number at));
  of_switches = λ s within.
      ap (λ (n : ℕ). bit_at n s == 1) after_is ∙ so_far.of_switches s within ∙ sym (passed (λ one. is_attached_to homes one s) (nobody_on homes lid s at));
}
  where
    passed : (p : ℕ → Bool) → p lid ≡ false → list_any p (take (k + 1) lids) ≡ list_any p (take k lids)
    passed p fails = any_more lids k lid p there ∙ ap (λ (b : Bool). list_any p (take k lids) || b) fails ∙ or-false (list_any p (take k lids))

pub all_marked : (homes : List PortRef) (count : ℕ) (lids ports : List ℕ) (switches : ℕ) → length lids ≤ count
    → AreMarked homes (take count lids) ports switches → AreMarked homes lids ports switches
all_marked homes count lids ports switches all so_far = subst (λ (some : List ℕ). AreMarked homes some ports switches) (take_all count lids all) so_far

-- ---- its members, as receivers of a multicast LID
abbrev members : (mlid : ℕ) → List ℕ → List GroupReceiver
members mlid lids = map (λ lid. record { mlid = mlid; lid = lid }) lids

some_of : (mlid : ℕ) (lids : List ℕ) (test : ℕ → Bool) → some_receives (members mlid lids) mlid test ≡ list_any test lids
some_of mlid [] test = refl
some_of mlid (lid ∷ lids) test = λ i. (same_number mlid i && test lid) || some_of mlid lids test i

go_to : (routes : RoutesState) (lids : List ℕ) (place mlid number : ℕ)
    → is_in_mask routes (receives_of (members mlid lids)) place mlid number ≡ is_in_mask routes (goes_to lids) place mlid number
unfolding is_in_mask
go_to routes lids place mlid number =
    λ i. list_any (λ lid. some_of mlid lids (λ one. one == lid) i && is_hop_to routes place number lid) (range_with_len 1 (length routes.lids))

pub port_masks_are : (routes : RoutesState) (tree : Tree) (lids ports masks : List ℕ) (switches : ℕ) → AreOfGraph routes → AreRoutes routes.between
    → IsTree routes tree 64 → AreMarked routes.between.homes lids ports switches → IsSpread tree ports switches masks → ArePortMasks routes lids masks
port_masks_are routes tree lids ports masks switches of are is_tree marked spread place mlid low number below =
    spread place number low
    ∙ ap (λ (b : Bool). (b || leads_up tree switches place number) || some_lead_down tree 64 switches place number)
    (marked.of_ports place number low below ∙ sym (some_of mlid lids (λ lid. is_attached_at routes.between.homes place lid number)))
    ∙ one_mask_is routes tree place mlid (members mlid lids) switches of are low is_tree
    (λ t few. marked.of_switches t few ∙ sym (some_of mlid lids (λ lid. is_attached_to routes.between.homes lid t))) number below
    ∙ go_to routes lids place mlid number
