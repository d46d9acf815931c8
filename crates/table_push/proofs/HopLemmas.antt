-- That a switch's masks are those of what is attached to it and on other switches.
use Rattle.std.proofs.Common.{ℕ, zero, suc, ◌≡◌, ◌+◌, ◌<◌, ◌==◌, ◌&&◌, ◌||◌, not, ◌∙◌, ap, refl, sym, Bool, true, false, if◌then◌else◌, List, slice_get, Option, Some, None, ◌⊎◌, inl, inr, arith}
use Rattle.std.specs.List.{list_any, range_with_len}
use Rattle.std.specs.Option.{option_and_then, option_map_or}
use Rattle.std.proofs.Math.Nat.{zero-add}
use Rattle.std.proofs.lemmas.Bool.{and_from, and_parts, eqb-true, false≢true, not-true, not_from_false, or_cases, or_left, or_right}
use Rattle.std.proofs.lemmas.Map.Keys.{any_passes_from_place}
use Rattle.fabric_parts.specs.declared.cable.PortRef.{PortRef}
use Rattle.step_results.proofs.ListLemmas.{range_at}
use Rattle.step_results.proofs.TestLemmas.{same_or}
use Rattle.subnet_model.specs.declared.group_receiver.GroupReceiver.{GroupReceiver}
use Rattle.table_push.specs.Masks.{is_hop_to, tree_hop}
use Rattle.table_push.specs.MaskSteps.{adapter_home, is_attached_at, is_attached_to, is_that_port, leads_away, some_receives}
use Rattle.table_push.proofs.NodeLemmas.{same_number}
use Rattle.table_push.proofs.ReachLemmas.{among, is_reached, same_answers}
use Rattle.table_push.proofs.AttachmentBitLemmas.{adapter_low}
use Rattle.updn_routes.specs.Routes.{AreRoutes, home_of}
use Rattle.updn_routes.specs.Subnet.{RoutesState}

-- ---- one hop
hop_own : (routes : RoutesState) (place : ℕ) (home : PortRef) → (home.node == place) ≡ true → tree_hop routes place home ≡ Some home.port
unfolding tree_hop
hop_own routes place home is = rw is refl

hop_other : (routes : RoutesState) (place : ℕ) (home : PortRef) → (home.node == place) ≡ false
    → tree_hop routes place home ≡ tree_hop routes place (record { node = home.node; port = 0 })
unfolding tree_hop
hop_other routes place home is = rw is refl

hop_is : (routes : RoutesState) (place number lid : ℕ)
    → is_hop_to routes place number lid
    ≡ option_map_or (λ home. is_that_port (tree_hop routes place home) number) (adapter_home routes.between.homes lid) false
hop_is routes place number lid = by (home_of routes.between.homes lid)
  where
    one : (home : PortRef) (b x : Bool) → (not b && x) ≡ option_map_or (λ (home : PortRef). x) (if b then None else Some home) false
    one home true x = refl
    one home false x = refl

    kept : (routes : RoutesState) (home : PortRef) (b : Bool)
        → option_map_or (λ (one : PortRef). is_that_port (tree_hop routes place home) number) (if b then None else Some home) false
        ≡ option_map_or (λ (one : PortRef). is_that_port (tree_hop routes place one) number) (if b then None else Some home) false
    kept routes home true = refl
    kept routes home false = refl

    by : (o : Option PortRef) → option_map_or (λ home. not (home.port == 0) && is_that_port (tree_hop routes place home) number) o false
        ≡ option_map_or (λ home. is_that_port (tree_hop routes place home) number) (option_and_then (λ home. if home.port == 0 then None else Some home) o) false
    by None = refl
    by (Some home) = one home (home.port == 0) (is_that_port (tree_hop routes place home) number) ∙ kept routes home (home.port == 0)

hop_here : (routes : RoutesState) (place number lid : ℕ) → is_attached_at routes.between.homes place lid number ≡ true → is_hop_to routes place number lid ≡ true
hop_here routes place number lid attached = hop_is routes place number lid ∙ by (adapter_home routes.between.homes lid) attached
  where
    by : (o : Option PortRef) → option_map_or (λ home. (home.node == place) && (home.port == number)) o false ≡ true
        → option_map_or (λ home. is_that_port (tree_hop routes place home) number) o false ≡ true
    by None never = absurd (false≢true never)
    by (Some home) is =
        let parts = and_parts (home.node == place) (home.port == number) is in
        ap (λ (port : Option ℕ). is_that_port port number) (hop_own routes place home parts.0) ∙ parts.1

hop_away : (routes : RoutesState) (place number lid t : ℕ) → is_attached_to routes.between.homes lid t ≡ true → leads_away routes place t number ≡ true
    → is_hop_to routes place number lid ≡ true
hop_away routes place number lid t attached leads = hop_is routes place number lid ∙ by (adapter_home routes.between.homes lid) attached
  where
    by : (o : Option PortRef) → option_map_or (λ home. home.node == t) o false ≡ true
        → option_map_or (λ home. is_that_port (tree_hop routes place home) number) o false ≡ true
    by None never = absurd (false≢true never)
    by (Some home) is =
        let node : home.node ≡ t = eqb-true home.node t is in
        let parts = and_parts (not (t == place)) (is_that_port (tree_hop routes place (record { node = t; port = 0 })) number) leads in
        let other : (home.node == place) ≡ false = ap (λ (n : ℕ). n == place) node ∙ not-true (t == place) parts.0 in
        ap (λ (port : Option ℕ). is_that_port port number)
        (hop_other routes place home other ∙ ap (λ (n : ℕ). tree_hop routes place (record { node = n; port = 0 })) node) ∙ parts.1

record IsAway (routes : RoutesState) (place number lid : ℕ) : Type 0 where
  t : ℕ
  low : t < 64
  attached : is_attached_to routes.between.homes lid t ≡ true
  leads : leads_away routes place t number ≡ true

hop_cases : (routes : RoutesState) (place number lid : ℕ) → AreRoutes routes.between → is_hop_to routes place number lid ≡ true
    → (is_attached_at routes.between.homes place lid number ≡ true) ⊎ IsAway routes place number lid
hop_cases routes place number lid are is = by (adapter_home routes.between.homes lid) refl (sym (hop_is routes place number lid) ∙ is)
  where
    at : (home : PortRef) → adapter_home routes.between.homes lid ≡ Some home → is_that_port (tree_hop routes place home) number ≡ true → (b : Bool) → (home.node == place) ≡ b
        → (is_attached_at routes.between.homes place lid number ≡ true) ⊎ IsAway routes place number lid
    at home there hop true own =
        let port : (home.port == number) ≡ true = sym (ap (λ (port : Option ℕ). is_that_port port number) (hop_own routes place home own)) ∙ hop in
        inl (ap (λ (o : Option PortRef). option_map_or (λ home. (home.node == place) && (home.port == number)) o false) there
        ∙ and_from (home.node == place) (home.port == number) own port)
    at home there hop false other = inr (record {
      t = home.node;
      low = adapter_low routes lid home are there;
      attached = ap (λ (o : Option PortRef). option_map_or (λ one. one.node == home.node) o false) there ∙ same_number home.node;
      leads = and_from (not (home.node == place)) (is_that_port (tree_hop routes place (record { node = home.node; port = 0 })) number)
          (not_from_false (home.node == place) other)
          (sym (ap (λ (port : Option ℕ). is_that_port port number) (hop_other routes place home other)) ∙ hop);
    })

    by : (o : Option PortRef) → adapter_home routes.between.homes lid ≡ o
        → option_map_or (λ home. is_that_port (tree_hop routes place home) number) o false ≡ true
        → (is_attached_at routes.between.homes place lid number ≡ true) ⊎ IsAway routes place number lid
    by None there never = absurd (false≢true never)
    by (Some home) there hop = at home there hop (home.node == place) refl

-- ---- all receivers
abbrev pub away : RoutesState → (place mlid number : ℕ) → List GroupReceiver → ℕ → Bool
away routes place mlid number receivers t =
    some_receives receivers mlid (λ lid. is_attached_to routes.between.homes lid t) && leads_away routes place t number

pub turned : (routes : RoutesState) (place mlid number : ℕ) (receivers : List GroupReceiver) → AreRoutes routes.between
    → (some_receives receivers mlid (λ lid. is_attached_at routes.between.homes place lid number) || list_any (away routes place mlid number receivers) (range_with_len 0 64))
    ≡ list_any (is_reached routes place mlid number) receivers
turned routes place mlid number receivers are =
    same_answers (some_receives receivers mlid (λ lid. is_attached_at routes.between.homes place lid number) || list_any (away routes place mlid number receivers) (range_with_len 0 64))
    (list_any (is_reached routes place mlid number) receivers) there back
  where
    reached : (at : ℕ) (one : GroupReceiver) → slice_get receivers at ≡ Some one → (one.mlid == mlid) ≡ true → is_hop_to routes place number one.lid ≡ true
        → list_any (is_reached routes place mlid number) receivers ≡ true
    reached at one stands own hop =
        any_passes_from_place (is_reached routes place mlid number) receivers at one stands (and_from (one.mlid == mlid) (is_hop_to routes place number one.lid) own hop)

    near : some_receives receivers mlid (λ lid. is_attached_at routes.between.homes place lid number) ≡ true → list_any (is_reached routes place mlid number) receivers ≡ true
    near any =
        let found = among (λ (one : GroupReceiver). (one.mlid == mlid) && is_attached_at routes.between.homes place one.lid number) receivers any in
        let parts = and_parts (found.one.mlid == mlid) (is_attached_at routes.between.homes place found.one.lid number) found.passes in
        reached found.at found.one found.there parts.0 (hop_here routes place number found.one.lid parts.1)

    far : list_any (away routes place mlid number receivers) (range_with_len 0 64) ≡ true → list_any (is_reached routes place mlid number) receivers ≡ true
    far any =
        let at = among (away routes place mlid number receivers) (range_with_len 0 64) any in
        let leads = and_parts (some_receives receivers mlid (λ lid. is_attached_to routes.between.homes lid at.one)) (leads_away routes place at.one number) at.passes in
        let found = among (λ (one : GroupReceiver). (one.mlid == mlid) && is_attached_to routes.between.homes one.lid at.one) receivers leads.0 in
        let parts = and_parts (found.one.mlid == mlid) (is_attached_to routes.between.homes found.one.lid at.one) found.passes in
        reached found.at found.one found.there parts.0 (hop_away routes place number found.one.lid at.one parts.1 leads.1)

    there : (some_receives receivers mlid (λ lid. is_attached_at routes.between.homes place lid number) || list_any (away routes place mlid number receivers) (range_with_len 0 64)) ≡ true
        → list_any (is_reached routes place mlid number) receivers ≡ true
    there any = elim (or_cases (some_receives receivers mlid (λ lid. is_attached_at routes.between.homes place lid number)) (list_any (away routes place mlid number receivers) (range_with_len 0 64)) any) [
      | inl own ↦ near own
      | inr other ↦ far other
    ]

    on : (at : ℕ) (one : GroupReceiver) → slice_get receivers at ≡ Some one → (one.mlid == mlid) ≡ true
        → (is_attached_at routes.between.homes place one.lid number ≡ true) ⊎ IsAway routes place number one.lid
        → (some_receives receivers mlid (λ lid. is_attached_at routes.between.homes place lid number) || list_any (away routes place mlid number receivers) (range_with_len 0 64)) ≡ true
    on at one stands own (inl attached) =
        or_left (some_receives receivers mlid (λ lid. is_attached_at routes.between.homes place lid number)) (list_any (away routes place mlid number receivers) (range_with_len 0 64))
        (any_passes_from_place (λ (one : GroupReceiver). (one.mlid == mlid) && is_attached_at routes.between.homes place one.lid number) receivers at one stands
        (and_from (one.mlid == mlid) (is_attached_at routes.between.homes place one.lid number) own attached))
    on at one stands own (inr other) =
        let some : some_receives receivers mlid (λ lid. is_attached_to routes.between.homes lid other.t) ≡ true =
        any_passes_from_place (λ (one : GroupReceiver). (one.mlid == mlid) && is_attached_to routes.between.homes one.lid other.t) receivers at one stands
        (and_from (one.mlid == mlid) (is_attached_to routes.between.homes one.lid other.t) own other.attached) in
        or_right (some_receives receivers mlid (λ lid. is_attached_at routes.between.homes place lid number)) (list_any (away routes place mlid number receivers) (range_with_len 0 64))
        (any_passes_from_place (away routes place mlid number receivers) (range_with_len 0 64) other.t other.t (range_at 0 64 other.t other.low ∙ ap (λ (t : ℕ). Some t) (zero-add other.t))
        (and_from (some_receives receivers mlid (λ lid. is_attached_to routes.between.homes lid other.t)) (leads_away routes place other.t number) some other.leads))

    back : list_any (is_reached routes place mlid number) receivers ≡ true
        → (some_receives receivers mlid (λ lid. is_attached_at routes.between.homes place lid number) || list_any (away routes place mlid number receivers) (range_with_len 0 64)) ≡ true
    back any =
        let found = among (is_reached routes place mlid number) receivers any in
        let parts = and_parts (found.one.mlid == mlid) (is_hop_to routes place number found.one.lid) found.passes in
        on found.at found.one found.there parts.0 (hop_cases routes place number found.one.lid are parts.1)

pub range_same : (p q : ℕ → Bool) (a n : ℕ) → ((t : ℕ) → t < a + n → p t ≡ q t) → list_any p (range_with_len a n) ≡ list_any q (range_with_len a n)
range_same p q a zero each = refl
range_same p q a (suc n) each =
    same_or (p a) (q a) (list_any p (range_with_len (a + 1) n)) (list_any q (range_with_len (a + 1) n)) (each a (omega arith))
    (range_same p q (a + 1) n (λ t low. each t (omega (arith, low))))
