-- A sound topology without a cable between two of its switches is sound, where its cables join all switches.
use Rattle.std.proofs.Common.{◌≡◌, Bool, true, false, not, ◌&&◌, ◌||◌, ◌∙◌, List, [], ◌∷◌, filter, refl, sym, ap, inl, inr}
use Rattle.std.specs.List.{AllByRecursion, IsDistinct, list_all, list_any}
use Rattle.std.proofs.lemmas.Bool.{and_from, and_parts, false≢true, not-true, or_cases}
use Rattle.std.proofs.lemmas.Map.Keys.{IsDistinct-cons, IsDistinct-head, IsDistinct-tail}
use Rattle.fabric_parts.specs.Cable.{ends_at, is_cabled, is_same_port}
use Rattle.fabric_parts.specs.declared.cable.Cable.{Cable}
use Rattle.fabric_parts.specs.declared.cable.PortRef.{PortRef}
use Rattle.fabric_wire.specs.Cabling.{is_between, is_not_between}
use Rattle.step_results.proofs.ListLemmas.{IsDistinct-nil}
use Rattle.smp_wire.proofs.CableLemmas.{same_port}
use Rattle.topo_file.specs.Connectivity.{AllJoined}
use Rattle.topo_file.specs.Node.{is_switch_at}
use Rattle.topo_file.specs.Sound.{IsSound, ends_at_ports, joins_right, shares_port}
use Rattle.topo_file.specs.Topology.{TopologyState}
use Rattle.cable_cuts.specs.Cables.{can_be_cut, joins_switches, without_cable}

-- ---- what is so of a list is so of some of it
all_kept : {X : Type 0} (p keep : X → Bool) (xs : List X) → list_all p xs ≡ true → list_all p (filter keep xs) ≡ true
all_kept p keep [] all = refl
all_kept p keep (x ∷ xs) all = by (keep x) refl (all_kept p keep xs parts.1)
  where
    parts : (p x ≡ true) × (list_all p xs ≡ true)
    parts = and_parts (p x) _ all

    by : (b : Bool) → keep x ≡ b → list_all p (filter keep xs) ≡ true → list_all p (filter keep (x ∷ xs)) ≡ true
    by true is rest = rw is (and_from (p x) _ parts.0 rest)
    by false is rest = rw is rest

each_kept : {X : Type 0} (P : X → Type 0) (keep : X → Bool) (xs : List X) → AllByRecursion P xs → AllByRecursion P (filter keep xs)
each_kept P keep [] all = all
each_kept P keep (x ∷ xs) all = by (keep x) refl (each_kept P keep xs all.1)
  where
    by : (b : Bool) → keep x ≡ b → AllByRecursion P (filter keep xs) → AllByRecursion P (filter keep (x ∷ xs))
    by true is rest = rw is (all.0, rest)
    by false is rest = rw is rest

distinct_kept : {X : Type 0} (same : X → X → Bool) (keep : X → Bool) (xs : List X) → IsDistinct same xs → IsDistinct same (filter keep xs)
distinct_kept same keep [] own = IsDistinct-nil same
distinct_kept same keep (x ∷ xs) own = by (keep x) refl (distinct_kept same keep xs (IsDistinct-tail same x xs own))
  where
    by : (b : Bool) → keep x ≡ b → IsDistinct same (filter keep xs) → IsDistinct same (filter keep (x ∷ xs))
    by true is rest =
        rw is (IsDistinct-cons same x (filter keep xs) (each_kept (λ y. same x y ≡ false) keep xs (IsDistinct-head same x xs own)) rest)
    by false is rest = rw is rest

-- a cable at that port is kept, where none of it is taken
cabled_kept : (keep : Cable → Bool) (at : PortRef) (cables : List Cable) → ((cable : Cable) → ends_at at cable ≡ true → keep cable ≡ true)
    → is_cabled cables at ≡ true → is_cabled (filter keep cables) at ≡ true
cabled_kept keep at [] kept cabled = absurd (false≢true cabled)
cabled_kept keep at (cable ∷ cables) kept cabled = by (keep cable) refl (ends_at at cable) refl cabled (cabled_kept keep at cables kept)
  where
    by : (b : Bool) → keep cable ≡ b → (e : Bool) → ends_at at cable ≡ e → (e || is_cabled cables at) ≡ true
        → (is_cabled cables at ≡ true → is_cabled (filter keep cables) at ≡ true) → is_cabled (filter keep (cable ∷ cables)) at ≡ true
    by true is true ends any rest = rw (is, ends) refl
    by true is false ends any rest = rw (is, ends) (rest any)
    by false is true ends any rest = absurd (false≢true (sym is ∙ kept cable ends))
    by false is false ends any rest = rw is (rest any)

-- ---- the cable is no adapter's
module _ (plan : TopologyState) (cable : Cable) (can : can_be_cut plan cable ≡ true) where
  pub first_switch : is_switch_at plan.nodes cable.first.node ≡ true
  first_switch = (and_parts (is_switch_at plan.nodes cable.first.node) _ (and_parts (joins_switches plan.nodes cable) _ can).0).0

  pub second_switch : is_switch_at plan.nodes cable.second.node ≡ true
  second_switch = (and_parts (is_switch_at plan.nodes cable.first.node) _ (and_parts (joins_switches plan.nodes cable) _ can).0).1

  pub is_there : list_any (is_between cable.first cable.second) plan.cables ≡ true
  is_there = (and_parts (joins_switches plan.nodes cable) _ can).1

  -- a port of an adapter is not one of its ends
  other_port : (at end : PortRef) → is_switch_at plan.nodes at.node ≡ false → is_switch_at plan.nodes end.node ≡ true → at ≡ end → ⊥
  other_port at end adapter switch same = false≢true (sym adapter ∙ ap (λ (p : PortRef). is_switch_at plan.nodes p.node) same ∙ switch)

  kept_there : (at : PortRef) → is_switch_at plan.nodes at.node ≡ false → (one : Cable) → ends_at at one ≡ true
      → is_not_between cable.first cable.second one ≡ true
  kept_there at adapter one ends = by (is_between cable.first cable.second one) refl
    where
      none : (first second : PortRef) → is_switch_at plan.nodes first.node ≡ true → is_switch_at plan.nodes second.node ≡ true
          → (is_same_port one.first first && is_same_port one.second second) ≡ true → ⊥
      none first second switch switch_too is =
          let parts = and_parts (is_same_port one.first first) _ is in
          elim (or_cases (is_same_port one.first at) _ ends) [
            | inl here ↦ other_port at first adapter switch (sym (same_port one.first at here) ∙ same_port one.first first parts.0)
            | inr here ↦ other_port at second adapter switch_too (sym (same_port one.second at here) ∙ same_port one.second second parts.1)
          ]

      by : (b : Bool) → is_between cable.first cable.second one ≡ b → not b ≡ true
      by false is = refl
      by true is = absurd (elim (or_cases (is_same_port one.first cable.first && is_same_port one.second cable.second) _ is) [
        | inl forth ↦ none cable.first cable.second first_switch second_switch forth
        | inr back ↦ none cable.second cable.first second_switch first_switch back
      ])

  pub sound_without : IsSound plan → AllJoined plan.nodes (without_cable cable plan).cables → IsSound (without_cable cable plan)
  sound_without sound joined = record {
    lines = record {
      names = sound.lines.names;
      own_names = sound.lines.own_names;
      guids = sound.lines.guids;
      own_guids = sound.lines.own_guids;
      sizes = sound.lines.sizes;
      limits = sound.lines.limits;
      ends = all_kept (ends_at_ports plan.nodes) (is_not_between cable.first cable.second) plan.cables sound.lines.ends;
      joins = all_kept (joins_right plan.nodes) (is_not_between cable.first cable.second) plan.cables sound.lines.joins;
      own_ports = distinct_kept shares_port (is_not_between cable.first cable.second) plan.cables sound.lines.own_ports;
    };
    connected = joined;
    roots = record { switches = sound.roots.switches; own = sound.roots.own };
    manager_port = sound.manager_port;
    manager_cabled = cabled_kept (is_not_between cable.first cable.second) plan.sm plan.cables (kept_there plan.sm manager_adapter) sound.manager_cabled;
  }
    where
      manager_adapter : is_switch_at plan.nodes plan.sm.node ≡ false
      manager_adapter = not-true _ (and_parts (not (is_switch_at plan.nodes plan.sm.node)) _ sound.manager_port).0
