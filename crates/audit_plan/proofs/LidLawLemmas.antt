-- The LIDs of a discovery.
use Rattle.std.proofs.Common.{◌≡◌, ◌∙◌, ap, ap₂, refl, sym, inl, inr, ℕ, ◌==◌, ◌&&◌, ◌||◌, Bool, true, false, List, [], ◌∷◌, flat_map, unwrap_or, Option, Some, None}
use Rattle.std.specs.List.{list_any}
use Rattle.std.specs.Option.{option_map_or}
use Rattle.std.proofs.lemmas.Bool.{cases_Bool, eqb-true}
use Rattle.std.proofs.lemmas.List.Folds.{list_any-append}
use Rattle.netdiscover_file.specs.Kind.{is_switch as is_switch_kind}
use Rattle.netdiscover_file.specs.declared.node.Node.{Node as FoundNode}
use Rattle.netdiscover_file.specs.declared.port.PortLine.{PortLine}
use Rattle.audit_plan.specs.declared.ends.LidGuid.{LidGuid}
use Rattle.audit_plan.specs.Laws.{LidsAreTaken, is_of_port, is_ports_line, is_switchs_header, is_this}
use Rattle.audit_plan.specs.Plan.{is_unicast, lid_if_unicast, lid_of_port, line_lid, switch_lid}
use Rattle.std.proofs.Math.Bool.{or-false}
use Rattle.step_results.proofs.BoolLemmas.{and_false}

of_lid : (lid guid own other : ℕ) → list_any (is_of_port lid guid) (lid_if_unicast own other) ≡ (is_unicast lid && ((other == lid) && (own == guid)))
of_lid lid guid own other = elim (cases_Bool (other == lid)) [
  | inl here ↦
      let same : other ≡ lid = eqb-true other lid here in
      elim (cases_Bool (is_unicast other)) [
        | inl unicast ↦ let there : is_unicast lid ≡ true = ap is_unicast (sym same) ∙ unicast in rw (unicast, there, here) (or-false (own == guid))
        | inr none ↦ let there : is_unicast lid ≡ false = ap is_unicast (sym same) ∙ none in rw (none, there) refl
      ]
  | inr apart ↦ elim (cases_Bool (is_unicast other)) [
    | inl unicast ↦ rw (unicast, apart) (sym (and_false (is_unicast lid)))
    | inr none ↦ rw (none, apart) (sym (and_false (is_unicast lid)))
  ]
]

of_port : (lid guid own : ℕ) (o : Option ℕ) → list_any (is_of_port lid guid) (lid_of_port own o) ≡ (is_unicast lid && (is_this lid o && (own == guid)))
of_port lid guid own (Some other) = of_lid lid guid own other
of_port lid guid own None = sym (and_false (is_unicast lid))

of_switch : (lid guid : ℕ) (node : FoundNode) → list_any (is_of_port lid guid) (switch_lid node) ≡ (is_unicast lid && is_switchs_header lid guid node)
of_switch lid guid node = elim (cases_Bool (is_switch_kind node.id.kind)) [
  | inl switch ↦ rw switch (of_port lid guid (unwrap_or node.port_guid node.id.guid) node.lid)
  | inr other ↦ rw other (sym (and_false (is_unicast lid)))
]

of_line : (lid guid : ℕ) (line : PortLine) → list_any (is_of_port lid guid) (line_lid line) ≡ (is_unicast lid && is_ports_line lid guid line)
of_line lid guid line = by line.guid
  where
    by : (o : Option ℕ) → list_any (is_of_port lid guid) (option_map_or (λ own. lid_of_port own line.lid) o []) ≡ (is_unicast lid && (is_this lid line.lid && is_this guid o))
    by (Some own) = of_port lid guid own line.lid
    by None = sym (ap (λ (b : Bool). is_unicast lid && b) (and_false (is_this lid line.lid)) ∙ and_false (is_unicast lid))

-- ---- what all do
each_of : {X : Type 0} (u : Bool) (f : X → List LidGuid) (p : LidGuid → Bool) (q : X → Bool) → ((x : X) → list_any p (f x) ≡ (u && q x)) → (xs : List X)
    → list_any p (flat_map f xs) ≡ (u && list_any q xs)
each_of u f p q same [] = sym (and_false u)
each_of u f p q same (x ∷ xs) =
    list_any-append p (f x) (flat_map f xs) ∙ ap₂ (λ (a b : Bool). a || b) (same x) (each_of u f p q same xs) ∙ both u (q x) (list_any q xs)
  where
    both : (u a b : Bool) → ((u && a) || (u && b)) ≡ (u && (a || b))
    both true a b = refl
    both false a b = refl

pub lids_are_taken : LidsAreTaken
lids_are_taken found lid guid =
    list_any-append (is_of_port lid guid) (flat_map switch_lid found.nodes) (flat_map line_lid found.ports)
    ∙ ap₂ (λ (a b : Bool). a || b)
    (each_of (is_unicast lid) switch_lid (is_of_port lid guid) (is_switchs_header lid guid) (of_switch lid guid) found.nodes)
    (each_of (is_unicast lid) line_lid (is_of_port lid guid) (is_ports_line lid guid) (of_line lid guid) found.ports)
    ∙ both (is_unicast lid) (list_any (is_switchs_header lid guid) found.nodes) (list_any (is_ports_line lid guid) found.ports)
  where
    both : (u a b : Bool) → ((u && a) || (u && b)) ≡ (u && (a || b))
    both true a b = refl
    both false a b = refl
