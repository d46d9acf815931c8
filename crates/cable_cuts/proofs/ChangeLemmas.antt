-- The entries that are reported are those at which two tables have different ports.
use Rattle.std.proofs.Common.{zero, suc, ◌≡◌, ◌≢◌, ◌==◌, ◌⊎◌, inl, inr, refl, sym, subst, Bool, true, false, if◌then◌else◌, List, [], ◌∷◌, flat_map, arith}
use Rattle.std.specs.List.{Contains}
use Rattle.std.proofs.lemmas.Bool.{eqb-false, ne_eqb}
use Rattle.std.proofs.lemmas.List.Elements.{Contains-append_cases, Contains-append_left, Contains-append_right}
use Rattle.fabric_parts.specs.NodeType.{is_switch_type}
use Rattle.subnet_model.specs.declared.subnet_port.SubnetPort.{SubnetPort}
use Rattle.cable_cuts.specs.Changes.{Tables, change_at, changes, changes_at}
use Rattle.cable_cuts.specs.Laws.{ChangesAreWhatDiffers, IsDifference}
use Rattle.cable_cuts.specs.declared.changes.Change.{Change}

-- ---- lists
pub none_in : {X : Type 0} (x : X) → Contains [] x → ⊥
none_in x there = let less = there.1 in omega (arith, less)

pub first_in : {X : Type 0} (x : X) (xs : List X) → Contains (x ∷ xs) x
first_in x xs = (0, omega arith, refl)

pub later_in : {X : Type 0} (y : X) (xs : List X) (x : X) → Contains xs x → Contains (y ∷ xs) x
later_in y xs x there = let less = there.1 in (suc there.0, omega (arith, less), there.2)

pub only_in : {X : Type 0} (x y : X) → Contains (x ∷ []) y → y ≡ x
only_in x y (zero, less, is) = sym is
only_in x y (suc k, less, is) = absurd (omega (arith, less))

-- what one of a list gives is in what all give, and the other way round
pub record IsGiven {X Y : Type 0} (f : X → List Y) (xs : List X) (y : Y) : Type 0 where
  pub one : X
  pub listed : Contains xs one
  pub gives : Contains (f one) y

pub given : {X Y : Type 0} (f : X → List Y) (xs : List X) (y : Y) → Contains (flat_map f xs) y → IsGiven f xs y
given f [] y there = absurd (none_in y there)
given f (x ∷ xs) y there = by (Contains-append_cases (f x) (flat_map f xs) y there) (λ later. given f xs y later)
  where
    by : Contains (f x) y ⊎ Contains (flat_map f xs) y → (Contains (flat_map f xs) y → IsGiven f xs y) → IsGiven f (x ∷ xs) y
    by (inl here) more = record { one = x; listed = first_in x xs; gives = here }
    by (inr later) more =
        let rest = more later in record { one = rest.one; listed = later_in x xs rest.one rest.listed; gives = rest.gives }

pub gives_all : {X Y : Type 0} (f : X → List Y) (xs : List X) (x : X) (y : Y) → Contains xs x → Contains (f x) y → Contains (flat_map f xs) y
gives_all f [] x y there is = absurd (none_in x there)
gives_all f (z ∷ xs) x y (zero, less, same) is =
    Contains-append_left (f z) (flat_map f xs) y (subst (λ one. Contains (f one) y) (sym same) is)
gives_all f (z ∷ xs) x y (suc k, less, same) is =
    Contains-append_right (f z) (flat_map f xs) y (gives_all f xs x y (k, omega (arith, less), same) is)

-- ---- entries
module _ (ports : List SubnetPort) (one other : Tables) where
  abbrev reported : SubnetPort → SubnetPort → Change
  reported switch port = record { switch = switch.lid; lid = port.lid; was = one switch.guid port.lid; becomes = other switch.guid port.lid }

  record IsReported (switch port : SubnetPort) (change : Change) : Type 0 where
    differ : one switch.guid port.lid ≢ other switch.guid port.lid
    change_is : change ≡ reported switch port

  is_reported : (switch port : SubnetPort) (change : Change) → Contains (change_at one other switch port) change → IsReported switch port change
  is_reported switch port change there = by (one switch.guid port.lid == other switch.guid port.lid) refl there
    where
      by : (b : Bool) → (one switch.guid port.lid == other switch.guid port.lid) ≡ b
          → Contains (if b then [] else reported switch port ∷ []) change → IsReported switch port change
      by true is there = absurd (none_in change there)
      by false is there = record {
        differ = λ same. eqb-false (one switch.guid port.lid) (other switch.guid port.lid) is same;
        change_is = only_in (reported switch port) change there;
      }

  reports : (switch port : SubnetPort) → one switch.guid port.lid ≢ other switch.guid port.lid
      → Contains (change_at one other switch port) (reported switch port)
  reports switch port differ = rw (ne_eqb (one switch.guid port.lid) (other switch.guid port.lid) differ) (first_in (reported switch port) [])

  found : (change : Change) → Contains (changes ports one other) change → IsDifference ports one other change
  found change there = at_switch (given (changes_at ports one other) ports change there)
    where
      at_port : (switch : SubnetPort) → Contains ports switch → is_switch_type switch.node_type ≡ true
          → IsGiven (change_at one other switch) ports change → IsDifference ports one other change
      at_port switch listed is gave =
          let is_so = is_reported switch gave.one change gave.gives in record {
            switch = switch;
            switch_listed = listed;
            is_switch = is;
            port = gave.one;
            port_listed = gave.listed;
            differ = is_so.differ;
            change_is = is_so.change_is;
          }

      at_switch : IsGiven (changes_at ports one other) ports change → IsDifference ports one other change
      at_switch gave = by (is_switch_type gave.one.node_type) refl gave.gives
        where
          by : (b : Bool) → is_switch_type gave.one.node_type ≡ b
              → Contains (if b then flat_map (change_at one other gave.one) ports else []) change → IsDifference ports one other change
          by true is there = at_port gave.one gave.listed is (given (change_at one other gave.one) ports change there)
          by false is there = absurd (none_in change there)

  reported_all : (change : Change) → IsDifference ports one other change → Contains (changes ports one other) change
  reported_all change is =
      subst (Contains (changes ports one other)) (sym is.change_is)
      (gives_all (changes_at ports one other) ports is.switch (reported is.switch is.port) is.switch_listed
      (rw is.is_switch (gives_all (change_at one other is.switch) ports is.port (reported is.switch is.port) is.port_listed (reports is.switch is.port is.differ))))

pub changes_are_what_differs : ChangesAreWhatDiffers
changes_are_what_differs ports one other change = (found ports one other change, reported_all ports one other change)
