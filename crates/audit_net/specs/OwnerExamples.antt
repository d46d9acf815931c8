-- Whose a LID is, in examples.
use Rattle.std.specs.Prelude.{ℕ, ◌≡◌, true, false, [], ◌∷◌, Some, None}
use Rattle.dump_file.specs.declared.destination.Destination.{Destination}
use Rattle.dump_file.specs.declared.destination.Destination.TheVariants.{ChannelAdapter as AdapterKind, FurtherLid, Router, Switch as SwitchKind}
use Rattle.fabric_parts.specs.Cable.{port}
use Rattle.audit_net.specs.declared.lids.Aim.{Aim}
use Rattle.audit_net.specs.Lids.{aim_of, has_lid, have_lids, is_lacking}
use Rattle.audit_net.specs.Net.{NetState}
use Rattle.audit_net.specs.SmallNets.{a_hole, a_row, two_with}

-- ---- a LID that a row gives to a channel adapter, or to a switch, is no other kind of port
abbrev says_of_b : (ℕ → Destination) → NetState
says_of_b kind = two_with (a_row 2 2 (kind 32) ∷ []) (a_row 2 0 (kind 32) ∷ [])

-- the same of the LID of the adapter's port
abbrev says_of_h : (ℕ → Destination) → NetState
says_of_h kind = two_with (a_row 1 1 (kind 257) ∷ []) (a_row 1 1 (kind 257) ∷ [])

pub record KindsAreReported : Type 0 where
  pub switch : (aim_of (says_of_b SwitchKind) 2).end ≡ Some (port 1 0)
  pub further : (aim_of (says_of_b FurtherLid) 2).end ≡ Some (port 1 0)
  pub adapter : (aim_of (says_of_b AdapterKind) 2).end ≡ None
  pub router : (aim_of (says_of_b Router) 2).end ≡ None
  pub adapters_own : (aim_of (says_of_h AdapterKind) 1).end ≡ Some (port 2 1)
  pub adapters_as_switch : (aim_of (says_of_h SwitchKind) 1).end ≡ None
  pub lacking : is_lacking (says_of_b AdapterKind) (aim_of (says_of_b AdapterKind) 2) ≡ true
  pub not_lacking : is_lacking (says_of_b SwitchKind) (aim_of (says_of_b SwitchKind) 2) ≡ false
  pub router_lacking : is_lacking (says_of_b Router) (aim_of (says_of_b Router) 2) ≡ false
  -- of a further LID no kind is said: the fabric need not have its port
  pub further_lacking : is_lacking (says_of_b FurtherLid) (record { lid = 2; guid = Some 999; end = None }) ≡ false

-- ---- whether ports have LIDs: port 1 of an adapter that has two
abbrev an_aim : Aim
an_aim = record { lid = 1; guid = Some 257; end = Some (port 2 1) }

pub record LidsAreHad : Type 0 where
  pub own : has_lid a_hole (an_aim ∷ []) (port 2 1) ≡ true
  pub of_another_port : has_lid a_hole (an_aim ∷ []) (port 2 2) ≡ false
  pub of_a_switch : has_lid a_hole [] (port 0 1) ≡ true
  pub both : have_lids a_hole (an_aim ∷ []) (record { first = port 0 1; second = port 2 1 }) ≡ true
  pub first : have_lids a_hole [] (record { first = port 2 1; second = port 0 1 }) ≡ false
  pub second : have_lids a_hole [] (record { first = port 0 1; second = port 2 1 }) ≡ false
