-- Three fabrics that were worked out by hand.
use Rattle.std.specs.Prelude.{ℕ, ◌≡◌, Bool, true, false, List, [], ◌∷◌, length, get_or, Option, Some, None}
use Rattle.updn_routes.specs.declared.link.Link.{Link}
use Rattle.updn_routes.specs.Choice.{AllChosen, is_route, least_port, is_way_down, is_way_up}
use Rattle.updn_routes.specs.Fabric.{IsFabric}
use Rattle.updn_routes.specs.Order.{AreRanks, precedes}
use Rattle.fabric_parts.specs.declared.cable.PortRef.{PortRef}
use Rattle.updn_routes.specs.Ties.{numbers_of, tie_of}
use Rattle.updn_routes.specs.Tree.{AreDepths, tree_port}
use Rattle.updn_routes.specs.declared.tie_rule.TieRule.TheVariants.{Balanced}
use Rattle.updn_routes.specs.UpDown.{channel_number, is_legal}

-- a fabric: its cabling, GUIDs and named roots, and then what was worked out of these
pub record Worked : Type 0 where
  pub rows : List (List Link)
  pub guids : List ℕ
  pub roots : List ℕ
  pub ranks : List ℕ
  pub depths : List ℕ

abbrev pub link : ℕ → ℕ → Link
link port to = record { port = port; to = to }

abbrev pub order_of : Worked → ℕ → ℕ → Bool
order_of w = precedes w.ranks w.guids

-- the number of the channel from one switch to another
abbrev pub number_of : Worked → ℕ → ℕ → ℕ
number_of w s t = channel_number (order_of w) (length w.rows) s t

-- what is worked out of it is right
pub record IsRight (w : Worked) : Type 0 where
  pub fabric : IsFabric w.rows w.guids w.roots
  pub ranks : AreRanks w.rows w.guids w.roots w.ranks
  pub depths : AreDepths w.rows w.guids w.roots w.depths

-- the ports chosen towards one switch, by the switch that chooses; the one at the target is not looked at
abbrev pub ports : List (Option ℕ) → ℕ → Option ℕ
ports chosen s = get_or chosen s None

-- ---- two switches A and B, port 3 to port 3, and no root named
abbrev pub two_switches : Worked
two_switches = record {
  rows = (link 3 1 ∷ []) ∷ (link 3 0 ∷ []) ∷ [];
  guids = 0x10 ∷ 0x20 ∷ [];
  roots = [];
  ranks = 0 ∷ 1 ∷ [];
  depths = 0 ∷ 1 ∷ [];
}

pub record TwoSwitchesMeetTheLaws : Type 0 where
  pub right : IsRight two_switches
  pub to_A : AllChosen two_switches.rows (order_of two_switches) least_port (ports (None ∷ Some 3 ∷ [])) 0
  pub to_B : AllChosen two_switches.rows (order_of two_switches) least_port (ports (Some 3 ∷ None ∷ [])) 1
  pub B_to_A : number_of two_switches 1 0 ≡ 0
  pub A_to_B : number_of two_switches 0 1 ≡ 2
  pub tree_port_of_A : tree_port two_switches.rows two_switches.depths 0 ≡ None
  pub tree_port_of_B : tree_port two_switches.rows two_switches.depths 1 ≡ Some 3

-- ---- roots R1 and R2, and L1 and L2 below both: from each of the one kind port 1 leads to the first, and port 2 to the
-- second, of the other
abbrev pub four_switches : Worked
four_switches = record {
  rows =
      (link 1 2 ∷ link 2 3 ∷ [])
      ∷ (link 1 2 ∷ link 2 3 ∷ [])
      ∷ (link 1 0 ∷ link 2 1 ∷ [])
      ∷ (link 1 0 ∷ link 2 1 ∷ [])
      ∷ [];
  guids = 0x10 ∷ 0x20 ∷ 0x30 ∷ 0x40 ∷ [];
  roots = 0x10 ∷ 0x20 ∷ [];
  ranks = 0 ∷ 0 ∷ 1 ∷ 1 ∷ [];
  depths = 0 ∷ 2 ∷ 1 ∷ 1 ∷ [];
}

abbrev pub FourAreChosen : List (Option ℕ) → ℕ → Type 0
FourAreChosen chosen d = AllChosen four_switches.rows (order_of four_switches) least_port (ports chosen) d

-- the numbers of adapters' ports, by their LIDs: two are attached to L2, by ports 4 and 3, one to L1, and LIDs 3 and 4 are R1's and
-- L1's own. L1 comes before L2, and of L2's ports the third before the fourth
abbrev pub at : ℕ → ℕ → PortRef
at node port = record { node = node; port = port }

abbrev pub numbers_by_LID : List ℕ
numbers_by_LID = numbers_of Balanced (0 ∷ 1 ∷ 2 ∷ 3 ∷ []) (at 3 4 ∷ at 2 9 ∷ at 0 0 ∷ at 2 0 ∷ at 3 3 ∷ [])

-- the switches stand in the order of their places
abbrev pub turned : Worked → (number s ties : ℕ) → ℕ
turned w number s ties = tie_of Balanced number (get_or w.ranks s 0) s ties

abbrev pub FourAreTurned : ℕ → List (Option ℕ) → ℕ → Type 0
FourAreTurned number chosen d = AllChosen four_switches.rows (order_of four_switches) (turned four_switches number) (ports chosen) d

pub record FourSwitchesMeetTheLaws : Type 0 where
  pub right : IsRight four_switches
  -- no root sends to the other, since to go down and then up is not legal
  pub R1_L1_R2 : is_legal (order_of four_switches) 0 (2 ∷ 1 ∷ []) ≡ false
  pub R1_L1_R2_is_no_way_down : is_way_down four_switches.rows (order_of four_switches) 0 1 1 (2 ∷ 1 ∷ []) ≡ false
  pub to_R1 : FourAreChosen (None ∷ None ∷ Some 1 ∷ Some 1 ∷ []) 0
  pub to_R2 : FourAreChosen (None ∷ None ∷ Some 2 ∷ Some 2 ∷ []) 1
  -- to go up and then down is; of the two such ways, which are as long, the lesser port is taken
  pub L1_R1_L2 : is_legal (order_of four_switches) 2 (0 ∷ 3 ∷ []) ≡ true
  pub to_L1 : FourAreChosen (Some 1 ∷ Some 1 ∷ None ∷ Some 1 ∷ []) 2
  pub to_L2 : FourAreChosen (Some 2 ∷ Some 2 ∷ Some 1 ∷ None ∷ []) 3
  pub numbers : numbers_by_LID ≡ 2 ∷ 0 ∷ 0 ∷ 0 ∷ 1 ∷ []
  -- by the balanced rule the next adapter's port takes the next way: L1, which two switches precede, has two ties
  pub first_to_L2 : FourAreTurned 0 (Some 2 ∷ Some 2 ∷ Some 1 ∷ None ∷ []) 3
  pub second_to_L2 : FourAreTurned 1 (Some 2 ∷ Some 2 ∷ Some 2 ∷ None ∷ []) 3
  pub third_to_L2 : FourAreTurned 2 (Some 2 ∷ Some 2 ∷ Some 1 ∷ None ∷ []) 3
  -- and the second is not by the first way
  pub second_is_not_as_the_first : ¬ (FourAreTurned 1 (Some 2 ∷ Some 2 ∷ Some 1 ∷ None ∷ []) 3)
  pub L1_to_R1 : number_of four_switches 2 0 ≡ 1
  pub R1_to_L2 : number_of four_switches 0 3 ≡ 4
  pub tree_port_of_R1 : tree_port four_switches.rows four_switches.depths 0 ≡ None
  pub tree_port_of_R2 : tree_port four_switches.rows four_switches.depths 1 ≡ Some 1
  pub tree_port_of_L1 : tree_port four_switches.rows four_switches.depths 2 ≡ Some 1
  pub tree_port_of_L2 : tree_port four_switches.rows four_switches.depths 3 ≡ Some 1

-- ---- R, U1, U2, V, W, D and X, in this order; R is the root and next to all but X, a row of cables goes from U1 over V
-- and W to D, and X is below U1, by its port 1, and U2, by its port 2
abbrev pub seven_switches : Worked
seven_switches = record {
  rows =
      (link 1 1 ∷ link 2 2 ∷ link 3 3 ∷ link 4 4 ∷ link 5 5 ∷ [])
      ∷ (link 1 0 ∷ link 2 3 ∷ link 3 6 ∷ [])
      ∷ (link 1 0 ∷ link 2 6 ∷ [])
      ∷ (link 1 0 ∷ link 2 1 ∷ link 3 4 ∷ [])
      ∷ (link 1 0 ∷ link 2 3 ∷ link 3 5 ∷ [])
      ∷ (link 1 0 ∷ link 2 4 ∷ [])
      ∷ (link 1 1 ∷ link 2 2 ∷ [])
      ∷ [];
  guids = 0x10 ∷ 0x20 ∷ 0x22 ∷ 0x30 ∷ 0x40 ∷ 0x50 ∷ 0x60 ∷ [];
  roots = 0x10 ∷ [];
  ranks = 0 ∷ 1 ∷ 1 ∷ 1 ∷ 1 ∷ 1 ∷ 2 ∷ [];
  depths = 0 ∷ 1 ∷ 1 ∷ 1 ∷ 1 ∷ 1 ∷ 2 ∷ [];
}

abbrev pub ports_to_D : ℕ → Option ℕ
ports_to_D = ports (Some 5 ∷ Some 2 ∷ Some 1 ∷ Some 3 ∷ Some 3 ∷ None ∷ Some 2 ∷ [])

abbrev pub is_way_up_from_X : ℕ → List ℕ → Bool
is_way_up_from_X = is_way_up seven_switches.rows (order_of seven_switches) ports_to_D 6 5

-- U1 can go down to D, by V and W, and so does, though over R it would be shorter; so X, whose choice follows the routes
-- of U1 and U2 themselves, takes port 2
pub record SevenSwitchesMeetTheLaws : Type 0 where
  pub right : IsRight seven_switches
  pub to_D : AllChosen seven_switches.rows (order_of seven_switches) least_port ports_to_D 5
  pub route_of_U1 : is_route seven_switches.rows ports_to_D 1 (3 ∷ 4 ∷ 5 ∷ []) 5 ≡ true
  pub U1_R_D : is_legal (order_of seven_switches) 1 (0 ∷ 5 ∷ []) ≡ true
  pub X_U1_V_W_D : is_way_up_from_X 1 (1 ∷ 3 ∷ 4 ∷ 5 ∷ []) ≡ true
  pub X_U1_R_D : is_way_up_from_X 1 (1 ∷ 0 ∷ 5 ∷ []) ≡ false
  pub X_U2_R_D : is_way_up_from_X 2 (2 ∷ 0 ∷ 5 ∷ []) ≡ true
