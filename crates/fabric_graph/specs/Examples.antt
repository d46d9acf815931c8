-- Which pictures are crowded, colours, and lists of adapters, in examples.
use Rattle.std.specs.Prelude.{ℕ, ◌≡◌, true, false, List, [], ◌∷◌, codes, Option, Some, None}
use Rattle.fabric_graph.specs.Cables.{is_crowded}
use Rattle.fabric_graph.specs.Lists.{AttachmentState, drawn_at, is_listed}
use Rattle.fabric_graph.specs.Partitions.{colour, styled_fill}

-- ---- the numbers of ports are at the ends of 200 cables, and not of 201
pub record ManyCablesAreACrowd : Type 0 where
  pub labelled : is_crowded 200 ≡ false
  pub crowded : is_crowded 201 ≡ true

-- ---- there are twelve colours: the thirteenth partition has that of the first
pub record ColoursAreRepeated : Type 0 where
  pub first : colour 1 ≡ codes "/set312/1"
  pub twelfth : colour 12 ≡ codes "/set312/12"
  pub thirteenth : colour 13 ≡ codes "/set312/1"
  pub of_three : styled_fill (2 ∷ 12 ∷ 14 ∷ []) ≡ codes ", style=wedged, fillcolor=\"/set312/2:/set312/12:/set312/2\""

-- ---- three adapters are drawn one by one, and four are a list at the place of the first, if they are in the same partitions
abbrev pub on_port : ℕ → Option AttachmentState
on_port number = Some (record { switch = 0; port = number; partitions = 1 ∷ [] })

abbrev pub three : List (Option AttachmentState)
three =
    None ∷ on_port 1 ∷ on_port 2 ∷ on_port 3 ∷ Some (record { switch = 0; port = 4; partitions = [] })
    ∷ Some (record { switch = 9; port = 5; partitions = 1 ∷ [] }) ∷ []

abbrev pub four : List (Option AttachmentState)
four = None ∷ on_port 1 ∷ on_port 2 ∷ None ∷ on_port 3 ∷ on_port 4 ∷ []

pub record FewAdaptersMakeNoList : Type 0 where
  pub of_three : is_listed three 2 ≡ false
  pub one_by_one : drawn_at three 2 ≡ 2 ∷ []
  pub of_four : is_listed four 2 ≡ true
  pub at_first : drawn_at four 1 ≡ 1 ∷ 2 ∷ 4 ∷ 5 ∷ []
  pub at_others : drawn_at four 2 ≡ []
