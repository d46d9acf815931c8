-- A graph of which a cable is cut or mended is a graph.
use Rattle.std.proofs.Common.{◌≡◌, ℕ, ◌<◌, Bool, true, false, not, ◌==◌, ◌&&◌, ◌||◌, nat_le, List, [], length, get_or}
use Rattle.std.proofs.Common.{refl, ap, sym, ◌∙◌, arith}
use Rattle.std.specs.List.{list_all, list_any}
use Rattle.std.proofs.lemmas.Bool.{and_from, and_parts, eqb-true, eq-eqb, false≢true, leb-true, not-true}
use Rattle.std.proofs.lemmas.Bool.Decides.{nat_tests}
use Rattle.fabric_parts.specs.Cable.{is_same_port, port}
use Rattle.fabric_parts.specs.declared.cable.PortRef.{PortRef}
use Rattle.smp_wire.proofs.CableLemmas.{itself, same_port}
use Rattle.sweep.specs.Graph.{GraphState, IsGraph, count_at, is_linked, is_right_link, is_right_row, is_switch_port, rise_above}
use Rattle.sweep.specs.Recabled.{MayBeCabled, is_free, leaves_by, links_with, row_with, row_without, rows_with, rows_without, with_cable, without}
use Rattle.sweep.specs.declared.graph.GraphLink.{GraphLink}
use Rattle.sweep.proofs.JoinedLemmas.{at_each, some_in}
use Rattle.sweep.proofs.RowLemmas.{all_kept, all_put, any_kept, count_within, linked_once, made_long, made_there, one_put, rise_kept, row_within, still_there, with_rises}
use Rattle.sweep.proofs.WholeLemmas.{places_all}

-- ---- the rows of a graph
module _ (graph : GraphState) (is : IsGraph graph) where
  pub right_row : (k : ℕ) → k < length graph.rows → is_right_row graph.switches graph.rows k ≡ true
  right_row k within = at_each (is_right_row graph.switches graph.rows) 0 (length graph.rows) k is.rows (omega arith) (omega (arith, within))

  pub row_rises : (k : ℕ) → k < length graph.rows → rise_above 0 (get_or graph.rows k []) ≡ true
  row_rises k within = (and_parts (rise_above 0 (get_or graph.rows k [])) _ (right_row k within)).0

  pub row_right : (k : ℕ) → k < length graph.rows → list_all (is_right_link graph.switches graph.rows k) (get_or graph.rows k []) ≡ true
  row_right k within = (and_parts (rise_above 0 (get_or graph.rows k [])) _ (right_row k within)).1

  -- each link leads back
  pub linked_back : (a b : PortRef) → is_linked graph.rows a b ≡ true → is_linked graph.rows b a ≡ true
  linked_back a b linked =
      let test = λ (link : GraphLink). (link.port == a.port) && is_same_port link.to b in
      let within = row_within test graph.rows a.node linked in
      let one = some_in (λ (link : GraphLink). link.port) test (is_right_link graph.switches graph.rows a.node) (get_or graph.rows a.node []) (row_right a.node within) linked in
      let passes = and_parts (one.0.port == a.port) _ one.1 in
      let number = eqb-true one.0.port a.port passes.0 in
      let end = same_port one.0.to b passes.1 in
      let right = (and_parts (nat_le one.0.port (count_at graph.switches a.node)) _ one.2).1 in
      let back = (and_parts (not (one.0.to.node == a.node)) _ right).1 in
      ap (λ (to : PortRef). is_linked graph.rows to (port a.node a.port)) (sym end)
      ∙ (ap (λ (n : ℕ). is_linked graph.rows one.0.to (port a.node n)) (sym number) ∙ back)

  -- a port has one link
  pub one_end : (a x y : PortRef) → is_linked graph.rows a x ≡ true → is_linked graph.rows a y ≡ true → x ≡ y
  one_end a x y one other =
      let test = λ (link : GraphLink). (link.port == a.port) && is_same_port link.to x in
      linked_once 0 a.port x y (get_or graph.rows a.node []) (row_rises a.node (row_within test graph.rows a.node one)) one other

-- ---- a cable cut
module _ (graph : GraphState) (is : IsGraph graph) (a b : PortRef) (linked : is_linked graph.rows a b ≡ true) where
  pub row_cut : (k : ℕ) → k < length graph.rows → get_or (rows_without a b graph.rows) k [] ≡ row_without a b k (get_or graph.rows k [])
  row_cut k within = made_there (row_without a b) graph.rows k within

  abbrev kept : ℕ → GraphLink → Bool
  kept k link = not (leaves_by k a link || leaves_by k b link)

  -- a link that stays leads back still
  still_back : (k : ℕ) (link : GraphLink) → kept k link ≡ true → is_linked graph.rows link.to (port k link.port) ≡ true
      → is_linked (rows_without a b graph.rows) link.to (port k link.port) ≡ true
  still_back k link stays back =
      let test = λ (l : GraphLink). (l.port == link.to.port) && is_same_port l.to (port k link.port) in
      let within = row_within test graph.rows link.to.node back in
      ap (list_any test) (row_cut link.to.node within)
      ∙ any_kept (kept link.to.node) test (λ l passes. by l passes (leaves_by link.to.node a l) (leaves_by link.to.node b l) refl refl) (get_or graph.rows link.to.node []) back
    where
      at : (l : GraphLink) (x y : PortRef) → ((l.port == link.to.port) && is_same_port l.to (port k link.port)) ≡ true → leaves_by link.to.node x l ≡ true
          → is_linked graph.rows x y ≡ true → port k link.port ≡ y
      at l x y passes leaves to =
          let parts = and_parts (link.to.node == x.node) _ leaves in
          let node = eqb-true link.to.node x.node parts.0 in
          let number = eqb-true l.port x.port parts.1 in
          let same = eqb-true l.port link.to.port (and_parts (l.port == link.to.port) _ passes).0 in
          let x_is : link.to ≡ x = same_port link.to x (and_from (link.to.node == x.node) _ parts.0 (eq-eqb link.to.port x.port (sym same ∙ number))) in
          one_end graph is x (port k link.port) y (ap (λ (p : PortRef). is_linked graph.rows p (port k link.port)) (sym x_is) ∙ back) to

      gone : (x : PortRef) → port k link.port ≡ x → leaves_by k x link ≡ true
      gone x same = ap (λ (p : PortRef). leaves_by k p link) (sym same) ∙ and_from (k == k) _ (eq-eqb k k refl) (eq-eqb link.port link.port refl)

      stays_so : (x y : Bool) → not (x || y) ≡ true → (x ≡ false) × (y ≡ false)
      stays_so false false h = (refl, refl)
      stays_so false true h = absurd (false≢true h)
      stays_so true y h = absurd (false≢true h)

      neither : (leaves_by k a link ≡ false) × (leaves_by k b link ≡ false)
      neither = stays_so (leaves_by k a link) (leaves_by k b link) stays

      by : (l : GraphLink) → ((l.port == link.to.port) && is_same_port l.to (port k link.port)) ≡ true → (x y : Bool)
          → leaves_by link.to.node a l ≡ x → leaves_by link.to.node b l ≡ y → kept link.to.node l ≡ true
      by l passes true y x_is y_is = absurd (false≢true (sym neither.1 ∙ gone b (at l a b passes x_is linked)))
      by l passes false true x_is y_is = absurd (false≢true (sym neither.0 ∙ gone a (at l b a passes y_is (linked_back graph is a b linked))))
      by l passes false false x_is y_is = rw (x_is, y_is) refl

  right_still : (k : ℕ) (link : GraphLink) → kept k link ≡ true → is_right_link graph.switches graph.rows k link ≡ true
      → is_right_link graph.switches (rows_without a b graph.rows) k link ≡ true
  right_still k link stays right =
      let one = and_parts (nat_le link.port (count_at graph.switches k)) _ right in
      let two = and_parts (not (link.to.node == k)) _ one.1 in
      and_from _ _ one.0 (and_from _ _ two.0 (still_back k link stays two.1))

  right_cut : (k : ℕ) → k < length graph.rows → is_right_row graph.switches (rows_without a b graph.rows) k ≡ true
  right_cut k within =
      rw (row_cut k within) (and_from _ _ (rise_kept (kept k) 0 (get_or graph.rows k []) (row_rises graph is k within))
      (all_kept (kept k) (is_right_link graph.switches graph.rows k) (is_right_link graph.switches (rows_without a b graph.rows) k)
      (right_still k) (get_or graph.rows k []) (row_right graph is k within)))

  pub cut_is_graph : IsGraph (without a b graph)
  cut_is_graph =
      let long = made_long (row_without a b) 0 graph.rows in
      record {
        few_switches = is.few_switches;
        few_ports = is.few_ports;
        switches = is.switches;
        a_row_each = long ∙ is.a_row_each;
        rows = places_all (is_right_row graph.switches (rows_without a b graph.rows)) 0 (length (rows_without a b graph.rows))
            (λ k from to. right_cut k (omega (arith, to, long)));
        ports = is.ports;
        agree = is.agree;
        guids = is.guids;
        manager_there = is.manager_there;
      }

-- ---- a cable mended
module _ (graph : GraphState) (is : IsGraph graph) (a b : PortRef) (may : MayBeCabled graph a b) where
  pub row_mended : (k : ℕ) → k < length graph.rows → get_or (rows_with a b graph.rows) k [] ≡ row_with a b k (get_or graph.rows k [])
  row_mended k within = made_there (row_with a b) graph.rows k within

  free : (x : PortRef) → is_free graph.rows x ≡ true → list_any (λ link. link.port == x.port) (get_or graph.rows x.node []) ≡ false
  free x h = not-true _ h

  port_within : (x : PortRef) → is_switch_port graph.switches x ≡ true → x.node < length graph.rows
  port_within x h =
      let parts = and_parts (nat_le 1 x.port) (nat_le x.port (count_at graph.switches x.node)) h in
      let from = leb-true 1 x.port parts.0 in
      let to = leb-true x.port (count_at graph.switches x.node) parts.1 in
      let less = count_within graph.switches x.node (omega (arith, from, to)) in
      let each = is.a_row_each in
      omega (arith, less, each)

  -- what becomes of a row, by which switch has it
  pub rows_by : (P : List GraphLink → Type 0) (k : ℕ) (links : List GraphLink) → (k ≡ a.node → P (links_with a.port b links))
      → (k ≡ b.node → P (links_with b.port a links)) → P links → P (row_with a b k links)
  rows_by P k links one other same = by (k == a.node) (k == b.node) refl refl
    where
      by : (x y : Bool) → (k == a.node) ≡ x → (k == b.node) ≡ y → P (row_with a b k links)
      by true y x_is y_is = rw x_is (one (eqb-true k a.node x_is))
      by false true x_is y_is = rw (x_is, y_is) (other (eqb-true k b.node y_is))
      by false false x_is y_is = rw (x_is, y_is) same

  kept_free : (x : PortRef) (k : ℕ) → k ≡ x.node → is_free graph.rows x ≡ true → list_any (λ link. link.port == x.port) (get_or graph.rows k []) ≡ false
  kept_free x k same h = ap (λ (n : ℕ). list_any (λ link. link.port == x.port) (get_or graph.rows n [])) same ∙ free x h

  still_linked : (at to : PortRef) → is_linked graph.rows at to ≡ true → is_linked (rows_with a b graph.rows) at to ≡ true
  still_linked at to there =
      let test = λ (link : GraphLink). (link.port == at.port) && is_same_port link.to to in
      ap (list_any test) (row_mended at.node (row_within test graph.rows at.node there))
      ∙ rows_by (λ links. list_any test links ≡ true) at.node (get_or graph.rows at.node [])
      (λ same. still_there a.port b test (get_or graph.rows at.node []) (kept_free a at.node same may.first_free) there)
      (λ same. still_there b.port a test (get_or graph.rows at.node []) (kept_free b at.node same may.second_free) there)
      there

  right_still_with : (k : ℕ) (link : GraphLink) → is_right_link graph.switches graph.rows k link ≡ true
      → is_right_link graph.switches (rows_with a b graph.rows) k link ≡ true
  right_still_with k link right =
      let one = and_parts (nat_le link.port (count_at graph.switches k)) _ right in
      let two = and_parts (not (link.to.node == k)) _ one.1 in
      and_from _ _ one.0 (and_from _ _ two.0 (still_linked link.to (port k link.port) two.1))

  other : (b.node == a.node) ≡ false
  other = let h = may.apart in flip a.node b.node h
    where
      flip : (n m : ℕ) → (n == m) ≡ false → (m == n) ≡ false
      flip n m h = grind (arith, nat_tests, h)

  linked_first : is_linked (rows_with a b graph.rows) a b ≡ true
  linked_first =
      ap (list_any test) (row_mended a.node (port_within a may.first))
      ∙ rw (eq-eqb a.node a.node refl) (one_put a.port b test (get_or graph.rows a.node []) (and_from _ _ (eq-eqb a.port a.port refl) (itself b)))
    where
      test : GraphLink → Bool
      test link = (link.port == a.port) && is_same_port link.to b

  linked_second : is_linked (rows_with a b graph.rows) b a ≡ true
  linked_second =
      ap (list_any test) (row_mended b.node (port_within b may.second))
      ∙ rw (other, eq-eqb b.node b.node refl) (one_put b.port a test (get_or graph.rows b.node []) (and_from _ _ (eq-eqb b.port b.port refl) (itself a)))
    where
      test : GraphLink → Bool
      test link = (link.port == b.port) && is_same_port link.to a

  most : (x : PortRef) → is_switch_port graph.switches x ≡ true → nat_le x.port (count_at graph.switches x.node) ≡ true
  most x h = (and_parts (nat_le 1 x.port) _ h).1

  from_one : (x : PortRef) → is_switch_port graph.switches x ≡ true → 0 < x.port
  from_one x h = let from = leb-true 1 x.port (and_parts (nat_le 1 x.port) _ h).0 in omega (arith, from)

  right_first : is_right_link graph.switches (rows_with a b graph.rows) a.node (record { port = a.port; to = b }) ≡ true
  right_first = and_from _ _ (most a may.first) (and_from _ _ (rw other refl) linked_second)

  right_second : is_right_link graph.switches (rows_with a b graph.rows) b.node (record { port = b.port; to = a }) ≡ true
  right_second = and_from _ _ (most b may.second) (and_from _ _ (rw may.apart refl) linked_first)

  right_mended : (k : ℕ) → k < length graph.rows → is_right_row graph.switches (rows_with a b graph.rows) k ≡ true
  right_mended k within =
      rw (row_mended k within) (and_from _ _
      (rows_by (λ links. rise_above 0 links ≡ true) k (get_or graph.rows k [])
      (λ same. with_rises a.port 0 b (get_or graph.rows k []) (from_one a may.first) rises)
      (λ same. with_rises b.port 0 a (get_or graph.rows k []) (from_one b may.second) rises) rises)
      (rows_by (λ links. list_all (is_right_link graph.switches (rows_with a b graph.rows) k) links ≡ true) k (get_or graph.rows k [])
      (λ same. put a.port b (ap (λ (n : ℕ). is_right_link graph.switches (rows_with a b graph.rows) n (record { port = a.port; to = b })) same ∙ right_first))
      (λ same. put b.port a (ap (λ (n : ℕ). is_right_link graph.switches (rows_with a b graph.rows) n (record { port = b.port; to = a })) same ∙ right_second))
      (Rattle.step_results.proofs.ListLemmas.list_all_weaker (is_right_link graph.switches graph.rows k) (is_right_link graph.switches (rows_with a b graph.rows) k)
      (right_still_with k) (get_or graph.rows k []) (row_right graph is k within))))
    where
      rises : rise_above 0 (get_or graph.rows k []) ≡ true
      rises = row_rises graph is k within

      put : (number : ℕ) (to : PortRef) → is_right_link graph.switches (rows_with a b graph.rows) k (record { port = number; to = to }) ≡ true
          → list_all (is_right_link graph.switches (rows_with a b graph.rows) k) (links_with number to (get_or graph.rows k [])) ≡ true
      put number to it =
          all_put number to (is_right_link graph.switches graph.rows k) (is_right_link graph.switches (rows_with a b graph.rows) k) (right_still_with k)
          (get_or graph.rows k []) (row_right graph is k within) it

  pub mended_is_graph : IsGraph (with_cable a b graph)
  mended_is_graph =
      let long = made_long (row_with a b) 0 graph.rows in
      record {
        few_switches = is.few_switches;
        few_ports = is.few_ports;
        switches = is.switches;
        a_row_each = long ∙ is.a_row_each;
        rows = places_all (is_right_row graph.switches (rows_with a b graph.rows)) 0 (length (rows_with a b graph.rows))
            (λ k from to. right_mended k (omega (arith, to, long)));
        ports = is.ports;
        agree = is.agree;
        guids = is.guids;
        manager_there = is.manager_there;
      }
