-- What a switch does with a LID, by the row of its table.
use Rattle.std.proofs.Common.{ℕ, ◌≡◌, ◌≢◌, ◌==◌, ◌∙◌, ap, refl, sym, Bool, true, false, List, [], ◌∷◌, Option, Some, None}
use Rattle.std.proofs.lemmas.Bool.{eq-eqb, eqb-false, eqb-true, false≢true, ne_eqb}
use Rattle.std.proofs.lemmas.Option.{same_Some}
use Rattle.dump_file.specs.declared.row.Row.{Row}
use Rattle.dump_file.specs.declared.table.Table.{Table}
use Rattle.fabric_parts.specs.Cable.{far_end, port}
use Rattle.fabric_parts.specs.declared.cable.PortRef.{PortRef}
use Rattle.topo_file.specs.Node.{is_switch_at, ports_at}
use Rattle.audit_loops.specs.Channels.{leaves_by}
use Rattle.audit_net.specs.Following.{end_from, turn, turn_to}
use Rattle.audit_net.specs.Laws.{IsWay}
use Rattle.audit_net.specs.Net.{NetState, may_lack, row_of, table_at}
use Rattle.joint_laws.specs.RouteLaws.{comes_to}
use Rattle.joint_laws.specs.Shown.{HasRow}

-- ---- rows
pub one_row : (net : NetState) (place lid a b : ℕ) → HasRow net place lid a → HasRow net place lid b → a ≡ b
one_row net place lid a b one other =
    let table = same_Some one.table other.table (sym one.there ∙ other.there) in
    let row = same_Some one.row other.row (sym one.found ∙ ap (λ (t : Table). row_of lid t.rows) table ∙ other.found) in
    sym one.is ∙ ap (λ (r : Row). r.port) row ∙ other.is

pub record Leaves (net : NetState) (place lid number : ℕ) : Type 0 where
  pub has : HasRow net place lid number
  pub some : number ≢ 255

-- what leaves by a port has a row
pub leaves : (net : NetState) (place lid number : ℕ) → leaves_by net (port place number) lid ≡ true → Leaves net place lid number
leaves net place lid number out = by (table_at net place) refl
  where
    by_port : (table : Table) (row : Row) → table_at net place ≡ Some table → row_of lid table.rows ≡ Some row → (b : Bool) → (row.port == 255) ≡ b
        → Leaves net place lid number
    by_port table row there found true top = let gone = rw (there, found, top) at out in absurd (false≢true gone)
    by_port table row there found false top =
        let is = rw (there, found, top) at out in
        let same : row.port ≡ number = eqb-true row.port number is in
        record { has = record { table = table; row = row; there = there; found = found; is = same }; some = λ none. eqb-false row.port 255 top (same ∙ none) }

    by_left : (table : Table) → table_at net place ≡ Some table → row_of lid table.rows ≡ None → (b : Bool) → may_lack (ports_at net.plan.nodes place) table lid ≡ b
        → Leaves net place lid number
    by_left table there found true left = let gone = rw (there, found, left) at out in absurd (false≢true gone)
    by_left table there found false left = let gone = rw (there, found, left) at out in absurd (false≢true gone)

    by_row : (table : Table) → table_at net place ≡ Some table → (o : Option Row) → row_of lid table.rows ≡ o → Leaves net place lid number
    by_row table there (Some row) found = by_port table row there found (row.port == 255) refl
    by_row table there None found = by_left table there found (may_lack (ports_at net.plan.nodes place) table lid) refl

    by : (o : Option Table) → table_at net place ≡ o → Leaves net place lid number
    by (Some table) there = by_row table there (row_of lid table.rows) refl
    by None there = let gone = rw there at out in absurd (false≢true gone)

-- ---- turns
pub own_way : (net : NetState) (node lid : ℕ) → HasRow net node lid 0 → IsWay net lid node [] (turn net lid node)
own_way net node lid has = (refl, λ next same. let turned = rw (has.there, has.found, has.is) at same in cc)

module _ (net : NetState) (node lid number : ℕ) (there : PortRef) (has : HasRow net node lid number) (some : number ≢ 255) (out : number ≢ 0)
    (cable : far_end net.plan.cables (port node number) ≡ Some there) where
  turn_is : turn net lid node ≡ turn_to net number (Some there)
  turn_is = rw (has.there, has.found, has.is, ne_eqb number 255 some, ne_eqb number 0 out, cable) refl

  pub goes_on : is_switch_at net.plan.nodes there.node ≡ true → (d : ℕ) (way : List ℕ) → IsWay net lid there.node way (turn net lid d)
      → IsWay net lid node (there.node ∷ way) (turn net lid d)
  goes_on switch d way later = (turn_is ∙ (rw switch refl), later)

  pub far_way : is_switch_at net.plan.nodes there.node ≡ false → IsWay net lid node [] (turn net lid node)
  far_way adapter = (refl, λ next same. let turned = rw adapter at (sym turn_is ∙ same) in cc)

  pub comes_far : is_switch_at net.plan.nodes there.node ≡ false → (from : ℕ) → end_from net lid from ≡ Some (turn net lid node)
      → comes_to net from lid there ≡ true
  comes_far adapter from reported = rw (reported, turn_is, adapter, eq-eqb there.node there.node refl, eq-eqb there.port there.port refl) refl

pub comes_own : (net : NetState) (node lid : ℕ) → HasRow net node lid 0 → (from : ℕ) → end_from net lid from ≡ Some (turn net lid node)
    → comes_to net from lid (port node 0) ≡ true
comes_own net node lid has from reported = rw (reported, has.there, has.found, has.is, eq-eqb node node refl) refl
