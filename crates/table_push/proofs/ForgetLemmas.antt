-- Pushes forget what stood where they write.
use Rattle.std.proofs.Common.{ℕ, zero, suc, ◌+◌, ◌-◌, ◌==◌, ◌≡◌, ◌∙◌, ap, refl, sym, Bool, true, false, if◌then◌else◌, List, [], ◌∷◌, length, map, slice_get, unwrap_or}
use Rattle.std.proofs.Common.{Option, Some, None, option_map, arith}
use Rattle.std.specs.List.{range_with_len}
use Rattle.std.specs.Option.{option_and_then, option_map_or}
use Rattle.agent_rules.specs.declared.power_up.TheConstants.{LINEAR_TABLE}
use Rattle.std.specs.Prelude.{is_none}
use Rattle.std.proofs.lemmas.Bool.{false≢true}
use Rattle.attr_tables.specs.declared.port_info.PortInfo.{PortInfo}
use Rattle.lid_assign.specs.Lids.{lid_in}
use Rattle.port_model.specs.AdapterState.{AdapterState}
use Rattle.smp_wire.specs.FabricState.{FabricState}
use Rattle.smp_wire.specs.declared.node.Node.{Node}
use Rattle.smp_wire.specs.declared.node.Node.TheVariants.{Switch, Adapter}
use Rattle.sweep.specs.Graph.{GraphState}
use Rattle.sweep.specs.declared.graph.GraphPort.{GraphPort}
use Rattle.switch_model.specs.SwitchState.{SwitchState}
use Rattle.switch_model.specs.declared.switch_port.SwitchPort.{SwitchPort}
use Rattle.table_push.proofs.SetUpLemmas.{with_all}
use Rattle.table_push.specs.Forget.{PushesForget, PushesReplace, info_left, left_alone, table_left}
use Rattle.table_push.specs.Keys.{adapter_keys, attached_at, key_table, keys_of, keys_wanted, port_of, switch_keys}
use Rattle.table_push.specs.Linear.{linear_table, with_linear}
use Rattle.table_push.specs.Nodes.{infos_by, keys_by, numbered, switch_by}
use Rattle.table_push.specs.Ports.{change_wanted, changed, set_top, with_top}
use Rattle.table_push.specs.Pushed.{all_pushed}
use Rattle.table_push.specs.declared.ports.PortChange.{PortChange}
use Rattle.updn_routes.specs.Routes.{next_hop}
use Rattle.updn_routes.specs.Subnet.{RoutesState, place_of}

-- ---- lists
four : {X : Type 0} (k i l j : ℕ → X → X) (first : ℕ) (xs : List X) → ((n : ℕ) (x : X) → k n (i n (l n (j n x))) ≡ k n (i n x))
    → numbered k first (numbered i first (numbered l first (numbered j first xs))) ≡ numbered k first (numbered i first xs)
four k i l j first [] same = refl
four k i l j first (x ∷ xs) same =
    let head = same first x in
    let tail = four k i l j (first + 1) xs same in
    λ place. head place ∷ tail place

seven : (a b c d e f g : Node → Node) (nodes : List Node) → ((node : Node) → a (b (c (d (e (f (g node)))))) ≡ a (b (c (d node))))
    → map a (map b (map c (map d (map e (map f (map g nodes)))))) ≡ map a (map b (map c (map d nodes)))
seven a b c d e f g [] same = refl
seven a b c d e f g (node ∷ nodes) same =
    let head = same node in
    let tail = seven a b c d e f g nodes same in
    λ place. head place ∷ tail place

-- ---- a change before the pushes that they write over
module _ (routes : RoutesState) (keys : List (List ℕ)) (info : ℕ → ℕ → PortInfo → PortInfo) (table : ℕ → ℕ → List ℕ → List ℕ)
    (linear : ℕ → List ℕ → List ℕ) (top : ℕ)
    (infos : (guid number : ℕ) (held : PortInfo)
    → changed (change_wanted routes guid number) (info guid number held) ≡ changed (change_wanted routes guid number) held)
    (tables : (guid number : ℕ) (held : List ℕ)
    → unwrap_or (keys_wanted routes keys guid number) (table guid number held) ≡ unwrap_or (keys_wanted routes keys guid number) held)
    (linears : (guid : ℕ) (held : List ℕ) → option_map_or (linear_table routes) (place_of routes.graph.switches guid) (linear guid held)
    ≡ option_map_or (linear_table routes) (place_of routes.graph.switches guid) held) where
  abbrev switch_changed : ℕ → SwitchState → SwitchState
  switch_changed guid held = record held { info = with_top top held.info; linear = linear guid held.linear }

  abbrev changed_before : Node → Node
  changed_before node = switch_by switch_changed (keys_by table (infos_by info node))

  node_forgets : (node : Node) → with_all routes keys (changed_before node) ≡ with_all routes keys node
  node_forgets (Switch held) =
      let ports =
      four (λ number (port : SwitchPort). record port { keys = unwrap_or (keys_wanted routes keys held.node_guid number) port.keys })
      (λ number (port : SwitchPort). record port { info = changed (change_wanted routes held.node_guid number) port.info })
      (λ number (port : SwitchPort). record port { keys = table held.node_guid number port.keys })
      (λ number (port : SwitchPort). record port { info = info held.node_guid number port.info }) 0 held.ports
      (λ number port. λ i. record port { keys = tables held.node_guid number port.keys i; info = infos held.node_guid number port.info i }) in
      let entries = linears held.node_guid held.linear in
      λ i. Switch (record held { info = with_top (length routes.lids) held.info; ports = ports i; linear = entries i })
  node_forgets (Adapter []) = refl
  node_forgets (Adapter (one ∷ rest)) =
      let ports =
      four (λ number (port : AdapterState). record port { keys = unwrap_or (keys_wanted routes keys one.node_guid number) port.keys })
      (λ number (port : AdapterState). record port { info = changed (change_wanted routes one.node_guid number) port.info })
      (λ number (port : AdapterState). record port { keys = table one.node_guid number port.keys })
      (λ number (port : AdapterState). record port { info = info one.node_guid number port.info }) 1 (one ∷ rest)
      (λ number port. λ i. record port { keys = tables one.node_guid number port.keys i; info = infos one.node_guid number port.info i }) in
      λ i. Adapter (ports i)

  forgets : (nodes : List Node)
      → map (switch_by (with_linear routes)) (map (keys_by (λ guid number held. unwrap_or (keys_wanted routes keys guid number) held))
      (map (switch_by (λ guid. set_top (length routes.lids))) (map (infos_by (λ guid number. changed (change_wanted routes guid number)))
      (map (switch_by switch_changed) (map (keys_by table) (map (infos_by info) nodes))))))
      ≡ map (switch_by (with_linear routes)) (map (keys_by (λ guid number held. unwrap_or (keys_wanted routes keys guid number) held))
      (map (switch_by (λ guid. set_top (length routes.lids))) (map (infos_by (λ guid number. changed (change_wanted routes guid number))) nodes)))
  forgets nodes =
      seven (switch_by (with_linear routes)) (keys_by (λ guid number held. unwrap_or (keys_wanted routes keys guid number) held))
      (switch_by (λ guid. set_top (length routes.lids))) (infos_by (λ guid number. changed (change_wanted routes guid number)))
      (switch_by switch_changed) (keys_by table) (infos_by info) nodes node_forgets

-- ---- what is left alone is enough
info_written : (lid : Option ℕ) (enforcement : Option Bool) (active : Bool) (held : PortInfo)
    → changed (record { lid = lid; enforcement = enforcement; active = active }) (info_left (record { lid = lid; enforcement = enforcement; active = active }) held)
    ≡ changed (record { lid = lid; enforcement = enforcement; active = active }) held
info_written None None true held = refl
info_written None None false held = refl
info_written None (Some on) true held = refl
info_written None (Some on) false held = refl
info_written (Some lid) None true held = refl
info_written (Some lid) None false held = refl
info_written (Some lid) (Some on) true held = refl
info_written (Some lid) (Some on) false held = refl

table_written : (wanted : Option (List ℕ)) (held : List ℕ) → unwrap_or wanted (table_left wanted held) ≡ unwrap_or wanted held
table_written None held = refl
table_written (Some table) held = refl

linear_written : (routes : RoutesState) (place : Option ℕ) (held : List ℕ)
    → option_map_or (linear_table routes) place (table_left place held) ≡ option_map_or (linear_table routes) place held
linear_written routes None held = refl
linear_written routes (Some place) held = refl

pushed_from_left : (routes : RoutesState) (keys : List (List ℕ)) (fabric : FabricState)
    → all_pushed routes keys (left_alone routes keys fabric) ≡ all_pushed routes keys fabric
pushed_from_left routes keys fabric =
    let nodes =
    forgets routes keys (λ guid number. info_left (change_wanted routes guid number)) (λ guid number. table_left (keys_wanted routes keys guid number))
    (λ guid. table_left (place_of routes.graph.switches guid)) 0
    (λ guid number held. let change = change_wanted routes guid number in info_written change.lid change.enforcement change.active held)
    (λ guid number held. table_written (keys_wanted routes keys guid number) held)
    (λ guid held. linear_written routes (place_of routes.graph.switches guid) held) fabric.nodes in
    λ i. record fabric { nodes = nodes i }

pub pushes_forget : PushesForget
pushes_forget routes keys one other same =
    sym (pushed_from_left routes keys one) ∙ ap (all_pushed routes keys) same ∙ pushed_from_left routes keys other

-- ---- an earlier push
three : (a b c d e f g : Node → Node) (nodes : List Node) → ((node : Node) → a (b (c (d node))) ≡ e (f (g node)))
    → map a (map b (map c (map d nodes))) ≡ map e (map f (map g nodes))
three a b c d e f g [] same = refl
three a b c d e f g (node ∷ nodes) same =
    let head = same node in
    let tail = three a b c d e f g nodes same in
    λ place. head place ∷ tail place

changed_twice : (lid : Option ℕ) (enforcement : Option Bool) (active : Bool) (held : PortInfo)
    → changed (record { lid = lid; enforcement = enforcement; active = active }) (changed (record { lid = lid; enforcement = enforcement; active = active }) held)
    ≡ changed (record { lid = lid; enforcement = enforcement; active = active }) held
changed_twice None None true held = refl
changed_twice None None false held = refl
changed_twice None (Some on) true held = refl
changed_twice None (Some on) false held = refl
changed_twice (Some lid) None true held = refl
changed_twice (Some lid) None false held = refl
changed_twice (Some lid) (Some on) true held = refl
changed_twice (Some lid) (Some on) false held = refl

-- ---- where keys are given
abbrev Alike : Option (List ℕ) → Option (List ℕ) → Type 0
Alike one other = is_none one ≡ is_none other

alike_map : (f : List ℕ → List ℕ) (one other : Option (List ℕ)) → Alike one other → Alike (option_map f one) (option_map f other)
alike_map f None None same = same
alike_map f None (Some x) same = same
alike_map f (Some x) None same = same
alike_map f (Some x) (Some y) same = same

alike_at : (held keys : List (List ℕ)) (k : ℕ) → length held ≡ length keys → Alike (slice_get held k) (slice_get keys k)
alike_at [] [] k long = refl
alike_at [] (y ∷ keys) k long = absurd (omega (arith, long))
alike_at (x ∷ held) [] k long = absurd (omega (arith, long))
alike_at (x ∷ held) (y ∷ keys) zero long = refl
alike_at (x ∷ held) (y ∷ keys) (suc k) long = alike_at held keys k (omega (arith, long))

module _ (routes : RoutesState) (held keys : List (List ℕ)) (long : length held ≡ length keys) where
  alike_of : (guid : ℕ) → Alike (keys_of routes held guid) (keys_of routes keys guid)
  alike_of guid = by (lid_in routes.lids guid)
    where
      by : (o : Option ℕ) → Alike (option_and_then (λ lid. slice_get held (lid - 1)) o) (option_and_then (λ lid. slice_get keys (lid - 1)) o)
      by None = refl
      by (Some lid) = alike_at held keys (lid - 1) long

  alike_hung : (full : Bool) (o : Option GraphPort)
      → Alike (option_and_then (λ one. option_map (key_table full) (keys_of routes held one.port_guid)) o)
      (option_and_then (λ one. option_map (key_table full) (keys_of routes keys one.port_guid)) o)
  alike_hung full None = refl
  alike_hung full (Some one) = alike_map (key_table full) _ _ (alike_of one.port_guid)

  alike_switch : (guid place number : ℕ) → Alike (switch_keys routes held guid place number) (switch_keys routes keys guid place number)
  alike_switch guid place number = by (number == 0)
    where
      by : (b : Bool)
          → Alike (if b then option_map (key_table false) (keys_of routes held guid)
          else option_and_then (λ one. option_map (key_table true) (keys_of routes held one.port_guid)) (attached_at routes.graph.ports place number))
          (if b then option_map (key_table false) (keys_of routes keys guid)
          else option_and_then (λ one. option_map (key_table true) (keys_of routes keys one.port_guid)) (attached_at routes.graph.ports place number))
      by true = alike_map (key_table false) _ _ (alike_of guid)
      by false = alike_hung true (attached_at routes.graph.ports place number)

  alike_wanted : (guid number : ℕ) → Alike (keys_wanted routes held guid number) (keys_wanted routes keys guid number)
  unfolding keys_wanted
  alike_wanted guid number = by (place_of routes.graph.switches guid)
    where
      by : (o : Option ℕ)
          → Alike (option_map_or (λ place. switch_keys routes held guid place number) o (adapter_keys routes held guid number))
          (option_map_or (λ place. switch_keys routes keys guid place number) o (adapter_keys routes keys guid number))
      by None = alike_hung false (port_of routes.graph.ports guid number)
      by (Some place) = alike_switch guid place number

-- the routes of one graph, by the same LIDs, want the same of ports
module _ (routes before : RoutesState) (graph : before.graph ≡ routes.graph) (lids : before.lids ≡ routes.lids) where
  same_change : (guid number : ℕ) → change_wanted before guid number ≡ change_wanted routes guid number
  unfolding change_wanted
  same_change guid number = λ i. change_wanted (record { graph = graph i; lids = lids i; between = routes.between }) guid number

  same_keys : (keys : List (List ℕ)) (guid number : ℕ) → keys_wanted before keys guid number ≡ keys_wanted routes keys guid number
  unfolding keys_wanted
  same_keys keys guid number = λ i. keys_wanted (record { graph = graph i; lids = lids i; between = routes.between }) keys guid number

table_twice : (one other : Option (List ℕ)) (held : List ℕ) → Alike one other → unwrap_or other (unwrap_or one held) ≡ unwrap_or other held
table_twice None None held same = refl
table_twice None (Some table) held same = refl
table_twice (Some table) None held same = absurd (false≢true same)
table_twice (Some table) (Some other) held same = refl

linear_twice : (routes before : RoutesState) (place : Option ℕ) (held : List ℕ)
    → option_map_or (linear_table routes) place (option_map_or (linear_table before) place held) ≡ option_map_or (linear_table routes) place held
linear_twice routes before None held = refl
linear_twice routes before (Some place) held = refl

pub pushes_replace : PushesReplace
pushes_replace routes before keys held fabric graph lids long = ap (all_pushed routes keys) in_order ∙ over_it
  where
    reported : ℕ → ℕ → PortInfo → PortInfo
    reported guid number = changed (change_wanted before guid number)

    table : ℕ → ℕ → List ℕ → List ℕ
    table guid number own = unwrap_or (keys_wanted before held guid number) own

    linear : ℕ → List ℕ → List ℕ
    linear guid own = option_map_or (linear_table before) (place_of before.graph.switches guid) own

    switch : ℕ → SwitchState → SwitchState
    switch guid state = record state { info = with_top (length before.lids) state.info; linear = linear guid state.linear }

    one_node : (node : Node)
        → switch_by (with_linear before) (keys_by table (switch_by (λ guid. set_top (length before.lids)) (infos_by reported node)))
        ≡ switch_by switch (keys_by table (infos_by reported node))
    one_node (Switch state) = refl
    one_node (Adapter ports) = refl

    in_order : all_pushed before held fabric
        ≡ record fabric { nodes = map (switch_by switch) (map (keys_by table) (map (infos_by reported) fabric.nodes)) }
    in_order =
        let nodes =
        three (switch_by (with_linear before)) (keys_by table) (switch_by (λ guid. set_top (length before.lids))) (infos_by reported)
        (switch_by switch) (keys_by table) (infos_by reported) fabric.nodes one_node in
        λ i. record fabric { nodes = nodes i }

    infos : (guid number : ℕ) (own : PortInfo)
        → changed (change_wanted routes guid number) (reported guid number own) ≡ changed (change_wanted routes guid number) own
    infos guid number own =
        let change = change_wanted routes guid number in
        ap (λ (was : PortChange). changed change (changed was own)) (same_change routes before graph lids guid number)
        ∙ changed_twice change.lid change.enforcement change.active own

    tables : (guid number : ℕ) (own : List ℕ)
        → unwrap_or (keys_wanted routes keys guid number) (table guid number own) ≡ unwrap_or (keys_wanted routes keys guid number) own
    tables guid number own =
        table_twice (keys_wanted before held guid number) (keys_wanted routes keys guid number) own
        (ap is_none (same_keys routes before graph lids held guid number) ∙ alike_wanted routes held keys long guid number)

    linears : (guid : ℕ) (own : List ℕ) → option_map_or (linear_table routes) (place_of routes.graph.switches guid) (linear guid own)
        ≡ option_map_or (linear_table routes) (place_of routes.graph.switches guid) own
    linears guid own =
        ap (λ (g : GraphState). option_map_or (linear_table routes) (place_of routes.graph.switches guid)
        (option_map_or (linear_table before) (place_of g.switches guid) own)) graph
        ∙ linear_twice routes before (place_of routes.graph.switches guid) own

    over_it : all_pushed routes keys (record fabric { nodes = map (switch_by switch) (map (keys_by table) (map (infos_by reported) fabric.nodes)) })
        ≡ all_pushed routes keys fabric
    over_it =
        let nodes = forgets routes keys reported table linear (length before.lids) infos tables linears fabric.nodes in
        λ i. record fabric { nodes = nodes i }

-- ---- one table
-- of two switches that have the same next hops, by routes each
pub same_table : (one other : RoutesState) (k m : ℕ) → ((lid : ℕ) → next_hop other.between m lid ≡ next_hop one.between k lid)
    → linear_table other m ≡ linear_table one k
same_table one other k m hops = λ i. map (λ lid. unwrap_or (hops lid i) 255) (range_with_len 0 LINEAR_TABLE)
