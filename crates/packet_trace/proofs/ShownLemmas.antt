-- The trace of a unicast packet has a step at each port where that comes in, and at no other.
use Rattle.std.proofs.Common.{ℕ, zero, suc, ◌+◌, ◌*◌, ◌≡◌, ◌||◌, ◌<◌, ◌⊎◌, ◌∙◌, not, inl, inr, ap, refl, sym, subst, append-nil, append_assoc, arith, Bool, true, false, List, [], ◌∷◌, ◌++◌, flat_map, length, Option, Some, None}
use Rattle.std.specs.Prelude.{◌↔◌}
use Rattle.std.specs.List.{Contains, list_any}
use Rattle.std.specs.Option.{option_map_or}
use Rattle.std.proofs.lemmas.Bool.{and_from, cases_Bool, false≢true, not_from_false, or_cases, or_left, or_right}
use Rattle.std.proofs.lemmas.List.Elements.{Contains-append_cases, Contains-append_right}
use Rattle.std.proofs.lemmas.List.Folds.{list_any-append}
use Rattle.std.proofs.lemmas.Option.{none-some, same_Some}
use Rattle.data_packet.specs.declared.packet.Packet.{Packet}
use Rattle.fabric_parts.specs.Cable.{is_same_port}
use Rattle.fabric_parts.specs.Lid.{is_multicast}
use Rattle.fabric_parts.specs.declared.cable.PortRef.{PortRef}
use Rattle.packet_trace.proofs.DeliveryLemmas.{at_first, in_one, leads_on, nothing_in, turns_lead}
use Rattle.packet_trace.proofs.EndLemmas.{AreAmong, AreAt, IsAmong, at_more, comes_to_an_end, few_among, is_new, one_more_among}
use Rattle.packet_trace.specs.Trace.{next_after, step, steps_from, turn_after, way_of}
use Rattle.packet_trace.specs.declared.turn.Step.{Step}
use Rattle.packet_trace.specs.declared.turn.Turn.{Turn}
use Rattle.smp_wire.proofs.WayLemmas.{to_next}
use Rattle.smp_wire.specs.Deliveries.{Goes}
use Rattle.smp_wire.specs.Unicast.{next_port}
use Rattle.step_results.proofs.DistinctLemmas.{all_differ}
use Rattle.smp_wire.proofs.CableLemmas.{count_ends, itself, same_port}
use Rattle.smp_wire.specs.FabricState.{FabricState}
use Rattle.smp_wire.specs.Good.{ends_of}

-- ---- ports of steps
abbrev came : List Step → PortRef → Bool
came steps p = list_any (λ one. is_same_port one.at p) steps

came_more : (before : List Step) (now : Step) (p : PortRef) → came (before ++ now ∷ []) p ≡ (came before p || is_same_port now.at p)
came_more before now p =
    list_any-append (λ one. is_same_port one.at p) before (now ∷ []) ∙ ap (λ (b : Bool). came before p || b) (alone (is_same_port now.at p))
  where
    alone : (b : Bool) → (b || false) ≡ b
    alone true = refl
    alone false = refl

listed : (steps : List Step) (at : PortRef) → came steps at ≡ true → (turn : Turn) × Contains steps (step at turn)
listed [] at is = absurd (false≢true is)
listed (one ∷ steps) at is = by (is_same_port one.at at) refl is (λ rest. listed steps at rest)
  where
    by : (b : Bool) → is_same_port one.at at ≡ b → (b || came steps at) ≡ true → (came steps at ≡ true → (turn : Turn) × Contains steps (step at turn))
        → (turn : Turn) × Contains (one ∷ steps) (step at turn)
    by true same is later =
        (one.turn, subst (λ (x : Step). Contains (one ∷ steps) x) (ap (λ (p : PortRef). step p one.turn) (same_port one.at at same)) (at_first one steps))
    by false other is later = let rest = later is in (rest.0, Contains-append_right (one ∷ []) steps (step at rest.0) rest.1)

module _ (fabric : FabricState) (packet : Packet) (unicast : is_multicast packet.dlid ≡ false) where
  -- ---- from a step to a way
  abbrev now_at : List Step → PortRef → Step
  now_at before here = step here (turn_after fabric packet before here)

  module _ (at : PortRef) where
    abbrev Comes : PortRef → Type 0
    Comes here = (way : List PortRef) × Goes fabric.nodes fabric.cables packet here way at

    comes_later : (before : List Step) (here : PortRef) (turn : Turn) (rest : PortRef → List Step) (next : Option PortRef)
        → next_after fabric.cables here (turn_after fabric packet before here) ≡ next
        → ((there : PortRef) → Contains (rest there) (step at turn) → Comes there)
        → Contains (option_map_or rest next []) (step at turn) → Comes here
    comes_later before here turn rest None leads on there = absurd (nothing_in (step at turn) there)
    comes_later before here turn rest (Some next) leads on there =
        let later = on next there in
        (next ∷ later.0, (leads_on fabric packet unicast at before here next (came before here) refl leads, later.1))

    comes_by : (before : List Step) (here : PortRef) (turn : Turn) (others : List Step) → (Contains others (step at turn) → Comes here)
        → Contains (now_at before here ∷ []) (step at turn) ⊎ Contains others (step at turn) → Comes here
    comes_by before here turn others on (inl now) = ([], sym (ap (λ (one : Step). one.at) (in_one (now_at before here) (step at turn) now)))
    comes_by before here turn others on (inr later) = on later

    comes : (more : ℕ) (before : List Step) (here : PortRef) (turn : Turn) → Contains (steps_from fabric packet more before here) (step at turn) → Comes here
    comes zero before here turn there = absurd (nothing_in (step at turn) there)
    comes (suc more) before here turn there =
        let rest = steps_from fabric packet more (before ++ now_at before here ∷ []) in
        let next = next_after fabric.cables here (turn_after fabric packet before here) in
        comes_by before here turn (option_map_or rest next [])
        (comes_later before here turn rest next refl (λ then. comes more (before ++ now_at before here ∷ []) then turn))
        (Contains-append_cases (now_at before here ∷ []) (option_map_or rest next []) (step at turn) there)

  -- ---- from each port of a trace the packet comes to one of the trace
  abbrev leads : PortRef → Option PortRef
  leads here = next_port fabric.nodes fabric.cables packet here

  -- to one of these, or to that port
  abbrev GoOn : List Step → PortRef → Type 0
  GoOn before here = (p q : PortRef) → came before p ≡ true → leads p ≡ Some q → (came before q || is_same_port here q) ≡ true

  abbrev Closed : List Step → Type 0
  Closed steps = (p q : PortRef) → came steps p ≡ true → leads p ≡ Some q → came steps q ≡ true

  -- where it has come in before, it goes on to one of these
  closed_again : (before : List Step) (here : PortRef) → GoOn before here → came before here ≡ true → Closed before
  closed_again before here on again p q was leads_to = elim (or_cases (came before q) (is_same_port here q) (on p q was leads_to)) [
    | inl there ↦ there
    | inr same ↦ subst (λ (r : PortRef). came before r ≡ true) (same_port here q same) again
  ]

  turn_new : (before : List Step) (here : PortRef) → came before here ≡ false
      → next_after fabric.cables here (turn_after fabric packet before here) ≡ leads here
  turn_new before here new = rw new (turns_lead fabric packet here)

  -- with a step here
  came_here : (before : List Step) (here q : PortRef) → (came before q || is_same_port here q) ≡ true → came (before ++ now_at before here ∷ []) q ≡ true
  came_here before here q is = came_more before (now_at before here) q ∙ is

  from_here : (before : List Step) (here p : PortRef) → came (before ++ now_at before here ∷ []) p ≡ true → (came before p ≡ true) ⊎ (here ≡ p)
  from_here before here p was = elim (or_cases (came before p) (is_same_port here p) (sym (came_more before (now_at before here) p) ∙ was)) [
    | inl there ↦ inl there
    | inr same ↦ inr (same_port here p same)
  ]

  ends_here : (before : List Step) (here : PortRef) → GoOn before here → next_after fabric.cables here (turn_after fabric packet before here) ≡ None
      → Closed (before ++ now_at before here ∷ [])
  ends_here before here on stops p q was leads_to = by (from_here before here p was) (came before here) refl
    where
      by : (came before p ≡ true) ⊎ (here ≡ p) → (again : Bool) → came before here ≡ again → came (before ++ now_at before here ∷ []) q ≡ true
      by (inl there) again is = came_here before here q (on p q there leads_to)
      by (inr same) true is = came_here before here q (on here q is (ap leads same ∙ leads_to))
      by (inr same) false is = absurd (none-some q (sym stops ∙ turn_new before here is ∙ ap leads same ∙ leads_to))

  goes_on : (before : List Step) (here next : PortRef) → GoOn before here → came before here ≡ false
      → next_after fabric.cables here (turn_after fabric packet before here) ≡ Some next → GoOn (before ++ now_at before here ∷ []) next
  goes_on before here next on new leads_next p q was leads_to = elim (from_here before here p was) [
    | inl there ↦ or_left (came (before ++ now_at before here ∷ []) q) (is_same_port next q) (came_here before here q (on p q there leads_to))
    | inr same ↦
        let to : next ≡ q = same_Some next q (sym leads_next ∙ turn_new before here new ∙ ap leads same ∙ leads_to) in
        or_right (came (before ++ now_at before here ∷ []) q) (is_same_port next q) (subst (λ (r : PortRef). is_same_port next r ≡ true) to (itself next))
  ]

  module _ (ends : List PortRef) (all : (p : PortRef) → list_any (is_same_port p) (flat_map ends_of fabric.cables) ≡ true → list_any (is_same_port p) ends ≡ true) where
    -- where there is no room for another port, it has come in here before
    no_room : (before : List Step) (seen : List PortRef) (here : PortRef) → AreAt before seen → all_differ is_same_port seen ≡ true → AreAmong ends seen → IsAmong ends here
        → length seen ≡ length ends → came before here ≡ true
    no_room before seen here same differ are is full = elim (cases_Bool (list_any (is_same_port here) seen)) [
      | inl there ↦ same here ∙ there
      | inr new ↦
          let few = few_among ends (here ∷ seen) (and_from (not (list_any (is_same_port here) seen)) (all_differ is_same_port seen) (not_from_false _ new) differ)
          (one_more_among ends here seen is are) in
          absurd (omega (arith, few, full))
    ]

    abbrev Later : ℕ → Type 0
    Later more = (before : List Step) (seen : List PortRef) (here : PortRef) → AreAt before seen → all_differ is_same_port seen ≡ true → AreAmong ends seen → IsAmong ends here
        → length seen + more ≡ length ends → GoOn before here → Closed (before ++ steps_from fabric packet more before here)

    by_next : (more : ℕ) (before : List Step) (seen : List PortRef) (here : PortRef) → AreAt before seen → all_differ is_same_port seen ≡ true → AreAmong ends seen → IsAmong ends here
        → length seen + suc more ≡ length ends → GoOn before here → Later more → (next : Option PortRef)
        → next_after fabric.cables here (turn_after fabric packet before here) ≡ next
        → Closed (before ++ now_at before here ∷ option_map_or (steps_from fabric packet more (before ++ now_at before here ∷ [])) next [])
    by_next more before seen here same differ are is count on later None stops = ends_here before here on stops
    by_next more before seen here same differ are is count on later (Some next) leads_next =
        let new : came before here ≡ false = is_new fabric packet before here next (came before here) refl leads_next in
        let unseen : list_any (is_same_port here) seen ≡ false = sym (same here) ∙ new in
        subst Closed (append_assoc before (now_at before here ∷ []) (steps_from fabric packet more (before ++ now_at before here ∷ []) next))
        (later (before ++ now_at before here ∷ []) (here ∷ seen) next (at_more before seen (now_at before here) same)
        (and_from (not (list_any (is_same_port here) seen)) (all_differ is_same_port seen) (not_from_false _ unseen) differ)
        (one_more_among ends here seen is are)
        (λ p same. all p (comes_to_an_end fabric.cables here next (turn_after fabric packet before here) leads_next p same))
        (omega (arith, count)) (goes_on before here next on new leads_next))

    closed : (more : ℕ) → Later more
    closed zero before seen here same differ are is count on =
        subst Closed (sym (append-nil before)) (closed_again before here on (no_room before seen here same differ are is (omega (arith, count))))
    closed (suc more) before seen here same differ are is count on =
        by_next more before seen here same differ are is count on (closed more) (next_after fabric.cables here (turn_after fabric packet before here)) refl

  -- ---- from a way to a step
  begins : (more : ℕ) (before : List Step) (here : PortRef) → 0 < more → came (steps_from fabric packet more before here) here ≡ true
  begins zero before here low = absurd (omega (arith, low))
  begins (suc more) before here low =
      let rest = option_map_or (steps_from fabric packet more (before ++ now_at before here ∷ [])) (next_after fabric.cables here (turn_after fabric packet before here)) [] in
      or_left (is_same_port here here) (came rest here) (itself here)

  along : (steps : List Step) → Closed steps → (way : List PortRef) (here at : PortRef) → came steps here ≡ true
      → Goes fabric.nodes fabric.cables packet here way at → came steps at ≡ true
  along steps are [] here at was goes = subst (λ (p : PortRef). came steps p ≡ true) goes was
  along steps are (next ∷ later) here at was goes =
      along steps are later next at (are here next was (to_next fabric.nodes fabric.cables packet here next unicast goes.0)) goes.1

  way_closed : (first : PortRef) → Closed (way_of fabric packet first)
  way_closed first =
      let ends : List PortRef = first ∷ flat_map ends_of fabric.cables in
      let count = count_ends fabric.cables in
      closed ends (λ p is. or_right (is_same_port p first) (list_any (is_same_port p) (flat_map ends_of fabric.cables)) is) (2 * length fabric.cables + 1) [] [] first
      (λ p. refl) refl (λ p among. absurd (false≢true among)) (λ p same. or_left (is_same_port p first) (list_any (is_same_port p) (flat_map ends_of fabric.cables)) same)
      (omega (arith, count)) (λ p q was leads_to. absurd (false≢true was))

  -- ---- the law
  pub way_shows : (first at : PortRef) → ((turn : Turn) × Contains (way_of fabric packet first) (step at turn))
      ↔ ((way : List PortRef) × Goes fabric.nodes fabric.cables packet first way at)
  way_shows first at = (
    (λ reported. comes at (2 * length fabric.cables + 1) [] first reported.0 reported.1),
    (λ goes. listed (way_of fabric packet first) at
        (along (way_of fabric packet first) (way_closed first) goes.0 first at (begins (2 * length fabric.cables + 1) [] first (omega arith)) goes.1)),
  )
