-- The steps of a packet, one after the other.
use Rattle.std.proofs.Common.{ℕ, suc, ◌≡◌, ◌∙◌, sym, subst, append_assoc, append-nil, List, [], ◌∷◌, ◌++◌, Some, None}
use Rattle.std.specs.Option.{option_map_or}
use Rattle.data_packet.specs.declared.packet.Packet.{Packet}
use Rattle.fabric_parts.specs.declared.cable.PortRef.{PortRef}
use Rattle.packet_trace.specs.Trace.{next_after, step, steps_from, turn_after}
use Rattle.packet_trace.specs.declared.turn.Step.{Step}
use Rattle.packet_trace.specs.declared.turn.Turn.{Turn}
use Rattle.smp_wire.specs.FabricState.{FabricState}

module _ (fabric : FabricState) (packet : Packet) (whole done : List Step) (here : PortRef) where
  abbrev so_far : ℕ → Type 0
  so_far left = whole ≡ done ++ steps_from fabric packet left done here

  module _ (turn : Turn) (left more : ℕ) (count : left ≡ suc more) (is : so_far left) (found : turn ≡ turn_after fabric packet done here) where
    -- with one step more
    pub goes_on : (next : PortRef) → next_after fabric.cables here turn ≡ Some next
        → whole ≡ (done ++ step here turn ∷ []) ++ steps_from fabric packet more (done ++ step here turn ∷ []) next
    goes_on next leads =
        let now = subst so_far count is in
        let reported : whole ≡ done ++ (step here turn ∷ option_map_or (steps_from fabric packet more (done ++ step here turn ∷ [])) (next_after fabric.cables here turn) []) =
        rw (sym found) at now in
        let on : whole ≡ done ++ (step here turn ∷ steps_from fabric packet more (done ++ step here turn ∷ []) next) = rw leads at reported in
        on ∙ sym (append_assoc done (step here turn ∷ []) (steps_from fabric packet more (done ++ step here turn ∷ []) next))

    -- and with the last one
    pub ends : next_after fabric.cables here turn ≡ None → whole ≡ done ++ step here turn ∷ []
    ends stops =
        let now = subst so_far count is in
        let reported : whole ≡ done ++ (step here turn ∷ option_map_or (steps_from fabric packet more (done ++ step here turn ∷ [])) (next_after fabric.cables here turn) []) =
        rw (sym found) at now in
        rw stops at reported

  -- no more are looked for
  pub all_reported : (left : ℕ) → left ≡ 0 → so_far left → done ≡ whole
  all_reported left none is = sym (subst so_far none is ∙ append-nil done)
