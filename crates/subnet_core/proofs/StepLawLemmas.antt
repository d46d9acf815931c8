-- A refused cut changes nothing, and what is delivered is reported.
use Rattle.std.proofs.Common.{suc, ◌≡◌, ◌∙◌, ◌+◌, ap, refl, sym, List, [], ◌∷◌, ◌++◌, length, map, None, false, arith}
use Rattle.std.proofs.lemmas.List.{length-append}
use Rattle.smp_wire.proofs.DeliveryLemmas.{deliveries_are_one_list}
use Rattle.sa_replies.specs.Answer.{Administration}
use Rattle.subnet_core.specs.BringUp.{SubnetState}
use Rattle.subnet_core.specs.StepLaws.{DeliveriesAreReported, RefusedCutsChangeNothing, WrongStepsAreRefused}
use Rattle.subnet_fabric.specs.declared.event.Event.TheVariants.{Received}
use Rattle.subnet_model.specs.declared.command.CableCommand.{CableCommand}
use Rattle.updn_routes.specs.Subnet.{RoutesState}

pub refused_cuts_change_nothing : RefusedCutsChangeNothing
refused_cuts_change_nothing old new command next same = next.kept same

pub deliveries_are_reported : DeliveriesAreReported
deliveries_are_reported was left command packet deliveries events comes stamped to_ports are =
    let received = comes.carried packet stamped to_ports in
    received.reported ∙ ap (map Received) (deliveries_are_one_list was command.port_guid packet received.deliveries deliveries received.are are)

-- ---- a list is not one longer than itself
longer : {X : Type 0} (x : X) (xs : List X) → x ∷ xs ≡ xs → ⊥
longer x xs same = let lengths : suc (length xs) ≡ length xs = ap length same in omega (arith, lengths)

longer_behind : {X : Type 0} (x : X) (xs : List X) → xs ++ x ∷ [] ≡ xs → ⊥
longer_behind x xs same = let lengths : length xs + 1 ≡ length xs = sym (length-append xs (x ∷ [])) ∙ ap length same in omega (arith, lengths)

-- one LID more, or one transfer more
cut : CableCommand
cut = record { cable = record { first = record { node = 0; port = 1 }; second = record { node = 1; port = 1 } }; up = false }

with_lid : RoutesState → RoutesState
with_lid routes = record routes { lids = 0 ∷ routes.lids }

with_transfer : Administration → Administration
with_transfer held = record held { transfers = record { port = 0; open_table = None } ∷ held.transfers }

pub wrong_steps_are_refused : WrongStepsAreRefused
unfolding cut with_lid with_transfer
wrong_steps_are_refused = record {
  routes = λ some law. longer 0 some.routes.lids
      (ap (λ (subnet : SubnetState). subnet.routes.lids) (law some (record some { routes = with_lid some.routes }) cut refl refl));
  administration = λ some law. longer (record { port = 0; open_table = None }) some.administration.transfers
      (ap (λ (subnet : SubnetState). subnet.administration.transfers)
      (law some (record some { administration = with_transfer some.administration }) cut refl refl));
  less = λ was left command packet first rest delivered law. longer (Received first) (map Received rest)
      (sym (law was left command packet (first ∷ rest) (map Received rest) (Received first, delivered.comes) delivered.stamped delivered.to_ports delivered.are));
  more = λ was left command packet first rest delivered law. longer_behind (Received first) (map Received (first ∷ rest))
      (law was left command packet (first ∷ rest) (map Received (first ∷ rest) ++ Received first ∷ [])
      (map Received (first ∷ rest), Received first, delivered.comes, refl) delivered.stamped delivered.to_ports delivered.are);
}
