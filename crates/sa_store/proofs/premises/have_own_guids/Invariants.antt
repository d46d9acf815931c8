use Rattle.std.proofs.Common.{◌≡◌, drop}
use Rattle.sa_model.specs.Sound.{pairwise}
use Rattle.sa_store.specs.Premises.{other_guid}
use Rattle.sa_store.proofs.premises.have_own_guids.Given as goal

abbrev pub invariant-loop-place : goal.invariant-loop-place
invariant-loop-place l = pairwise other_guid (drop l.place l.ports) ≡ pairwise other_guid l.ports
