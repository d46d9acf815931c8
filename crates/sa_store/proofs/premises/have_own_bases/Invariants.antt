use Rattle.std.proofs.Common.{◌≡◌, drop}
use Rattle.sa_model.specs.Sound.{pairwise}
use Rattle.sa_store.specs.Premises.{other_base}
use Rattle.sa_store.proofs.premises.have_own_bases.Given as goal

abbrev pub invariant-loop-place : goal.invariant-loop-place
invariant-loop-place l = pairwise other_base (drop l.place l.keys) ≡ pairwise other_base l.keys
