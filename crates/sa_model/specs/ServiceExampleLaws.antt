-- What becomes of the services of our examples, and who sees them.
use Rattle.std.specs.Prelude.{◌≡◌, [], ◌∷◌}
use Rattle.std.specs.List.{range_with_len}
use Rattle.sa_model.specs.ServiceChange.{services_changed}
use Rattle.sa_model.specs.ServiceExamples.{set_by, delete_by, one, sixteen, ids, ids_seen}

-- a limited member's service is seen by itself and by the full member, and by no other limited member
pub record WhoSeesServices : Type 0 where
  pub owner : ids_seen 0x121 one ≡ 1 ∷ []
  pub full : ids_seen 0x111 one ≡ 1 ∷ []
  pub limited : ids_seen 0x131 one ≡ []

pub record HowManyServices : Type 0 where
  pub all : ids sixteen ≡ range_with_len 1 16
  -- no 17th is taken, but one of an ID that is there is set again
  pub more : services_changed sixteen (set_by 0x121 17) ≡ sixteen
  pub again : ids (services_changed sixteen (set_by 0x121 16)) ≡ range_with_len 1 16
  -- another port has room
  pub other : ids_seen 0x131 (services_changed sixteen (set_by 0x131 17)) ≡ 17 ∷ []

-- a port deletes only what is its own
pub record WhoDeletes : Type 0 where
  pub owner : ids (services_changed one (delete_by 0x121 1)) ≡ []
  pub other : services_changed one (delete_by 0x111 1) ≡ one
