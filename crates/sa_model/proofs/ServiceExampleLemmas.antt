-- Our examples, computed.
use Rattle.std.proofs.Common.{refl}
use Rattle.sa_model.specs.ServiceExampleLaws.{WhoSeesServices, HowManyServices, WhoDeletes}

pub who_sees_services : WhoSeesServices
who_sees_services = record { owner = refl; full = refl; limited = refl }

pub how_many_services : HowManyServices
how_many_services = record { all = refl; more = refl; again = refl; other = refl }

pub who_deletes : WhoDeletes
who_deletes = record { owner = refl; other = refl }
