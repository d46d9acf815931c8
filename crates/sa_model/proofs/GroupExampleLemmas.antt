-- Our examples, computed.
use Rattle.std.proofs.Common.{refl}
use Rattle.sa_model.specs.GroupExampleLaws.{WhoJoins, WhoLeaves, WhichMlids, WhoReceives, WhatTheFileMakes}

pub who_joins : WhoJoins
who_joins = record { made = refl; both = refl; limited = refl }

pub who_leaves : WhoLeaves
who_leaves = record { full = refl; limited = refl }

pub which_mlids : WhichMlids
which_mlids = record { all = refl; more = refl; again = refl }

pub who_receives : WhoReceives
who_receives = record { nobody = refl; both = refl }

pub what_the_file_makes : WhatTheFileMakes
what_the_file_makes = record { mgid = refl; mlid = refl }
