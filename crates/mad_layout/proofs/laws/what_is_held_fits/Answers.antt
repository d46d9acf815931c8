use Rattle.mad_layout.proofs.LayoutLemmas.{fits_from_holds}
use Rattle.mad_layout.proofs.laws.what_is_held_fits.Goals as goal

pub returns : goal.returns
returns c = fits_from_holds
