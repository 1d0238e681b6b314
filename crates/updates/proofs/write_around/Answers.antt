-- `updates::write_around`. What is missing, then the data, then the parities (`lost-run`).
use mathlib.Core.Path.{refl}
use Rattle.updates.specs.Made.{starts_fit, lost-run}
use Rattle.updates.proofs.write_around.Goals as goal

pub keep_lost-requires : goal.keep_lost-requires
keep_lost-requires c = let f = c.requires.fits in (f.0, f.2.room, starts_fit c.args.p _ _ _ _ _ _ f.0 f.2 c.args.starts c.requires.begin, refl)

pub store_data-requires : goal.store_data-requires
store_data-requires c = let f = c.requires.fits in (f.0, f.2.room, starts_fit c.args.p _ _ _ _ _ _ f.0 f.2 c.args.starts c.requires.begin)

pub returns : goal.returns
returns c = let f = c.requires.fits in
    lost-run _ _ _ c.args.starts _ _ _ _ _ _ f.0 f.1 f.2 c.requires.begin _ _ c.store_data.ensures _ _ refl c.keep_lost.ensures c.put_parities.ensures
