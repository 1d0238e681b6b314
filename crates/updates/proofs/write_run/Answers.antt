-- `updates::write_run`. The data, then the parities, from the bytes to write (`whole_run`) or from the image (`healthy_run`); else `write_around`.
use Rattle.runs.specs.Steps.{fits_at}
use Rattle.updates.specs.Made.{starts_fit, whole_run, healthy_run}
use Rattle.updates.proofs.write_run.Goals as goal

pub store_data-requires : goal.store_data-requires
store_data-requires c = let f = c.requires in (f.0, f.2.room, starts_fit c.args.p _ _ _ _ _ _ f.0 f.2 c.byte_starts-starts.result c.byte_starts-starts.ensures)

pub put_wholes-requires : goal.put_wholes-requires
put_wholes-requires c = let f = c.requires in
    (fits_at f.0 c.store_data.auto.image, f.2.room, starts_fit c.args.p _ _ _ _ _ _ f.0 f.2 c.byte_starts-starts.result c.byte_starts-starts.ensures)

pub returns-then-names_all : goal.returns-then-names_all
returns-then-names_all c = let f = c.requires in
    whole_run _ _ _ c.byte_starts-starts.result _ _ _ _ _ _ f.0 f.1 f.2 c.byte_starts-starts.ensures _ _ c.store_data.ensures
    (c.names_all.ensures c.if-names_all.true) c.put_wholes.ensures

pub store_data-requires-then-p-eq0 : goal.store_data-requires-then-p-eq0
store_data-requires-then-p-eq0 c = let f = c.requires in
    (f.0, f.2.room, starts_fit c.args.p _ _ _ _ _ _ f.0 f.2 c.byte_starts-starts.result c.byte_starts-starts.ensures)

pub returns-then-p-eq0 : goal.returns-then-p-eq0
returns-then-p-eq0 c = let f = c.requires in
    healthy_run _ _ _ c.byte_starts-starts.result _ _ _ _ _ _ f.0 f.1 f.2 c.byte_starts-starts.ensures _ _ c.store_data-then-p-eq0.ensures _ c.if-p-eq0.true c.put_parities.ensures
