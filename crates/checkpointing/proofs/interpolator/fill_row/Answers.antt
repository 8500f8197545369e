use Rattle.checkpointing.proofs.Rows.{row_made}
use Rattle.checkpointing.proofs.interpolator.fill_row.Goals as goal

pub returns : goal.returns
returns g c = row_made c.args.row.now c.args.u.now c.args.f.now c.copy_from_slice.new.self c.copy_from_slice-2.new.self c.args.t c.copy_from_slice.ensures.after c.copy_from_slice-2.ensures.after c.requires
