-- `image_writer::store_running` meets its contract.
-- Assumes nothing.
use Rattle.std.proofs.Common.{◌≤◌, length, arith}
use Rattle.images.specs.Image.{state_size}
use Rattle.images.specs.Image.Properties.{store_running}
use Rattle.image_writer.proofs.store_running.Goals as goal

pub returns : goal.returns
returns c =
    let room : state_size ≤ length c.args.out.now = omega arith in
    search (store_running, room)
