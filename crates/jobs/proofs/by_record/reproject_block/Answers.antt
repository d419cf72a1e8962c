-- `jobs::by_record::reproject_block` meets its contract: the whole records are copied, and reprojected where they stand.
use Rattle.jobs.proofs.Works.{block_holds}
use Rattle.jobs.proofs.by_record.reproject_block.Goals as goal

pub returns : goal.returns
returns c = block_holds c.args.input.now c.args.text.now _ _ c.put_bytes.ensures c.in_ok-put_bytes.was c.reproject_records.ensures
