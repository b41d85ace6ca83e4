use Rattle.std.proofs.Common.{arith}
use Rattle.serve_workers.proofs.reading.bucket.a_bucket_keeps_to_its_rate.Goals as goal
use Rattle.serve_workers.proofs.ReadingLemmas.Rated.{rated}

pub returns : goal.returns
returns ctx rate burst level at asks low goes = let h = rated rate burst level at asks goes in omega (arith, h, low)
