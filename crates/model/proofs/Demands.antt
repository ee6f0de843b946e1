-- Demand 2, put together. Demand 3 is in Snapshot.
-- Assumes nothing.
use Rattle.model.specs.Model.{after}
use Rattle.model.specs.Demands.{Demand2}
use Rattle.model.proofs.Reached.{kept}
use Rattle.model.proofs.PlainMap.{plainly}
use Rattle.model.proofs.OwnKinds.{kinds}
use Rattle.model.proofs.Counts.{counted}
use Rattle.model.proofs.Lists.{one_queue}
use Rattle.model.proofs.Numbers.{removes}

pub demand2 : Demand2
demand2 =
    record {
      plainly = λ capacity start s e cs. plainly (after s cs) (kept capacity start s e cs);
      kinds = λ capacity start s e cs. kinds (after s cs) (kept capacity start s e cs);
      counts = counted;
      queue = λ capacity start s e cs. one_queue (after s cs) (kept capacity start s e cs);
      removes = removes;
    }
