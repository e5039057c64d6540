-- All that is promised holds.
use Rattle.demands.proofs.Demands.{demand-1, demand-2, demand-3}
use Rattle.demands.proofs.Losses.{explained}
use Rattle.demands.proofs.Bounds.{bounds-compared}
use Rattle.promises.specs.Promises.{Promises}
use Rattle.promises.proofs.Tied.{tied-in-code}
use Rattle.promises.proofs.TiedC.{tied-in-c}

pub promised : Promises
promised =
    record {
      code = tied-in-code;
      for_c = tied-in-c;
      demand1 = demand-1;
      demand2 = demand-2;
      demand3 = demand-3;
      losses = explained;
      bounds = bounds-compared;
    }
