-- Associations of an instance.
use Rattle.std.proofs.Common.{IsTrue}
use Rattle.alike_maps.specs.Maps.{AssociationsFollow}
use Rattle.alike_maps.proofs.Maps.{maps_follow}
use Rattle.alike_maps.proofs.Electrical.{actuals_are}

pub associations_follow : AssociationsFollow
associations_follow =
    record {
      maps = λ G natures v w c i premise start outside units x n m. maps_follow (IsTrue G) natures v w c i premise start outside units x n m;
      actuals = λ readings texts start scope outside units x e n m is stand clean. actuals_are readings texts start scope outside units x e n m is stand clean;
    }
