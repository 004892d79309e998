-- Where a resource end stands, and the number of its service (our profile).
use Rattle.std.specs.Prelude.{ℕ}
use Rattle.ots_model.specs.declared.service.Endpoint.{Endpoint}

pub record EndPlace : Type 0 where
  pub at : Endpoint
  pub service : ℕ
