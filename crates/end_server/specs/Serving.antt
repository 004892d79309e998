-- A resource end that is served, the link for its words, and how these go out (our profile).
use Rattle.std.specs.Prelude.{◌≤◌, None, IfSome}
use Rattle.ior_refs.specs.Reference.{Reference, canonical_octets}
use Rattle.ior_refs.specs.declared.key.ObjectKey.{ObjectKey}
use Rattle.ots_calls.specs.declared.call.Call.{Call}
use Rattle.ots_calls.specs.declared.call.Call.TheVariants as calls
use Rattle.ots_calls.specs.declared.operation.Bare.{Bare}
use Rattle.ots_calls.specs.declared.operation.Bare.TheVariants as bares
use Rattle.ots_calls.specs.declared.operation.Handing.TheVariants as handings
use Rattle.ots_model.specs.declared.tree.Heard.{Heard}
use Rattle.ots_model.specs.declared.tree.Outward.{Outward}
use Rattle.ots_model.specs.declared.tree.Word.TheVariants.{RegisterResource}
use Rattle.resource_end.specs.Limits.{resource_kind}
use Rattle.resource_end.specs.declared.state.Word.TheVariants as words
use Rattle.end_room.specs.Place.{EndPlace}
use Rattle.end_server.specs.declared.asked.Asked.{Asked}
use Rattle.end_server.specs.declared.asked.Asked.TheVariants as asks
use Rattle.outward_calls.specs.Moment.{LinkMoment}
use Rattle.outward_calls.specs.Words.{IsLostBy, IsSent, home}

-- an end, and its link at a moment
pub record EndSide (E : Type 0) : Type 0 where
  pub ends : E
  pub link : LinkMoment

abbrev pub side : {E : Type 0} → E → LinkMoment → EndSide E
side ends link = record { ends = ends; link = link }

-- what an operation asks that takes nothing, and what a call asks (CosTransactions: Resource, SubtransactionAwareResource)
abbrev pub asked_by : Bare → Asked
asked_by bares.Prepare = asks.Word words.Prepare
asked_by bares.Commit = asks.Word words.Commit
asked_by bares.Rollback = asks.Word words.Rollback
asked_by bares.CommitOnePhase = asks.Word words.CommitOnePhase
asked_by bares.Forget = asks.Word words.Forget
asked_by bares.RollbackSubtransaction = asks.Subtransaction
asked_by bare = asks.Other

abbrev pub asked_of : Call → Asked
asked_of (calls.Put cell value) = asks.Put cell value
asked_of (calls.Get cell) = asks.Get cell
asked_of (calls.Bare bare) = asked_by bare
asked_of (calls.Handing handings.CommitSubtransaction reference) = asks.Subtransaction
asked_of call = asks.Other

-- the word by which a new resource is registered with this coordinator (CosTransactions: Coordinator, register_resource)
abbrev pub registering : Reference → ObjectKey → Outward
registering coordinator key = record {
  number = record { life = key.life; slot = 0; generation = key.generation; serial = 0 };
  registration = 0;
  to = canonical_octets coordinator;
  word = RegisterResource;
  receipt = None;
}

-- a word of an end that stands at this place went out, or memory was wanted for it, and this is heard. It is lost only where the
-- link has failed
pub record GoesOut (place : EndPlace) (word : Outward) (before : LinkMoment) (heard : Heard) (after : LinkMoment) : Type 0 where
  pub sent : IfSome before.exchanged (λ done. IsSent (home place.at place.service resource_kind) word heard done after.exchanged)
  pub lost : IsLostBy heard before.faults after.faults
  pub later : before.faults ≤ after.faults
