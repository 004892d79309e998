-- The clock of a resource end goes on: what waits for an outcome asks for it (our profile; CosTransactions: RecoveryCoordinator,
-- replay_completion).
use Rattle.std.specs.Prelude.{◌≡◌, ◌++◌, ℕ, Bool, true, false, List, [], ◌∷◌, Result, Ok, OnOk}
use Rattle.std.specs.List.{list_any}
use Rattle.ior_refs.specs.declared.key.ObjectKey.{ObjectKey}
use Rattle.ots_model.specs.declared.completion.Heard.TheVariants as phase_hears
use Rattle.ots_model.specs.declared.tree.Heard.{Heard}
use Rattle.ots_model.specs.declared.tree.Heard.TheVariants as hears
use Rattle.ots_model.specs.declared.tree.Outward.{Outward}
use Rattle.resource_end.specs.Limits.{resource_kind}
use Rattle.resource_end.specs.declared.fault.EndFault.{EndFault}
use Rattle.end_room.specs.Deeds.{Deed, Asks, Learns}
use Rattle.end_room.specs.Place.{EndPlace}
use Rattle.ots_sessions.specs.declared.fault.ServeFault.{ServeFault}
use Rattle.end_server.specs.Answers.{DoesOne}
use Rattle.end_server.specs.Serving.{EndSide, GoesOut}

-- the key of the resource that asks by a word
abbrev pub asking_key : ℕ → Outward → ObjectKey
asking_key service word = record {
  kind = resource_kind;
  service = service;
  life = word.number.life;
  slot = 0;
  generation = word.number.generation;
  index = 0;
}

-- memory was wanted for a word
abbrev pub is_want : Heard → Bool
is_want (hears.Phase phase_hears.Starved) = true
is_want heard = false

module _ {E : Type 0} (does : E → Deed → E → Type 0) where
  -- a word goes out, and the resource that asks by it learns what is heard
  pub record IsAsking (place : EndPlace) (word : Outward) (heard : Heard) (before after : EndSide E) : Type 0 where
    pub said : Result (Unit {0}) EndFault
    pub sent : GoesOut place word before.link heard after.link
    pub learnt : does before.ends (Learns (asking_key place.service word) heard said) after.ends

  -- from there on each of these words that was first in turn went out, once, and this was heard of them; what is left are these
  pub data HaveAsked (place : EndPlace) (words : List Outward) (before : EndSide E) : List Heard → List Outward → EndSide E → Type 0 where
    none : HaveAsked place words before [] words before
    one_more : (heards : List Heard) (heard : Heard) (word : Outward) (rest : List Outward) (midway after : EndSide E)
        → HaveAsked place words before heards (word ∷ rest) midway → IsAsking place word heard midway after
        → HaveAsked place words before (heards ++ heard ∷ []) rest after

  -- and whether memory was wanted for one
  pub record HaveAskedSo (place : EndPlace) (words : List Outward) (before : EndSide E) (starved : Bool) (rest : List Outward) (after : EndSide E) : Type 0 where
    pub heards : List Heard
    pub asked : HaveAsked place words before heards rest after
    pub starved_is : starved ≡ list_any is_want heards

  -- those that wait for an outcome have asked for it, each once: all of them, with memory for each, where it is Ok; else those
  -- for whose words there was memory
  pub record TicksEnd (place : EndPlace) (before : EndSide E) (said : Result (Unit {0}) ServeFault) (after : EndSide E) : Type 0 where
    pub asking : Result (Unit {0}) EndFault
    pub words : List Outward
    pub midway : EndSide E
    pub asks : DoesOne does (Asks [] words asking) before midway
    pub heards : List Heard
    pub asked : HaveAsked place words midway heards [] after
    pub fed : OnOk said ((asking ≡ Ok tt) × (list_any is_want heards ≡ false))
