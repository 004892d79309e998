-- What a link has exchanged with other places (our profile).
use Rattle.std.specs.Prelude.{◌≡◌, ℕ, ◌⊎◌, List, [], ◌∷◌, ◌++◌, Option, Some, None, Result, Ok, Err}
use Rattle.std.specs.List.{slice_get, list_any}
use Rattle.std.specs.Prelude.{◌==◌, if◌then◌else◌}
use Rattle.ots_model.specs.declared.service.Endpoint.{Endpoint}
use Rattle.ots_outside.specs.declared.link.Exchange.{Exchange}
use Rattle.ots_outside.specs.declared.link.LinkRefusal.{LinkRefusal}
use Rattle.ots_outside.specs.declared.link.LinkRefusal.TheVariants as refusals
use Rattle.ots_outside.specs.declared.link.Outcome.{Outcome}
use Rattle.ots_outside.specs.declared.link.Outcome.TheVariants.{Replied, Refused}

-- one exchange more
abbrev pub more : List Exchange → Endpoint → List ℕ → Outcome → List Exchange
more done to request outcome = done ++ record { to = to; request = request; outcome = outcome } ∷ []

-- A call was one exchange: with the octets that were answered, or with its failure. Where memory was wanted it may have been
-- one or none.
abbrev pub Exchanges : List Exchange → Endpoint → List ℕ → Result (Unit {0}) LinkRefusal → List ℕ → Option (List Exchange) → Type 0
Exchanges done to request (Ok u) octets after = after ≡ Some (more done to request (Replied octets))
Exchanges done to request (Err refusals.Failed) octets after = after ≡ Some (more done to request (Refused refusals.Failed))
Exchanges done to request (Err refusals.Memory) octets after =
    (after ≡ Some done) ⊎ (after ≡ Some (more done to request (Refused refusals.Memory)))

-- a call that didn't fail left the count of faults
abbrev pub LeavesCount : {T : Type 0} → Result T LinkRefusal → ℕ → ℕ → Type 0
LeavesCount (Ok v) before after = after ≡ before
LeavesCount (Err refusals.Failed) before after = Unit {0}
LeavesCount (Err refusals.Memory) before after = after ≡ before

-- an in-memory link: what the calls are answered, by their numbers from 0, the calls that are to fail, the number of the next
-- call, how often it failed, and the exchanges so far
pub record LinkState : Type 0 where
  pub answers : List (List ℕ)
  pub failing : List ℕ
  pub calls : ℕ
  pub faults : ℕ
  pub exchanges : List Exchange

-- what the next call is answered: nothing where it is listed, or no answer is there
abbrev pub next_answer : LinkState → Option (List ℕ)
next_answer link = if list_any (λ n. n == link.calls) link.failing then None else slice_get link.answers link.calls
